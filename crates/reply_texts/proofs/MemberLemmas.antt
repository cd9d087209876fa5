-- Members that may be absent, one behind the other.
use Rattle.std.proofs.Common.{◌≡◌, ℕ, List, ◌++◌, ap, ◌∙◌}
use Rattle.json_text.specs.Values.{JsonValue}
use Rattle.json_text.specs.Drafts.{Draft}
use Rattle.json_text.specs.Wholes.{with_members}
use Rattle.json_text.specs.WholeLaws.{with_members-append}

pub four-members : (a b c d : List (List ℕ × JsonValue)) (x : Draft) → with_members (a ++ b ++ c ++ d) x ≡ with_members d (with_members c (with_members b (with_members a x)))
four-members a b c d x =
    with_members-append (a ++ b ++ c) d x
    ∙ ap (with_members d) (with_members-append (a ++ b) c x ∙ ap (with_members c) (with_members-append a b x))

pub five-members : (a b c d e : List (List ℕ × JsonValue)) (x : Draft) → with_members (a ++ b ++ c ++ d ++ e) x ≡ with_members e (with_members d (with_members c (with_members b (with_members a x))))
five-members a b c d e x = with_members-append (a ++ b ++ c ++ d) e x ∙ ap (with_members e) (four-members a b c d x)
