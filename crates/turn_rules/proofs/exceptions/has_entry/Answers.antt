use Rattle.std.proofs.Common.{◌≡◌, ◌∙◌, ◌||◌, ◌==◌, Bool, List, [], ◌∷◌, ap, bytes_eq, map, refl, rules, sym, tests}
use Rattle.std.proofs.lemmas.Iterator.Search.{any_from_yields_List}
use Rattle.std.proofs.lemmas.Iterator.Splits.{YieldsList-from_slice_split}
use Rattle.std.specs.List.{list_any, slice_split}
use Rattle.std.specs.Str.{byte}
use Rattle.turn_rules.specs.Rules.{past_blanks, up_to_blanks}
use Rattle.turn_rules.proofs.exceptions.has_entry.Goals as goal

list_any-map : {X Y : Type 0} (test : Y → Bool) (f : X → Y) (xs : List X) → list_any test (map f xs) ≡ list_any (λ x. test (f x)) xs
list_any-map test f [] = refl
list_any-map test f (x ∷ xs) = ap (λ b. test (f x) || b) (list_any-map test f xs)

pub returns : goal.returns
returns c =
    any_from_yields_List (λ entry. bytes_eq (up_to_blanks (past_blanks entry)) c.args.wanted.now) _ _ _ c.any.ensures.ran
    (YieldsList-from_slice_split _ (λ b. b == byte ";") c.args.list.now c.split.ensures.rest c.split.ensures.done c.split.ensures.closure (λ x r q k. search (rules, tests)))
    (λ x b q k. search (rules, tests))
    ∙ sym (list_any-map (λ entry. bytes_eq entry c.args.wanted.now) (λ entry. up_to_blanks (past_blanks entry)) (slice_split (λ b. b == byte ";") c.args.list.now))
