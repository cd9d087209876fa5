-- How told names add up.
use Rattle.std.proofs.Common.{◌≡◌, ℕ, List, [], ◌++◌, Option, Some, None, sym, ap, ◌∙◌, append_assoc, append-nil}
use Rattle.road_io.specs.FailedNames.{AppendsNames}

-- none
pub names_none : (old : Option (List (List ℕ))) → AppendsNames old old []
names_none None = tt
names_none (Some told) = sym (append-nil told)

-- one behind another
pub names_then : (old middle new : Option (List (List ℕ))) (first second : List (List ℕ)) → AppendsNames old middle first → AppendsNames middle new second → AppendsNames old new (first ++ second)
names_then None middle new first second one two = tt
names_then (Some told) None new first second one two = absurd one
names_then (Some told) (Some held) None first second one two = absurd two
names_then (Some told) (Some held) (Some now) first second one two =
    two ∙ ap (λ (l : List (List ℕ)). l ++ second) one ∙ append_assoc told first second
