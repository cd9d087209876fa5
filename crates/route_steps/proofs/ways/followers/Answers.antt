use Rattle.std.proofs.Common.{ℕ, List, eqb, sym, ◌∙◌}
use Rattle.std.proofs.lemmas.List.Sorted.{IsNonDecreasingBy-from_sort, list_any-IsPermutation}
use Rattle.route_steps.proofs.ways.followers.Goals as goal

pub returns-clause-ascending : goal.returns-clause-ascending
returns-clause-ascending c = IsNonDecreasingBy-from_sort (λ x. x) c.sort_unstable.new.self.items c.sort_unstable.ensures.sorted

-- they are the same vertices as before they were sorted
pub returns-clause-all : goal.returns-clause-all
returns-clause-all c =
    let old : List ℕ = c.in_ok-followers.followers.items in
    λ v. sym (list_any-IsPermutation (λ u. eqb u v) old c.sort_unstable.new.self.items c.sort_unstable.ensures.permutation)
    ∙ c.in_ok-followers.ensures v
