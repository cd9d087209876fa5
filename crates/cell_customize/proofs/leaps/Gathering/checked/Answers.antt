-- The hop at the place has this head.
use Rattle.std.proofs.Common.{◌≡◌, ℕ, Some, List, sym, subst}
use Rattle.std.specs.List.{slice_get}
use Rattle.list_lemmas.proofs.Gets.{get_is}
use Rattle.step_search.specs.declared.hops.Hop.{Hop}
use Rattle.cell_customize.proofs.leaps.Gathering.checked.Goals as goal

pub returns-then-hop-head : goal.returns-then-hop-head
returns-then-hop-head g c =
    let hop = c.in-Some.hop.now in
    let there : slice_get c.deref.result.now c.args.at ≡ Some hop = get_is c.deref.result.now c.args.at hop c.in-Some.ensures.lookup.3.0 (sym c.in-Some.ensures.lookup.1) in
    let at : slice_get c.args.self.now.hops.items c.args.at ≡ Some hop = subst (λ (xs : List (Hop _)). slice_get xs c.args.at ≡ Some hop) c.deref.ensures.value there in
    (c.if-at-from.false, hop.cost, subst (λ (x : ℕ). slice_get c.args.self.now.hops.items c.args.at ≡ Some (record { head = x; cost = hop.cost })) c.if-hop-head.true at)
