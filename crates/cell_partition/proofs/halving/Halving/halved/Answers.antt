use Rattle.std.proofs.Common.{◌≡◌, ◌<◌, ◌≤◌, List, [], ◌∷◌, length, sym, subst, ap, ◌∙◌, arith, zero-add}
use Rattle.std.proofs.lemmas.Result.{IfOk-weaker}
use Rattle.std.proofs.lemmas.Bool.Decides.{nat_tests}
use Rattle.std.proofs.lemmas.List.Sorted.{length_permutation}
use Rattle.cell_partition.specs.declared.spot.Spot.{Spot}
use Rattle.cell_partition.specs.declared.parts.Parts.{Parts}
use Rattle.cell_partition.specs.Bounds.{joined, bounds_of, parts_at}
use Rattle.cell_partition.specs.Halving.{AreHalved}
use Rattle.cell_partition.specs.Parts.{AreParts, AreStanding}
use Rattle.cell_partition.proofs.InOrder.{each_small, whole_halved, found_parts, parts_found, standing_parts, unsorted, sorted_parts}
use Rattle.cell_partition.proofs.halving.Halving.halved.Goals as goal

pub returns-then-len-self : goal.returns-then-len-self
returns-then-len-self g c =
    let few : length (joined g.above) ≤ c.args.self.limit = omega (arith, ap length c.requires.1.1.1.along, c.args.parts.along.ok.0, c.len.ensures) in
    (g.above, each_small c.args.self.limit g.above few, c.requires.1.1.1)

pub sorted-requires-clause-bounds : goal.sorted-requires-clause-bounds
sorted-requires-clause-bounds g c =
    let none : length c.args.parts.axes.items ≡ 0 = grind (arith, nat_tests, c.args.parts.axes.ok.0) in
    let some : 0 < length c.args.parts.along.items = omega (arith, c.args.parts.along.ok.0, c.len.ensures) in
    c.requires.1.1.1.bounds ∙ ap bounds_of (unsorted c.args.parts g.above c.requires.1.1.1 none some) ∙ ap (λ n. 0 ∷ n ∷ []) (zero-add (length c.args.parts.along.items))

pub halve_each-requires : goal.halve_each-requires
halve_each-requires g c = (
  c.requires.0,
  (
    omega (arith, c.requires.1.0, length_permutation c.args.parts.along.items c.in_ok-sorted.field-0.along.items c.in_ok-sorted.ensures.same),
    found_parts c.in_ok-sorted.field-0 (c.in_ok-sorted.field-0.along.items ∷ []) c.in_ok-sorted.ensures.in_order,
  ),
)

pub returns-then-is_empty : goal.returns-then-is_empty
returns-then-is_empty g c =
    let sorted = c.in_ok-sorted.field-0 in
    let along = c.args.parts.along.items in
    let none : length c.args.parts.axes.items ≡ 0 = grind (arith, nat_tests, c.args.parts.axes.ok.0) in
    let more : c.args.self.limit < length along = omega (arith, c.args.parts.along.ok.0, c.len.ensures) in
    let one : g.above ≡ along ∷ [] = unsorted c.args.parts g.above c.requires.1.1.1 none (omega (arith, more)) in
    let found : parts_at sorted.bounds.items sorted.along.items ≡ sorted.along.items ∷ [] = parts_found (sorted.along.items ∷ []) sorted.along.items sorted.bounds.items c.in_ok-sorted.ensures.in_order.along c.in_ok-sorted.ensures.in_order.bounds in
    let halved_alike : (next : List (List Spot)) → AreHalved c.args.self.limit (parts_at sorted.bounds.items sorted.along.items) next → AreHalved c.args.self.limit g.above next =
    λ next h.
    subst (λ (ps : List (List Spot)). AreHalved c.args.self.limit ps next) (sym one)
    (whole_halved c.args.self.limit along sorted.along.items next more c.in_ok-sorted.ensures.same (subst (λ (ps : List (List Spot)). AreHalved c.args.self.limit ps next) found h)) in
    IfOk-weaker c.halve_each.result
    (λ (halves : Parts). (next : List (List Spot)) × AreHalved c.args.self.limit (parts_at sorted.bounds.items sorted.along.items) next × AreParts halves next)
    (λ (halves : Parts). (next : List (List Spot)) × AreHalved c.args.self.limit g.above next × AreStanding halves next)
    (λ halves h. (h.0, halved_alike h.0 h.1, standing_parts halves h.0 h.2)) c.halve_each.ensures

pub halve_each-requires-2 : goal.halve_each-requires-2
halve_each-requires-2 g c =
    let parts = c.args.parts in
    let some : length parts.axes.items ≡ 0 → ⊥ = λ none. absurd (grind (arith, nat_tests, parts.axes.ok.0)) in
    (c.requires.0, (c.requires.1.0, found_parts parts g.above (sorted_parts parts g.above c.requires.1.1.1 some)))

pub returns : goal.returns
returns g c =
    let parts = c.args.parts in
    let found : parts_at parts.bounds.items parts.along.items ≡ g.above = parts_found g.above parts.along.items parts.bounds.items c.requires.1.1.1.along c.requires.1.1.1.bounds in
    IfOk-weaker c.halve_each-2.result
    (λ (halves : Parts). (next : List (List Spot)) × AreHalved c.args.self.limit (parts_at parts.bounds.items parts.along.items) next × AreParts halves next)
    (λ (halves : Parts). (next : List (List Spot)) × AreHalved c.args.self.limit g.above next × AreStanding halves next)
    (λ halves h. (h.0, subst (λ (ps : List (List Spot)). AreHalved c.args.self.limit ps h.0) found h.1, standing_parts halves h.0 h.2)) c.halve_each-2.ensures
