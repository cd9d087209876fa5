use Rattle.std.proofs.Common.{◌≡◌, ℕ, ◌-◌, ◌/◌, ◌<◌, ◌≤◌, List, [], ◌∷◌, ◌+◌, ◌∙◌, length, take, drop, sym, refl, subst, ap, arith}
use Rattle.std.proofs.lemmas.List.{length-take-le, length-drop}
use Rattle.std.proofs.lemmas.Result.{on_ok_weaker}
use Rattle.std.specs.List.Sorted.{IsSortedBy}
use Rattle.std.proofs.lemmas.List.Sorted.{length_permutation}
use Rattle.cell_partition.specs.declared.spot.Spot.{Spot}
use Rattle.cell_partition.specs.declared.spot.Axis.{Axis}
use Rattle.cell_partition.specs.Spots.{comes_before, wider_axis}
use Rattle.cell_partition.specs.Orders.{IsInOrder}
use Rattle.cell_partition.specs.Halving.{small}
use Rattle.cell_partition.proofs.Halves.{rest_whole}
use Rattle.cell_partition.proofs.InOrder.{halves_added, added_length}
use Rattle.cell_partition.proofs.halving.Halving.+halve.Goals as goal

pub returns-then-part-self : goal.returns-then-part-self
returns-then-part-self t c =
    let few : length c.args.part.along.now ≤ c.args.self.limit = omega arith in
    on_ok_weaker c.push.result (λ added. (c.args.part.along.now ∷ [], small c.args.part.along.now few, added)) c.push.ensures

pub across_halves-requires-clause-inside : goal.across_halves-requires-clause-inside
across_halves-requires-clause-inside t c =
    let more : c.args.self.limit < length c.args.part.along.now = omega arith in
    omega (arith, more, c.requires.some, length_permutation c.args.part.along.now c.along_wider_axis-part.result.along.now c.along_wider_axis-part.ensures.same)

pub halve-requires : goal.halve-requires
halve-requires t c =
    let more : c.args.self.limit < length c.args.part.along.now = omega arith in
    let wide : List Spot = c.along_wider_axis-part.result.along.now in
    let half : ℕ = length wide - length wide / 2 in
    let size : length wide ≡ length c.args.part.along.now = length_permutation c.args.part.along.now wide c.along_wider_axis-part.ensures.same in
    let shorter : length (take half wide) ≡ half = length-take-le half wide (omega arith) in (
      omega (arith, more, c.requires.some, size, shorter),
      (
        c.requires.some,
        (
          subst (λ (xs : List Spot). IsInOrder c.along_wider_axis-part.result.axis (take half wide) xs) (sym c.deref.ensures.value) c.in_ok-first.ensures.first,
          omega (arith, c.requires.fits, size, shorter),
        ),
      ),
    )

pub halve-requires-2 : goal.halve-requires-2
halve-requires-2 t c =
    let more : c.args.self.limit < length c.args.part.along.now = omega arith in
    let wide : List Spot = c.along_wider_axis-part.result.along.now in
    let half : ℕ = length wide - length wide / 2 in
    let size : length wide ≡ length c.args.part.along.now = length_permutation c.args.part.along.now wide c.along_wider_axis-part.ensures.same in
    let shorter : length (take half wide) ≡ half = length-take-le half wide (omega arith) in
    let rest : length (take (length wide - half) (drop half wide)) ≡ length wide - half = ap length (rest_whole half wide) ∙ length-drop half wide in
    let grown : length c.halve.new.parts.along.items ≡ length c.args.parts.now.along.items + length (take half wide) = added_length c.args.self.limit (take half wide) c.args.parts.now c.halve.new.parts c.in_ok-halve.ensures in (
      omega (arith, more, c.requires.some, size, rest),
      (
        c.requires.some,
        (
          subst (λ (xs : List Spot). IsInOrder c.along_wider_axis-part.result.axis (take (length wide - half) (drop half wide)) xs) (sym c.deref-2.ensures.value)
              (subst (λ (xs : List Spot). IsInOrder c.along_wider_axis-part.result.axis xs c.in_ok-first.second.items) (sym (rest_whole half wide)) c.in_ok-first.ensures.second),
          omega (arith, c.requires.fits, size, shorter, rest, grown),
        ),
      ),
    )

pub returns : goal.returns
returns t c =
    let more : c.args.self.limit < length c.args.part.along.now = omega arith in
    let wide : List Spot = c.along_wider_axis-part.result.along.now in
    let up : IsSortedBy (comes_before (wider_axis c.args.part.along.now)) wide =
    subst (λ (a : Axis). IsSortedBy (comes_before a) wide) c.along_wider_axis-part.ensures.axis c.along_wider_axis-part.ensures.in_order.in_order in
    on_ok_weaker c.halve-2.result
    (λ two. halves_added c.args.self.limit (length wide - length wide / 2) c.args.part.along.now wide c.args.parts.now c.halve.new.parts c.halve-2.new.parts more c.along_wider_axis-part.ensures.same up refl c.in_ok-halve.ensures two)
    c.halve-2.ensures
