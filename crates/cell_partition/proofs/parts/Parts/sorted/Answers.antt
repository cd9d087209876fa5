use Rattle.std.proofs.Common.{◌≡◌, List, [], ◌∷◌, length, sym, ap, ◌∙◌, subst, zero-add}
use Rattle.std.proofs.lemmas.List.{append-nil}
use Rattle.std.specs.List.Sorted.{IsPermutation}
use Rattle.std.proofs.lemmas.List.Sorted.{length_permutation}
use Rattle.cell_partition.specs.declared.spot.Spot.{Spot}
use Rattle.cell_partition.specs.declared.spot.Axis.{Axis}
use Rattle.cell_partition.specs.declared.spot.Axis.TheVariants.{Longitude}
use Rattle.cell_partition.specs.Parts.{AreInOrder, none, one_more}
use Rattle.cell_partition.proofs.Orders.{sorted_twice}
use Rattle.cell_partition.proofs.parts.Parts.sorted.Goals as goal

pub returns-clause-in_order : goal.returns-clause-in_order
returns-clause-in_order c =
    let spots = c.args.self.along.items in
    let along = c.sorted-along.result.items in
    let across = c.sorted-across.result.items in
    let size : length along ≡ length spots = length_permutation spots along c.sorted-along.ensures.same in
    let copied : IsPermutation spots across = subst (λ (xs : List Spot). IsPermutation xs across) (c.in_ok-from_slice.ensures.items ∙ c.deref.ensures.value) c.sorted-across.ensures.same in record {
      others = across ∷ [];
      along = sym (append-nil along);
      across = sym (append-nil across);
      bounds = c.requires.bounds ∙ ap (λ n. 0 ∷ n ∷ []) (sym (zero-add (length along) ∙ size));
      in_order = subst (λ (axes : List Axis). AreInOrder axes (along ∷ []) (across ∷ [])) (sym c.in_ok-axes.ensures.items)
          (one_more Longitude [] along across [] [] (sorted_twice Longitude spots along across c.requires.apart c.sorted-along.ensures.same c.sorted-along.ensures.in_order copied c.sorted-across.ensures.in_order) none);
    }
