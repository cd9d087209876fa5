use Rattle.std.proofs.Common.{List, [], sym, subst}
use Rattle.cell_partition.specs.declared.spot.Axis.{Axis}
use Rattle.cell_partition.specs.Parts.{AreInOrder, none}
use Rattle.cell_partition.proofs.parts.Parts.none.Goals as goal

pub returns : goal.returns
returns c = record {
  others = [];
  along = c.in_ok-along.ensures.items;
  across = c.in_ok-across.ensures.items;
  bounds = c.in_ok-bounds.ensures.items;
  in_order = subst (λ (axes : List Axis). AreInOrder axes [] []) (sym c.new.ensures.items) none;
}
