-- The arc leads to another cell, and stands behind the others.
use Rattle.std.proofs.Common.{[], ◌∷◌}
use Rattle.cell_frame.specs.declared.crossings.Crossing.{Crossing}
use Rattle.cell_frame.proofs.Known.{AreAcross-one}
use Rattle.cell_frame.proofs.crossings.push_crossing.Goals as goal

pub returns : goal.returns
returns c =
    let crossing : Crossing = record { arc = c.args.arc; head = c.arc-head.result.1 } in (
      crossing ∷ [],
      c.in_ok-push.ensures.items,
      AreAcross-one c.args.graph.now c.args.cells.now c.args.level c.args.v c.args.arc _ _ _ _ c.arc-head.ensures.is c.requires.leaves c.cell.ensures.number c.cell-2.ensures.number c.if-cell.false,
    )
