-- The list ascends, so that what isn't found isn't there.
use Rattle.std.proofs.Common.{refl}
use Rattle.cell_frame.proofs.Entering.{not_found}
use Rattle.cell_frame.proofs.spots.place_in.Goals as goal

pub returns-in-Err : goal.returns-in-Err
returns-in-Err c = record {
  out = λ e. not_found c.args.list.now c.args.v _ c.requires.ascends (rw c.in-Err.is at c.binary_search.ensures.position);
  at = λ ne. absurd (ne refl);
}
