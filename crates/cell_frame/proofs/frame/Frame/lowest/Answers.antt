-- It is known of a vertex beforehand.
use Rattle.std.proofs.Common.{◌≤◌, ◌≡◌, length, subst, sym}
use Rattle.cell_partition.specs.Partition.{level_at, number_of}
use Rattle.cell_frame.specs.Borders.{Framed}
use Rattle.cell_frame.proofs.frame.Frame.lowest.Goals as goal

pub returns : goal.returns
returns c =
    let f = c.self.inside in
    let some : 1 ≤ length f.cells.levels = subst (λ (x : Framed). 1 ≤ length x.cells.levels) (sym c.self.view_is) c.requires.some in
    subst (λ (x : Framed). c.spot.result.lowest ≡ number_of (level_at x.cells 1) c.args.v) c.self.view_is ((c.self.invariant.1.each c.args.v c.spot.result c.spot.ensures).lowest some)
