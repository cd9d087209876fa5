-- For private functions: what holds of the parts of `Published`.
use Rattle.std.specs.Prelude.{◌≡◌, List}
use Rattle.control_port.specs.Controlling.{Board, IsOn}
use Rattle.customized.specs.Exact.{Customized, ShareRoads}
use Rattle.customized.specs.Framing.{RoadsView}
use Rattle.metric_publish.specs.History.{IsKin}
use Rattle.snap_index.specs.Ends.{all_ends}
use Rattle.snap_index.specs.declared.grids.SegmentEnds.{SegmentEnds}

-- the last metric is on these roads, as any metric may be that is published next, and the grid is that of their
-- segments
pub record AreParts (roads : RoadsView) (board : Board) (last : Customized) (grid : List SegmentEnds) : Type 0 where
  pub on : IsOn roads last
  pub kin : (x : Customized) → IsOn roads x → IsKin ShareRoads board x
  pub ends : grid ≡ all_ends roads.network.segments
