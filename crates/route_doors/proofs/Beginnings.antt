-- What may stand on a board of one road network.
use Rattle.std.proofs.Common.{◌≡◌, ◌∙◌, [], ◌∷◌, sym}
use Rattle.control_port.specs.Controlling.{Board, IsOn}
use Rattle.customized.specs.Exact.{Customized, ShareRoads}
use Rattle.customized.specs.Framing.{RoadsView}
use Rattle.metric_publish.specs.History.{IsKin}
use Rattle.route_doors.specs.RoadDoors.{BeginsOn}

-- each metric that may stand in the list is on these roads
pub kin_on : (roads : RoadsView) (list : Board) (x : Customized) → BeginsOn roads list → IsKin ShareRoads list x → x.road.network ≡ roads.network
kin_on roads [] x begins kin = absurd begins
kin_on roads (e ∷ es) x begins kin = sym kin.0 ∙ begins.0

-- each metric on these roads may stand in the list
pub on_kin : (roads : RoadsView) (list : Board) (x : Customized) → BeginsOn roads list → IsOn roads x → IsKin ShareRoads list x
on_kin roads [] x begins on = absurd begins
on_kin roads (e ∷ es) x begins on = (begins.0 ∙ sym on.0, begins.1 ∙ sym on.1)
