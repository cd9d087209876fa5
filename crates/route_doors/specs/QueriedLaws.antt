-- A query connection under a list is one under any list that begins with it.
use mathlib.Core.List.{IsPrefix}
use Rattle.control_port.specs.Controlling.{Board}
use Rattle.road_io.specs.Views.{Transcript}
use Rattle.route_doors.specs.RoadDoors.{IsQueried}
use Rattle.route_server.specs.RouteSessions.{IsSaid}
use Rattle.route_server.specs.Transcripts.{transcript_widens}

pub queried_widens : (list longer : Board) (t : Transcript) → IsPrefix list longer → IsQueried list t → IsQueried longer t
queried_widens list longer t more queried =
    (queried.0, transcript_widens (λ e. IsSaid e.value e.number) list longer t queried.0 more queried.1)
