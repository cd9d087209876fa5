-- What serving leaves of its doors, whose query connections are answered under metrics of one road network, and whose
-- control connections publish such metrics.
use Rattle.std.specs.Prelude.{◌≡◌, ◌⊎◌, true, false, List, [], ◌∷◌, ◌++◌, length, All, Option, None, Some, ⊤}
use mathlib.Core.List.{IsPrefix}
use Rattle.control_port.specs.Controlling.{Board, IsOn}
use Rattle.customized.specs.Framing.{RoadsView}
use Rattle.door_workers.specs.Leading.{Leads}
use Rattle.door_workers.specs.declared.sessions.Then.{Then}
use Rattle.door_workers.specs.declared.sessions.Then.TheVariants as then
use Rattle.http_session.specs.declared.ended.Ended.{Ended}
use Rattle.road_io.specs.DoorOpening.{DoorViews}
use Rattle.road_io.specs.Doorway.{DoorView, IsUsedUp}
use Rattle.road_io.specs.Faults.{Rose}
use Rattle.road_io.specs.Views.{Transcript}
use Rattle.route_server.specs.ControlSessions.{Publications}
use Rattle.route_server.specs.RoadControls.{IsControlSaid, IsRoadTranscript}
use Rattle.route_server.specs.RouteSessions.{IsRouteTranscript}
use Rattle.route_server.specs.declared.control_serving.ControlEnded.TheVariants as how

-- the first metric of the list is on these roads, and so is each that may stand behind it
abbrev pub BeginsOn : RoadsView → Board → Type 0
BeginsOn roads [] = ⊥
BeginsOn roads (e ∷ es) = IsOn roads e.value

-- where transcripts are told, they are these
abbrev pub IsTold : Option (List Transcript) → List Transcript → Type 0
IsTold None ts = ⊤
IsTold (Some told) ts = told ≡ ts

-- just these connections came through the door since it was opened, and each was finished, in this order
pub record CameThrough (door : DoorView) (ts : List Transcript) : Type 0 where
  pub told : IsTold door.transcripts ts
  pub given : door.given ≡ length ts
  pub finished : door.finished ≡ length ts

-- the door has ended: no connection is left, or its count of faults rose
pub record HasEnded (door : DoorView) : Type 0 where
  pub ended : door.ended ≡ true
  pub cause : ((door.faults ≡ 0) × IsUsedUp door.waiting door.closed) ⊎ Rose 0 door.faults

-- a finished query connection under this list of publications, whatever its end
abbrev pub IsQueried : Board → Transcript → Type 0
IsQueried list t = (ended : Ended) × IsRouteTranscript list t ended

-- a query door has ended, and each connection that came through it was served under this list
pub record IsAnsweredDoor (list : Board) (door : DoorView) : Type 0 where
  pub connections : List Transcript
  pub came : CameThrough door connections
  pub ended : HasEnded door
  pub each : All (IsQueried list) connections

-- a finished control connection leads from one list to another, and asks to stop exactly where its end is `Stopped`
abbrev pub IsControlling : RoadsView → Board → Transcript → Board → Then → Type 0
IsControlling roads before t after then.GoOn = (ended : Ended) × IsRoadTranscript roads before after t (how.Other ended)
IsControlling roads before t after then.Stop = IsRoadTranscript roads before after t how.Stopped

-- these control connections lead, one behind the other, from the first list to the last, and none of them stopped
abbrev pub GoOn : RoadsView → Board → List Transcript → Board → Type 0
GoOn roads first connections last = Leads (IsControlling roads) first connections last

-- they do, but for the last one, which stopped
pub record StopAtLast (roads : RoadsView) (first : Board) (connections : List Transcript) (last : Board) : Type 0 where
  pub earlier : List Transcript
  pub before : Board
  pub stop : Transcript
  pub all : connections ≡ earlier ++ stop ∷ []
  pub go_on : GoOn roads first earlier before
  pub stops : IsControlling roads before stop last then.Stop

-- the control door has ended behind connections of which none stopped; or its last connection stopped, and it was
-- not asked for another one
abbrev pub IsLeft : RoadsView → Board → List Transcript → Board → DoorView → Type 0
IsLeft roads first connections last door =
    (GoOn roads first connections last × HasEnded door)
    ⊎ (StopAtLast roads first connections last × (door.ended ≡ false) × (door.faults ≡ 0))

-- the connections of the control door lead from the first list to the last
pub record IsControlledDoor (roads : RoadsView) (first last : Board) (door : DoorView) : Type 0 where
  pub connections : List Transcript
  pub came : CameThrough door connections
  pub publications : Publications (IsControlSaid roads) first connections last
  pub left : IsLeft roads first connections last door

-- all connections of all doors were served under one list of publications: those of the control door lead to it
-- from the first list, and each of a query door is under it
pub record IsServed (roads : RoadsView) (first last : Board) (doors : DoorViews) : Type 0 where
  pub control : IsControlledDoor roads first last doors.control
  pub queries : All (IsAnsweredDoor last) doors.queries

-- the same, but that those of each query door are under some list of its own, which begins with this one
pub record IsServedApart (roads : RoadsView) (opening first last : Board) (doors : DoorViews) : Type 0 where
  pub control : IsControlledDoor roads first last doors.control
  pub queries : All (λ door. (list : Board) × IsPrefix opening list × IsAnsweredDoor list door) doors.queries
