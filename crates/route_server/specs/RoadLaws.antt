-- What the laws of cuts and ends are stated of: query and control connections over the metrics of one road network.
use Rattle.std.specs.Prelude.{ℕ, List}
use Rattle.customized.specs.Exact.{Customized}
use Rattle.customized.specs.Framing.{RoadsView}
use Rattle.http_session.specs.Exchanges.{Exchange}
use Rattle.http_session.specs.declared.ended.Ended.{Ended}
use Rattle.metric_publish.specs.declared.entry.Entry.{Entry}
use Rattle.route_server.specs.ControlEnds.{ControlRun}
use Rattle.route_server.specs.ControlRule.{ControlRule, DeskState}
use Rattle.route_server.specs.CutLaws.{IsCut}
use Rattle.route_server.specs.HeadRules.{control_heads, query_heads}
use Rattle.route_server.specs.QueryEnds.{QueryRun}
use Rattle.route_server.specs.QueryRule.{QueryRule}
use Rattle.route_server.specs.RoadControls.{IsControlSaid}
use Rattle.route_server.specs.RouteSessions.{IsSaid}
use Rattle.route_server.specs.Seats.{SeatState}
use Rattle.route_server.specs.declared.control_serving.ControlEnded.{ControlEnded}

-- what is said of a target under an entry
abbrev pub Says : Entry Customized → List ℕ → ℕ → List ℕ → Type 0
Says e target status body = IsSaid e.value e.number target status body

-- these bytes are cut into the requests of a query connection, or of a control connection over these roads, up to bytes
-- at whose front no whole request is left
abbrev pub IsQueryCut : List ℕ → List (Exchange (SeatState Customized)) → Type 0
IsQueryCut bytes all = IsCut (QueryRule Says) query_heads bytes all

abbrev pub IsControlCut : RoadsView → List ℕ → List (Exchange (DeskState Customized)) → Type 0
IsControlCut roads bytes all = IsCut (ControlRule (IsControlSaid roads)) control_heads bytes all

-- a connection whose input, told, was this, and which ended so, without a fault
abbrev pub RouteRun : List ℕ → Ended → Type 0
RouteRun input how = QueryRun Says input how

abbrev pub RoadRun : RoadsView → List ℕ → ControlEnded → Type 0
RoadRun roads input how = ControlRun (IsControlSaid roads) input how
