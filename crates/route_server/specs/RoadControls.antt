-- A control connection whose requests are carried out by `control_port`, over the metrics of one road network.
use Rattle.std.specs.Prelude.{◌≡◌, ℕ, List}
use Rattle.customized.specs.Framing.{RoadsView}
use Rattle.control_port.specs.Controlling.{Board, IsControlled}
use Rattle.control_port.specs.Telling.{body_of, status_of}
use Rattle.control_port.specs.declared.asking.ControlHead.{ControlHead}
use Rattle.control_port.specs.declared.controlled.Controlled.{Controlled}
use Rattle.road_io.specs.Views.{ConnState, Transcript}
use Rattle.route_server.specs.ControlSessions.{IsControlSession, IsControlTranscript}
use Rattle.route_server.specs.declared.control_serving.ControlEnded.{ControlEnded}

-- this status and body tell what comes of the request
abbrev pub IsControlSaid : RoadsView → Board → ControlHead → List ℕ → ℕ → List ℕ → Board → Type 0
IsControlSaid roads before request body status text after =
    (answer : Controlled) × IsControlled roads before request body answer after × (status ≡ status_of answer) × (text ≡ body_of answer)

abbrev pub IsRoadSession : RoadsView → Board → Board → ConnState → ConnState → ControlEnded → Type 0
IsRoadSession roads first last before after how = IsControlSession (IsControlSaid roads) first last before after how

abbrev pub IsRoadTranscript : RoadsView → Board → Board → Transcript → ControlEnded → Type 0
IsRoadTranscript roads first last t how = IsControlTranscript (IsControlSaid roads) first last t how
