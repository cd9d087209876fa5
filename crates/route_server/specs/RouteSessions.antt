-- A query connection whose requests are answered by `reply_core`.
use Rattle.std.specs.Prelude.{◌≡◌, ℕ, List}
use Rattle.customized.specs.Exact.{Customized}
use Rattle.http_session.specs.declared.ended.Ended.{Ended}
use Rattle.metric_publish.specs.declared.entry.Entry.{Entry}
use Rattle.reply_core.specs.Answers.{IsAnswer}
use Rattle.reply_core.specs.declared.answers.Answer.{Answer}
use Rattle.road_io.specs.Views.{ConnState, Transcript}
use Rattle.route_server.specs.Seats.{SeatState}
use Rattle.route_server.specs.Sessions.{IsQuerySession}
use Rattle.route_server.specs.Transcripts.{IsQueryTranscript}

-- this status and body are those of an answer to the target, under a metric that was published under a number
abbrev pub IsSaid : Customized → ℕ → List ℕ → ℕ → List ℕ → Type 0
IsSaid metric number target status body =
    (answer : Answer) × IsAnswer metric.road number target answer × (status ≡ answer.status) × (body ≡ answer.text)

abbrev pub IsRouteSession : SeatState Customized → SeatState Customized → ConnState → ConnState → Ended → Type 0
IsRouteSession first last before after how = IsQuerySession (λ e. IsSaid e.value e.number) first last before after how

abbrev pub IsRouteTranscript : List (Entry Customized) → Transcript → Ended → Type 0
IsRouteTranscript list t how = IsQueryTranscript (λ e. IsSaid e.value e.number) list t how
