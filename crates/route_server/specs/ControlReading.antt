-- What serves this crate's own functions, and no clause of a public call: a control request is read.
use Rattle.std.specs.Prelude.{◌≡◌, ℕ, ◌⊎◌, List, [], ◌++◌, Bool, length, Option, Vec}
use Rattle.std.specs.Global.{Global}
use Rattle.std.specs.Io.KnownBytes.{IsAtEnd}
use Rattle.httparse.specs.Grammar.{RequestHead, print_request}
use Rattle.http_session.specs.Bodies.{Holds}
use Rattle.http_session.specs.Coming.{Grows, IsNoHead, IsSteady}
use Rattle.http_session.specs.Exchanges.{IsWhole}
use Rattle.road_io.specs.Faults.{InputRose}
use Rattle.road_io.specs.Views.{ConnState}
use Rattle.control_port.specs.Asking.{HasSpeeds, asked_of, body_length}
use Rattle.control_port.specs.declared.asking.ControlHead.{ControlHead}
use Rattle.route_server.specs.ControlRule.{IsPartOfRequest, closes_by}
use Rattle.route_server.specs.QueryRule.{closes_at}
use Rattle.route_server.specs.declared.control_requests.ControlRequest.{ControlRequest}
use Rattle.route_server.specs.declared.control_requests.ControlRequest.TheVariants as request

-- a whole request was read, as number n of the connection
pub record ReadsRequest (before after : ConnState) (unread now : List ℕ) (n : ℕ) (asked : ControlHead) (close : Bool) (kept : Option (Vec ℕ Global)) : Type 0 where
  pub head : RequestHead
  pub body : List ℕ
  pub held : List ℕ
  pub whole : IsWhole head
  pub asks : asked ≡ asked_of head
  pub speeds : HasSpeeds asked
  pub size : length body ≡ body_length asked
  pub close_is : close ≡ closes_by asked (closes_at n head)
  pub holds : Holds kept body
  pub grows : Grows before after unread held
  pub split : held ≡ (print_request head ++ body) ++ now
  pub steady : IsSteady before after

-- bytes were taken, of which this holds with those that were unread
pub record BreaksOff (before after : ConnState) (unread : List ℕ) (P : List ℕ → Type 0) : Type 0 where
  pub held : List ℕ
  pub grows : Grows before after unread held
  pub is : P held

abbrev pub ComesRequest : ControlRequest → ConnState → ConnState → List ℕ → List ℕ → ℕ → Type 0
ComesRequest (request.Whole taken) before after unread now n = ReadsRequest before after unread now n taken.asked taken.close taken.kept
ComesRequest request.NoHead before after unread now n = Grows before after unread now × IsNoHead now × IsSteady before after
ComesRequest request.End before after unread now n =
    Grows before after unread now × (now ≡ []) × IsAtEnd after.source.left × IsSteady before after
ComesRequest request.Short before after unread now n =
    BreaksOff before after unread IsPartOfRequest × IsAtEnd after.source.left × IsSteady before after
ComesRequest request.Fault before after unread now n =
    BreaksOff before after unread (λ held. (held ≡ []) ⊎ IsPartOfRequest held) × InputRose before.source after.source
