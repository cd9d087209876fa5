-- The rule of one exchange of a control connection (RFC 9112, section 9.3; which replies close is this project's
-- rule). `Controls` tells which status and body are said of a request with its body, and which list of publications
-- stands then.
use Rattle.std.specs.Prelude.{◌≡◌, ℕ, ◌<◌, ◌⊎◌, List, Bool, true, false, length}
use Rattle.httparse.specs.Grammar.{RequestHead}
use Rattle.http_head.specs.Heads.{HasFront}
use Rattle.http_head.specs.Replies.{reply_text}
use Rattle.http_session.specs.Coming.{IsPartOfHead}
use Rattle.http_session.specs.Exchanges.{Exchange, IsWhole}
use Rattle.metric_publish.specs.declared.entry.Entry.{Entry}
use Rattle.control_port.specs.Asking.{asked_of, body_length}
use Rattle.control_port.specs.declared.asking.ControlHead.{ControlHead}
use Rattle.control_port.specs.declared.asking.ControlHead.TheVariants as asked
use Rattle.route_server.specs.QueryRule.{closes_at}
use Rattle.route_server.specs.Seats.{busy_body}

-- what is said of a request with its body: from the list of publications before to the status, the body of the reply
-- and the list after
abbrev pub ControlSays : Type 0 → Type 1
ControlSays V = List (Entry V) → ControlHead → List ℕ → ℕ → List ℕ → List (Entry V) → Type 0

-- the reply closes the connection: that to a stop and to what is no request always, else as on a query connection
abbrev pub closes_by : ControlHead → Bool → Bool
closes_by (asked.Metric speeds size) close = close
closes_by asked.Stop close = true
closes_by asked.Bad close = true

abbrev pub is_stop : ControlHead → Bool
is_stop (asked.Metric speeds size) = false
is_stop asked.Stop = true
is_stop asked.Bad = false

-- what the port knows: the list of publications, and whether a stop was answered
pub record DeskState (V : Type 0) : Type 0 where
  pub list : List (Entry V)
  pub stopped : Bool

module _ {V : Type 0} where
  abbrev pub desk_state : List (Entry V) → Bool → DeskState V
  desk_state list stopped = record { list = list; stopped = stopped }

  -- the request was answered
  pub record IsCarriedOut (Controls : ControlSays V) (before after : List (Entry V)) (request : ControlHead) (body : List ℕ) (close : Bool) (reply : List ℕ) : Type 0 where
    pub status : ℕ
    pub text : List ℕ
    pub says : Controls before request body status text after
    pub bytes : reply ≡ reply_text status text close

  -- there was no memory for it, and the list is as before
  pub record IsLeft (before after : List (Entry V)) (close : Bool) (reply : List ℕ) : Type 0 where
    pub same : after ≡ before
    pub bytes : reply ≡ reply_text 503 busy_body close

  -- one of both; a stop was answered, or there was no memory for it
  abbrev pub IsControlReply : ControlSays V → List (Entry V) → List (Entry V) → ControlHead → List ℕ → Bool → Bool → List ℕ → Type 0
  IsControlReply Controls before after request body close stopped reply =
      (IsCarriedOut Controls before after request body close reply × (stopped ≡ is_stop request))
      ⊎ (IsLeft before after close reply × (stopped ≡ false))

  -- a request with its body has one reply
  pub record ControlRule (Controls : ControlSays V) (n : ℕ) (before : DeskState V) (x : Exchange (DeskState V)) : Type 0 where
    pub whole : IsWhole x.head
    pub size : length x.body ≡ body_length (asked_of x.head)
    pub close : x.close ≡ closes_by (asked_of x.head) (closes_at n x.head)
    pub reply : IsControlReply Controls before.list x.after.list (asked_of x.head) x.body x.close x.after.stopped x.reply

-- a whole head, and less than its body
pub record IsPartOfBody (unread : List ℕ) : Type 0 where
  pub head : RequestHead
  pub part : List ℕ
  pub front : HasFront unread head part
  pub short : length part < body_length (asked_of head)

-- a part of a request: of its head, or its head and less than its body
abbrev pub IsPartOfRequest : List ℕ → Type 0
IsPartOfRequest unread = IsPartOfHead unread ⊎ IsPartOfBody unread
