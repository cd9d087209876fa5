-- A control request that was read, and its reply.
use Rattle.std.proofs.Common.{◌≡◌, ◌∙◌, ℕ, ◌+◌, ◌<◌, ◌⊎◌, inl, inr, Bool, true, false, true≢false, ◌||◌, ◌==◌, List, [], ◌∷◌, ◌++◌, Option, None, Some, Vec, length, drop, refl, sym, ap, subst, append_assoc, append-nil}
use Rattle.std.specs.Global.{Global}
use Rattle.httparse.specs.Grammar.{RequestHead, print_request}
use Rattle.http_head.specs.Heads.{IsHeadOf}
use Rattle.http_head.specs.declared.parts.Head.{Head}
use Rattle.http_session.specs.Bodies.{Holds, Reads, ReadsPart, ReadsWhole}
use Rattle.http_session.specs.Coming.{Grows, IsNoHead, IsPartOfHead, IsSteady}
use Rattle.http_session.specs.Ending.{CutIn, CutReply, head_bad}
use Rattle.http_session.specs.Exchanges.{AreOpen, Exchange, Follow, replies_of}
use Rattle.http_session.specs.declared.ended.Ended.TheVariants as ended
use Rattle.metric_publish.specs.declared.entry.Entry.{Entry}
use Rattle.road_io.specs.Faults.{Rose}
use Rattle.road_io.specs.Told.{consumes_then}
use Rattle.road_io.specs.Views.{ConnState}
use Rattle.control_port.specs.Asking.{HasSpeeds, asked_of, body_length}
use Rattle.control_port.specs.declared.asking.ControlHead.{ControlHead}
use Rattle.control_port.specs.declared.asking.ControlHead.TheVariants as asked
use Rattle.route_server.specs.ControlReading.{BreaksOff, ComesRequest, ReadsRequest}
use Rattle.route_server.specs.ControlReplying.{KeepsBody}
use Rattle.route_server.specs.ControlRule.{ControlRule, ControlSays, DeskState, IsControlReply, IsPartOfBody, IsPartOfRequest, closes_by, desk_state, is_stop}
use Rattle.route_server.specs.ControlSessions.{IsDeskSession}
use Rattle.route_server.specs.QueryRule.{closes_at}
use Rattle.route_server.specs.declared.control_requests.ControlRequest.{ControlRequest}
use Rattle.route_server.specs.declared.control_requests.ControlRequest.TheVariants as request
use Rattle.route_server.proofs.QueryLaws.{not_last}

-- the reply to a stop closes
stop_closes : (request : ControlHead) (other close : Bool) → close ≡ closes_by request other → is_stop request ≡ true → close ≡ true
stop_closes (asked.Metric speeds size) other close is stop = absurd (cc)
stop_closes asked.Stop other close is stop = is
stop_closes asked.Bad other close is stop = absurd (cc)

-- a reply that does not close was not the last
pub control_not_last : (request : ControlHead) (field close : Bool) (n : ℕ) → close ≡ closes_by request (field || n == 99) → close ≡ false → n < 100 → n + 1 < 100
control_not_last (asked.Metric speeds size) field close n is open_is below = not_last field close n is open_is below
control_not_last asked.Stop field close n is open_is below = absurd (cc)
control_not_last asked.Bad field close n is open_is below = absurd (cc)

-- bytes were taken, and then more
grows_then : (first mid now : ConnState) (unread held longer : List ℕ) → Grows first mid unread held → Grows mid now held longer → Grows first now unread longer
grows_then first mid now unread held longer one two = record {
  got = one.got ++ two.got;
  longer = two.longer ∙ ap (λ (xs : List ℕ). xs ++ two.got) one.longer ∙ append_assoc unread one.got two.got;
  given = consumes_then first.source.left mid.source.left now.source.left one.got two.got one.given two.given;
  sink = record { sink = two.sink.sink ∙ one.sink.sink; opening = two.sink.opening ∙ one.sink.opening };
}

-- the bytes of a body stand behind those of its head
pub grows_read : (first now : ConnState) (unread rest held part : List ℕ) (reads : Reads first now rest held part) → Grows first now unread (unread ++ reads.got)
grows_read first now unread rest held part reads = record { got = reads.got; longer = refl; given = reads.given; sink = reads.sink }

head_and_more : (unread rest got front behind : List ℕ) (head : Head) (size : ℕ) (h : RequestHead) → IsHeadOf unread head size h → rest ≡ drop size unread → rest ++ got ≡ front ++ behind → unread ++ got ≡ print_request h ++ (front ++ behind)
head_and_more unread rest got front behind head size h is rest_is split =
    ap (λ (xs : List ℕ). xs ++ got) (is.front.0.1)
    ∙ append_assoc (print_request h) (drop size unread) got
    ∙ ap (λ (xs : List ℕ). print_request h ++ (xs ++ got)) (sym rest_is)
    ∙ ap (λ (xs : List ℕ). print_request h ++ xs) split

-- a request with its body was read, whose head stood at the front
pub read_whole : (before after : ConnState) (unread rest now : List ℕ) (n : ℕ) (head : Head) (size : ℕ) (h : RequestHead) (request : ControlHead) (field close : Bool) (count : ℕ) (kept : Option (Vec ℕ Global)) → IsHeadOf unread head size h → rest ≡ drop size unread → request ≡ asked_of h → HasSpeeds request → field ≡ (head.close || n == 99) → close ≡ closes_by request field → count ≡ body_length request → ReadsWhole before after rest now count kept → ReadsRequest before after unread now n request close kept
read_whole before after unread rest now n head size h request field close count kept is rest_is asks speeds field_is close_is count_is reads = record {
  head = h;
  body = reads.body;
  held = unread ++ reads.reads.got;
  whole = record { valid = is.front.0.0; fields = is.front.1; size = is.front.2 };
  asks = asks;
  speeds = speeds;
  size = reads.size_is ∙ count_is;
  close_is = close_is ∙ ap (λ (b : Bool). closes_by request b) (field_is ∙ ap (λ (b : Bool). b || n == 99) is.close);
  holds = reads.holds;
  grows = grows_read before after unread rest now reads.body reads.reads;
  split = head_and_more unread rest reads.reads.got reads.body now head size h is rest_is reads.reads.split ∙ sym (append_assoc (print_request h) reads.body now);
  steady = reads.steady;
}

-- a part of a head is one of a request
pub part_of_request : (unread : List ℕ) → (unread ≡ []) ⊎ IsPartOfHead unread → (unread ≡ []) ⊎ IsPartOfRequest unread
part_of_request unread (inl none) = inl none
part_of_request unread (inr part) = inr (inl part)

-- less than the body stands behind the head
pub read_part : (before after : ConnState) (unread rest : List ℕ) (head : Head) (size : ℕ) (h : RequestHead) (request : ControlHead) (count : ℕ) → IsHeadOf unread head size h → rest ≡ drop size unread → request ≡ asked_of h → count ≡ body_length request → (reads : ReadsPart before after rest count) → IsPartOfBody (unread ++ reads.reads.got)
read_part before after unread rest head size h request count is rest_is asks count_is reads =
    let same : count ≡ body_length (asked_of h) = count_is ∙ ap body_length asks in
    record {
      head = h;
      part = reads.part;
      front = (
        (is.front.0.0, head_and_more unread rest reads.reads.got reads.part [] head size h is rest_is reads.reads.split ∙ ap (λ (xs : List ℕ). print_request h ++ xs) (append-nil reads.part)),
        is.front.1,
        is.front.2,
      );
      short = subst (λ (n : ℕ). length reads.part < n) same reads.short;
    }

breaks_off : (first mid now : ConnState) (unread held : List ℕ) (P : List ℕ → Type 0) → Grows first mid unread held → BreaksOff mid now held P → BreaksOff first now unread P
breaks_off first mid now unread held P one two = record { held = two.held; grows = grows_then first mid now unread held two.held one two.grows; is = two.is }

-- what comes behind bytes that were taken before
pub comes_behind : (first mid now : ConnState) (unread held rest : List ℕ) (n : ℕ) (how : ControlRequest) → Grows first mid unread held → IsSteady first mid → ComesRequest how mid now held rest n → ComesRequest how first now unread rest n
comes_behind first mid now unread held rest n (request.Whole taken) grows steady comes = record {
  head = comes.head;
  body = comes.body;
  held = comes.held;
  whole = comes.whole;
  asks = comes.asks;
  speeds = comes.speeds;
  size = comes.size;
  close_is = comes.close_is;
  holds = comes.holds;
  grows = grows_then first mid now unread held comes.held grows comes.grows;
  split = comes.split;
  steady = comes.steady ∙ steady;
}
comes_behind first mid now unread held rest n request.NoHead grows steady comes =
    (grows_then first mid now unread held rest grows comes.0, comes.1, comes.2 ∙ steady)
comes_behind first mid now unread held rest n request.End grows steady comes =
    (grows_then first mid now unread held rest grows comes.0, comes.1, comes.2, comes.3 ∙ steady)
comes_behind first mid now unread held rest n request.Short grows steady comes =
    (breaks_off first mid now unread held _ grows comes.0, comes.1, comes.2 ∙ steady)
comes_behind first mid now unread held rest n request.Fault grows steady comes =
    (breaks_off first mid now unread held _ grows comes.0, subst (λ (k : ℕ). Rose k now.source.faults) steady comes.1)

-- where the body is kept, it is the request's
pub keeps_body : (request : ControlHead) (kept : Option (Vec ℕ Global)) (body : List ℕ) → Holds kept body → length body ≡ body_length request → HasSpeeds request → KeepsBody request kept
keeps_body request None body holds size speeds = tt
keeps_body request (Some kept) body holds size speeds = record { size = ap length holds ∙ size; speeds = speeds }

-- no stop was answered
pub no_stop : {P : Type 0} → false ≡ true → P
no_stop on = absurd (true≢false (sym on))

module _ {V : Type 0} where
  abbrev pub control_exchange : RequestHead → List ℕ → Bool → List ℕ → List (Entry V) → Bool → Exchange (DeskState V)
  control_exchange h body close reply after stopped = record { head = h; body = body; close = close; reply = reply; after = desk_state after stopped }

  -- a request that was read, with its reply
  pub control_rule_of : (Controls : ControlSays V) (n : ℕ) (before after : List (Entry V)) (was stopped : Bool) (first now : ConnState) (unread rest : List ℕ) (request : ControlHead) (close : Bool) (kept : Option (Vec ℕ Global)) (reply : List ℕ) (read : ReadsRequest first now unread rest n request close kept) → IsControlReply Controls before after request read.body close stopped reply → ControlRule Controls n (desk_state before was) (control_exchange read.head read.body close reply after stopped)
  control_rule_of Controls n before after was stopped first now unread rest request close kept reply read replies = record {
    whole = read.whole;
    size = read.size ∙ ap body_length read.asks;
    close = read.close_is ∙ ap (λ (r : ControlHead). closes_by r (closes_at n read.head)) read.asks;
    reply = subst (λ (r : ControlHead). IsControlReply Controls before after r read.body close stopped reply) read.asks replies;
  }

  -- a stop that was answered closed the connection
  pub stopped_closes : (Controls : ControlSays V) (before after : List (Entry V)) (request : ControlHead) (body : List ℕ) (other close stopped : Bool) (reply : List ℕ) → IsControlReply Controls before after request body close stopped reply → stopped ≡ true → close ≡ closes_by request other → close ≡ true
  stopped_closes Controls before after request body other close stopped reply (inl made) on is = stop_closes request other close is (sym made.1 ∙ on)
  stopped_closes Controls before after request body other close stopped reply (inr busy) on is = absurd (cc)

  -- requests that leave the connection open answer no stop
  open_unstopped : (Controls : ControlSays V) (n : ℕ) (first last : DeskState V) (all : List (Exchange (DeskState V))) → Follow (ControlRule Controls) n first all last → AreOpen all → first.stopped ≡ false → last.stopped ≡ false
  open_unstopped Controls n first last [] same stay none = ap (λ (s : DeskState V). s.stopped) same ∙ none
  open_unstopped Controls n first last (x ∷ more) follow stay none =
      open_unstopped Controls (n + 1) x.after last more follow.1 stay.1 (unstopped x.after.stopped refl)
    where
      unstopped : (b : Bool) → x.after.stopped ≡ b → b ≡ false
      unstopped true on =
          let close : x.close ≡ true = stopped_closes Controls first.list x.after.list (asked_of x.head) x.body (closes_at n x.head) x.close x.after.stopped x.reply follow.0.reply on follow.0.close in
          absurd (true≢false (sym close ∙ stay.0))
      unstopped false is = refl

  -- where a stop was answered and the output failed, of the reply to it a proper front was put
  pub stop_cut : (Controls : ControlSays V) (first last : List (Entry V)) (before after : ConnState) (stopped : Bool) (session : IsDeskSession Controls (desk_state first false) (desk_state last stopped) before after ended.SinkFault) → stopped ≡ true → CutReply before after session.exchanges
  stop_cut Controls first last before after stopped session on = go session.ends.1
    where
      go : CutReply before after session.exchanges ⊎ (AreOpen session.exchanges × IsNoHead session.unread × CutIn before after (replies_of session.exchanges) head_bad) → CutReply before after session.exchanges
      go (inl cut) = cut
      go (inr bad) =
          let off : stopped ≡ false = open_unstopped Controls 0 (desk_state first false) (desk_state last stopped) session.exchanges session.follow bad.0 refl in
          absurd (true≢false (sym on ∙ off))
