-- The input of a control connection that had no fault tells which requests are answered and how it ends, but for the
-- parser's choice, and for want of memory at a stop; whatever the board, and whatever comes of the requests.
use Rattle.std.specs.Prelude.{◌≡◌, ℕ, ◌+◌, ◌⊎◌, List, [], ◌∷◌, ◌++◌, Bool, true, false, Some, refl}
use Rattle.std.proofs.Common.{◌∙◌, inl, inr, sym, ap, subst, true≢false}
use Rattle.http_head.specs.Replies.{reply_text}
use Rattle.http_session.specs.Coming.{IsNoHead}
use Rattle.http_session.specs.Exchanges.{Exchange, Follow}
use Rattle.http_session.specs.declared.ended.Ended.{Ended}
use Rattle.http_session.specs.declared.ended.Ended.TheVariants as ended
use Rattle.metric_publish.specs.declared.entry.Entry.{Entry}
use Rattle.road_io.specs.Views.{ConnState}
use Rattle.control_port.specs.Asking.{asked_of}
use Rattle.control_port.specs.declared.asking.ControlHead.{ControlHead}
use Rattle.control_port.specs.declared.asking.ControlHead.TheVariants as asked
use Rattle.route_server.specs.ControlRule.{ControlRule, ControlSays, DeskState, IsControlReply, IsPartOfRequest, closes_by, desk_state, is_stop}
use Rattle.route_server.specs.ControlSessions.{IsControlSession, IsDeskSession}
use Rattle.route_server.specs.CutLaws.{AreSameRequests, IsSameRequest}
use Rattle.route_server.specs.EndLaws.{EndSame, IsFaultless, IsParsersChoice, IsUnfinished, ends_agree}
use Rattle.route_server.specs.HeadRules.{control_goes, control_heads}
use Rattle.route_server.specs.QueryRule.{closes_at}
use Rattle.route_server.specs.Seats.{busy_body}
use Rattle.route_server.specs.declared.control_serving.ControlEnded.{ControlEnded}
use Rattle.route_server.specs.declared.control_serving.ControlEnded.TheVariants as how

-- how it ended as any connection does: by the reply to a stop it was closed
abbrev pub ended_of : ControlEnded → Ended
ended_of how.Stopped = ended.Closed
ended_of (how.Other e) = e

module _ {V : Type 0} where
  -- the session, and whether a stop was answered in it
  abbrev pub desk_session : (Controls : ControlSays V) (first last : List (Entry V)) (before after : ConnState) (end : ControlEnded) → IsControlSession Controls first last before after end → (stopped : Bool) × IsDeskSession Controls (desk_state first false) (desk_state last stopped) before after (ended_of end)
  desk_session Controls first last before after how.Stopped session = (true, session)
  desk_session Controls first last before after (how.Other e) session = (session.0, session.1)

  -- a control connection whose input, told, was this, and which ended so, without a fault
  pub record ControlRun (Controls : ControlSays V) (input : List ℕ) (end : ControlEnded) : Type 0 where
    pub first : List (Entry V)
    pub last : List (Entry V)
    pub before : ConnState
    pub after : ConnState
    pub run : IsControlSession Controls first last before after end
    pub given : before.source.left ≡ Some input
    pub faultless : IsFaultless (ended_of end)

  -- its exchanges
  abbrev pub exchanges_of : {Controls : ControlSays V} {input : List ℕ} {end : ControlEnded} → ControlRun Controls input end → List (Exchange (DeskState V))
  exchanges_of {Controls} {input} {end} it = (desk_session Controls it.first it.last it.before it.after end it.run).1.exchanges

  -- the last of the requests is a stop, and the reply to it that for which there was no memory
  pub record HasStopLeft (all : List (Exchange (DeskState V))) : Type 0 where
    pub front : List (Exchange (DeskState V))
    pub stop : Exchange (DeskState V)
    pub are : all ≡ front ++ stop ∷ []
    pub asks : asked_of stop.head ≡ asked.Stop
    pub reply : stop.reply ≡ reply_text 503 busy_body true

  -- of two connections one was ended by the reply to a stop, for which there was no memory in the other, with these
  -- exchanges
  pub record IsMemorysChoice (one other : ControlEnded) (all : List (Exchange (DeskState V))) : Type 0 where
    pub one_is : one ≡ how.Stopped
    pub other_is : other ≡ how.Other ended.Closed
    pub left : HasStopLeft all

-- two ways to end, with these exchanges, are the same, or one of them is due to a choice
abbrev pub ControlEndSame : {V W : Type 0} → ControlEnded → List (Exchange (DeskState V)) → ControlEnded → List (Exchange (DeskState W)) → Type 0
ControlEndSame one xs other ys =
    (one ≡ other)
    ⊎ IsParsersChoice (ended_of one) (ended_of other) ⊎ IsParsersChoice (ended_of other) (ended_of one)
    ⊎ IsMemorysChoice one other ys ⊎ IsMemorysChoice other one xs

-- where a stop was answered and the output failed in the reply, the connection was not closed
not_stopped : (stopped : Bool) (e : Ended) → (stopped ≡ true → e ≡ ended.SinkFault) → ended.Closed ≡ e → stopped ≡ false
not_stopped true e failed closed = absurd (subst IsFaultless (closed ∙ failed refl) tt)
not_stopped false e failed closed = refl

-- what is a stop asks for one
is_stop_only : (request : ControlHead) → is_stop request ≡ true → request ≡ asked.Stop
is_stop_only (asked.Metric speeds size) stop = absurd (true≢false (sym stop))
is_stop_only asked.Stop stop = refl
is_stop_only asked.Bad stop = absurd (true≢false (sym stop))

-- the last exchange goes by the rule, and leads to what the port knows at last
last_follows : {S : Type 0} (Rule : ℕ → S → Exchange S → Type 0) (n : ℕ) (first last : S) (front : List (Exchange S)) (x : Exchange S) → Follow Rule n first (front ++ x ∷ []) last → (k : ℕ) × (mid : S) × Rule k mid x × (last ≡ x.after)
last_follows Rule n first last [] x follow = (n, first, follow.0, follow.1)
last_follows Rule n first last (y ∷ front) x follow = last_follows Rule (n + 1) y.after last front x follow.1

module _ {S T : Type 0} where
  -- the same requests have the same last one
  last_same : (front : List (Exchange S)) (x : Exchange S) (ys : List (Exchange T)) → AreSameRequests (front ++ x ∷ []) ys → (behind : List (Exchange T)) × (y : Exchange T) × (ys ≡ behind ++ y ∷ []) × IsSameRequest x y
  last_same [] x [] same = absurd same
  last_same [] x (y ∷ []) same = ([], y, refl, same.0)
  last_same [] x (y ∷ z ∷ ys) same = absurd same.1
  last_same (f ∷ front) x [] same = absurd same
  last_same (f ∷ front) x (y ∷ ys) same =
      let last = last_same front x ys same.1 in (y ∷ last.0, last.1, ap (λ (zs : List (Exchange T)). y ∷ zs) last.2, last.3)

  -- what is the same is so the other way round
  same_back : (xs : List (Exchange S)) (ys : List (Exchange T)) → AreSameRequests xs ys → AreSameRequests ys xs
  same_back [] [] same = tt
  same_back [] (y ∷ ys) same = absurd same
  same_back (x ∷ xs) [] same = absurd same
  same_back (x ∷ xs) (y ∷ ys) same = (record { head = sym same.0.head; body = sym same.0.body }, same_back xs ys same.1)

module _ {V : Type 0} (Controls : ControlSays V) where
  -- a stop that was answered is one
  stop_answered : (n : ℕ) (before : DeskState V) (x : Exchange (DeskState V)) → ControlRule Controls n before x → x.after.stopped ≡ true → asked_of x.head ≡ asked.Stop
  stop_answered n before x rule on = go rule.reply
    where
      go : IsControlReply Controls before.list x.after.list (asked_of x.head) x.body x.close x.after.stopped x.reply → asked_of x.head ≡ asked.Stop
      go (inl made) = is_stop_only (asked_of x.head) (sym made.1 ∙ on)
      go (inr busy) = absurd (true≢false (sym on ∙ busy.1))

  -- for a stop that was not, there was no memory
  stop_left : (n : ℕ) (before : DeskState V) (x : Exchange (DeskState V)) → ControlRule Controls n before x → x.after.stopped ≡ false → asked_of x.head ≡ asked.Stop → x.reply ≡ reply_text 503 busy_body true
  stop_left n before x rule off asks = go rule.reply
    where
      closes : x.close ≡ true
      closes = rule.close ∙ ap (λ (r : ControlHead). closes_by r (closes_at n x.head)) asks

      go : IsControlReply Controls before.list x.after.list (asked_of x.head) x.body x.close x.after.stopped x.reply → x.reply ≡ reply_text 503 busy_body true
      go (inl made) = absurd (true≢false (sym (ap is_stop asks) ∙ sym made.1 ∙ off))
      go (inr busy) = busy.0.bytes ∙ ap (λ (b : Bool). reply_text 503 busy_body b) closes

module _ {V W : Type 0} (Controls : ControlSays V) (Others : ControlSays W) where
  -- where the last of the requests is a stop that was answered, and in the other connection none was, there was no
  -- memory for it
  left_behind : (first last : DeskState V) (other final : DeskState W) (xs : List (Exchange (DeskState V))) (ys : List (Exchange (DeskState W))) (front : List (Exchange (DeskState V))) (x : Exchange (DeskState V)) → xs ≡ front ++ x ∷ []
      → Follow (ControlRule Controls) 0 first xs last → Follow (ControlRule Others) 0 other ys final → last.stopped ≡ true → final.stopped ≡ false → AreSameRequests xs ys → HasStopLeft ys
  left_behind first last other final xs ys front x are follow follow_other on off same = record {
    front = there.0;
    stop = there.1;
    are = there.2;
    asks = asks;
    reply = stop_left Others theirs.0 theirs.1 there.1 theirs.2 (sym (ap (λ (s : DeskState W). s.stopped) theirs.3) ∙ off) asks;
  }
    where
      mine : (k : ℕ) × (mid : DeskState V) × ControlRule Controls k mid x × (last ≡ x.after)
      mine = last_follows (ControlRule Controls) 0 first last front x (subst (λ (zs : List (Exchange (DeskState V))). Follow (ControlRule Controls) 0 first zs last) are follow)

      there : (behind : List (Exchange (DeskState W))) × (y : Exchange (DeskState W)) × (ys ≡ behind ++ y ∷ []) × IsSameRequest x y
      there = last_same front x ys (subst (λ (zs : List (Exchange (DeskState V))). AreSameRequests zs ys) are same)

      theirs : (k : ℕ) × (mid : DeskState W) × ControlRule Others k mid there.1 × (final ≡ there.1.after)
      theirs = last_follows (ControlRule Others) 0 other final there.0 there.1 (subst (λ (zs : List (Exchange (DeskState W))). Follow (ControlRule Others) 0 other zs final) there.2 follow_other)

      asks : asked_of there.1.head ≡ asked.Stop
      asks = sym (ap asked_of there.3.head) ∙ stop_answered Controls mine.0 mine.1 x mine.2 (sym (ap (λ (s : DeskState V). s.stopped) mine.3) ∙ on)

-- a part of a control request is one by its head
unfinished_part : (unread : List ℕ) → IsPartOfRequest unread → IsUnfinished control_heads unread
unfinished_part unread (inl head) = inl head
unfinished_part unread (inr body) = inr (record { head = body.head; part = body.part; front = body.front; served = refl; short = body.short })

module _ {V W : Type 0} (Controls : ControlSays V) (Others : ControlSays W) (input : List ℕ) where
  equal_ends : (end other : ControlEnded) (one : ControlRun Controls input end) (two : ControlRun Others input other) → ended_of end ≡ ended_of other → AreSameRequests (exchanges_of one) (exchanges_of two) → ControlEndSame end (exchanges_of one) other (exchanges_of two)
  equal_ends how.Stopped how.Stopped one two equal same = inl refl
  equal_ends how.Stopped (how.Other e) one two equal same =
      let last = one.run.ends.0.0 in
      inr (inr (inr (inl (record {
        one_is = refl;
        other_is = ap how.Other (sym equal);
        left = left_behind Controls Others
            (desk_state one.first false) (desk_state one.last true) (desk_state two.first false) (desk_state two.last two.run.0)
            one.run.exchanges two.run.1.exchanges last.front last.last last.are one.run.follow two.run.1.follow refl (not_stopped two.run.0 e (λ on. (two.run.2 on).0) equal) same;
      }))))
  equal_ends (how.Other e) how.Stopped one two equal same =
      let last = two.run.ends.0.0 in
      inr (inr (inr (inr (record {
        one_is = refl;
        other_is = ap how.Other equal;
        left = left_behind Others Controls
            (desk_state two.first false) (desk_state two.last true) (desk_state one.first false) (desk_state one.last one.run.0)
            two.run.exchanges one.run.1.exchanges last.front last.last last.are two.run.follow one.run.1.follow refl (not_stopped one.run.0 e (λ on. (one.run.2 on).0) (sym equal))
            (same_back one.run.1.exchanges two.run.exchanges same);
      }))))
  equal_ends (how.Other e) (how.Other f) one two equal same = inl (ap how.Other equal)

  end_same : (end other : ControlEnded) (one : ControlRun Controls input end) (two : ControlRun Others input other) → EndSame (ended_of end) (ended_of other) → AreSameRequests (exchanges_of one) (exchanges_of two) → ControlEndSame end (exchanges_of one) other (exchanges_of two)
  end_same end other one two (inl equal) same = equal_ends end other one two equal same
  end_same end other one two (inr (inl choice)) same = inr (inl choice)
  end_same end other one two (inr (inr choice)) same = inr (inr (inl choice))

  pub control_ends_agree : (end other : ControlEnded) (one : ControlRun Controls input end) (two : ControlRun Others input other) → ControlEndSame end (exchanges_of one) other (exchanges_of two) × AreSameRequests (exchanges_of one) (exchanges_of two)
  control_ends_agree end other one two =
      let mine = desk_session Controls one.first one.last one.before one.after end one.run in
      let theirs = desk_session Others two.first two.last two.before two.after other two.run in
      let agree =
      ends_agree control_heads (ControlRule Controls) (ControlRule Others) IsNoHead IsPartOfRequest (control_goes Controls) (control_goes Others) (λ xs bad. inr bad) unfinished_part input
      (desk_state one.first false) (desk_state one.last mine.0) one.before one.after (ended_of end)
      (desk_state two.first false) (desk_state two.last theirs.0) two.before two.after (ended_of other)
      mine.1 theirs.1 one.given two.given one.faultless two.faultless in
      (end_same end other one two agree.0 agree.1, agree.1)
