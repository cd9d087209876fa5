-- What a seat knows after a reply.
use Rattle.std.proofs.Common.{◌≡◌, ℕ, ◌≤◌, arith, ap, inl, inr, Bool, List, Some, Result, Ok, Err, IfOk, Vec, subst}
use Rattle.std.specs.Result.{IsErrAnd}
use Rattle.std.specs.Global.{Global}
use Rattle.std.specs.declared.alloc.AllocError.{AllocError}
use Rattle.http_head.specs.Replies.{reply_text}
use Rattle.road_io.specs.declared.failures.Failed.{Failed}
use Rattle.metric_publish.specs.History.{IsRun, last_number, last_of}
use Rattle.metric_publish.specs.Calls.{EnterGives}
use Rattle.road_io.specs.Exchanging.{Puts}
use Rattle.road_io.specs.Views.{ConnState}
use Rattle.route_server.specs.Replying.{Gives, PutsReply}
use Rattle.route_server.specs.Seats.{QuerySays, ReadsAtMostOne, SeatState, busy_body}
use Rattle.metric_publish.specs.declared.entry.Entry.{Entry}
use Rattle.route_server.proofs.NumberLaws.{last_number_le}
use Rattle.route_server.specs.SeatLaws.{last_number_is}

module _ {V : Type 0} where
  read_later : (before after : SeatState V) (e : AllocError) → EnterGives before.seen before.learned after.seen before.reads after.reads (Err e) → IsRun after.seen → last_number before.seen ≤ last_number after.seen
  read_later before after e (inl same) runs = omega (arith, ap (λ (xs : List (Entry V)). last_number xs) same.0)
  read_later before after e (inr one) runs = last_number_le before.seen after.seen one.0 runs

  pub reads_refused : (before after : SeatState V) (e : AllocError) → EnterGives before.seen before.learned after.seen before.reads after.reads (Err e) → after.learned ≡ before.learned → IsRun after.seen → ReadsAtMostOne before after
  reads_refused before after e enter learned runs = record { later = read_later before after e enter runs; read = enter; learned = learned }

  pub reads_held : (before after : SeatState V) (held : Entry V) → EnterGives before.seen before.learned after.seen before.reads after.reads (Ok held) → after.learned ≡ before.learned → IsRun after.seen → ReadsAtMostOne before after
  reads_held before after held enter learned runs = record {
    later = last_number_le before.seen after.seen enter.0 runs;
    read = inr (enter.0, enter.1, (held, enter.2, enter.3));
    learned = learned;
  }

  below_held : (list after : List (Entry V)) (held : Entry V) → last_number list ≤ last_number after → last_of after ≡ Some held → last_number list ≤ held.number
  below_held list after held below last = omega (arith, last_number_is after held last)

  -- the reply was made, or there was no memory for it
  pub gives_of : (Says : QuerySays V) (before after : SeatState V) (held : Entry V) (target : List ℕ) (close : Bool) (status : ℕ) (body text : List ℕ) (result : Result (Vec ℕ Global) AllocError) → EnterGives before.seen before.learned after.seen before.reads after.reads (Ok held) → after.learned ≡ before.learned → IsRun after.seen → Says held target status body → text ≡ body → IfOk result (λ reply. reply.items ≡ reply_text status text close) → Gives Says before after target close result
  gives_of Says before after held target close status body text (Ok reply) enter learned runs says same is = record {
    entry = held;
    later = enter.0;
    told = enter.1;
    last = enter.2;
    no_older = below_held before.seen after.seen held (last_number_le before.seen after.seen enter.0 runs) enter.2;
    no_less = below_held before.learned after.seen held (last_number_le before.learned after.seen enter.1 runs) enter.2;
    read = enter.3;
    learned = learned;
    status = status;
    body = body;
    says = says;
    text = subst (λ (bytes : List ℕ). reply.items ≡ reply_text status bytes close) same is;
  }
  gives_of Says before after held target close status body text (Err e) enter learned runs says same is = reads_held before after held enter learned runs

  pub puts_given : {T : Type 0} (Says : QuerySays V) (before after : SeatState V) (target : List ℕ) (close : Bool) (first now : ConnState) (reply : Vec ℕ Global) (bytes : List ℕ) (result : Result T Failed) → Gives Says before after target close (Ok reply) → bytes ≡ reply.items → Puts first now bytes result → PutsReply Says before after target close first now result
  puts_given Says before after target close first now reply bytes result gives same puts =
      (reply.items, inl gives, subst (λ (xs : List ℕ). Puts first now xs result) same puts)

  pub puts_busy : {T : Type 0} (Says : QuerySays V) (before after : SeatState V) (target : List ℕ) (close : Bool) (first now : ConnState) (e : AllocError) (bytes : List ℕ) (result : Result T Failed) → Gives Says before after target close (Err e) → bytes ≡ reply_text 503 busy_body close → Puts first now bytes result → PutsReply Says before after target close first now result
  puts_busy Says before after target close first now e bytes result gives same puts =
      (bytes, inr (record { reads = gives; text = same }), puts)

  -- there was no memory, at the exit of a `?`
  pub gives_err : (Q : AllocError → Type 0) (Says : QuerySays V) (before after : SeatState V) (target : List ℕ) (close : Bool) (result : Result (Vec ℕ Global) AllocError) → IsErrAnd result Q → ReadsAtMostOne before after → Gives Says before after target close result
  gives_err Q Says before after target close (Ok reply) failed reads = absurd failed
  gives_err Q Says before after target close (Err e) failed reads = reads
