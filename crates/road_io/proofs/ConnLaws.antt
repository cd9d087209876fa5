-- What one call leaves of a connection, from what it is as a source and as a sink.
use Rattle.std.proofs.Common.{◌≡◌, ℕ, ◌≤◌, List, length, take, length-take, Result, Ok, Err, OnOk, OnErr, IfOk, sym, ap, ◌∙◌, arith}
use Rattle.std.specs.Io.KnownBytes.{Appends, ReadConsumes}
use Rattle.road_io.specs.Exchanging.{KeepsSink, KeepsSource, Puts, TakesInto}
use Rattle.road_io.specs.Faults.{HasCause}
use Rattle.road_io.specs.Sides.{SinkSide, SourceSide, sink_side, source_side}
use Rattle.road_io.specs.Told.{AppendsFront, CountsTaken}
use Rattle.road_io.specs.Views.{ConnState, InputView, OutputView}
use Rattle.road_io.specs.declared.failures.Failed.{Failed}

-- a take keeps the connection as a sink
pub keeps_sink_of : (before after : ConnState) (old new : SinkSide) → old ≡ sink_side before → new ≡ sink_side after → new ≡ old → KeepsSink before after
keeps_sink_of before after old new is_old is_new same =
    let e : sink_side after ≡ sink_side before = sym is_new ∙ same ∙ is_old in
    record { sink = ap (λ (s : SinkSide). s.sink) e; opening = ap (λ (s : SinkSide). s.opening) e }

-- a put keeps it as a source
pub keeps_source_of : (before after : ConnState) (old new : SourceSide) → old ≡ source_side before → new ≡ source_side after → new ≡ old → KeepsSource before after
keeps_source_of before after old new is_old is_new same =
    let e : source_side after ≡ source_side before = sym is_new ∙ same ∙ is_old in
    record { source = ap (λ (s : SourceSide). s.source) e; opening = ap (λ (s : SourceSide). s.opening) e }

-- what `put_all` ensures, of a connection
pub puts_of : {T : Type 0} (before after : ConnState) (old new : OutputView) (bytes : List ℕ) (result : Result T Failed) → before.sink ≡ old → after.sink ≡ new → KeepsSource before after → OnOk result (Appends old.written new.written bytes) → OnErr result (AppendsFront old.written new.written bytes) → HasCause old.faults new.faults result → Puts before after bytes result
puts_of before after old new bytes (Ok u) is_old is_new kept all part cause = record {
  source = kept;
  steady = ap (λ (v : OutputView). v.faults) is_new ∙ cause.kept ∙ sym (ap (λ (v : OutputView). v.faults) is_old);
  put = rw (is_old, is_new) all;
}
puts_of before after old new bytes (Err failed) is_old is_new kept all part cause = record {
  source = kept;
  rose = rw (is_old, is_new) cause.failed;
  put = rw (is_old, is_new) part;
}

-- what `take` ensures, of a connection
pub takes_of : (before after : ConnState) (old new : InputView) (into : List ℕ) (r : Result ℕ Failed) → before.source ≡ old → after.source ≡ new → KeepsSink before after → IfOk r (λ n. n ≤ length into) → ReadConsumes old.left new.left r into → CountsTaken old.taken new.taken r → HasCause old.faults new.faults r → TakesInto before after into r
takes_of before after old new into (Ok count) is_old is_new kept bound bytes counted cause =
    let size : length (take count into) ≡ count = omega (arith, length-take count into, bound) in
    record {
      bound = bound;
      took = record { given = rw (is_old, is_new) bytes.0; counted = rw (is_old, is_new, size) counted };
      at_end = rw is_new bytes.1;
      steady = rw (is_old, is_new) cause.kept;
      sink = kept;
    }
takes_of before after old new into (Err failed) is_old is_new kept bound bytes counted cause = record {
  left = rw (is_old, is_new) bytes;
  taken = rw (is_old, is_new) counted;
  rose = rw (is_old, is_new) cause.failed;
  sink = kept;
}
