-- What the calls of a connection leave of it.
use Rattle.std.specs.Prelude.{◌≡◌, ℕ, ◌<◌, ◌≤◌, List, length, take, Result, Ok, Err}
use Rattle.std.specs.Io.KnownBytes.{Appends, Keeps, IsAtEnd}
use Rattle.road_io.specs.Faults.{InputRose, OutputRose}
use Rattle.road_io.specs.Taking.{Took}
use Rattle.road_io.specs.Told.{AppendsFront}
use Rattle.road_io.specs.Views.{ConnState}
use Rattle.road_io.specs.declared.failures.Failed.{Failed}

-- all that it is as a sink, and its opening, are as before
pub record KeepsSink (before after : ConnState) : Type 0 where
  pub sink : after.sink ≡ before.sink
  pub opening : after.opening ≡ before.opening

-- all that it is as a source, and its opening, are as before
pub record KeepsSource (before after : ConnState) : Type 0 where
  pub source : after.source ≡ before.source
  pub opening : after.opening ≡ before.opening

-- nothing failed, and the output grew by this
pub record Told (before after : ConnState) (text : List ℕ) : Type 0 where
  pub put : Appends before.sink.written after.sink.written text
  pub source : after.source.faults ≡ before.source.faults
  pub sink : after.sink.faults ≡ before.sink.faults

-- all of this was put
pub record PutAll (before after : ConnState) (text : List ℕ) : Type 0 where
  pub source : KeepsSource before after
  pub steady : after.sink.faults ≡ before.sink.faults
  pub put : Appends before.sink.written after.sink.written text

-- the output failed in this, of which a proper front was put
pub record PutPart (before after : ConnState) (text : List ℕ) : Type 0 where
  pub source : KeepsSource before after
  pub rose : OutputRose before.sink after.sink
  pub put : AppendsFront before.sink.written after.sink.written text

abbrev pub Puts : {T : Type 0} → ConnState → ConnState → List ℕ → Result T Failed → Type 0
Puts before after text (Ok u) = PutAll before after text
Puts before after text (Err failed) = PutPart before after text

-- the input gave so many bytes, which stand in front; none into a slice with room is its end
pub record TookSome (before after : ConnState) (into : List ℕ) (count : ℕ) : Type 0 where
  pub bound : count ≤ length into
  pub took : Took before.source after.source (take count into)
  pub at_end : count ≡ 0 → 0 < length into → IsAtEnd after.source.left
  pub steady : after.source.faults ≡ before.source.faults
  pub sink : KeepsSink before after

-- the input failed, and gave nothing
pub record TookNone (before after : ConnState) : Type 0 where
  pub left : Keeps before.source.left after.source.left
  pub taken : after.source.taken ≡ before.source.taken
  pub rose : InputRose before.source after.source
  pub sink : KeepsSink before after

abbrev pub TakesInto : ConnState → ConnState → List ℕ → Result ℕ Failed → Type 0
TakesInto before after into (Ok count) = TookSome before after into count
TakesInto before after into (Err failed) = TookNone before after
