-- What each object of the outside tells at one moment. Where it does not tell bytes or names, they are
-- None: then nothing is said of them.
use Rattle.std.specs.Prelude.{◌≡◌, ℕ, List, Option}
use Rattle.std.specs.Io.KnownBytes.{IsAtEnd}
use Rattle.road_io.specs.FileContent.{FileTold}

-- a source: the bytes that are left to take, how many were taken, and its count of faults; both counts
-- stand still at 18446744073709551615
pub record InputView : Type 0 where
  pub left : Option (List ℕ)
  pub taken : ℕ
  pub faults : ℕ

-- a sink: the bytes that were put, and its count of faults, which stands still at 18446744073709551615
pub record OutputView : Type 0 where
  pub written : Option (List ℕ)
  pub faults : ℕ

-- files: what is told of the file of a name, the names of all reads and of those that failed, in order,
-- and the count of faults, which stands still at 18446744073709551615
pub record FilesView : Type 0 where
  pub content : List ℕ → FileTold
  pub reads : Option (List (List ℕ))
  pub failed_names : Option (List (List ℕ))
  pub faults : ℕ

-- a connection as it was given: its whole input, its output, which is none yet, and both counts of faults
pub record Opening : Type 0 where
  pub input : Option (List ℕ)
  pub output : Option (List ℕ)
  pub source_faults : ℕ
  pub sink_faults : ℕ

-- a connection: itself as a source and as a sink, and what stood when it was given
pub record ConnState : Type 0 where
  pub source : InputView
  pub sink : OutputView
  pub opening : Opening

-- what stands of a connection when it is finished
abbrev pub Transcript : Type 0
Transcript = ConnState

-- a connection that was just given: all its input is left, nothing was put, and both counts are those
-- of its opening
pub record IsFreshConn (conn : ConnState) : Type 0 where
  pub input : conn.source.left ≡ conn.opening.input
  pub output : conn.sink.written ≡ conn.opening.output
  pub none_put : IsAtEnd conn.opening.output
  pub source : conn.source.faults ≡ conn.opening.source_faults
  pub sink : conn.sink.faults ≡ conn.opening.sink_faults
