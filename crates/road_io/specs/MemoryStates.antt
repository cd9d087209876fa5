-- What contracts see of the forms in memory.
use Rattle.std.specs.Prelude.{◌≡◌, ℕ, ◌+◌, ◌-◌, ◌^◌, ◌<◌, ◌⊎◌, min, List, [], length, Contains, Some, IsNone, false}
use Rattle.road_io.specs.FileNamed.{file_of}
use Rattle.road_io.specs.Views.{ConnState}
use Rattle.road_io.specs.Doorway.{DoorView}

-- bytes that are given in pieces: all of them, and those that are left
pub record ReaderState : Type 0 where
  pub all : List ℕ
  pub left : List ℕ

-- a source: its bytes, the numbers of the calls that fail, the calls so far, the faults, the bytes taken
pub record SourceState : Type 0 where
  pub all : List ℕ
  pub left : List ℕ
  pub failing : List ℕ
  pub calls : ℕ
  pub faults : ℕ
  pub taken : ℕ

-- a source that has not been called
abbrev pub new_source : List ℕ → List ℕ → SourceState
new_source bytes failing = record { all = bytes; left = bytes; failing = failing; calls = 0; faults = 0; taken = 0 }

-- a sink: the bytes put, the room for more, the numbers of the calls that fail, the calls so far, the
-- faults
pub record SinkState : Type 0 where
  pub written : List ℕ
  pub room : ℕ
  pub failing : List ℕ
  pub calls : ℕ
  pub faults : ℕ

-- a sink that has not been called
abbrev pub new_sink : ℕ → List ℕ → SinkState
new_sink room failing = record { written = []; room = room; failing = failing; calls = 0; faults = 0 }

-- a connection: both of its halves
pub record MemConnState : Type 0 where
  pub source : SourceState
  pub sink : SinkState

-- what it tells; it was given with all of its source's bytes, no output and no fault
abbrev pub conn_state : MemConnState → ConnState
conn_state conn = record {
  source = record { left = Some conn.source.left; taken = conn.source.taken; faults = conn.source.faults };
  sink = record { written = Some conn.sink.written; faults = conn.sink.faults };
  opening = record { input = Some conn.source.all; output = Some []; source_faults = 0; sink_faults = 0 };
}

-- files: each name with its bytes, the numbers of the reads that fail, the count of the reads so far,
-- their names, the names of the failed ones, the faults
pub record FilesState : Type 0 where
  pub files : List (List ℕ × List ℕ)
  pub failing : List ℕ
  pub calls : ℕ
  pub reads : List (List ℕ)
  pub failed_names : List (List ℕ)
  pub faults : ℕ

-- files that have not been read
abbrev pub new_files : List (List ℕ × List ℕ) → List ℕ → FilesState
new_files files failing = record { files = files; failing = failing; calls = 0; reads = []; failed_names = []; faults = 0 }

-- a source without failures: the bytes that are left, and how many were taken
pub record SteadySourceState : Type 0 where
  pub left : List ℕ
  pub taken : ℕ

-- the number of the next call; calls count from 1, and the count stands still at 18446744073709551615
abbrev pub next_call : ℕ → ℕ
next_call calls = min (calls + 1) (2 ^ 64 - 1)

-- a put fails where its number is named, or where there are bytes and no room for any
abbrev pub PutFails : SinkState → List ℕ → Type 0
PutFails sink bytes = Contains sink.failing (next_call sink.calls) ⊎ ((sink.room ≡ 0) × (0 < length bytes))

-- a read fails where its number is named, or where no file has the name
abbrev pub ReadFails : FilesState → List ℕ → Type 0
ReadFails files name = Contains files.failing (next_call files.calls) ⊎ IsNone (file_of files.files name)

-- a connection that was not used
pub record IsUnused (conn : MemConnState) : Type 0 where
  pub input : conn.source.left ≡ conn.source.all
  pub source : conn.source.faults ≡ 0
  pub output : conn.sink.written ≡ []
  pub sink : conn.sink.faults ≡ 0

-- a door through which so many connections are to come
abbrev pub new_door : ℕ → DoorView
new_door waiting = record { transcripts = Some []; waiting = Some waiting; given = 0; finished = 0; closed = false; ended = false; faults = 0 }
