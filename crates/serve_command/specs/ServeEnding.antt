-- How a run to serve ends (this project's rule), by its status.
use Rattle.std.specs.Prelude.{◌≡◌, ◌⊎◌, ◌<◌, ◌≤◌, ◌+◌, ◌-◌, ◌^◌, min, ℕ, List, [], ◌∷◌, ◌++◌, All, length, codes, option_map, sum_by}
use Rattle.std.specs.Fmt.{decimal}
use Rattle.std.specs.Io.KnownBytes.{Appends}
use Rattle.command_words.specs.Commands.{Serving}
use Rattle.control_port.specs.Controlling.{Board}
use Rattle.customized.specs.Framing.{RoadsView}
use Rattle.metric_publish.specs.History.{last_number}
use Rattle.program_ends.specs.FileReads.{IsBare}
use Rattle.program_ends.specs.StoppedEarly.{IsExhausted, IsUnread, Refuses, memory_line}
use Rattle.road_base.specs.declared.program_status.Status.{Status}
use Rattle.road_base.specs.declared.program_status.Status.TheVariants as status
use Rattle.road_io.specs.DoorOpening.{Asked, DoorsView, DoorViews, IsNewDoor, asked, faults_of}
use Rattle.road_io.specs.Faults.{OutputRose, Rose}
use Rattle.road_io.specs.Outside.{Outside}
use Rattle.road_io.specs.Putting.{Closes}
use Rattle.road_io.specs.Told.{AppendsFront}
use Rattle.road_io.specs.Views.{OutputView}
use Rattle.route_doors.specs.RoadDoors.{IsServed, IsServedApart}
use Rattle.serve_command.specs.Start.{IsOpening, IsStartRead, IsStartRefused, StartBytes, files_of, names_in}

-- the line once the doors are open, and those at the end
abbrev pub ready_line : List ℕ
ready_line = codes "ready\n"

abbrev pub last_lines : ℕ → ℕ → List ℕ
last_lines connections metric =
    (codes "connections " ++ (decimal connections ++ codes "\n")) ++ (codes "metric " ++ (decimal metric ++ codes "\n"))

-- how many connections of all doors were finished, in a count that stands still at 18446744073709551615
abbrev pub connections_of : DoorViews → ℕ
connections_of doors = min (sum_by (λ door. door.finished) doors.queries + doors.control.finished) (2 ^ 64 - 1)

-- the last lines, where the doors came back with what these tell, and this is the list of publications
abbrev pub last_lines_of : DoorViews → Board → List ℕ
last_lines_of doors last = last_lines (connections_of doors) (last_number last)

-- from the first to the second the line `ready` was put whole, and the output counted no fault
pub record IsReady (before ready : OutputView) : Type 0 where
  pub put : Appends before.written ready.written ready_line
  pub steady : ready.faults ≡ before.faults

-- what the doors were opened for: the addresses and the number of the words
abbrev pub asked_in : Serving → Asked
asked_in words = asked words.listen words.control words.workers

-- the doors were opened once, for this; all that were given came back, and so tell what these tell. The count of faults
-- rose exactly where one of theirs did
pub record WentRound (words : Asked) (given : DoorViews) (before after : DoorsView) : Type 0 where
  pub count : length given.queries ≡ words.workers
  pub opened : after.opened ≡ option_map (λ all. all ++ words ∷ []) before.opened
  pub failed : after.failed ≡ before.failed
  pub back : after.back ≡ option_map (λ all. all ++ given ∷ []) before.back
  pub out : after.out ≡ before.out
  pub later : before.faults ≤ after.faults
  pub rose : 0 < faults_of given → Rose before.faults after.faults
  pub kept : faults_of given ≡ 0 → after.faults ≡ before.faults

-- `ready` stood, and all connections were served under one list of publications, which begins with the first and which
-- the control connections lead to; then the last lines were put, and no count rose
pub record ServedWhole (words : Asked) (roads : RoadsView) (first : Board) (before after : OutputView) (doors now : DoorsView) : Type 0 where
  pub given : DoorViews
  pub last : Board
  pub ready : OutputView
  pub is_ready : IsReady before ready
  pub round : WentRound words given doors now
  pub served : IsServed roads first last given
  pub doors_steady : now.faults ≡ doors.faults
  pub output_steady : after.faults ≡ ready.faults
  pub put : Appends ready.written after.written (last_lines_of given last)

-- the doors were not opened, since their count rose; nothing was printed
pub record Unopened (words : Asked) (before after : OutputView) (doors now : DoorsView) : Type 0 where
  pub output : after ≡ before
  pub told : now ≡ record doors { failed = option_map (λ all. all ++ words ∷ []) doors.failed; faults = now.faults }
  pub rose : Rose doors.faults now.faults

-- the output failed before `ready` stood whole, and the doors came back as they were opened
pub record Unready (words : Asked) (before after : OutputView) (doors now : DoorsView) : Type 0 where
  pub given : DoorViews
  pub queries : All IsNewDoor given.queries
  pub control : IsNewDoor given.control
  pub round : WentRound words given doors now
  pub rose : OutputRose before after
  pub put : AppendsFront before.written after.written ready_line

-- `ready` stood, and all connections were served under one list; then the output failed before the last lines stood whole,
-- or they were put and a door's count of faults rose
pub record ServedFaulty (words : Asked) (roads : RoadsView) (first : Board) (before after : OutputView) (doors now : DoorsView) : Type 0 where
  pub given : DoorViews
  pub last : Board
  pub ready : OutputView
  pub is_ready : IsReady before ready
  pub round : WentRound words given doors now
  pub served : IsServed roads first last given
  pub cause : (OutputRose ready after × AppendsFront ready.written after.written (last_lines_of given last))
      ⊎ (Rose doors.faults now.faults × (after.faults ≡ ready.faults) × Appends ready.written after.written (last_lines_of given last))

-- `ready` stood, and the connections of each query door were served under some list that begins with the first: at the
-- end there was no memory to see that all was published under one list, which a line behind the last ones tells
pub record ServedShort (words : Asked) (roads : RoadsView) (first : Board) (before after : OutputView) (doors now : DoorsView) : Type 0 where
  pub given : DoorViews
  pub last : Board
  pub ready : OutputView
  pub is_ready : IsReady before ready
  pub round : WentRound words given doors now
  pub served : IsServedApart roads first first last given
  pub put : Closes ready after (last_lines_of given last ++ memory_line)

-- the files were read and make this first list, and so the run ended from then on; it took nothing of the input
pub record Started (words : Serving) (before after : Outside) (Ended : RoadsView → Board → Type 0) : Type 0 where
  pub bytes : StartBytes
  pub files : IsStartRead before.files after.files words bytes
  pub input : after.input ≡ before.input
  pub roads : RoadsView
  pub first : Board
  pub opening : IsOpening bytes roads first
  pub ended : Ended roads first

-- the files were read, and what they hold is refused on a line
pub record StartRefused (words : Serving) (before after : Outside) : Type 0 where
  pub bytes : StartBytes
  pub line : List ℕ
  pub no_speeds : IsBare words.speeds bytes.speeds
  pub no_turns : IsBare words.turns bytes.turns
  pub refuses : Refuses before after (files_of words bytes) line
  pub refused : IsStartRefused bytes line

-- how a run ends from its first list on that did not come to serve without a fault, where not for want of memory
abbrev pub EndsFaulty : Asked → OutputView → OutputView → DoorsView → DoorsView → RoadsView → Board → Type 0
EndsFaulty words before after doors now roads first =
    Unopened words before after doors now ⊎ (Unready words before after doors now ⊎ ServedFaulty words roads first before after doors now)

-- the end of a run over these doors, which tell this before it and that after it
abbrev pub EndsServe : Status → Serving → Outside → Outside → DoorsView → DoorsView → Type 0
EndsServe status.Ok words before after doors now =
    Started words before after (λ roads first. ServedWhole (asked_in words) roads first before.output after.output doors now)
EndsServe status.Outside words before after doors now =
    (IsUnread before after (names_in words) × (now ≡ doors))
    ⊎ Started words before after (λ roads first. EndsFaulty (asked_in words) before.output after.output doors now roads first)
EndsServe status.Words words before after doors now = ⊥
EndsServe status.Refused words before after doors now = StartRefused words before after × (now ≡ doors)
EndsServe status.Memory words before after doors now =
    (IsExhausted before after (names_in words) × (now ≡ doors))
    ⊎ Started words before after (λ roads first. ServedShort (asked_in words) roads first before.output after.output doors now)
