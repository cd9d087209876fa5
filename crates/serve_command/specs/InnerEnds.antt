-- Serves this crate's own functions alone, and is no part of what `serve` promises: how the steps of a run end, each by
-- what it knows itself.
use Rattle.std.specs.Prelude.{◌≡◌, ◌⊎◌, ◌<◌, ◌↔◌, ℕ, Bool, true, false, IsTrue, List, ◌++◌, All, length, ⊤}
use Rattle.std.specs.Io.KnownBytes.{Appends}
use Rattle.control_port.specs.Controlling.{Board, IsBaseOf, IsFirstFault}
use Rattle.customized.specs.Exact.{Customized, customized_on}
use Rattle.customized.specs.Framing.{RoadsView}
use Rattle.map_loading.specs.declared.loading.LoadFault.{LoadFault}
use Rattle.map_loading.specs.declared.loading.LoadFault.TheVariants.{Refused, Memory}
use Rattle.program_ends.specs.StoppedEarly.{memory_line}
use Rattle.road_base.specs.declared.program_status.Status.{Status}
use Rattle.road_base.specs.declared.program_status.Status.TheVariants as status
use Rattle.road_io.specs.DoorOpening.{Asked, BackGives, DoorsView, DoorViews, IsNewDoor, faults_of}
use Rattle.road_io.specs.Faults.{OutputRose}
use Rattle.road_io.specs.Putting.{Closes}
use Rattle.road_io.specs.Told.{AppendsFront}
use Rattle.road_io.specs.Views.{OutputView}
use Rattle.route_doors.specs.RoadDoors.{IsServed, IsServedApart}
use Rattle.serve_command.specs.ServeEnding.{EndsFaulty, IsReady, ServedShort, ServedWhole, last_lines_of, ready_line}
use Rattle.serve_command.specs.Start.{IsOpening, IsStartRefused, StartBytes, row_line}
use Rattle.metric_make.specs.MetricOf.{MetricView}
use Rattle.traffic_files.specs.declared.rows.RowFault.{RowFault}

-- the metric of the rows of two files on these roads
pub record IsFirstMetric (roads : RoadsView) (speeds turns : List ℕ) (metric : Customized) : Type 0 where
  pub base : MetricView
  pub made : IsBaseOf roads.network speeds turns base
  pub metric_is : metric ≡ customized_on roads base

-- why there are no costs by the rows of two files: the first faulty one is refused on this line, or there was no memory
abbrev pub IsRowFault : List ℕ → List ℕ → LoadFault → Type 0
IsRowFault speeds turns (Refused line) = (fault : RowFault) × IsFirstFault speeds turns fault × (line ≡ row_line fault)
IsRowFault speeds turns Memory = ⊤

-- why there is no start: it is refused on this line, or there was no memory
abbrev pub IsStartFault : StartBytes → LoadFault → Type 0
IsStartFault bytes (Refused line) = IsStartRefused bytes line
IsStartFault bytes Memory = ⊤

-- the end of putting the last lines, where serving was short of memory or not, and a door's count rose or not
abbrev pub EndsLines : Bool → Bool → List ℕ → Status → OutputView → OutputView → Type 0
EndsLines short rose lines status.Ok before after =
    (short ≡ false) × (rose ≡ false) × (after.faults ≡ before.faults) × Appends before.written after.written lines
EndsLines short rose lines status.Outside before after =
    (short ≡ false)
    × ((OutputRose before after × AppendsFront before.written after.written lines)
    ⊎ ((rose ≡ true) × (after.faults ≡ before.faults) × Appends before.written after.written lines))
EndsLines short rose lines status.Words before after = ⊥
EndsLines short rose lines status.Refused before after = ⊥
EndsLines short rose lines status.Memory before after = (short ≡ true) × Closes before after (lines ++ memory_line)

-- doors came back with what these tell, all of which was served; what was found of them decides the end
pub record CameBack (roads : RoadsView) (first last : Board) (given : DoorViews) (short rose : Bool) : Type 0 where
  pub whole : short ≡ false → IsServed roads first last given
  pub apart : IsServedApart roads first first last given
  pub faults : IsTrue rose ↔ (0 < faults_of given)

-- the end of serving doors that were out, so many for queries
pub data EndsOpened (code : Status) (workers : ℕ) (roads : RoadsView) (first : Board) (before after : OutputView) (old new : DoorsView) : Type 0 where
  unready : (given : DoorViews) → length given.queries ≡ workers → All IsNewDoor given.queries → IsNewDoor given.control → BackGives old given new
      → code ≡ status.Outside → OutputRose before after → AppendsFront before.written after.written ready_line → EndsOpened code workers roads first before after old new
  served : (given : DoorViews) (last : Board) (short rose : Bool) (ready : OutputView) → length given.queries ≡ workers → BackGives old given new
      → IsReady before ready → CameBack roads first last given short rose → EndsLines short rose (last_lines_of given last) code ready after
      → EndsOpened code workers roads first before after old new

-- the end of a run from its first list on
abbrev pub EndsStarted : Status → Asked → RoadsView → Board → OutputView → OutputView → DoorsView → DoorsView → Type 0
EndsStarted status.Ok words roads first before after doors now = ServedWhole words roads first before after doors now
EndsStarted status.Outside words roads first before after doors now = EndsFaulty words before after doors now roads first
EndsStarted status.Words words roads first before after doors now = ⊥
EndsStarted status.Refused words roads first before after doors now = ⊥
EndsStarted status.Memory words roads first before after doors now =
    ((now ≡ doors) × Closes before after memory_line) ⊎ ServedShort words roads first before after doors now

-- the end of a run over the bytes of its files
pub data EndsOver (code : Status) (words : Asked) (bytes : StartBytes) (before after : OutputView) (doors now : DoorsView) : Type 0 where
  begun : (roads : RoadsView) (first : Board) → IsOpening bytes roads first → EndsStarted code words roads first before after doors now → EndsOver code words bytes before after doors now
  refused : (line : List ℕ) → IsStartRefused bytes line → code ≡ status.Refused → now ≡ doors → Closes before after line → EndsOver code words bytes before after doors now
  exhausted : code ≡ status.Memory → now ≡ doors → Closes before after memory_line → EndsOver code words bytes before after doors now
