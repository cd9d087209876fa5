-- What a traffic file reads as: its rows, or its first faulty row. The rows are the records of CSV as `csv` defines
-- them, with no header row, one after the other.
use Rattle.std.specs.Prelude.{◌≡◌, ◌+◌, ⊤, ℕ, List, [], ◌∷◌, ◌++◌, length, map, Result, Ok, Err}
use Rattle.csv.specs.Reading.{AreRecords, Reached, default_config, strip_bom}
use Rattle.csv.specs.declared.parser.State.{State}
use Rattle.csv.specs.declared.parser.State.TheVariants as st
use Rattle.traffic_files.specs.Rows.{speed_row_of, turn_row_of}
use Rattle.traffic_files.specs.declared.rows.SpeedRow.{SpeedRow}
use Rattle.traffic_files.specs.declared.rows.TurnRow.{TurnRow}
use Rattle.traffic_files.specs.declared.rows.RowKind.{RowKind}
use Rattle.traffic_files.specs.declared.rows.RowFault.{RowFault}
use Rattle.traffic_files.specs.declared.rows.TrafficFile.{TrafficFile}
use Rattle.traffic_files.specs.declared.rows.TrafficFile.TheVariants.{Speeds, Turns}
use Rattle.traffic_files.specs.declared.rows.TrafficFault.{TrafficFault}
use Rattle.traffic_files.specs.declared.rows.TrafficFault.TheVariants.{Row, Memory}

-- the records of a text
abbrev pub Record : Type 0
Record = List (List ℕ)

-- each record stands for a row: these are they
abbrev pub StandFor : {A : Type 0} → (Record → Result A RowKind) → List Record → List A → Type 0
StandFor row_of records rows = map row_of records ≡ map (λ row. Ok row) rows

-- a text begins with these records
abbrev pub BeginsWith : List ℕ → List Record → Type 0
BeginsWith bytes records = (s : State) × (rest : List ℕ) × Reached default_config st.StartRecord (strip_bom bytes) records s rest

-- this record is faulty, and stands behind so many good ones
pub record IsFirstFault {A : Type 0} (file : TrafficFile) (row_of : Record → Result A RowKind) (bytes : List ℕ) (fault : RowFault) (good : List Record) (rows : List A) (bad : Record) : Type 0 where
  pub begins : BeginsWith bytes (good ++ bad ∷ [])
  pub good_rows : StandFor row_of good rows
  pub bad_row : row_of bad ≡ Err fault.kind
  pub number : fault.row ≡ length good + 1
  pub of_file : fault.file ≡ file

-- all records stand for rows, or the first one that does not is told by its number from 1
abbrev pub ReadsAs : {A : Type 0} → TrafficFile → (Record → Result A RowKind) → List ℕ → Result (List A) RowFault → Type 0
ReadsAs {A} file row_of bytes (Ok rows) =
    (records : List Record) × AreRecords default_config st.StartRecord (strip_bom bytes) records × StandFor row_of records rows
ReadsAs {A} file row_of bytes (Err fault) =
    (good : List Record) × (rows : List A) × (bad : Record) × IsFirstFault file row_of bytes fault good rows bad

-- what a speeds file reads as
abbrev pub SpeedsRead : List ℕ → Result (List SpeedRow) RowFault → Type 0
SpeedsRead bytes read = ReadsAs Speeds speed_row_of bytes read

-- what a turns file reads as
abbrev pub TurnsRead : List ℕ → Result (List TurnRow) RowFault → Type 0
TurnsRead bytes read = ReadsAs Turns turn_row_of bytes read

-- a fault that is told is the file's; want of memory may come at any time
abbrev pub IsFaultOf : {A : Type 0} → (Result (List A) RowFault → Type 0) → TrafficFault → Type 0
IsFaultOf Read (Row fault) = Read (Err fault)
IsFaultOf Read Memory = ⊤
