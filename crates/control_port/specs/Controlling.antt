-- What comes of two traffic files and of a control request, and what is published then (this project's rule).
use Rattle.std.specs.Prelude.{◌≡◌, ◌⊎◌, ℕ, ◌+◌, ◌<◌, List, [], ◌∷◌, ◌++◌, take, drop, Ok, Err}
use Rattle.edge_graph.specs.NetworkView.{NetworkView}
use Rattle.metric_make.specs.MetricOf.{MetricView, metric_of}
use Rattle.metric_publish.specs.History.{entry, last_number}
use Rattle.metric_publish.specs.declared.entry.Entry.{Entry}
use Rattle.customized.specs.Exact.{Customized, customized_on}
use Rattle.customized.specs.Framing.{RoadsView}
use Rattle.traffic_files.specs.Files.{SpeedsRead, TurnsRead}
use Rattle.traffic_files.specs.declared.rows.RowFault.{RowFault}
use Rattle.traffic_files.specs.declared.rows.SpeedRow.{SpeedRow}
use Rattle.traffic_files.specs.declared.rows.TurnRow.{TurnRow}
use Rattle.control_port.specs.declared.asking.ControlHead.{ControlHead}
use Rattle.control_port.specs.declared.asking.ControlHead.TheVariants as asked
use Rattle.control_port.specs.declared.controlled.Controlled.{Controlled}
use Rattle.control_port.specs.declared.controlled.Controlled.TheVariants as controlled

-- the rows of a speeds file and of a turns file, both faultless
pub record RowsRead (speeds_file turns_file : List ℕ) : Type 0 where
  pub speeds : List SpeedRow
  pub turns : List TurnRow
  pub speeds_read : SpeedsRead speeds_file (Ok speeds)
  pub turns_read : TurnsRead turns_file (Ok turns)

-- rows of both
pub record BothRows : Type 0 where
  pub speeds : List SpeedRow
  pub turns : List TurnRow

-- these are the rows of the two files
pub record AreRowsOf (speeds_file turns_file : List ℕ) (rows : BothRows) : Type 0 where
  pub speeds_read : SpeedsRead speeds_file (Ok rows.speeds)
  pub turns_read : TurnsRead turns_file (Ok rows.turns)

-- the turns file has a faulty row, the speeds file none
pub record TurnsFaulty (speeds_file turns_file : List ℕ) (fault : RowFault) : Type 0 where
  pub speeds : List SpeedRow
  pub speeds_read : SpeedsRead speeds_file (Ok speeds)
  pub turns_read : TurnsRead turns_file (Err fault)

-- the first faulty row of both: one of the speeds file comes before any of the turns file
abbrev pub IsFirstFault : List ℕ → List ℕ → RowFault → Type 0
IsFirstFault speeds_file turns_file fault = SpeedsRead speeds_file (Err fault) ⊎ TurnsFaulty speeds_file turns_file fault

-- what vertices and turns cost by the profile and the rows of both files, whatever was published before
pub record IsBaseOf (network : NetworkView) (speeds_file turns_file : List ℕ) (base : MetricView) : Type 0 where
  pub rows : RowsRead speeds_file turns_file
  pub made : base ≡ metric_of network rows.speeds rows.turns

-- what is published of a network, told as a list of publications or as the last of them: how it stands, the last
-- number, and how it stands once the metric of some costs was published under a number
pub record Standing (S : Type 0) : Type 0 where
  pub network : NetworkView
  pub now : S
  pub last : ℕ
  pub with_metric : ℕ → MetricView → S

-- the metric of these costs was published under the next number
pub record Publishes {S : Type 0} (before : Standing S) (base : MetricView) (number unmatched : ℕ) (after : S) : Type 0 where
  pub below : before.last < 4294967295
  pub next : number ≡ before.last + 1
  pub missed : unmatched ≡ base.unmatched
  pub stands : after ≡ before.with_metric number base

-- the files are faultless, and the metric of their rows is published
pub record IsPublished {S : Type 0} (before : Standing S) (speeds_file turns_file : List ℕ) (number unmatched : ℕ) (after : S) : Type 0 where
  pub base : MetricView
  pub made : IsBaseOf before.network speeds_file turns_file base
  pub published : Publishes before base number unmatched after

-- the files are faultless, and no number is left
pub record IsSpent {S : Type 0} (before : Standing S) (speeds_file turns_file : List ℕ) (number : ℕ) : Type 0 where
  pub rows : RowsRead speeds_file turns_file
  pub last : before.last ≡ 4294967295
  pub number_is : number ≡ 4294967295

-- what comes of these two files: their metric is published, a row is refused, or no number is left
abbrev pub FilesGive : {S : Type 0} → Standing S → List ℕ → List ℕ → Controlled → S → Type 0
FilesGive before speeds_file turns_file (controlled.Published number unmatched) after = IsPublished before speeds_file turns_file number unmatched after
FilesGive before speeds_file turns_file (controlled.Refused fault) after = IsFirstFault speeds_file turns_file fault × (after ≡ before.now)
FilesGive before speeds_file turns_file (controlled.Spent number) after = IsSpent before speeds_file turns_file number × (after ≡ before.now)
FilesGive before speeds_file turns_file controlled.BadRequest after = ⊥
FilesGive before speeds_file turns_file controlled.Stopping after = ⊥

-- a list of publications
abbrev pub Board : Type 0
Board = List (Entry Customized)

-- the list for these roads, which is one longer by each metric that is published
abbrev pub on_board : RoadsView → Board → Standing Board
on_board roads before = record {
  network = roads.network;
  now = before;
  last = last_number before;
  with_metric = λ number base. before ++ entry number (customized_on roads base) ∷ [];
}

-- what comes of a request and its body, and which list stands after this one then
abbrev pub IsControlled : RoadsView → Board → ControlHead → List ℕ → Controlled → Board → Type 0
IsControlled roads before asked.Bad body answer after = (answer ≡ controlled.BadRequest) × (after ≡ before)
IsControlled roads before asked.Stop body answer after = (answer ≡ controlled.Stopping) × (after ≡ before)
IsControlled roads before (asked.Metric speeds length) body answer after = FilesGive (on_board roads before) (take speeds body) (drop speeds body) answer after

-- the metric is on these roads
abbrev pub IsOn : RoadsView → Customized → Type 0
IsOn roads metric = (metric.road.network ≡ roads.network) × (metric.frame ≡ roads.frame)
