-- What a fault of two traffic files says; and, for private functions, what comes of a metric that is published.
use Rattle.std.specs.Prelude.{◌≡◌, ℕ, List, ⊤}
use Rattle.customized.specs.Framing.{RoadsView}
use Rattle.metric_make.specs.MetricOf.{MetricView}
use Rattle.metric_publish.specs.History.{last_number}
use Rattle.traffic_files.specs.declared.rows.TrafficFault.{TrafficFault}
use Rattle.traffic_files.specs.declared.rows.TrafficFault.TheVariants.{Row, Memory}
use Rattle.control_port.specs.Controlling.{Board, IsFirstFault, Publishes, on_board}
use Rattle.control_port.specs.declared.controlled.Controlled.{Controlled}
use Rattle.control_port.specs.declared.controlled.Controlled.TheVariants as controlled

-- a faulty row that is told is the first one; want of memory may come at any time
abbrev pub IsFaultIn : List ℕ → List ℕ → TrafficFault → Type 0
IsFaultIn speeds_file turns_file (Row fault) = IsFirstFault speeds_file turns_file fault
IsFaultIn speeds_file turns_file Memory = ⊤

-- what comes of a metric of these costs
abbrev pub BaseGives : RoadsView → Board → MetricView → Controlled → Board → Type 0
BaseGives roads before base (controlled.Published number unmatched) after = Publishes (on_board roads before) base number unmatched after
BaseGives roads before base (controlled.Spent number) after = (last_number before ≡ 4294967295) × (number ≡ 4294967295) × (after ≡ before)
BaseGives roads before base answer after = ⊥
