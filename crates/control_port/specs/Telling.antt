-- What a control reply says: its status, and its body, which is a JSON text with no blanks (this project's rule).
use Rattle.std.specs.Prelude.{ℕ, List, ◌++◌, codes}
use Rattle.std.specs.Fmt.{decimal}
use Rattle.traffic_files.specs.declared.rows.RowFault.{RowFault}
use Rattle.traffic_files.specs.declared.rows.RowKind.{RowKind}
use Rattle.traffic_files.specs.declared.rows.RowKind.TheVariants as kind
use Rattle.traffic_files.specs.declared.rows.TrafficFile.{TrafficFile}
use Rattle.traffic_files.specs.declared.rows.TrafficFile.TheVariants as file
use Rattle.control_port.specs.declared.controlled.Controlled.{Controlled}
use Rattle.control_port.specs.declared.controlled.Controlled.TheVariants as controlled

abbrev pub file_text : TrafficFile → List ℕ
file_text file.Speeds = codes "speeds"
file_text file.Turns = codes "turns"

abbrev pub kind_text : RowKind → List ℕ
kind_text kind.BadCount = codes "BadCount"
kind_text kind.BadId = codes "BadId"
kind_text kind.BadNumber = codes "BadNumber"
kind_text kind.OutOfRange = codes "OutOfRange"

-- the number of the new publication, and how many rows matched nothing
abbrev pub published_text : ℕ → ℕ → List ℕ
published_text number unmatched =
    codes "{\"code\":\"Ok\",\"data_version\":\"" ++ decimal number ++ codes "\",\"unmatched\":" ++ decimal unmatched ++ codes "}"

-- the first faulty row; rows are counted from 1
abbrev pub refused_text : RowFault → List ℕ
refused_text fault =
    codes "{\"code\":\"Refused\",\"file\":\"" ++ file_text fault.file ++ codes "\",\"row\":" ++ decimal fault.row
    ++ codes ",\"kind\":\"" ++ kind_text fault.kind ++ codes "\"}"

abbrev pub spent_text : ℕ → List ℕ
spent_text number = codes "{\"code\":\"Spent\",\"data_version\":\"" ++ decimal number ++ codes "\"}"

-- the body of the reply
abbrev pub body_of : Controlled → List ℕ
body_of (controlled.Published number unmatched) = published_text number unmatched
body_of (controlled.Refused fault) = refused_text fault
body_of controlled.BadRequest = codes "{\"code\":\"BadRequest\"}"
body_of (controlled.Spent number) = spent_text number
body_of controlled.Stopping = codes "{\"code\":\"Ok\",\"stopping\":true}"

abbrev pub status_of : Controlled → ℕ
status_of (controlled.Published number unmatched) = 200
status_of (controlled.Refused fault) = 400
status_of controlled.BadRequest = 400
status_of (controlled.Spent number) = 400
status_of controlled.Stopping = 200
