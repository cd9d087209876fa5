-- The records so far begin the text, and stand for the rows so far.
use Rattle.std.proofs.Common.{◌≡◌, ℕ, List, Some}
use Rattle.csv.specs.Reading.{Reached, Ready, default_config, source_of, strip_bom}
use Rattle.csv.specs.declared.parser.State.TheVariants as st
use Rattle.csv.specs.declared.reader.Trim.TheVariants as trim
use Rattle.traffic_files.specs.Files.{Record, StandFor}
use Rattle.traffic_files.specs.Rows.{turn_row_of}
use Rattle.traffic_files.proofs.reading.read_turns.Given as goal

abbrev pub invariant-records : goal.invariant-records
invariant-records l = (l.reader.trim ≡ trim.None) × Ready l.reader × (l.reader.config ≡ default_config)
    × (seen : List Record) × (y : List ℕ) × (source_of (λ s. Some s.now) l.reader ≡ Some y)
    × Reached default_config st.StartRecord (strip_bom l.fn.bytes) seen l.reader.state y
    × StandFor turn_row_of seen l.rows.items
