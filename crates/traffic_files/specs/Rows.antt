-- What a record of a traffic file stands for (OSRM's traffic files; the order of the faults is this project's rule).
use Rattle.std.specs.Prelude.{ℕ, ℤ, ◌&&◌, List, length, nat_le, Option, Some, Result, Ok, Err, if◌then◌else◌}
use Rattle.decimal_text.specs.ObjectId.{id_of}
use Rattle.traffic_files.specs.Fields.{optional_at, text_at}
use Rattle.traffic_files.specs.Numbers.{speed_of, rate_of, tenths_of}
use Rattle.traffic_files.specs.declared.numbers.NumberFault.{NumberFault}
use Rattle.traffic_files.specs.declared.numbers.NumberFault.TheVariants.{NoDecimal}
use Rattle.traffic_files.specs.declared.rows.SpeedRow.{SpeedRow}
use Rattle.traffic_files.specs.declared.rows.TurnRow.{TurnRow}
use Rattle.traffic_files.specs.declared.rows.RowKind.{RowKind}
use Rattle.traffic_files.specs.declared.rows.RowKind.TheVariants.{BadCount, BadId, BadNumber, OutOfRange}

-- the two numbers of a row, of which the second may be absent; a text that is no decimal is told before any number
-- out of range
abbrev pub both_numbers : Result ℕ NumberFault → Result (Option ℕ) NumberFault → Result (ℕ × Option ℕ) RowKind
both_numbers (Ok number) (Ok other) = Ok (number, other)
both_numbers (Err NoDecimal) other = Err BadNumber
both_numbers number (Err NoDecimal) = Err BadNumber
both_numbers number other = Err OutOfRange

-- of two ids, and of a speed and a rate
abbrev pub speed_judged : Option ℤ → Option ℤ → Result (ℕ × Option ℕ) RowKind → Result SpeedRow RowKind
speed_judged (Some from) (Some to) (Ok numbers) = Ok (record { from = from; to = to; speed = numbers.0; rate = numbers.1 })
speed_judged (Some from) (Some to) (Err kind) = Err kind
speed_judged from to numbers = Err BadId

-- the fields are from, to, speed and, where it is there, rate
abbrev pub speed_row_of : List (List ℕ) → Result SpeedRow RowKind
speed_row_of fields =
    if nat_le 3 (length fields) && nat_le (length fields) 4 then
    speed_judged (id_of (text_at fields 0)) (id_of (text_at fields 1)) (both_numbers (speed_of (text_at fields 2)) (optional_at rate_of fields 3))
    else Err BadCount

-- of three ids, and of a penalty and a weight
abbrev pub turn_judged : Option ℤ → Option ℤ → Option ℤ → Result (ℕ × Option ℕ) RowKind → Result TurnRow RowKind
turn_judged (Some from) (Some via) (Some to) (Ok numbers) = Ok (record { from = from; via = via; to = to; penalty = numbers.0; weight = numbers.1 })
turn_judged (Some from) (Some via) (Some to) (Err kind) = Err kind
turn_judged from via to numbers = Err BadId

-- the fields are from, via, to, penalty and, where it is there, weight
abbrev pub turn_row_of : List (List ℕ) → Result TurnRow RowKind
turn_row_of fields =
    if nat_le 4 (length fields) && nat_le (length fields) 5 then
    turn_judged (id_of (text_at fields 0)) (id_of (text_at fields 1)) (id_of (text_at fields 2)) (both_numbers (tenths_of (text_at fields 3)) (optional_at tenths_of fields 4))
    else Err BadCount
