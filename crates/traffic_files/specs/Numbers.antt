-- Decimals of traffic files. How many digits are kept, and what is too great, is this project's rule.
use Rattle.std.specs.Prelude.{ℕ, Bool, ◌&&◌, ◌==◌, List, max, nat_le, Result, Ok, Err, if◌then◌else◌}
use Rattle.std.specs.Result.{result_map_both}
use Rattle.std.specs.Str.Parse.{starts_with_minus}
use Rattle.decimal_text.specs.Numeral.{without_minus}
use Rattle.decimal_text.specs.Decimal.{is_unsigned_decimal, scaled}
use Rattle.traffic_files.specs.declared.numbers.NumberFault.{NumberFault}
use Rattle.traffic_files.specs.declared.numbers.NumberFault.TheVariants.{NoDecimal, NotInRange}

-- a number up to the greatest that a file may have: 1000 km/h or metres in thousandths, and 100000 s in deciseconds
abbrev pub limited : ℕ → Result ℕ NumberFault
limited number = if nat_le number 1000000 then Ok number else Err NotInRange

-- a decimal without a sign, with this many digits kept behind its point
abbrev pub scaled_of : ℕ → List ℕ → Result ℕ NumberFault
scaled_of kept text = if is_unsigned_decimal text then limited (scaled kept text) else Err NoDecimal

-- a decimal with a minus sign
abbrev pub is_minus_decimal : List ℕ → Bool
is_minus_decimal text = starts_with_minus text && is_unsigned_decimal (without_minus text)

-- a speed above 0 is at least 1 km/h
abbrev pub kept_speed : ℕ → ℕ
kept_speed speed = if speed == 0 then 0 else max speed 1000

-- a speed in thousandths of km/h
abbrev pub speed_of : List ℕ → Result ℕ NumberFault
speed_of text = result_map_both kept_speed (λ fault. fault) (scaled_of 3 text)

-- a rate is above 0, and then at least 0.278 metres for each unit of weight
abbrev pub kept_rate : ℕ → Result ℕ NumberFault
kept_rate rate = if rate == 0 then Err NotInRange else Ok (max rate 278)

abbrev pub rate_kept : Result ℕ NumberFault → Result ℕ NumberFault
rate_kept (Ok rate) = kept_rate rate
rate_kept (Err fault) = Err fault

-- a rate in thousandths; one with a minus sign is never in range
abbrev pub rate_of : List ℕ → Result ℕ NumberFault
rate_of text = if is_minus_decimal text then Err NotInRange else rate_kept (scaled_of 3 text)

-- a penalty in deciseconds, or a weight in tenths; one below zero counts as 0
abbrev pub tenths_of : List ℕ → Result ℕ NumberFault
tenths_of text = if is_minus_decimal text then Ok 0 else scaled_of 1 text
