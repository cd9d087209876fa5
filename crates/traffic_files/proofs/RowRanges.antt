-- What a row has that a record stands for.
use Rattle.std.proofs.Common.{◌≡◌, ℕ, ℤ, ◌≤◌, Bool, true, false, List, [], ◌∷◌, All, Some, None, Option, cond, max, length, arith, refl, subst, inl, inr}
use Rattle.std.specs.Prelude.{◌&&◌, ◌==◌, nat_le, Result, Ok, Err}
use Rattle.std.specs.Option.{ForSome}
use Rattle.std.specs.Result.{result_map_both}
use Rattle.std.proofs.lemmas.Bool.{leb-true}
use Rattle.std.proofs.lemmas.List.Elements.{All-cons, All-nil}
use Rattle.decimal_text.specs.Decimal.{is_unsigned_decimal, scaled}
use Rattle.decimal_text.specs.ObjectId.{id_of}
use Rattle.traffic_files.specs.Fields.{optional_at, text_at}
use Rattle.traffic_files.specs.Files.{Record, StandFor}
use Rattle.traffic_files.specs.Numbers.{is_minus_decimal, kept_speed, limited, rate_kept, rate_of, scaled_of, speed_of, tenths_of}
use Rattle.traffic_files.specs.Ranges.{ArePenaltiesInRange, AreSpeedsInRange, IsPenaltyInRange, IsRate, IsRowSpeed, IsRowWeight, IsSpeedInRange}
use Rattle.traffic_files.specs.Rows.{both_numbers, speed_judged, speed_row_of, turn_judged, turn_row_of}
use Rattle.traffic_files.specs.declared.numbers.NumberFault.{NumberFault}
use Rattle.traffic_files.specs.declared.numbers.NumberFault.TheVariants.{NoDecimal, NotInRange}
use Rattle.traffic_files.specs.declared.rows.RowKind.{RowKind}
use Rattle.traffic_files.specs.declared.rows.RowKind.TheVariants.{BadCount}
use Rattle.traffic_files.specs.declared.rows.SpeedRow.{SpeedRow}
use Rattle.traffic_files.specs.declared.rows.TurnRow.{TurnRow}

-- P of what is read, if it is not faulty
abbrev IsInRange : {A E : Type 0} → (A → Type 0) → Result A E → Type 0
IsInRange P (Ok x) = P x
IsInRange P (Err fault) = Unit {0}

abbrev IsWithin : ℕ → Type 0
IsWithin n = n ≤ 1000000

limited-case : (n : ℕ) (b : Bool) → nat_le n 1000000 ≡ b → IsInRange IsWithin (cond b (Ok n) (Err NotInRange))
limited-case n true h = leb-true n 1000000 h
limited-case n false h = tt

scaled-case : (n : ℕ) (b : Bool) → IsInRange IsWithin (cond b (limited n) (Err NoDecimal))
scaled-case n true = limited-case n (nat_le n 1000000) refl
scaled-case n false = tt

scaled_of-range : (kept : ℕ) (text : List ℕ) → IsInRange IsWithin (scaled_of kept text)
scaled_of-range kept text = scaled-case (scaled kept text) (is_unsigned_decimal text)

-- speeds
kept_speed-case : (n : ℕ) (b : Bool) → n ≤ 1000000 → IsRowSpeed (cond b 0 (max n 1000))
kept_speed-case n true h = inl refl
kept_speed-case n false h = inr (omega arith, omega arith)

speed-case : (read : Result ℕ NumberFault) → IsInRange IsWithin read → IsInRange IsRowSpeed (result_map_both kept_speed (λ fault. fault) read)
speed-case (Ok n) h = kept_speed-case n (n == 0) h
speed-case (Err fault) h = tt

speed_of-range : (text : List ℕ) → IsInRange IsRowSpeed (speed_of text)
speed_of-range text = speed-case (scaled_of 3 text) (scaled_of-range 3 text)

-- rates
kept_rate-case : (n : ℕ) (b : Bool) → n ≤ 1000000 → IsInRange IsRate (cond b (Err NotInRange) (Ok (max n 278)))
kept_rate-case n true h = tt
kept_rate-case n false h = (omega arith, omega arith)

rate_kept-range : (read : Result ℕ NumberFault) → IsInRange IsWithin read → IsInRange IsRate (rate_kept read)
rate_kept-range (Ok n) h = kept_rate-case n (n == 0) h
rate_kept-range (Err fault) h = tt

rate-case : (b : Bool) (text : List ℕ) → IsInRange IsRate (cond b (Err NotInRange) (rate_kept (scaled_of 3 text)))
rate-case true text = tt
rate-case false text = rate_kept-range (scaled_of 3 text) (scaled_of-range 3 text)

rate_of-range : (text : List ℕ) → IsInRange IsRate (rate_of text)
rate_of-range text = rate-case (is_minus_decimal text) text

-- penalties and weights
tenths-case : (b : Bool) (text : List ℕ) → IsInRange IsWithin (cond b (Ok 0) (scaled_of 1 text))
tenths-case true text = omega arith
tenths-case false text = scaled_of-range 1 text

tenths_of-range : (text : List ℕ) → IsInRange IsWithin (tenths_of text)
tenths_of-range text = tenths-case (is_minus_decimal text) text

-- a number that may be absent
abbrev IfThere : (ℕ → Type 0) → Option ℕ → Type 0
IfThere P number = ForSome number P

there : (P : ℕ → Type 0) (n : ℕ) → P n → IfThere P (Some n)
there P n h = λ x e. let same : n ≡ x = cc in subst P same h

absent : (P : ℕ → Type 0) → IfThere P None
absent P = λ x e. cc

mapped-range : (P : ℕ → Type 0) (read : Result ℕ NumberFault) → IsInRange P read → IsInRange (IfThere P) (result_map_both Some (λ fault. fault) read)
mapped-range P (Ok n) h = there P n h
mapped-range P (Err fault) h = tt

optional-case : (P : ℕ → Type 0) (b : Bool) (read : Result ℕ NumberFault) → IsInRange P read → IsInRange (IfThere P) (cond b (Ok None) (result_map_both Some (λ fault. fault) read))
optional-case P true read h = absent P
optional-case P false read h = mapped-range P read h

optional_at-range : (P : ℕ → Type 0) (number_of : List ℕ → Result ℕ NumberFault) → ((text : List ℕ) → IsInRange P (number_of text)) → (fields : Record) (place : ℕ) → IsInRange (IfThere P) (optional_at number_of fields place)
optional_at-range P number_of each fields place =
    optional-case P (nat_le (length fields) place) (number_of (text_at fields place)) (each (text_at fields place))

-- the two numbers of a row
abbrev AreBoth : (ℕ → Type 0) → (ℕ → Type 0) → ℕ × Option ℕ → Type 0
AreBoth P Q numbers = P numbers.0 × IfThere Q numbers.1

both_numbers-range : (P Q : ℕ → Type 0) (number : Result ℕ NumberFault) (other : Result (Option ℕ) NumberFault) → IsInRange P number → IsInRange (IfThere Q) other → IsInRange (AreBoth P Q) (both_numbers number other)
both_numbers-range P Q (Ok n) (Ok m) h k = (h, k)
both_numbers-range P Q (Ok n) (Err NoDecimal) h k = tt
both_numbers-range P Q (Ok n) (Err NotInRange) h k = tt
both_numbers-range P Q (Err NoDecimal) other h k = tt
both_numbers-range P Q (Err NotInRange) (Ok m) h k = tt
both_numbers-range P Q (Err NotInRange) (Err NoDecimal) h k = tt
both_numbers-range P Q (Err NotInRange) (Err NotInRange) h k = tt

speed_judged-range : (from to : Option ℤ) (numbers : Result (ℕ × Option ℕ) RowKind) → IsInRange (AreBoth IsRowSpeed IsRate) numbers → IsInRange IsSpeedInRange (speed_judged from to numbers)
speed_judged-range (Some from) (Some to) (Ok numbers) h = h
speed_judged-range (Some from) (Some to) (Err kind) h = tt
speed_judged-range (Some from) None numbers h = tt
speed_judged-range None to numbers h = tt

turn_judged-range : (from via to : Option ℤ) (numbers : Result (ℕ × Option ℕ) RowKind) → IsInRange (AreBoth IsWithin IsRowWeight) numbers → IsInRange IsPenaltyInRange (turn_judged from via to numbers)
turn_judged-range (Some from) (Some via) (Some to) (Ok numbers) h = h
turn_judged-range (Some from) (Some via) (Some to) (Err kind) h = tt
turn_judged-range (Some from) (Some via) None numbers h = tt
turn_judged-range (Some from) None to numbers h = tt
turn_judged-range None via to numbers h = tt

counted : {A : Type 0} (P : A → Type 0) (b : Bool) (read : Result A RowKind) → IsInRange P read → IsInRange P (cond b read (Err BadCount))
counted P true read h = h
counted P false read h = tt

speed_row_of-range : (fields : Record) → IsInRange IsSpeedInRange (speed_row_of fields)
speed_row_of-range fields =
    counted IsSpeedInRange (nat_le 3 (length fields) && nat_le (length fields) 4) _
    (speed_judged-range (id_of (text_at fields 0)) (id_of (text_at fields 1)) _
    (both_numbers-range IsRowSpeed IsRate (speed_of (text_at fields 2)) (optional_at rate_of fields 3) (speed_of-range (text_at fields 2)) (optional_at-range IsRate rate_of rate_of-range fields 3)))

turn_row_of-range : (fields : Record) → IsInRange IsPenaltyInRange (turn_row_of fields)
turn_row_of-range fields =
    counted IsPenaltyInRange (nat_le 4 (length fields) && nat_le (length fields) 5) _
    (turn_judged-range (id_of (text_at fields 0)) (id_of (text_at fields 1)) (id_of (text_at fields 2)) _
    (both_numbers-range IsWithin IsRowWeight (tenths_of (text_at fields 3)) (optional_at tenths_of fields 4) (tenths_of-range (text_at fields 3)) (optional_at-range IsRowWeight tenths_of tenths_of-range fields 4)))

-- rows that records stand for are in the range of what a record stands for
StandFor-range : {A : Type 0} (P : A → Type 0) (row_of : Record → Result A RowKind) → ((r : Record) → IsInRange P (row_of r)) → (records : List Record) (rows : List A) → StandFor row_of records rows → All P rows
StandFor-range P row_of each records [] h = All-nil P
StandFor-range P row_of each [] (a ∷ rows) h = cc
StandFor-range {A} P row_of each (r ∷ records) (a ∷ rows) h =
    let first : row_of r ≡ Ok a = cc in
    let others : StandFor row_of records rows = cc in
    All-cons P a rows (subst (IsInRange P) first (each r)) (StandFor-range P row_of each records rows others)

pub speeds-in_range : (records : List Record) (rows : List SpeedRow) → StandFor speed_row_of records rows → AreSpeedsInRange rows
speeds-in_range records rows h = StandFor-range IsSpeedInRange speed_row_of speed_row_of-range records rows h

pub penalties-in_range : (records : List Record) (rows : List TurnRow) → StandFor turn_row_of records rows → ArePenaltiesInRange rows
penalties-in_range records rows h = StandFor-range IsPenaltyInRange turn_row_of turn_row_of-range records rows h
