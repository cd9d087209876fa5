-- The lines of bytes, of which the first parts each end with a newline.
use Rattle.std.proofs.Common.{◌≡◌, ℕ, ◌+◌, ◌-◌, ◌<◌, ◌≤◌, ◌≢◌, ne_eqb, Bool, true, false, ◌==◌, if◌then◌else◌, List, [], ◌∷◌, ◌++◌, length, map, take, slice_index, refl, sym, ap, ◌∙◌, arith, length-take, append_assoc, append-nil}
use Rattle.std.specs.List.{AllByRecursion, slice_split}
use Rattle.std.specs.Str.Lines.{lines, lines_of_parts, strip_carriage_return}
use Rattle.std.proofs.lemmas.List.Splits.{slice_split_none, slice_split_at, length-slice_split}
use Rattle.line_session.specs.Leading.{NoNewline, ended}
use Rattle.line_session.specs.Told.{ended_parts, whole_lines}

lines_of_more : (part : List ℕ) (parts : List (List ℕ)) → 0 < length parts → lines_of_parts (part ∷ parts) ≡ strip_carriage_return part ∷ lines_of_parts parts
lines_of_more part [] some = absurd (omega arith)
lines_of_more part (next ∷ parts) some = refl

lines_of_one : (part : List ℕ) → 0 < length part → lines_of_parts (part ∷ []) ≡ part ∷ []
lines_of_one part some =
    let not_none : length part ≢ 0 = omega arith in
    ap (λ (none : Bool). if none then [] else part ∷ []) (ne_eqb (length part) 0 not_none)

ended_of_more : (part : List ℕ) (parts : List (List ℕ)) → 0 < length parts → ended_parts (part ∷ parts) ≡ strip_carriage_return part ∷ ended_parts parts
ended_of_more part [] some = absurd (omega arith)
ended_of_more part (next ∷ parts) some = refl

-- a newline ends a line, and a whole one
pub lines_at : (part more : List ℕ) → NoNewline part → lines (part ++ (10 ∷ more)) ≡ strip_carriage_return part ∷ lines more
lines_at part more none =
    ap lines_of_parts (slice_split_at (λ b. b == 10) part 10 more none refl)
    ∙ lines_of_more part (slice_split (λ b. b == 10) more) (omega (arith, length-slice_split (λ b. b == 10) more))

pub whole_at : (part more : List ℕ) → NoNewline part → whole_lines (part ++ (10 ∷ more)) ≡ strip_carriage_return part ∷ whole_lines more
whole_at part more none =
    ap ended_parts (slice_split_at (λ b. b == 10) part 10 more none refl)
    ∙ ended_of_more part (slice_split (λ b. b == 10) more) (omega (arith, length-slice_split (λ b. b == 10) more))

-- bytes without a newline have no whole line, and are one line if there are any
pub whole_none : (part : List ℕ) → NoNewline part → whole_lines part ≡ []
whole_none part none = ap ended_parts (slice_split_none (λ b. b == 10) part none)

pub lines_last : (part : List ℕ) → NoNewline part → 0 < length part → lines part ≡ part ∷ []
lines_last part none some = ap lines_of_parts (slice_split_none (λ b. b == 10) part none) ∙ lines_of_one part some

-- the lines of parts that newlines end, and of what comes behind them
pub lines_ended : (parts : List (List ℕ)) (more : List ℕ) → AllByRecursion NoNewline parts → lines (ended parts ++ more) ≡ map strip_carriage_return parts ++ lines more
lines_ended [] more clean = refl
lines_ended (part ∷ parts) more clean =
    ap lines (append_assoc part (10 ∷ ended parts) more)
    ∙ lines_at part (ended parts ++ more) clean.0
    ∙ ap (λ (all : List (List ℕ)). strip_carriage_return part ∷ all) (lines_ended parts more clean.1)

pub whole_ended : (parts : List (List ℕ)) (more : List ℕ) → AllByRecursion NoNewline parts → whole_lines (ended parts ++ more) ≡ map strip_carriage_return parts ++ whole_lines more
whole_ended [] more clean = refl
whole_ended (part ∷ parts) more clean =
    ap whole_lines (append_assoc part (10 ∷ ended parts) more)
    ∙ whole_at part (ended parts ++ more) clean.0
    ∙ ap (λ (all : List (List ℕ)). strip_carriage_return part ∷ all) (whole_ended parts more clean.1)

-- one part more
pub ended_push : (parts : List (List ℕ)) (part : List ℕ) → ended parts ++ (part ++ (10 ∷ [])) ≡ ended (parts ++ part ∷ [])
ended_push [] part = refl
ended_push (first ∷ parts) part =
    append_assoc first (10 ∷ ended parts) (part ++ (10 ∷ []))
    ∙ ap (λ (xs : List ℕ). first ++ (10 ∷ xs)) (ended_push parts part)

pub map_push : (parts : List (List ℕ)) (part : List ℕ) → map strip_carriage_return (parts ++ part ∷ []) ≡ map strip_carriage_return parts ++ strip_carriage_return part ∷ []
map_push [] part = refl
map_push (first ∷ parts) part = ap (λ (all : List (List ℕ)). strip_carriage_return first ∷ all) (map_push parts part)

pub clean_push : (parts : List (List ℕ)) (part : List ℕ) → AllByRecursion NoNewline parts → NoNewline part → AllByRecursion NoNewline (parts ++ part ∷ [])
clean_push [] part clean none = (none, tt)
clean_push (first ∷ parts) part clean none = (clean.0, clean_push parts part clean.1 none)

less_one : (part : List ℕ) (b : Bool) → length part ≤ length (if b then take (length part - 1) part else part) + 1
less_one part true = omega (arith, length-take (length part - 1) part)
less_one part false = omega arith

-- at most the carriage return is lost
pub strip_long : (part : List ℕ) → length part ≤ length (strip_carriage_return part) + 1
strip_long part = less_one part (slice_index part (length part - 1) == 13)
