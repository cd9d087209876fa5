-- The lines of a run, one behind the other, and what ends it then.
use Rattle.std.proofs.Common.{◌≡◌, ℕ, List, ◌++◌, Option, Result, Ok, Err, OnOk, OnErr, Bool, true, inl, inr, codes, ap, sym, subst}
use Rattle.std.proofs.lemmas.Result.{on_err_weaker, on_ok_weaker}
use Rattle.std.specs.Fmt.{decimal}
use Rattle.std.specs.Io.KnownBytes.{Appends}
use Rattle.program_ends.specs.StoppedEarly.{memory_line}
use Rattle.road_base.specs.declared.program_status.Status.{Status}
use Rattle.road_base.specs.declared.program_status.Status.TheVariants as status
use Rattle.road_io.specs.Faults.{OutputRose, Rose}
use Rattle.road_io.specs.Putting.{Closes}
use Rattle.road_io.specs.Told.{AppendsFront, appends_front_first, appends_front_then, appends_then}
use Rattle.road_io.specs.Views.{OutputView}
use Rattle.serve_command.specs.InnerEnds.{EndsLines}
use Rattle.serve_command.specs.ServeEnding.{IsReady, last_lines, ready_line}

-- what holds anyhow holds of a failure
pub on_err_always : {T E P : Type 0} (r : Result T E) → P → OnErr r P
on_err_always (Ok x) p = tt
on_err_always (Err e) p = p

-- the first line was put, and no fault was counted
pub ready_of : {T E : Type 0} (r : Result T E) (before ready : OutputView) → OnOk r (Appends before.written ready.written ready_line) → OnOk r (ready.faults ≡ before.faults) → OnOk r (IsReady before ready)
ready_of (Ok x) before ready put steady = record { put = put; steady = steady }
ready_of (Err e) before ready put steady = tt

abbrev line : List ℕ → List ℕ → List ℕ
line words text = words ++ (text ++ codes "\n")

pub both_lines : {T E : Type 0} (r : Result T E) (old mid now : Option (List ℕ)) (connections metric : ℕ) (one two : List ℕ)
    → one ≡ decimal connections → two ≡ decimal metric → Appends old mid (line (codes "connections ") one) → OnOk r (Appends mid now (line (codes "metric ") two))
    → OnOk r (Appends old now (last_lines connections metric))
both_lines r old mid now connections metric one two is_one is_two first second =
    on_ok_weaker r
    (λ last. appends_then old mid now (line (codes "connections ") (decimal connections)) (line (codes "metric ") (decimal metric))
    (subst (λ (t : List ℕ). Appends old mid (line (codes "connections ") t)) is_one first)
    (subst (λ (t : List ℕ). Appends mid now (line (codes "metric ") t)) is_two last))
    second

pub front_of_first_line : (old now : Option (List ℕ)) (connections metric : ℕ) (one : List ℕ)
    → one ≡ decimal connections → AppendsFront old now (line (codes "connections ") one) → AppendsFront old now (last_lines connections metric)
front_of_first_line old now connections metric one is_one first =
    appends_front_first old now (line (codes "connections ") (decimal connections)) (line (codes "metric ") (decimal metric))
    (subst (λ (t : List ℕ). AppendsFront old now (line (codes "connections ") t)) is_one first)

pub front_of_both_lines : {T E : Type 0} (r : Result T E) (old mid now : Option (List ℕ)) (connections metric : ℕ) (one two : List ℕ)
    → one ≡ decimal connections → two ≡ decimal metric → Appends old mid (line (codes "connections ") one) → OnErr r (AppendsFront mid now (line (codes "metric ") two))
    → OnErr r (AppendsFront old now (last_lines connections metric))
front_of_both_lines r old mid now connections metric one two is_one is_two first second =
    on_err_weaker r
    (λ last. appends_front_then old mid now (line (codes "connections ") (decimal connections)) (line (codes "metric ") (decimal metric))
    (subst (λ (t : List ℕ). Appends old mid (line (codes "connections ") t)) is_one first)
    (subst (λ (t : List ℕ). AppendsFront mid now (line (codes "metric ") t)) is_two last))
    second

-- a text behind another
pub closes_then : (before mid after : OutputView) (lines more : List ℕ) → Appends before.written mid.written lines → mid.faults ≡ before.faults → Closes mid after more → Closes before after (lines ++ more)
closes_then before mid after lines more put steady (inl whole) = inl (appends_then before.written mid.written after.written lines more put whole)
closes_then before mid after lines more put steady (inr part) =
    inr (subst (λ (n : ℕ). Rose n after.faults) steady part.0, appends_front_then before.written mid.written after.written lines more put part.1)

-- behind the last lines there was no memory to see that all was read
pub lines_short : (short rose : Bool) (lines : List ℕ) (code : Status) (before mid after : OutputView) → code ≡ status.Memory → short ≡ true
    → Appends before.written mid.written lines → mid.faults ≡ before.faults → Closes mid after memory_line → EndsLines short rose lines code before after
lines_short short rose lines code before mid after is is_short put steady closes =
    subst (λ (c : Status). EndsLines short rose lines c before after) (sym is) (is_short, closes_then before mid after lines memory_line put steady closes)

-- a proper front of the last lines, where the output failed
pub front_short : (before after : OutputView) (lines : List ℕ) → OutputRose before after → AppendsFront before.written after.written lines → Closes before after (lines ++ memory_line)
front_short before after lines rose part = inr (rose, appends_front_first before.written after.written lines memory_line part)
