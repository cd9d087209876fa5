-- Which lines name traffic files.
use Rattle.std.proofs.Common.{◌≡◌, ℕ, ◌<◌, ◌≤◌, Bool, true, false, not, ◌&&◌, ◌==◌, List, [], ◌∷◌, length, Bor, refl, sym, ap, ap₂, ◌∙◌, arith}
use Rattle.std.specs.Prelude.{Option, Some, None, MatchOption, is_none, nat_le, if◌then◌else◌}
use Rattle.std.specs.List.{list_any, slice_split}
use Rattle.std.specs.Str.{IsUtf8, is_utf8}
use Rattle.std.proofs.lemmas.Bool.{le-leb}
use Rattle.std.proofs.lemmas.List.Splits.{length-slice_split}
use Rattle.std.proofs.lemmas.Str.{IsUtf8-from_is_utf8, is_utf8-from_IsUtf8}
use Rattle.option_values.specs.Cutting.{IsCut, IsUncut}
use Rattle.line_session.specs.Traffic.{names_behind, names_in, traffic_names}
use Rattle.line_session.proofs.LineTold.{names_long}

-- whether there is a tab
pub no_tab : (text : List ℕ) (parts : Option (Bor (List ℕ) × Bor (List ℕ))) → MatchOption parts (IsUncut 9 text) (λ p. IsCut 9 text p.0.now p.1.now) → is_none parts ≡ not (list_any (λ b. b == 9) text)
no_tab text None uncut = sym (ap not uncut.has)
no_tab text (Some p) cut = sym (ap not cut.has)

-- a line of one part, of two, and of more than three
pub names_one : (text : List ℕ) → IsUncut 32 text → None ≡ names_in (slice_split (λ b. b == 32) text)
names_one text uncut = sym (ap names_in uncut.parts)

pub names_two : (text word names : List ℕ) → IsCut 32 text word names → IsUncut 32 names → None ≡ names_in (slice_split (λ b. b == 32) text)
names_two text word names cut uncut = sym (ap names_in (cut.parts ∙ ap (λ (parts : List (List ℕ)). word ∷ parts) uncut.parts))

many : (word speeds turns : List ℕ) (parts : List (List ℕ)) → 0 < length parts → names_in (word ∷ speeds ∷ turns ∷ parts) ≡ None
many word speeds turns [] some = absurd (omega arith)
many word speeds turns (part ∷ parts) some = refl

pub names_many : (text word names speeds turns : List ℕ) (parts : Option (Bor (List ℕ) × Bor (List ℕ))) → IsCut 32 text word names → IsCut 32 names speeds turns → MatchOption parts (IsUncut 32 turns) (λ p. IsCut 32 turns p.0.now p.1.now) → is_none parts ≡ false
    → None ≡ names_in (slice_split (λ b. b == 32) text)
names_many text word names speeds turns None cut cut_more cut_last some = cc
names_many text word names speeds turns (Some p) cut cut_more cut_last some =
    sym (ap names_in (cut.parts ∙ ap (λ (ps : List (List ℕ)). word ∷ ps) (cut_more.parts ∙ ap (λ (ps : List (List ℕ)). speeds ∷ ps) cut_last.parts))
    ∙ many word speeds p.0.now (slice_split (λ b. b == 32) p.1.now) (omega (arith, length-slice_split (λ b. b == 32) p.1.now)))

-- a line of three
pub names_three : (text word names speeds turns : List ℕ) (parts : Option (Bor (List ℕ) × Bor (List ℕ))) → IsCut 32 text word names → IsCut 32 names speeds turns → MatchOption parts (IsUncut 32 turns) (λ p. IsCut 32 turns p.0.now p.1.now) → is_none parts ≡ true
    → names_behind word speeds turns ≡ names_in (slice_split (λ b. b == 32) text)
names_three text word names speeds turns None cut cut_more uncut none =
    sym (ap names_in (cut.parts ∙ ap (λ (ps : List (List ℕ)). word ∷ ps) (cut_more.parts ∙ ap (λ (ps : List (List ℕ)). speeds ∷ ps) uncut.parts)))
names_three text word names speeds turns (Some p) cut cut_more uncut none = cc

-- a line that is too long, one that isn't text, and one that is
pub traffic_long : (line : List ℕ) → 8192 < length line → None ≡ traffic_names line
traffic_long line long = sym (names_long line long)

not_so : (a : Bool) → ¬ (a ≡ true) → a ≡ false
not_so true denied = absurd (denied refl)
not_so false denied = refl

and_false : (a b : Bool) → b ≡ false → (a && b) ≡ false
and_false true b is = is
and_false false b is = refl

pub traffic_not_text : (line : List ℕ) → ¬ IsUtf8 line → None ≡ traffic_names line
traffic_not_text line denied =
    let is : (nat_le (length line) 8192 && is_utf8 line) ≡ false = and_false (nat_le (length line) 8192) (is_utf8 line) (not_so (is_utf8 line) (λ e. denied (IsUtf8-from_is_utf8 line e))) in
    sym (ap (λ (b : Bool). if b then names_in (slice_split (λ b. b == 32) line) else None) is)

pub traffic_text : (line : List ℕ) → length line ≤ 8192 → IsUtf8 line → names_in (slice_split (λ b. b == 32) line) ≡ traffic_names line
traffic_text line short text =
    let is : (nat_le (length line) 8192 && is_utf8 line) ≡ true = ap₂ (λ a b. a && b) (le-leb (length line) 8192 short) (is_utf8-from_IsUtf8 line text) in
    sym (ap (λ (b : Bool). if b then names_in (slice_split (λ b. b == 32) line) else None) is)
