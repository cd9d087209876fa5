-- The first field of a text, blanks before it, and places in a text that begin a character.
use Rattle.std.proofs.Common.{◌≡◌, ℕ, zero, suc, ◌+◌, ◌<◌, ◌≤◌, Bool, true, false, not, eqb, cond, List, [], ◌∷◌, length, take, drop, get_or, filter, sym, ◌∙◌, ap, Some, None, arith, position, inl, inr, length-take, length-drop}
use Rattle.std.specs.List.{slice_split}
use Rattle.std.specs.Str.{IsCharBoundary, IsUtf8}
use Rattle.std.proofs.lemmas.Bool.{eqb-true, false≢true, or_cases, ne_eqb}
use Rattle.std.proofs.lemmas.Str.{IsCharBoundary-after_ascii}
use Rattle.opl_read.specs.Cutting.{is_blank, fields_of, IsFirstField}
use Rattle.list_lemmas.proofs.Splitting.{found_within, found_passes, split_at_found, split_not_found}

-- a character begins at an ASCII byte, and behind it
pub begins_at : (text : List ℕ) (at : ℕ) → at < length text → get_or text at 0 < 128 → IsCharBoundary text at
begins_at text at within ascii = (omega arith, λ lt big. absurd (omega arith))

pub begins_behind : (text : List ℕ) (at : ℕ) → IsUtf8 text → at < length text → get_or text at 0 < 128 → IsCharBoundary text (at + 1)
begins_behind text at utf8 within ascii = IsCharBoundary-after_ascii text at utf8 within ascii

pub byte_found : (text : List ℕ) (at c : ℕ) → position (λ b. eqb b c) text ≡ Some at → get_or text at 0 ≡ c
byte_found text at c h = eqb-true _ _ (found_passes (λ b. eqb b c) text at h)

pub blank_is_ascii : (b : ℕ) → is_blank b ≡ true → b < 128
blank_is_ascii b h = elim (or_cases (eqb b 32) (eqb b 9) h) [
  | inl space ↦ omega (arith, eqb-true b 32 space)
  | inr tab ↦ omega (arith, eqb-true b 9 tab)
]

abbrev is_some_field : List ℕ → Bool
is_some_field field = not (eqb (length field) 0)

-- a text that begins with a blank has it
pub blank_within : (text : List ℕ) → is_blank (get_or text 0 0) ≡ true → 0 < length text
blank_within [] h = cc
blank_within (b ∷ text) h = omega arith

some_field : (field : List ℕ) (more : List (List ℕ)) → 0 < length field → filter is_some_field (field ∷ more) ≡ field ∷ filter is_some_field more
some_field [] more h = absurd (omega arith)
some_field (b ∷ field) more h =
    let some : length (b ∷ field) ≡ 0 → ⊥ = λ e. omega arith in
    ap (λ (t : Bool). cond (not t) ((b ∷ field) ∷ filter is_some_field more) (filter is_some_field more)) (ne_eqb (length (b ∷ field)) 0 some)

not_at_front : (text : List ℕ) (at : ℕ) → is_blank (get_or text 0 0) ≡ false → is_blank (get_or text at 0) ≡ true → 0 < at
not_at_front text zero front blank = absurd (false≢true (sym front ∙ blank))
not_at_front text (suc at) front blank = omega arith

-- a field ends before the first blank
pub field_at : (text whole : List ℕ) (at : ℕ) → fields_of text ≡ fields_of whole → length text ≤ length whole → is_blank (get_or text 0 0) ≡ false → position is_blank text ≡ Some at
    → IsFirstField whole (take at text) (drop (at + 1) text)
field_at text whole at same size front h =
    let within = found_within is_blank text at h in
    let behind = not_at_front text at front (found_passes is_blank text at h) in
    let some : 0 < length (take at text) = omega (arith, length-take at text) in
    record {
      fields = sym same ∙ ap (filter is_some_field) (split_at_found is_blank text at h) ∙ some_field (take at text) (slice_split is_blank (drop (at + 1) text)) some;
      some = some;
      shorter = omega (arith, length-drop (at + 1) text);
    }

-- or with the text
pub field_alone : (text whole : List ℕ) → fields_of text ≡ fields_of whole → length text ≤ length whole → 0 < length text → position is_blank text ≡ None → IsFirstField whole text []
field_alone text whole same size some h = record {
  fields = sym same ∙ ap (filter is_some_field) (split_not_found is_blank text h) ∙ some_field text [] some;
  some = some;
  shorter = omega arith;
}
