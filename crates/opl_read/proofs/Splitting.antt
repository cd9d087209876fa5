-- The first line of a text.
use Rattle.std.proofs.Common.{◌≡◌, ℕ, suc, ◌+◌, ◌<◌, ◌≤◌, Bool, true, false, not, eqb, cond, List, [], ◌∷◌, length, take, drop, refl, sym, ◌∙◌, ap, subst, Some, None, arith, position, add-one}
use Rattle.std.specs.List.{position_or_len, onto_first}
use Rattle.list_lemmas.proofs.Splitting.{found_at, found_within, not_found}
use Rattle.opl_read.specs.Objects.{lines_of}

-- t is the test whether the first byte is a newline, n the place of the first newline behind it
abbrev place : Bool → ℕ → ℕ
place t n = cond (not t) (1 + n) 0

place-within : (t : Bool) (n size : ℕ) → place t n < suc size → t ≡ false → n < size
place-within true n size h fails = cc
place-within false n size h fails = omega arith

line_case : (t : Bool) (b : ℕ) (text : List ℕ) (n : ℕ) → (t ≡ false → lines_of text ≡ take (suc n) text ∷ lines_of (drop (suc n) text))
    → cond t ((b ∷ []) ∷ lines_of text) (onto_first b (lines_of text)) ≡ (b ∷ take (place t n) text) ∷ lines_of (drop (place t n) text)
line_case true b text n more = refl
line_case false b text n more =
    let next : suc n ≡ 1 + n = omega arith in
    ap (onto_first b) (more refl) ∙ ap (λ m. (b ∷ take m text) ∷ lines_of (drop m text)) next

-- a line ends behind the first newline
line_at : (text : List ℕ) → position_or_len (λ b. eqb b 10) text < length text
    → lines_of text ≡ take (suc (position_or_len (λ b. eqb b 10) text)) text ∷ lines_of (drop (suc (position_or_len (λ b. eqb b 10) text)) text)
line_at [] h = absurd (omega arith)
line_at (b ∷ text) h =
    line_case (eqb b 10) b text (position_or_len (λ b. eqb b 10) text) (λ fails. line_at text (place-within (eqb b 10) (position_or_len (λ b. eqb b 10) text) (length text) h fails))

pub lines_at_found : (text : List ℕ) (at : ℕ) → position (λ b. eqb b 10) text ≡ Some at → lines_of text ≡ take (at + 1) text ∷ lines_of (drop (at + 1) text)
lines_at_found text at h =
    let found = found_at (λ b. eqb b 10) text at h in
    let within : position_or_len (λ b. eqb b 10) text < length text = subst (λ (n : ℕ). n < length text) (sym found) (found_within (λ b. eqb b 10) text at h) in
    line_at text within ∙ ap (λ n. take n text ∷ lines_of (drop n text)) (ap (λ n. suc n) found ∙ sym (add-one at))

place-past : (t : Bool) (n size : ℕ) → suc size ≤ place t n → (t ≡ false) × (size ≤ n)
place-past true n size h = absurd (omega arith)
place-past false n size h = (refl, omega arith)

no_newline : (t : Bool) (b : ℕ) (text : List ℕ) (lines : List (List ℕ)) → t ≡ false → lines ≡ text ∷ [] → cond t ((b ∷ []) ∷ lines) (onto_first b lines) ≡ (b ∷ text) ∷ []
no_newline true b text lines fails one = cc
no_newline false b text lines fails one = ap (onto_first b) one

at_end : (t : Bool) (b : ℕ) → cond t ((b ∷ []) ∷ []) (onto_first b []) ≡ (b ∷ []) ∷ []
at_end true b = refl
at_end false b = refl

-- without a newline all is one line
one_line : (b : ℕ) (text : List ℕ) → length (b ∷ text) ≤ position_or_len (λ b. eqb b 10) (b ∷ text) → lines_of (b ∷ text) ≡ (b ∷ text) ∷ []
one_line b [] h = at_end (eqb b 10) b
one_line b (next ∷ text) h =
    let (fails, far) = place-past (eqb b 10) (position_or_len (λ b. eqb b 10) (next ∷ text)) (length (next ∷ text)) h in
    no_newline (eqb b 10) b (next ∷ text) (lines_of (next ∷ text)) fails (one_line next text far)

pub lines_not_found : (text : List ℕ) → 0 < length text → position (λ b. eqb b 10) text ≡ None → lines_of text ≡ text ∷ []
lines_not_found [] some h = absurd (omega arith)
lines_not_found (b ∷ text) some h = one_line b text (not_found (λ b. eqb b 10) (b ∷ text) h)
