-- The pieces of a text, put together.
use Rattle.std.proofs.Common.{◌≡◌, ℕ, ℤ, ◌+◌, ◌-◌, ◌/◌, ◌%◌, List, [], ◌∷◌, ◌++◌, length, ◌<◌, ◌≤◌, take, subst, slice_index, IsUtf8, reverse, Option, Some, None, refl, sym, ap, ◌∙◌, append_assoc, length-append, decimal, arith}
use Rattle.std.proofs.Math.Seq.{take-append_seam}
use Rattle.std.proofs.lemmas.List.{reverse-append}
use Rattle.std.proofs.lemmas.Str.{IsCharBoundary-from_take}
use Rattle.std.specs.Prelude.{unsigned_abs, MatchOption, option_to_list}
use Rattle.json_text.specs.declared.draft.Container.{Container}
use Rattle.json_text.specs.Numbers.{sign_text, millionths_text}
use Rattle.json_text.specs.Values.{compact_text, location}
use Rattle.json_text.specs.Drafts.{outer_of}

-- the pieces of a number of millionths that are known, with what follows
pub record Millionths (z : ℤ) (n : ℕ) (s w a b c d e f : List ℕ) : Type 0 where
  pub size : n ≡ unsigned_abs z
  pub sign : s ≡ sign_text z
  pub whole : w ≡ decimal (n / 1000000)
  pub first : a ≡ (48 + n / 100000 % 10) ∷ []
  pub second : b ≡ (48 + n / 10000 % 10) ∷ []
  pub third : c ≡ (48 + n / 1000 % 10) ∷ []
  pub fourth : d ≡ (48 + n / 100 % 10) ∷ []
  pub fifth : e ≡ (48 + n / 10 % 10) ∷ []
  pub sixth : f ≡ (48 + n % 10) ∷ []

millionths_pieces : (z : ℤ) (n : ℕ) (s w a b c d e f rest : List ℕ) → Millionths z n s w a b c d e f
    → s ++ (w ++ 46 ∷ (a ++ (b ++ (c ++ (d ++ (e ++ (f ++ rest))))))) ≡ millionths_text z ++ rest
millionths_pieces z n s w a b c d e f rest h =
    rw (h.sign, h.whole, h.first, h.second, h.third, h.fourth, h.fifth, h.sixth, h.size) (simp append_assoc)

-- a quoted key and its colon come behind the comma
pub key_pieces : (new old comma name : List ℕ) → new ≡ old ++ comma ++ (name ++ 58 ∷ []) → new ≡ old ++ comma ++ name ++ 58 ∷ []
key_pieces new old comma name is = is ∙ sym (append_assoc (old ++ comma) name (58 ∷ []))

-- both numbers in a list, as the list of two values
pub location_pieces : (lon lat : ℤ) (s w a b c d e f t x g h i j k l : List ℕ) (n m : ℕ)
    → Millionths lon n s w a b c d e f → Millionths lat m t x g h i j k l
    → 91 ∷ (s ++ (w ++ 46 ∷ (a ++ (b ++ (c ++ (d ++ (e ++ (f ++ 44 ∷ (t ++ (x ++ 46 ∷ (g ++ (h ++ (i ++ (j ++ (k ++ (l ++ 93 ∷ []))))))))))))))))
    ≡ compact_text (location lon lat)
location_pieces lon lat s w a b c d e f t x g h i j k l n m first second =
    ap (λ (u : List ℕ). 91 ∷ u) (millionths_pieces lon n s w a b c d e f _ first ∙ ap (λ (u : List ℕ). millionths_text lon ++ 44 ∷ u) (millionths_pieces lat m t x g h i j k l _ second))
    ∙ simp append_assoc

-- a text may be cut where another text was put behind it
pub cut_at_seam : (new old first more : List ℕ) (n : ℕ) → IsUtf8 new → IsUtf8 old → new ≡ old ++ first ++ more → n ≡ length old
    → (n ≤ length new) × (0 < n → n < length new → 128 ≤ slice_index new n → 192 ≤ slice_index new n)
cut_at_seam new old first more n new_text old_text behind size =
    let is : new ≡ old ++ (first ++ more) = behind ∙ append_assoc old first more in
    let within : n ≤ length new = omega (arith, ap length is, length-append old (first ++ more)) in
    let front : take n new ≡ old = rw (is, size) (take-append_seam old (first ++ more)) in
    let cut = IsCharBoundary-from_take new n new_text within (subst IsUtf8 (sym front) old_text) in
    (cut.0, λ some. cut.1)

-- what `pop` leaves, seen from the innermost container on
pub reverse_popped : (old new : List Container) (n m : ℕ) (r : Option Container) → old ≡ new ++ option_to_list r
    → new ≡ take (n - 1) old → MatchOption r ((n ≡ 0) × (m ≡ 0)) (λ _. m + 1 ≡ n) → reverse new ≡ outer_of (reverse old)
reverse_popped old new n m None all rest sizes =
    let none : new ≡ [] = rw sizes.0 at rest in
    rw (all, none) refl
reverse_popped old new n m (Some x) all rest sizes = rw (all, reverse-append) refl
