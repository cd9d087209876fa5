-- A text and what stands before and behind the first of a byte in it.
use Rattle.std.specs.Prelude.{◌≡◌, ℕ, true, false, ◌==◌, List, [], ◌∷◌, is_none}
use Rattle.std.specs.List.{slice_split, before_first, after_first, list_any, position}

-- the byte stands in the text, first between these two parts
pub record IsCut (separator : ℕ) (text before behind : List ℕ) : Type 0 where
  pub has : list_any (λ b. b == separator) text ≡ true
  pub place : is_none (position (λ b. b == separator) text) ≡ false
  pub first : before ≡ before_first (λ b. b == separator) text
  pub rest : behind ≡ after_first (λ b. b == separator) text
  pub parts : slice_split (λ b. b == separator) text ≡ before ∷ slice_split (λ b. b == separator) behind

-- the byte does not stand in the text
pub record IsUncut (separator : ℕ) (text : List ℕ) : Type 0 where
  pub has : list_any (λ b. b == separator) text ≡ false
  pub place : is_none (position (λ b. b == separator) text) ≡ true
  pub first : text ≡ before_first (λ b. b == separator) text
  pub rest : [] ≡ after_first (λ b. b == separator) text
  pub parts : slice_split (λ b. b == separator) text ≡ text ∷ []
