-- Private to this crate: a link as the place in the tree that it leads to: its number is one more than the place, or 0 for none.
use Rattle.std.specs.Prelude.{◌≡◌, ℕ, zero, suc, Option, Some, None, refl}

-- the place that a number stands for
abbrev pub place_of : ℕ → Option ℕ
place_of zero = None
place_of (suc n) = Some n

-- the number of a place
abbrev pub number_of : Option ℕ → ℕ
number_of None = 0
number_of (Some n) = suc n

pub number_of-place_of : (n : ℕ) → number_of (place_of n) ≡ n
number_of-place_of zero = refl
number_of-place_of (suc n) = refl
