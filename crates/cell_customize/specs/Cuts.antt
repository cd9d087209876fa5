-- Where the pieces of a level begin.
use Rattle.std.proofs.Common.{◌≡◌, ℕ, ◌+◌, ◌*◌, ◌<◌, ◌≤◌, arith}
use Rattle.cell_customize.specs.Levels.{cut_at, piece_count}
use Rattle.cell_customize.specs.Piling.{more_times, times_within}

-- each piece begins where the one before it does, or behind it
pub cut_rises : (count p : ℕ) → cut_at count p ≤ cut_at count (p + 1)
cut_rises count p = let e : p * count + count ≡ (p + 1) * count = more_times p count in omega (arith, e)

-- none ends behind the last cell
pub cut_within : (count p : ℕ) → p < piece_count → cut_at count (p + 1) ≤ count
cut_within count p lt =
    let e : p * count + count ≡ (p + 1) * count = more_times p count in
    let le : p * count + count ≤ piece_count * count = times_within p piece_count count lt in
    omega (arith, e, le)

pub cut_none : (count : ℕ) → 0 ≡ cut_at count 0
cut_none count = omega arith

pub cut_all : (count : ℕ) → cut_at count piece_count ≡ count
cut_all count = omega arith
