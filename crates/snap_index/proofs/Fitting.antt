-- What fits a coordinate's width.
use Rattle.std.proofs.Common.{arith}
use Rattle.std.specs.Prelude.{ℤ, ◌≤ℤ◌}
use Rattle.std.specs.Int.{w32}
use Rattle.std.proofs.lemmas.Int.{ints}
use Rattle.std.specs.Int.RustNames.{FitsSigned}

-- what lies between two numbers that fit it does so
pub fits_within : (a y b : ℤ) → FitsSigned w32 a → FitsSigned w32 b → a ≤ℤ y → y ≤ℤ b → FitsSigned w32 y
fits_within a y b f g low high = omega (arith, ints)
