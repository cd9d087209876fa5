-- Ranks go up as coordinates do, and at one coordinate as vertices do.
use Rattle.std.proofs.Common.{◌≡◌, ℕ, ◌<◌, ℤ, arith}
use Rattle.std.specs.Int.{w32}
use Rattle.std.specs.Int.RustNames.{FitsSigned}
use Rattle.std.specs.Ordering.{int_cmp, nat_cmp, ordering_then}
use Rattle.std.proofs.lemmas.Bool.Decides.{nat_tests}
use Rattle.std.proofs.lemmas.Int.{ints}
use Rattle.cell_partition.specs.Orders.{rank}

pub cmp-rank : (c d : ℤ) (v w : ℕ) → FitsSigned w32 c → FitsSigned w32 d → v < 4294967296 → w < 4294967296 → nat_cmp (rank c v) (rank d w) ≡ ordering_then (int_cmp c d) (nat_cmp v w)
cmp-rank c d v w fits fits_too low low_too = grind (arith, ints, nat_tests)
