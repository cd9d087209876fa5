use Rattle.std.proofs.Common.{◌≡◌, ℤ, ◌+ℤ◌, ◌-ℤ◌, arith, subst, sym, to_z, of_z}
use Rattle.std.specs.Int.{w32, w64}
use Rattle.std.specs.Int.RustNames.{FitsSigned}
use Rattle.std.proofs.lemmas.Int.{ints, to_z-of_z}
use Rattle.geo_integer.specs.Project.{IsBetween, part_of}
use Rattle.geo_integer.proofs.Halves.{fits-between}
use Rattle.list_lemmas.proofs.Between.{between-add, between-part}
use Rattle.geo_integer.proofs.nearest_place.coordinate.Goals as goal

-- a sum that fits 32 bits is the same when it is computed in 64
narrowed : (x r q p : ℤ) → FitsSigned w32 x → r ≡ to_z w32 (of_z w32 x) → q ≡ p → FitsSigned w32 (x +ℤ p)
    → to_z w32 (of_z w32 (to_z w64 (of_z w64 (to_z w64 (of_z w64 r) +ℤ to_z w64 (of_z w64 q))))) ≡ x +ℤ p
narrowed x r q p fits e f sum = omega (arith, ints)

pub returns-clause-value : goal.returns-clause-value
returns-clause-value c =
    let a = c.args.a in
    let b = c.args.b in
    let difference : FitsSigned w64 (b -ℤ a) = omega (arith, ints) in
    let part : c.part.result ≡ part_of (b -ℤ a) c.args.at = grind (arith, to_z-of_z) in
    let between = between-add a b (part_of (b -ℤ a) c.args.at) (between-part (b -ℤ a) c.args.at c.requires) in
    let fits : FitsSigned w32 (a +ℤ part_of (b -ℤ a) c.args.at) = fits-between a b _ c.ranges.a c.ranges.b between in
    narrowed a c.from.result c.part.result _ c.ranges.a c.from.ensures part fits

pub returns-clause-between : goal.returns-clause-between
returns-clause-between c =
    let a = c.args.a in
    let b = c.args.b in
    subst (λ (z : ℤ). IsBetween a b z) (sym (returns-clause-value c)) (between-add a b (part_of (b -ℤ a) c.args.at) (between-part (b -ℤ a) c.args.at c.requires))
