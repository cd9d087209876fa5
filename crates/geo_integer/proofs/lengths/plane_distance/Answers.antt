use Rattle.std.proofs.Common.{◌≡◌, ℕ, ◌<◌, ◌≤◌, ◌-ℤ◌, arith, rules, subst, sym}
use Rattle.std.specs.Prelude.{unsigned_abs}
use Rattle.std.proofs.lemmas.Int.{ints}
use Rattle.geo_integer.specs.Plane.{cosine_between, plane_between}
use Rattle.geo_integer.specs.Position.{position_of}
use Rattle.geo_integer.proofs.Halves.{squares-bound}
use Rattle.geo_integer.proofs.lengths.plane_distance.Goals as goal

pub returns-clause-bound : goal.returns-clause-bound
returns-clause-bound c =
    let a = c.args.a in
    let b = c.args.b in
    let middle : cosine_between (position_of a) (position_of b) ≤ 65536 =
    subst (λ (n : ℕ). n ≤ 65536) c.middle_cosine.ensures.value c.middle_cosine.ensures.bound in
    let value : c.plane.result ≡ plane_between (position_of a) (position_of b) = search rules in
    let bound = squares-bound (unsigned_abs (b.lon -ℤ a.lon)) (cosine_between (position_of a) (position_of b)) (unsigned_abs (b.lat -ℤ a.lat)) 360000000 65536 180000000 (omega (arith, ints)) middle (omega (arith, ints)) in
    subst (λ (n : ℕ). n < 700000000000000000000000000) (sym value) (omega (arith, bound))
