use Rattle.std.proofs.Common.{◌≡◌, ℕ, ◌∙◌, ap, arith}
use Rattle.std.specs.Prelude.{◌-ℤ◌, unsigned_abs}
use Rattle.std.proofs.lemmas.Int.{ints}
use Rattle.geo_integer.specs.Position.{Position, position_of}
use Rattle.geo_integer.specs.Project.{place_of, position_at}
use Rattle.line_simplify.proofs.bounds.gap_of.Goals as goal

pub returns-clause-value : goal.returns-clause-value
returns-clause-value c =
    let spot = c.point_at-spot.result in
    let from = position_of c.args.line.from in
    let to = position_of c.args.line.to in
    let e : position_of spot ≡ position_at from to (place_of (position_of c.args.point) from to) = c.point_at-spot.ensures ∙ ap (λ (n : ℕ). position_at from to n) c.project.ensures.place in
    let there = spot.in_range in
    let here = c.args.point.in_range in
    let east : c.abs_diff.result ≡ unsigned_abs (spot.lon -ℤ c.args.point.lon) = omega (arith, ints, c.abs_diff.ensures, there.west, there.east, here.west, here.east) in
    let north : c.abs_diff-2.result ≡ unsigned_abs (spot.lat -ℤ c.args.point.lat) = omega (arith, ints, c.abs_diff-2.ensures, there.south, there.north, here.south, here.north) in
    record {
      east = east ∙ ap (λ (q : Position). unsigned_abs (q.lon -ℤ c.args.point.lon)) e;
      north = north ∙ ap (λ (q : Position). unsigned_abs (q.lat -ℤ c.args.point.lat)) e;
    }
