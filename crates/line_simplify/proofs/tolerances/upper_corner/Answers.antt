use Rattle.std.proofs.Common.{arith}
use Rattle.std.proofs.lemmas.Int.{clamps, ints}
use Rattle.road_base.specs.Earth.{IsOnEarth}
use Rattle.line_simplify.proofs.tolerances.upper_corner.Goals as goal

-- each coordinate is one of the two points'
pub invariant_of-result : goal.invariant_of-result
invariant_of-result c =
    let here : IsOnEarth c.args.a.lon c.args.a.lat = c.args.a.in_range in
    let there : IsOnEarth c.args.b.lon c.args.b.lat = c.args.b.in_range in
    let lon = c.max.ensures.value in
    let lat = c.max-2.ensures.value in
    record {
      in_range = record {
        west = omega (arith, ints, clamps);
        east = omega (arith, ints, clamps);
        south = omega (arith, ints, clamps);
        north = omega (arith, ints, clamps);
      };
    }
