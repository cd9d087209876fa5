use Rattle.std.proofs.Common.{rules, ◌≡◌, ℤ, ◌<◌, ◌≤◌, ◌≤ℤ◌, arith, subst, sym, w32}
use Rattle.std.specs.Prelude.{◌-ℤ◌, pos, unsigned_abs}
use Rattle.std.specs.Int.RustNames.{FitsSigned}
use Rattle.std.proofs.lemmas.Bool.{ltb-true}
use Rattle.std.proofs.lemmas.Int.{to_z-of_z}
use Rattle.geo_integer.specs.Plane.{plane_of}
use Rattle.geo_integer.specs.Position.{position_of}
use Rattle.snap_index.specs.Index.{IsFarther}
use Rattle.snap_index.specs.Nearest.{remoteness}
use Rattle.snap_index.proofs.Windows.{plane-grows}
use Rattle.snap_index.proofs.extents.is_beyond.Goals as goal

-- the coordinates of the point and of the extent are numbers of their type
pub returns : goal.returns
returns c = λ t spot within cos.
    let here : FitsSigned w32 c.args.from.lon = search rules in
    let there : FitsSigned w32 c.args.from.lat = search rules in
    let west : FitsSigned w32 c.args.extent.west = search rules in
    let east : FitsSigned w32 c.args.extent.east = search rules in
    let south : FitsSigned w32 c.args.extent.south = search rules in
    let north : FitsSigned w32 c.args.extent.north = search rules in
    let lon : (y : ℤ) → c.args.extent.west ≤ℤ y → y ≤ℤ c.args.extent.east → c.gap_between.result ≤ unsigned_abs (y -ℤ c.args.from.lon) = simp to_z-of_z at c.gap_between.ensures in
    let lat : (y : ℤ) → c.args.extent.south ≤ℤ y → y ≤ℤ c.args.extent.north → c.gap_between-2.result ≤ unsigned_abs (y -ℤ c.args.from.lat) = simp to_z-of_z at c.gap_between-2.ensures in
    let e : c.min-east.result ≤ unsigned_abs (spot.lon -ℤ c.args.from.lon) = let g = lon spot.lon within.west within.east in omega (arith, g) in
    let n : c.min-north.result ≤ unsigned_abs (spot.lat -ℤ c.args.from.lat) = let g = lat spot.lat within.south within.north in omega (arith, g) in
    let most = plane-grows (position_of c.args.from) spot c.min-east.result c.min-north.result c.args.cosine e n cos in
    let p : c.plane.result ≡ plane_of (pos c.min-east.result) (pos c.min-north.result) c.args.cosine = grind (arith, to_z-of_z) in
    let lt : c.in-Some.far < c.plane.result = ltb-true _ _ t in
    subst (λ far. IsFarther far (remoteness (position_of c.args.from) spot)) (sym c.in-Some.is) (omega (arith, lt, p, most))
