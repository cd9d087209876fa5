use Rattle.std.proofs.Common.{rules, ◌<◌, ◌+◌, ◌*◌, ◌/◌, ◌^◌, ℤ, inl, inr, arith, subst, sym, w32}
use Rattle.std.specs.Prelude.{◌-ℤ◌, ◌<ℤ◌, unsigned_abs}
use Rattle.std.specs.Int.RustNames.{FitsSigned}
use Rattle.std.proofs.lemmas.Int.{ints, to_z-of_z}
use Rattle.geo_integer.specs.Position.{position_of}
use Rattle.snap_index.specs.Index.{IsFarther}
use Rattle.snap_index.specs.Nearest.{remoteness}
use Rattle.snap_index.proofs.Windows.{east-beyond, north-beyond}
use Rattle.snap_index.proofs.frames.frame_of.Goals as goal

-- a spot outside lies farther away by one of its coordinates alone
pub returns : goal.returns
returns c = λ spot out cos.
    let lon : FitsSigned w32 c.args.from.lon = search rules in
    let lat : FitsSigned w32 c.args.from.lat = search rules in
    let west : FitsSigned w32 c.below.result = search rules in
    let east : FitsSigned w32 c.above.result = search rules in
    let south : FitsSigned w32 c.below-2.result = search rules in
    let north : FitsSigned w32 c.above-2.result = search rules in
    let fits = out.0.lon in
    let near : unsigned_abs (spot.lon -ℤ c.args.from.lon) < 2 ^ 32 = omega (arith, ints, lon, fits) in
    let root : c.in-Some.far / 4294967296 < (c.isqrt-north.result + 1) * (c.isqrt-north.result + 1) = subst (λ n. n < (c.isqrt-north.result + 1) * (c.isqrt-north.result + 1)) c.in-Ok.ensures.1 c.isqrt-north.ensures.next_square_gt in
    let wests : (y : ℤ) → FitsSigned w32 y → y <ℤ c.below.result → c.longitudes-east.result < unsigned_abs (y -ℤ c.args.from.lon) = simp to_z-of_z at c.below.ensures in
    let easts : (y : ℤ) → FitsSigned w32 y → c.above.result <ℤ y → c.longitudes-east.result < unsigned_abs (y -ℤ c.args.from.lon) = simp to_z-of_z at c.above.ensures in
    let souths : (y : ℤ) → FitsSigned w32 y → y <ℤ c.below-2.result → c.isqrt-north.result < unsigned_abs (y -ℤ c.args.from.lat) = simp to_z-of_z at c.below-2.ensures in
    let norths : (y : ℤ) → FitsSigned w32 y → c.above-2.result <ℤ y → c.isqrt-north.result < unsigned_abs (y -ℤ c.args.from.lat) = simp to_z-of_z at c.above-2.ensures in
    let less : c.in-Some.far < remoteness (position_of c.args.from) spot = elim out.1 [
      | inl by_lat ↦ elim by_lat [
        | inl lt ↦ let below : spot.lat <ℤ c.below-2.result = simp to_z-of_z at lt in north-beyond (position_of c.args.from) spot c.in-Some.far c.isqrt-north.result root (souths spot.lat out.0.lat below)
        | inr lt ↦ let above : c.above-2.result <ℤ spot.lat = simp to_z-of_z at lt in north-beyond (position_of c.args.from) spot c.in-Some.far c.isqrt-north.result root (norths spot.lat out.0.lat above)
      ]
      | inr by_lon ↦ elim by_lon [
        | inl lt ↦
            let below : spot.lon <ℤ c.below.result = simp to_z-of_z at lt in
            let wide = c.longitudes-east.ensures (unsigned_abs (spot.lon -ℤ c.args.from.lon)) (wests spot.lon out.0.lon below) near in
            east-beyond (position_of c.args.from) spot c.in-Some.far c.isqrt-north.result c.args.cosine root wide cos
        | inr lt ↦
            let above : c.above.result <ℤ spot.lon = simp to_z-of_z at lt in
            let wide = c.longitudes-east.ensures (unsigned_abs (spot.lon -ℤ c.args.from.lon)) (easts spot.lon out.0.lon above) near in
            east-beyond (position_of c.args.from) spot c.in-Some.far c.isqrt-north.result c.args.cosine root wide cos
      ]
    ] in
    subst (λ far. IsFarther far (remoteness (position_of c.args.from) spot)) (sym c.in-Some.is) less
