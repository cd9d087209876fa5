use Rattle.std.proofs.Common.{rules, sym, FitsSigned, w64}
use Rattle.std.proofs.lemmas.Int.{to_z-of_z}
use Rattle.road_segments.specs.Located.{spot_in}
use Rattle.road_segments.proofs.spots.segment_ends.Goals as goal

pub returns : goal.returns
returns c = λ street.
    let a : FitsSigned w64 c.args.a = search rules in
    let b : FitsSigned w64 c.args.b = search rules in
    simp to_z-of_z at (c.ends_between.ensures (spot_in c.args.spots.now) street (sym c.spot_in.ensures) (sym c.spot_in-2.ensures))
