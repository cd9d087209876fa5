use Rattle.std.proofs.Common.{rules, ◌≡◌, ◌+◌, ◌/◌, ◌≤◌, ◌∙◌, ap, arith, subst, sym, to_z, w32}
use Rattle.std.specs.Prelude.{min, pos, unsigned_abs}
use Rattle.std.specs.Int.RustNames.{FitsSigned}
use Rattle.std.proofs.lemmas.Int.{ints, to_z-of_z}
use Rattle.geo_integer.specs.Plane.{cosine_between, cosine_of}
use Rattle.geo_integer.specs.Position.{position_of}
use Rattle.snap_index.proofs.Windows.{least-cosine}
use Rattle.snap_index.proofs.searching.least_cosine.Goals as goal

pub returns : goal.returns
returns c = λ spot h.
    let lat : FitsSigned w32 c.args.from.lat = search rules in
    let most : c.min.result ≡ min (unsigned_abs c.args.from.lat + (c.args.width + 1) / 2) 90000000 = grind (arith, to_z-of_z) in
    let same : to_z w32 c.min.result ≡ pos c.min.result = omega (arith, ints) in
    subst (λ n. n ≤ cosine_between (position_of c.args.from) spot) (sym (c.cosine.ensures.value ∙ ap cosine_of same)) (least-cosine (position_of c.args.from) spot c.args.width c.min.result most h)
