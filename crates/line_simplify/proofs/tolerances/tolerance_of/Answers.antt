use Rattle.std.proofs.Common.{◌≡◌, ◌∙◌, List, take, ap}
use Rattle.std.specs.Int.{int_max, int_min}
use Rattle.std.proofs.lemmas.List.{take_all}
use Rattle.road_base.specs.declared.coordinates.Point.{Point}
use Rattle.line_simplify.specs.Simplified.{greatest_of, least_of}
use Rattle.line_simplify.proofs.Reaches.{reach-more, tolerance-all, tolerance-none}
use Rattle.line_simplify.proofs.tolerances.tolerance_of.Goals as goal

pub returns-in_default-clause-value : goal.returns-in_default-clause-value
returns-in_default-clause-value c = tolerance-none c.args.points.now c.in_default.ensures.cases

-- one point more
pub loop-point-preserved : goal.loop-point-preserved
loop-point-preserved c =
    let first = c.in-Some.first.now in
    let more = c.in-Some.more.now in
    let k = c.loop-point.point-index in
    let p = c.point-item.result in
    let low = c.loop-point.low in
    let high = c.loop-point.high in
    let h = c.loop-point.invariant in
    record {
      west = reach-more int_min (λ (q : Point). q.lon) first.lon more k p low.lon c.lower_corner-low.result.lon c.loop-point-test.true c.point-item.is h.west c.lower_corner-low.ensures.lon;
      east = reach-more int_max (λ (q : Point). q.lon) first.lon more k p high.lon c.upper_corner-high.result.lon c.loop-point-test.true c.point-item.is h.east c.upper_corner-high.ensures.lon;
      south = reach-more int_min (λ (q : Point). q.lat) first.lat more k p low.lat c.lower_corner-low.result.lat c.loop-point-test.true c.point-item.is h.south c.lower_corner-low.ensures.lat;
      north = reach-more int_max (λ (q : Point). q.lat) first.lat more k p high.lat c.upper_corner-high.result.lat c.loop-point-test.true c.point-item.is h.north c.upper_corner-high.ensures.lat;
    }

pub returns-clause-value : goal.returns-clause-value
returns-clause-value c =
    let first = c.in-Some.first.now in
    let more = c.in-Some.more.now in
    let h = c.loop-point.invariant in
    let all : take c.loop-point.point-index more ≡ more = take_all c.loop-point.point-index more c.loop-point-test.false in
    tolerance-all c.args.points.now first more c.extent.result c.loop-point.low.lon c.loop-point.high.lon c.loop-point.low.lat c.loop-point.high.lat c.in-Some.ensures.cases.0
    (h.west ∙ ap (λ (xs : List Point). least_of (λ (q : Point). q.lon) first.lon xs) all)
    (h.east ∙ ap (λ (xs : List Point). greatest_of (λ (q : Point). q.lon) first.lon xs) all)
    (h.south ∙ ap (λ (xs : List Point). least_of (λ (q : Point). q.lat) first.lat xs) all)
    (h.north ∙ ap (λ (xs : List Point). greatest_of (λ (q : Point). q.lat) first.lat xs) all)
    c.extent.ensures.value
