use Rattle.std.proofs.Common.{◌≡◌, ℕ, ◌+◌, ◌≤◌, arith, ap, subst, sym, ◌∙◌, to_z, of_z, w32, w64}
use Rattle.std.specs.Prelude.{ℤ, ◌-ℤ◌, ◌≤ℤ◌, max, min, pos, unsigned_abs}
use Rattle.std.proofs.lemmas.Int.{ints}
use Rattle.geo_integer.specs.Plane.{plane_of}
use Rattle.geo_integer.specs.Position.{position_of}
use Rattle.geo_integer.specs.Project.{place_of, position_at}
use Rattle.line_simplify.specs.Simplified.{offset_of}
use Rattle.line_simplify.proofs.Bounding.{east-bound, east-within, lat_of, lon_of, north-bound, north-within, offset-within, same_max}
use Rattle.line_simplify.proofs.Gaps.{slack_of}
use Rattle.line_simplify.proofs.bounds.most_within.Goals as goal

slack-is : (n : ℕ) (a b : ℤ) → n ≡ slack_of (to_z w32 (of_z w32 a)) (to_z w32 (of_z w32 b)) → (pos 0 -ℤ pos 180000000) ≤ℤ a → a ≤ℤ pos 180000000 → (pos 0 -ℤ pos 180000000) ≤ℤ b → b ≤ℤ pos 180000000 → n ≡ slack_of a b
slack-is n a b e la ha lb hb =
    let i : to_z w32 (of_z w32 a) ≡ a = omega (arith, ints, la, ha) in
    let j : to_z w32 (of_z w32 b) ≡ b = omega (arith, ints, lb, hb) in
    e ∙ ap (λ (z : ℤ). slack_of z (to_z w32 (of_z w32 b))) i ∙ ap (λ (z : ℤ). slack_of a z) j

slack-lat : (n : ℕ) (a b : ℤ) → n ≡ slack_of (to_z w32 (of_z w32 a)) (to_z w32 (of_z w32 b)) → (pos 0 -ℤ pos 90000000) ≤ℤ a → a ≤ℤ pos 90000000 → (pos 0 -ℤ pos 90000000) ≤ℤ b → b ≤ℤ pos 90000000 → n ≡ slack_of a b
slack-lat n a b e la ha lb hb = slack-is n a b e (omega (arith, ints, la)) (omega (arith, ints, ha)) (omega (arith, ints, lb)) (omega (arith, ints, hb))

-- a way that is no longer than so much and some more, nor than another
within-least : (n most slack m s k bound : ℕ) → n ≤ most + slack → n ≤ bound → m ≡ most → s ≡ slack → k ≡ min (m + s) bound → (n ≤ m + s) × (n ≤ k)
within-least n most slack m s k bound h i e f g = (omega (arith, h, e, f), omega (arith, h, i, e, f, g))

least-le : (n k bound : ℕ) → k ≡ min n bound → k ≤ bound
least-le n k bound e = omega (arith, e)

wide-is : (z : ℤ) (n bound : ℕ) → z ≡ pos n → n ≤ bound → bound ≤ 360000000 → to_z w64 (of_z w64 z) ≡ pos n
wide-is z n bound e le small = omega (arith, ints, e, le, small)

-- the ways along the axes and the cosine are each no more than what the bound is made of
pub returns : goal.returns
returns c = λ p has.
    let line = c.args.line in
    let extent = c.args.extent in
    let a = c.outermost.result.0 in
    let b = c.outermost.result.1 in
    let one = c.gap_of-one.ensures.value in
    let other = c.gap_of-other.ensures.value in
    let spot = position_at (position_of line.from) (position_of line.to) (place_of (position_of p) (position_of line.from) (position_of line.to)) in
    let east-most = same_max (unsigned_abs (lon_of line a -ℤ a.lon)) (unsigned_abs (lon_of line b -ℤ b.lon)) c.gap_of-one.result.east c.gap_of-other.result.east (unsigned_abs (lon_of line p -ℤ p.lon)) (slack_of line.from.lon line.to.lon) one.east other.east (east-within line extent a b p c.outermost.ensures has) in
    let north-most = same_max (unsigned_abs (lat_of line a -ℤ a.lat)) (unsigned_abs (lat_of line b -ℤ b.lat)) c.gap_of-one.result.north c.gap_of-other.result.north (unsigned_abs (lat_of line p -ℤ p.lat)) (slack_of line.from.lat line.to.lat) one.north other.north (north-within line extent a b p c.outermost.ensures has) in
    let max-east = c.max.ensures in
    let max-north = c.max-2.ensures in
    let slack-east : c.slack.result ≡ slack_of line.from.lon line.to.lon = slack-is c.slack.result line.from.lon line.to.lon c.slack.ensures.value line.from.in_range.west line.from.in_range.east line.to.in_range.west line.to.in_range.east in
    let slack-north : c.slack-2.result ≡ slack_of line.from.lat line.to.lat = slack-lat c.slack-2.result line.from.lat line.to.lat c.slack-2.ensures.value line.from.in_range.south line.from.in_range.north line.to.in_range.south line.to.in_range.north in
    let east = within-least (unsigned_abs (lon_of line p -ℤ p.lon)) (max c.gap_of-one.result.east c.gap_of-other.result.east) (slack_of line.from.lon line.to.lon) c.max.result c.slack.result c.min.result 360000000 east-most (east-bound line p) max-east slack-east c.min.ensures in
    let north = within-least (unsigned_abs (lat_of line p -ℤ p.lat)) (max c.gap_of-one.result.north c.gap_of-other.result.north) (slack_of line.from.lat line.to.lat) c.max-2.result c.slack-2.result c.min-2.result 180000000 north-most (north-bound line p) max-north slack-north c.min-2.ensures in
    let cosine = c.greatest_cosine-cosine.ensures.value p spot has north.0 in
    let plane : c.plane.result ≡ plane_of (pos c.min.result) (pos c.min-2.result) c.greatest_cosine-cosine.result =
    c.plane.ensures
    ∙ ap (λ (z : ℤ). plane_of z (to_z w64 (of_z w64 c.from-2.result)) c.greatest_cosine-cosine.result) (wide-is c.from.result c.min.result 360000000 c.from.ensures (least-le (c.max.result + c.slack.result) c.min.result 360000000 c.min.ensures) (omega arith))
    ∙ ap (λ (z : ℤ). plane_of (pos c.min.result) z c.greatest_cosine-cosine.result) (wide-is c.from-2.result c.min-2.result 180000000 c.from-2.ensures (least-le (c.max-2.result + c.slack-2.result) c.min-2.result 180000000 c.min-2.ensures) (omega arith)) in
    subst (λ (n : ℕ). offset_of line.from line.to p ≤ n) (sym plane) (offset-within line p c.min.result c.min-2.result c.greatest_cosine-cosine.result east.1 north.1 cosine)
