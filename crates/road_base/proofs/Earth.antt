-- What bounds and coordinates say of a point is that it is the definition's.
use Rattle.std.proofs.Common.{◌≡◌, ℤ, pos, negsuc, ◌≤ℤ◌, Bool, true, false, refl, sym, ◌∙◌, ap, ap₂, Option, Some, None, option_map, ◌↔◌}
use Rattle.std.specs.Prelude.{int_le}
use Rattle.std.specs.Prelude.{IsSome, IfSome}
use Rattle.std.proofs.lemmas.Bool.{false≢true}
use lib.Dec.{T}
use Rattle.road_base.specs.Earth.{IsOnEarth}
use Rattle.road_base.specs.declared.coordinates.Point.{Point}
use Rattle.road_base.specs.Points.{test, at_most, join, on_earth, point_at}

test-is : (b : Bool) (holds : T b) → test b ≡ Some holds
test-is true holds = refl
test-is false holds = elim holds [ ]

at_most-is : (a b : ℤ) (holds : a ≤ℤ b) → at_most a b ≡ Some holds
at_most-is a b holds = ap (option_map (λ h. record { le = h })) (test-is (int_le a b) holds.le)

on_earth-is : (lon lat : ℤ) (there : IsOnEarth lon lat) → on_earth lon lat ≡ Some there
on_earth-is lon lat there =
    ap₂ (λ w e. join w e (at_most (negsuc 89999999) lat) (at_most lat (pos 90000000))) (at_most-is (negsuc 179999999) lon there.west) (at_most-is lon (pos 180000000) there.east)
    ∙ ap₂ (λ s n. join (Some there.west) (Some there.east) s n) (at_most-is (negsuc 89999999) lat there.south) (at_most-is lat (pos 90000000) there.north)

pub point_at-point : (p : Point) → Some p ≡ point_at p.lon p.lat
unfolding point_at
point_at-point p = sym (ap (option_map (λ there. record { lon = p.lon; lat = p.lat; in_range = there })) (on_earth-is p.lon p.lat p.in_range))

nowhere : (lon lat : ℤ) (o : Option (IsOnEarth lon lat)) → ¬ (IsOnEarth lon lat) → o ≡ None
nowhere lon lat None h = refl
nowhere lon lat (Some there) h = absurd (h there)

pub point_at-nowhere : (lon lat : ℤ) → ¬ (IsOnEarth lon lat) → None ≡ point_at lon lat
unfolding point_at
point_at-nowhere lon lat h = sym (ap (option_map (λ there. record { lon = lon; lat = lat; in_range = there })) (nowhere lon lat (on_earth lon lat) h))

-- where the range and the coordinates are right, the point is the definition's
pub point_at-of : (found : Option Point) (lon lat : ℤ) → (IsSome found ↔ IsOnEarth lon lat) → IfSome found (λ p. (p.lon ≡ lon) × (p.lat ≡ lat)) → found ≡ point_at lon lat
point_at-of None lon lat range value = point_at-nowhere lon lat (λ there. false≢true (range.1 there))
point_at-of (Some p) lon lat range value = point_at-point p ∙ ap₂ point_at value.0 value.1
