-- Intersections by their parts.
use Rattle.std.proofs.Common.{◌≡◌, ◌≢◌, ℕ, ◌-◌, Bool, List, Option, eqb, sym}
use Rattle.std.specs.Prelude.{slice_index}
use Rattle.std.proofs.lemmas.Bool.{cond-false, ne_eqb}
use Rattle.road_base.specs.declared.coordinates.Point.{Point}
use Rattle.edge_graph.specs.NetworkView.{NetworkView}
use Rattle.route_steps.specs.Intersections.{departure_onto, intersection_at, intersection_between}
use Rattle.route_steps.specs.Points.{point_in}
use Rattle.route_steps.specs.declared.intersection_lists.Intersection.{Intersection}

-- an intersection by its parts
pub intersection-same : (location : Point) (bearings bearings' : List ℕ) (entry entry' : List Bool) (enter enter' leave leave' : Option ℕ) → bearings ≡ bearings' → entry ≡ entry' → enter ≡ enter' → leave ≡ leave'
    → ◌≡◌ {A = Intersection} (record { location = location; bearings = bearings; entry = entry; enter = enter; leave = leave }) (record { location = location; bearings = bearings'; entry = entry'; enter = enter'; leave = leave' })
intersection-same location bearings bearings' entry entry' enter enter' leave leave' e f g h = cc

-- behind its first vertex a walk meets nodes between two
pub intersection_at-behind : (network : NetworkView) (walk : List ℕ) (points : List Point) (k : ℕ) → k ≢ 0 → intersection_between network (point_in points k) (slice_index walk (k - 1)) (slice_index walk k) ≡ intersection_at network walk points k
intersection_at-behind network walk points k behind =
    sym (cond-false (eqb k 0) (departure_onto network (point_in points 0) (slice_index walk 0)) (intersection_between network (point_in points k) (slice_index walk (k - 1)) (slice_index walk k)) (ne_eqb k 0 behind))
