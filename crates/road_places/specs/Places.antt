-- How a place on a road segment lies on the segment's two directions (this project's rule).
use Rattle.std.specs.Prelude.{◌≡◌, ℕ, ◌+◌, ◌-◌, ◌*◌, ◌/◌, ◌%◌, ◌==◌, ◌⊎◌, if◌then◌else◌, ◌<◌, ◌≤◌, List, length, slice_get, Some}
use Rattle.road_base.specs.declared.segments.Place.{Place}
use Rattle.search_graph.specs.declared.costs.WeightDurLen.{WeightDurLen}
use Rattle.edge_graph.specs.NetworkView.{NetworkView}

-- the place lies on a segment of the network
pub record IsPlaceOn (network : NetworkView) (p : Place) : Type 0 where
  pub on_segment : p.segment < length network.segments
  pub within : p.at ≤ 1024

-- each of these places lies on a segment of the network
abbrev pub ArePlacesOn : NetworkView → List Place → Type 0
ArePlacesOn network places = (k : ℕ) (place : Place) → slice_get places k ≡ Some place → IsPlaceOn network place

-- vertex v is a direction of segment s: 2s is that of its way, 2s + 1 the other one
abbrev pub IsDirection : ℕ → ℕ → Type 0
IsDirection s v = (v ≡ 2 * s) ⊎ (v ≡ 2 * s + 1)

-- how far along vertex v, a direction of its segment, the place lies, in 1024ths
abbrev pub parts_along : Place → ℕ → ℕ
parts_along p v = if v % 2 == 0 then p.at else 1024 - p.at

-- what the first n 1024ths of a vertex cost, rounded down in each part
abbrev pub before : WeightDurLen → ℕ → WeightDurLen
before c n = record { weight = c.weight * n / 1024; duration = c.duration * n / 1024; length = c.length * n / 1024 }
