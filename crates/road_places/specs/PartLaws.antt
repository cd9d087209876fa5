-- What the parts of a vertex cost: the first is a part of the whole, and of every longer part.
use Rattle.std.specs.Prelude.{◌≡◌, ℕ, ◌-◌, ◌*◌, ◌/◌, ◌^◌, ◌≤◌}
use Rattle.std.proofs.Common.{ap}
use Rattle.list_lemmas.proofs.Parts.{if-within, minus-within, part-more, part-rest, part-within, rest-within}
use Rattle.road_base.specs.declared.segments.Place.{Place}
use Rattle.search_graph.specs.declared.costs.WeightDurLen.{WeightDurLen}
use Rattle.search_graph.specs.RoadCosts.{parts-same, road_cost_ops}
use Rattle.road_places.specs.Places.{before, parts_along}

-- what the first n 1024ths cost is a part of the whole cost
pub before_part : (c : WeightDurLen) (n : ℕ) → n ≤ 1024 → (rest : WeightDurLen) × (c ≡ road_cost_ops.plus (before c n) rest)
before_part c n h = (
  record { weight = c.weight - c.weight * n / 1024; duration = c.duration - c.duration * n / 1024; length = c.length - c.length * n / 1024 },
  parts-same (part-rest c.weight n h) (part-rest c.duration n h) (part-rest c.length n h),
)

-- and of what more of them cost
pub before_grows : (c : WeightDurLen) (m n : ℕ) → m ≤ n → (rest : WeightDurLen) × (before c n ≡ road_cost_ops.plus (before c m) rest)
before_grows c m n h = (
  record { weight = c.weight * n / 1024 - c.weight * m / 1024; duration = c.duration * n / 1024 - c.duration * m / 1024; length = c.length * n / 1024 - c.length * m / 1024 },
  parts-same (part-more c.weight m n h) (part-more c.duration m n h) (part-more c.length m n h),
)

-- it is within the units of the whole
pub before_units : (c : WeightDurLen) (n k : ℕ) → n ≤ 1024 → road_cost_ops.units c k → road_cost_ops.units (before c n) k
before_units c n k h u = (part-within c.weight n (k * 2 ^ 32) h u.0, part-within c.duration n (k * 2 ^ 32) h u.1, part-within c.length n (k * 2 ^ 32) h u.2)

-- and so is what is left
pub rest_units : (c part rest : WeightDurLen) (k : ℕ) → c ≡ road_cost_ops.plus part rest → road_cost_ops.units c k → road_cost_ops.units rest k
rest_units c part rest k e u = (
  rest-within c.weight part.weight rest.weight (k * 2 ^ 32) (ap (λ (x : WeightDurLen). x.weight) e) u.0,
  rest-within c.duration part.duration rest.duration (k * 2 ^ 32) (ap (λ (x : WeightDurLen). x.duration) e) u.1,
  rest-within c.length part.length rest.length (k * 2 ^ 32) (ap (λ (x : WeightDurLen). x.length) e) u.2,
)

-- a place is at most the whole of a vertex along it
pub parts_within : (p : Place) (v : ℕ) → p.at ≤ 1024 → parts_along p v ≤ 1024
parts_within p v h = if-within _ p.at (1024 - p.at) 1024 h (minus-within 1024 p.at)
