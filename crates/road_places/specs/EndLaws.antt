-- What follows where each vertex costs at most one unit: starts and targets cost no more.
use Rattle.std.specs.Prelude.{ℕ, ◌≤◌, Some}
use Rattle.std.specs.Option.{ForSome}
use Rattle.std.proofs.Common.{refl, subst, sym}
use Rattle.list_lemmas.proofs.Gets.{All_get}
use Rattle.road_base.specs.declared.segments.Place.{Place}
use Rattle.search_graph.specs.declared.costs.WeightDurLen.{WeightDurLen}
use Rattle.search_graph.specs.declared.ends.Start.{Start}
use Rattle.search_graph.specs.declared.ends.Target.{Target}
use Rattle.search_graph.specs.Digraph.{Weighting, IsOpen}
use Rattle.search_graph.specs.RoadCosts.{road_cost_ops}
use Rattle.metric_make.specs.MetricOf.{AreWithinUnit}
use Rattle.road_places.specs.PartLaws.{before_units, parts_within, rest_units}
use Rattle.road_places.specs.Places.{before, parts_along}
use Rattle.road_places.specs.Permitted.{IsStart, IsTarget}

open_unit : (w : Weighting WeightDurLen) (v : ℕ) (c : WeightDurLen) → AreWithinUnit w → IsOpen w v c → road_cost_ops.units c 1
open_unit w v c h o = All_get (λ x. ForSome x (λ (y : WeightDurLen). road_cost_ops.units y 1)) w.vertex v (Some c) h.vertex o c refl

pub start_unit : (w : Weighting WeightDurLen) (p : Place) (s : Start WeightDurLen) → AreWithinUnit w → IsStart w p s → road_cost_ops.units s.cost 1
start_unit w p s h (v, d, k) = rest_units k.cost (before k.cost (parts_along p v)) s.cost 1 k.is_cost (open_unit w v k.cost h k.is_open)

pub target_unit : (w : Weighting WeightDurLen) (q : Place) (t : Target WeightDurLen) → q.at ≤ 1024 → AreWithinUnit w → IsTarget w q t → road_cost_ops.units t.cost 1
target_unit w q t within h (v, d, k) =
    subst (λ (c : WeightDurLen). road_cost_ops.units c 1) (sym k.is_cost) (before_units k.cost (parts_along q v) 1 (parts_within q v within) (open_unit w v k.cost h k.is_open))
