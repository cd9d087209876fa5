use Rattle.std.proofs.Common.{◌≡◌, ℕ, ◌<◌, Some, length, sym, subst}
use Rattle.std.specs.List.{slice_get}
use Rattle.std.specs.Option.{ForSome}
use Rattle.search_graph.specs.RoadCosts.{road_cost_ops}
use Rattle.cell_frame.specs.Cliqued.{AreExact}
use Rattle.metric_make.specs.Avoiding.{avoided}
use Rattle.customized.specs.Exact.{Customized, customized_on}
use Rattle.customized.proofs.ExclusionLemmas.{cliques-at, place-below}
use Rattle.customized.proofs.metrics.Metric.cliques.Goals as goal

pub get-requires : goal.get-requires
get-requires c =
    let own = c.self.inside in
    let among : ForSome c.args.set (λ k. k < length own.roads.network.profile.excludable) = subst (λ (m : Customized). ForSome c.args.set (λ k. k < length m.road.network.profile.excludable)) (sym c.self.view_is) c.requires in
    subst (λ (place : ℕ). place < length own.cliques) (sym c.place_of.ensures) (place-below (customized_on own.roads own.bases.plain) c.args.set own.cliques among c.self.invariant.exact)

pub returns : goal.returns
returns c =
    let own = c.self.inside in
    let among : ForSome c.args.set (λ k. k < length own.roads.network.profile.excludable) = subst (λ (m : Customized). ForSome c.args.set (λ k. k < length m.road.network.profile.excludable)) (sym c.self.view_is) c.requires in
    let at = subst (λ (place : ℕ). slice_get own.cliques place ≡ Some c.get.result.now) c.place_of.ensures c.get.ensures in
    let exact = cliques-at (customized_on own.roads own.bases.plain) c.args.set own.cliques c.get.result.now among c.self.invariant.exact at in
    subst (λ (m : Customized). AreExact road_cost_ops m.frame (avoided m.road.network c.args.set m.road.weights) c.get.result.now (length m.frame.cells.levels)) c.self.view_is exact.exact
