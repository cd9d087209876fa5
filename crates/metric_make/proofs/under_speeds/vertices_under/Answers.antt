use Rattle.std.proofs.Common.{ℕ, length, sym, subst, ap, ◌∙◌}
use Rattle.std.specs.Option.{ForSome}
use Rattle.std.proofs.lemmas.List.{length-map}
use Rattle.std.proofs.lemmas.Option.{none-some}
use Rattle.edge_graph.specs.NetworkView.{vertices_of}
use Rattle.road_segments.specs.Laws.{length-vertices}
use Rattle.search_graph.specs.RoadCosts.{road_cost_ops}
use Rattle.metric_make.specs.CopyLaws.{All-with_copies}
use Rattle.metric_make.specs.MetricOf.{IsShort, vertex_cost}
use Rattle.metric_make.specs.RowsOfWays.{AreRowsTold}
use Rattle.metric_make.proofs.under_speeds.vertices_under.Goals as goal

-- there is a cost for each vertex of the network
pub with_copies-requires : goal.with_copies-requires
with_copies-requires c =
    ap length c.in_ok-ordinary.ensures.value
    ∙ length-map (vertices_of c.args.network.now) (vertex_cost c.args.network.now.profile.by_distance c.args.rows.now)
    ∙ length-vertices c.args.network.now.segments

pub returns-clause-unit : goal.returns-clause-unit
returns-clause-unit c =
    rw c.in_ok-costs.ensures (All-with_copies c.args.network.now (λ o. ForSome o (λ x. road_cost_ops.units x 1)) (λ x e. absurd (none-some x e)) c.in_ok-ordinary.ordinary c.in_ok-ordinary.ensures.unit)

pub returns-clause-short : goal.returns-clause-short
returns-clause-short c =
    rw c.in_ok-costs.ensures (All-with_copies c.args.network.now (λ o. ForSome o IsShort) (λ x e. absurd (none-some x e)) c.in_ok-ordinary.ordinary c.in_ok-ordinary.ensures.short)

pub returns-clause-unmatched : goal.returns-clause-unmatched
returns-clause-unmatched c =
    let vs = vertices_of c.args.network.now in
    c.unmatched-unmatched.ensures vs c.args.rows.now
    (subst (λ (n : ℕ). AreRowsTold vs c.args.rows.now n c.costs_by.new.table) (sym (length-vertices c.args.network.now.segments)) c.in_ok-ordinary.ensures.told)
