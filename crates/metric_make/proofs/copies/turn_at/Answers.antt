use Rattle.std.proofs.Common.{◌≡◌, length, Some, arith, sym, ap, ◌∙◌}
use Rattle.std.specs.List.{slice_get}
use Rattle.search_graph.specs.Digraph.{Digraph}
use Rattle.edge_graph.specs.GraphLaws.{turns-in-graph}
use Rattle.edge_graph.specs.NetworkView.{graph_of}
use Rattle.metric_make.proofs.CopyLemmas.{turn-read}
use Rattle.metric_make.proofs.copies.turn_at.Goals as goal

-- the turns are the first arcs
pub arc-from-requires : goal.arc-from-requires
arc-from-requires c =
    omega (arith, c.requires, turns-in-graph c.args.network.now, ap (λ (g : Digraph). length g.arcs) c.graph.ensures.value)

pub returns-clause-is : goal.returns-clause-is
returns-clause-is c =
    let read : slice_get (graph_of c.args.network.now).arcs c.args.i ≡ Some (c.arc-from.result.0, c.arc-from.result.1) =
    ap (λ (g : Digraph). slice_get g.arcs c.args.i) (sym c.graph.ensures.value) ∙ c.arc-from.ensures.is in
    turn-read c.args.network.now c.graph.ensures.sound c.args.i c.arc-from.result.0 c.arc-from.result.1 c.stands_for-to.result c.requires read c.stands_for-to.ensures.value

pub returns-clause-from : goal.returns-clause-from
returns-clause-from c =
    let read : slice_get (graph_of c.args.network.now).arcs c.args.i ≡ Some (c.arc-from.result.0, c.arc-from.result.1) =
    ap (λ (g : Digraph). slice_get g.arcs c.args.i) (sym c.graph.ensures.value) ∙ c.arc-from.ensures.is in
    (c.graph.ensures.sound.in_range c.args.i c.arc-from.result.0 c.stands_for-to.result
    (turn-read c.args.network.now c.graph.ensures.sound c.args.i c.arc-from.result.0 c.arc-from.result.1 c.stands_for-to.result c.requires read c.stands_for-to.ensures.value)).0
