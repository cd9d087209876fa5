use Rattle.std.proofs.Common.{◌≡◌, ℕ, Some, sym, ap, ◌∙◌}
use Rattle.std.specs.List.{slice_get}
use Rattle.std.proofs.lemmas.Option.{slice_get_within}
use Rattle.search_graph.specs.Digraph.{Digraph}
use Rattle.edge_graph.specs.GraphLaws.{arc-for-turn}
use Rattle.edge_graph.specs.NetworkView.{graph_of, stands}
use Rattle.metric_make.proofs.copies.turn_of.Goals as goal

-- each arc stands for a turn
pub unreachable-requires : goal.unreachable-requires
unreachable-requires c =
    let network = c.args.network.now in
    let read : slice_get (graph_of c.args.network.now).arcs c.args.arc ≡ Some (c.arc-from.result.0, c.arc-from.result.1) =
    ap (λ (g : Digraph). slice_get g.arcs c.args.arc) (sym c.graph.ensures.value) ∙ c.arc-from.ensures.is in
    let turn = arc-for-turn c.args.network.now c.graph.ensures.sound c.args.arc c.arc-from.result.0 c.arc-from.result.1 read in
    c.in-None.ensures.value turn.2
    (turn.3 ∙ ap (λ (d : ℕ). Some (d, stands network c.arc-from.result.1)) (sym c.stands_for.ensures.value) ∙ ap (λ (e : ℕ). Some (c.stands_for.result, e)) (sym c.stands_for-2.ensures.value))

pub returns-clause-within : goal.returns-clause-within
returns-clause-within c = slice_get_within c.args.network.now.turns c.in-Some.turn (c.stands_for.result, c.stands_for-2.result) c.in-Some.ensures.value
