use Rattle.std.proofs.Common.{ℕ, ◌<◌, ◌++◌, ◌∷◌, [], List, drop, length, length-append, map, arith, ap, ◌∙◌}
use Rattle.std.proofs.lemmas.List.Elements.{All-push}
use Rattle.list_lemmas.proofs.Gets.{All_get}
use Rattle.search_graph.specs.Digraph.{Digraph}
use Rattle.search_graph.specs.RoadCosts.{road_cost_ops}
use Rattle.search_graph.specs.declared.costs.WeightDurLen.{WeightDurLen}
use Rattle.edge_graph.specs.NetworkView.{graph_of}
use Rattle.metric_make.specs.CopyLaws.{by_ends, turns-by_ends}
use Rattle.metric_make.proofs.CopyLemmas.{arc-step}
use Rattle.metric_make.proofs.copies.with_arcs_out_of_copies.Goals as goal

pub loop-i-init : goal.loop-i-init
loop-i-init c = record {
  enough = omega (arith, c.requires.many);
  unit = c.requires.unit;
  rest = λ cost paid.
      let network = c.args.network.now in
      ap (λ (l : List WeightDurLen). l ++ by_ends network cost (drop c.turns-i.result (graph_of network).arcs)) paid
      ∙ ap (λ (n : ℕ). map cost network.turns ++ by_ends network cost (drop n (graph_of network).arcs)) c.turns-i.ensures.value
      ∙ turns-by_ends network c.graph.ensures.sound cost;
}

pub loop-i-preserved : goal.loop-i-preserved
loop-i-preserved c =
    let lt : c.loop-i.i < length (graph_of c.args.network.now).arcs = omega (arith, c.loop-i-test.true, c.arcs-i-end.ensures, ap (λ (g : Digraph). length g.arcs) c.graph.ensures.value) in
    record {
      enough = omega (arith, c.loop-i.invariant.enough, ap length c.in_ok-push.ensures.pushed, length-append c.loop-i.costs (c.get-turn_cost.result ∷ []));
      unit = rw c.in_ok-push.ensures.pushed (All-push (λ a. road_cost_ops.units a 1) c.loop-i.costs c.get-turn_cost.result c.loop-i.invariant.unit
          (All_get (λ a. road_cost_ops.units a 1) c.loop-i.costs c.turn_of.result c.get-turn_cost.result c.loop-i.invariant.unit c.get-turn_cost.ensures));
      rest = λ cost paid.
          arc-step c.args.network.now c.graph.ensures.sound cost c.loop-i.costs c.push.new.self c.loop-i.i c.turn_of.result c.get-turn_cost.result lt c.turn_of.ensures.is
          c.get-turn_cost.ensures c.in_ok-push.ensures.pushed (c.loop-i.invariant.rest cost paid);
    }
