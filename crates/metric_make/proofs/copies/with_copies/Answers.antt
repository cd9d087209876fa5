use Rattle.std.proofs.Common.{◌≡◌, ℕ, ◌*◌, ◌-◌, ◌<◌, ◌≤◌, ◌++◌, List, Option, None, get_or, length, map, arith, sym, ap, ◌∙◌}
use Rattle.std.proofs.lemmas.List.{length-map, take_all}
use Rattle.search_graph.specs.Digraph.{Digraph}
use Rattle.search_graph.specs.declared.costs.WeightDurLen.{WeightDurLen}
use Rattle.edge_graph.specs.GraphLaws.{graph-vertices}
use Rattle.edge_graph.specs.NetworkView.{copies_in, graph_of}
use Rattle.via_paths.specs.Forbidden.{last_of}
use Rattle.metric_make.proofs.CopyLemmas.{copy-step}
use Rattle.metric_make.proofs.copies.with_copies.Goals as goal

pub loop-q-preserved : goal.loop-q-preserved
loop-q-preserved c =
    let far : 2 * length c.args.network.now.segments ≤ c.loop-q.q = c.loop-q.invariant.from in
    let lt : c.loop-q.q < (graph_of c.args.network.now).vertices = omega (arith, c.loop-q-test.true, c.vertices-q-end.ensures, ap (λ (g : Digraph). g.vertices) c.graph.ensures.value) in
    record {
      from = omega (arith, far);
      paid = copy-step c.args.network.now c.graph.ensures.sound c.args.costs c.loop-q.costs c.push.new.self c.loop-q.q c.get-cost.result c.requires far lt
          (omega (arith, c.stands_for.ensures.value, c.stands_for.ensures.ordinary)) c.loop-q.invariant.paid (rw (sym c.stands_for.ensures.value) c.get-cost.ensures) c.in_ok-push.ensures.pushed;
    }

pub returns : goal.returns
returns c =
    let n : ℕ = 2 * length c.args.network.now.segments in
    let behind : List (Option WeightDurLen) = map (λ word. get_or c.args.costs (last_of word) None) (copies_in c.args.network.now) in
    let many : length behind ≡ length (copies_in c.args.network.now) = length-map (copies_in c.args.network.now) (λ word. get_or c.args.costs (last_of word) None) in
    let all : length behind ≤ c.loop-q.q - n =
    omega (arith, many, c.loop-q-test.false, c.vertices-q-end.ensures, ap (λ (g : Digraph). g.vertices) c.graph.ensures.value, graph-vertices c.args.network.now) in
    c.loop-q.invariant.paid ∙ ap (λ (l : List (Option WeightDurLen)). c.args.costs ++ l) (take_all (c.loop-q.q - n) behind all)
