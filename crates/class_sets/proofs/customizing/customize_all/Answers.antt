-- Each turn has the cliques of one weighting more.
use Rattle.std.proofs.Common.{◌+◌, List, length, take, sym, subst}
use Rattle.std.specs.List.{AllZip}
use Rattle.list_lemmas.proofs.Fronts.{all_zip-more}
use Rattle.list_lemmas.proofs.Gets.{get_is}
use Rattle.search_graph.specs.Digraph.{Weighting}
use Rattle.cell_frame.specs.Cliqued.{AreExact, CliqueLists}
use Rattle.class_sets.proofs.customizing.customize_all.Goals as goal

pub loop-weighting-preserved : goal.loop-weighting-preserved
loop-weighting-preserved g c =
    let frame = c.args.frame.now in
    let weights = c.args.weights.now in
    let k = c.loop-weighting.weighting-index in
    let w = c.weighting-item.result in
    let at = get_is weights k w c.loop-weighting-test.true (sym c.weighting-item.is) in
    let R : Weighting _ → CliqueLists _ → Type 0 = λ w cliques. AreExact g.C.Cost.ops frame w cliques (length frame.cells.levels) in
    subst (λ (sets : List (CliqueLists _)). AllZip R (take (k + 1) weights) sets) (sym c.in_ok-push.ensures.items)
    (all_zip-more R weights c.loop-weighting.sets.items k w c.in_ok-cliques.cliques c.loop-weighting.invariant at c.in_ok-cliques.ensures)
