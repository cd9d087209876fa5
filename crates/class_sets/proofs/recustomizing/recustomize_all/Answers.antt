-- Each turn has the cliques of one weighting more, and its searches.
use Rattle.std.proofs.Common.{◌≡◌, ◌+◌, ◌<◌, ◌∙◌, List, length, get_or, take, ap, arith, sym, subst}
use Rattle.std.specs.List.{AllZip}
use Rattle.std.proofs.lemmas.Option.{same_Some, slice_get-get_or}
use Rattle.list_lemmas.proofs.Fronts.{all_zip-more}
use Rattle.list_lemmas.proofs.Gets.{get_is}
use Rattle.search_graph.specs.Digraph.{Weighting}
use Rattle.cell_frame.specs.Cliqued.{AreExact, CliqueLists}
use Rattle.cell_recustomize.specs.declared.places.Changed.{Changed}
use Rattle.cell_recustomize.specs.Touched.{IsTouchedCount}
use Rattle.class_sets.proofs.Counting.{kept_at, counted_more}
use Rattle.class_sets.proofs.recustomizing.recustomize_all.Goals as goal

pub recustomize_in_threads-requires-clause-old : goal.recustomize_in_threads-requires-clause-old
recustomize_in_threads-requires-clause-old g c κs within =
    let changed = c.args.changed.now in
    let k = c.loop-k.k in
    let w = c.index-weights-k.result in
    let some = c.requires.kept.changes in
    let lt : k < length changed = omega (arith, some, c.loop-k-test.true) in
    let at = get_is c.args.weights.now k w c.loop-k-test.true (sym c.index-weights-k.is) in
    let one = get_or changed k c.index-changed-k.result in
    let other = get_or changed k c.index-changed-k-in-loop-k.result in
    let first = slice_get-get_or changed k c.index-changed-k.result lt in
    let same : other ≡ one = same_Some other one (sym (slice_get-get_or changed k c.index-changed-k-in-loop-k.result lt) ∙ first) in
    kept_at g.C.Cost.ops c.args.frame.now w c.get-cliques.result.now one c.as_slice-vertices.result.now c.as_slice-arcs.result.now
    c.as_slice-vertices.ensures (c.as_slice-arcs.ensures ∙ ap (λ (x : Changed). x.arcs) same)
    (c.requires.kept.each k w c.get-cliques.result.now one at c.get-cliques.ensures first)

pub loop-k-preserved : goal.loop-k-preserved
loop-k-preserved g c =
    let frame = c.args.frame.now in
    let weights = c.args.weights.now in
    let changed = c.args.changed.now in
    let k = c.loop-k.k in
    let w = c.index-weights-k.result in
    let some = c.requires.kept.changes in
    let lt : k < length changed = omega (arith, some, c.loop-k-test.true) in
    let at = get_is weights k w c.loop-k-test.true (sym c.index-weights-k.is) in
    let one = get_or changed k c.index-changed-k.result in
    let other = get_or changed k c.index-changed-k-in-loop-k.result in
    let first = slice_get-get_or changed k c.index-changed-k.result lt in
    let same : other ≡ one = same_Some other one (sym (slice_get-get_or changed k c.index-changed-k-in-loop-k.result lt) ∙ first) in
    let arcs = c.as_slice-arcs.ensures ∙ ap (λ (x : Changed). x.arcs) same in
    let R : Weighting _ → CliqueLists _ → Type 0 = λ w cliques. AreExact g.C.Cost.ops frame w cliques (length frame.cells.levels) in
    record {
      exact =
          subst (λ (sets : List (CliqueLists _)). AllZip R (take (k + 1) weights) sets) (sym c.in_ok-push.ensures.items)
          (all_zip-more R weights c.loop-k.sets.items k w c.in_ok-made.made.cliques c.loop-k.invariant.exact at c.in_ok-made.ensures.cliques);
      counted = counted_more frame changed c.loop-k.searches k one c.in_ok-made.made.searches c.saturating_add-searches.result c.loop-k.invariant.counted first
          (subst (λ (vs : List _). IsTouchedCount frame vs one.arcs c.in_ok-made.made.searches) c.as_slice-vertices.ensures
          (subst (λ (is : List _). IsTouchedCount frame c.as_slice-vertices.result.now is c.in_ok-made.made.searches) arcs c.in_ok-made.ensures.searches))
          c.saturating_add-searches.ensures;
    }
