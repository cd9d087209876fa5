use Rattle.std.proofs.Common.{◌∙◌, ap, sym, ◌++◌, ◌∷◌, [], List}
use Rattle.snap_index.specs.Ends.{all_ends}
use Rattle.snap_index.specs.declared.grids.SegmentEnds.{SegmentEnds}
use Rattle.snap_index.proofs.EndLemmas.{line-by_ends}
use Rattle.list_lemmas.proofs.Fronts.{take-get}
use Rattle.snap_index.proofs.grids.ends_of.Goals as goal

-- one line more
pub loop-segment-preserved : goal.loop-segment-preserved
loop-segment-preserved c =
    let lines = all_ends c.args.network.now.segments in
    let line = line-by_ends c.args.network.now.segments c.loop-segment.segment c.ends.result.0 c.ends.result.1 c.ends.ensures in
    c.in_ok-push.ensures.items ∙ ap (λ (front : List SegmentEnds). front ++ record { from = c.ends.result.0; to = c.ends.result.1 } ∷ []) c.loop-segment.invariant ∙ sym (take-get lines c.loop-segment.segment _ line)
