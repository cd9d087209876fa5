-- The lines of the query are those of the grid.
use Rattle.std.proofs.Common.{◌*◌, ◌≤◌, List, length, subst, sym}
use Rattle.std.specs.Prelude.{None}
use Rattle.geo_integer.specs.Position.{position_of}
use Rattle.snap_index.specs.Candidates.{AreSlots}
use Rattle.snap_index.specs.Index.{IsIndexOf, IsJudged}
use Rattle.snap_index.specs.declared.grids.SegmentEnds.{SegmentEnds}
use Rattle.snap_index.proofs.searching.search.Goals as goal

pub fill-requires-clause-index : goal.fill-requires-clause-index
fill-requires-clause-index c = subst (λ (lines : List SegmentEnds). IsIndexOf lines c.index-index.result.now) (sym c.ends-lines.ensures) c.index-index.ensures

pub fill-requires-clause-weights : goal.fill-requires-clause-weights
fill-requires-clause-weights c = subst (λ (lines : List SegmentEnds). 2 * length lines ≤ length c.args.base.now.weights.vertex) (sym c.ends-lines.ensures) c.requires.weights

pub fill-requires-clause-slots : goal.fill-requires-clause-slots
fill-requires-clause-slots c = subst (λ (lines : List SegmentEnds). AreSlots lines c.args.base.now.weights c.args.heading (position_of c.args.from) c.args.slots.now) (sym c.ends-lines.ensures) c.requires.slots

pub returns-clause-slots : goal.returns-clause-slots
returns-clause-slots c = subst (λ (lines : List SegmentEnds). AreSlots lines c.args.base.now.weights c.args.heading (position_of c.args.from) c.fill.new.slots) c.ends-lines.ensures c.fill.ensures.slots

pub returns-clause-judged : goal.returns-clause-judged
returns-clause-judged c = λ s. subst (λ (lines : List SegmentEnds). IsJudged lines c.args.base.now.weights c.args.heading (position_of c.args.from) None c.fill.new.slots s) c.ends-lines.ensures (c.fill.ensures.judged s)
