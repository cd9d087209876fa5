use Rattle.std.proofs.Common.{◌≡◌, ◌∙◌, subst, sym}
use Rattle.std.proofs.lemmas.Option.{get_or_from_slice_get}
use Rattle.geo_integer.specs.Position.{position_of}
use Rattle.snap_index.specs.declared.grids.SegmentEnds.{SegmentEnds}
use Rattle.snap_index.specs.Index.{HasLine, IsJudged}
use Rattle.snap_index.proofs.JudgeLemmas.{beyond-judged, frame-stays, judged-near, judged-one, passed-judged}
use Rattle.snap_index.proofs.SlotLemmas.{read-is}
use Rattle.snap_index.proofs.searching.look_at.Goals as goal

-- the segment of the number
pub bounds-lines-segment : goal.bounds-lines-segment
bounds-lines-segment c = c.requires.index.order.others c.args.at _ (read-is c.args.query.now.index.now.order.items c.args.at _ c.index-segment.result.now c.requires.at (sym c.index-segment.ensures))

-- it lies outside of the frame
pub returns-then-is_outside-clause-judged : goal.returns-then-is_outside-clause-judged
returns-then-is_outside-clause-judged c =
    let here = read-is c.args.query.now.index.now.order.items c.args.at _ c.index-segment.result.now c.requires.at (sym c.index-segment.ensures) in
    let one : IsJudged c.args.query.now.lines.now c.args.query.now.base.now.weights c.args.query.now.heading (position_of c.args.query.now.from) c.args.window.reach c.args.slots.now c.index-segment.result.now = λ line is drivable.
    let equal : c.index-lines-segment.result ≡ line = c.index-lines-segment.is ∙ get_or_from_slice_get c.args.query.now.lines.now c.index-segment.result.now line _ is in
    let has : HasLine c.extent_of-extent.result line = subst (λ (l : SegmentEnds). HasLine c.extent_of-extent.result l) equal c.extent_of-extent.ensures in
    passed-judged (position_of c.args.query.now.from) c.args.window.cosine c.args.window.reach c.args.slots.now c.args.frame line c.index-segment.result.now
    (c.extent_of-extent.result, has, c.is_outside.ensures c.if-is_outside.true) c.requires.cosine c.requires.frame in
    judged-one c.args.query.now.lines.now c.args.query.now.base.now.weights c.args.query.now.heading (position_of c.args.query.now.from) c.args.window.reach c.args.query.now.index.now.order.items c.args.at c.index-segment.result.now c.args.slots.now here one

-- it lies beyond
pub returns-then-is_beyond-clause-judged : goal.returns-then-is_beyond-clause-judged
returns-then-is_beyond-clause-judged c =
    let here = read-is c.args.query.now.index.now.order.items c.args.at _ c.index-segment.result.now c.requires.at (sym c.index-segment.ensures) in
    let one : IsJudged c.args.query.now.lines.now c.args.query.now.base.now.weights c.args.query.now.heading (position_of c.args.query.now.from) c.args.window.reach c.args.slots.now c.index-segment.result.now = λ line is drivable.
    let equal : c.index-lines-segment.result ≡ line = c.index-lines-segment.is ∙ get_or_from_slice_get c.args.query.now.lines.now c.index-segment.result.now line _ is in
    let has : HasLine c.extent_of-extent.result line = subst (λ (l : SegmentEnds). HasLine c.extent_of-extent.result l) equal c.extent_of-extent.ensures in
    beyond-judged (position_of c.args.query.now.from) c.args.window.cosine c.args.window.reach c.farthest-far.result c.args.slots.now c.extent_of-extent.result line c.index-segment.result.now has (c.is_beyond.ensures c.if-is_beyond.true) c.requires.cosine c.farthest-far.ensures in
    judged-one c.args.query.now.lines.now c.args.query.now.base.now.weights c.args.query.now.heading (position_of c.args.query.now.from) c.args.window.reach c.args.query.now.index.now.order.items c.args.at c.index-segment.result.now c.args.slots.now here one

-- or it is looked at
pub consider-requires-clause-segment : goal.consider-requires-clause-segment
consider-requires-clause-segment c = c.requires.index.order.others c.args.at _ (read-is c.args.query.now.index.now.order.items c.args.at _ c.index-segment.result.now c.requires.at (sym c.index-segment.ensures))

-- the frame serves on
pub returns-then-eq-clause-frame : goal.returns-then-eq-clause-frame
returns-then-eq-clause-frame c = frame-stays (position_of c.args.query.now.from) c.args.window.cosine c.args.window.reach c.args.slots.now c.consider.new.slots c.args.frame c.consider.ensures.stay c.requires.frame

pub returns-then-eq-clause-judged : goal.returns-then-eq-clause-judged
returns-then-eq-clause-judged c =
    let here = read-is c.args.query.now.index.now.order.items c.args.at _ c.index-segment.result.now c.requires.at (sym c.index-segment.ensures) in
    judged-one c.args.query.now.lines.now c.args.query.now.base.now.weights c.args.query.now.heading (position_of c.args.query.now.from) c.args.window.reach c.args.query.now.index.now.order.items c.args.at c.index-segment.result.now c.consider.new.slots here
    (judged-near c.args.query.now.lines.now c.args.query.now.base.now.weights c.args.query.now.heading (position_of c.args.query.now.from) c.args.window.reach c.consider.new.slots c.index-segment.result.now c.consider.ensures.judged)

pub returns-clause-judged : goal.returns-clause-judged
returns-clause-judged c =
    let here = read-is c.args.query.now.index.now.order.items c.args.at _ c.index-segment.result.now c.requires.at (sym c.index-segment.ensures) in
    judged-one c.args.query.now.lines.now c.args.query.now.base.now.weights c.args.query.now.heading (position_of c.args.query.now.from) c.args.window.reach c.args.query.now.index.now.order.items c.args.at c.index-segment.result.now c.consider.new.slots here
    (judged-near c.args.query.now.lines.now c.args.query.now.base.now.weights c.args.query.now.heading (position_of c.args.query.now.from) c.args.window.reach c.consider.new.slots c.index-segment.result.now c.consider.ensures.judged)
