use Rattle.std.proofs.Common.{◌+◌, ◌≤◌, arith, length}
use Rattle.std.specs.Prelude.{min}
use Rattle.geo_integer.specs.Position.{position_of}
use Rattle.snap_index.proofs.JudgeLemmas.{beyond-judged, judged-end, judged-more}
use Rattle.snap_index.proofs.searching.look_through.Goals as goal

-- the leaf lies beyond
pub returns-then-is_leaf_beyond-clause-judged : goal.returns-then-is_leaf_beyond-clause-judged
returns-then-is_leaf_beyond-clause-judged c = λ i s low high at line is drivable.
    let beyond = c.is_leaf_beyond.ensures c.if-is_leaf_beyond.true i line low high (rw c.deref.ensures.value (c.requires.index.leaves i s line at is)) in
    beyond-judged (position_of c.args.query.now.from) c.args.window.cosine c.args.window.reach c.farthest-far.result c.args.slots.now beyond.0 line s beyond.1 beyond.2 c.requires.cosine c.farthest-far.ensures

-- nothing was looked at
pub loop-at-init : goal.loop-at-init
loop-at-init c = record {
  at = omega arith;
  slots = c.requires.slots;
  stay = λ remote s h. h;
  frame = c.requires.frame;
  judged = λ i s low high. absurd (omega (arith, low, high));
}

-- one segment more
pub loop-at-preserved : goal.loop-at-preserved
loop-at-preserved c = record {
  at = omega (arith, c.loop-at.invariant.at);
  slots = c.look_at-left.ensures.slots;
  stay = λ remote s h. c.look_at-left.ensures.stay remote s (c.loop-at.invariant.stay remote s h);
  frame = c.look_at-left.ensures.frame;
  judged = judged-more c.args.query.now.lines.now c.args.query.now.base.now.weights c.args.query.now.heading (position_of c.args.query.now.from) c.args.window.reach c.args.query.now.index.now.order.items c.args.first c.loop-at.at (c.loop-at.at + 1)
      c.loop-at.slots c.look_at-left.new.slots c.loop-at.invariant.judged c.look_at-left.ensures.stay c.look_at-left.ensures.judged;
}

-- all were looked at
pub returns-clause-judged : goal.returns-clause-judged
returns-clause-judged c =
    let all : min (length c.args.query.now.index.now.order.items) (c.args.first + 16) ≤ c.loop-at.at = omega arith in
    judged-end c.args.query.now.lines.now c.args.query.now.base.now.weights c.args.query.now.heading (position_of c.args.query.now.from) c.args.window.reach c.args.query.now.index.now.order.items c.args.first c.loop-at.at (c.args.first + 16) c.loop-at.slots all c.loop-at.invariant.judged
