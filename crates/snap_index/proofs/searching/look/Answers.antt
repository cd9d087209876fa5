use Rattle.std.proofs.Common.{arith}
use Rattle.geo_integer.specs.Position.{position_of}
use Rattle.snap_index.proofs.JudgeLemmas.{judged-all, judged-more, passed-judged}
use Rattle.snap_index.proofs.searching.look.Goals as goal

-- all up to the next number lies outside of the frame
pub loop-at-preserved-then-passed-gt0 : goal.loop-at-preserved-then-passed-gt0
loop-at-preserved-then-passed-gt0 c = record {
  slots = c.loop-at.invariant.slots;
  frame = c.loop-at.invariant.frame;
  judged = judged-more c.args.query.now.lines.now c.args.query.now.base.now.weights c.args.query.now.heading (position_of c.args.query.now.from) c.args.window.reach c.args.query.now.index.now.order.items 0 c.loop-at.at _
      c.loop-at.slots c.loop-at.slots c.loop-at.invariant.judged (λ remote s h. h) (λ i s low high at line is drivable.
      passed-judged (position_of c.args.query.now.from) c.args.window.cosine c.args.window.reach c.loop-at.slots c.loop-at.frame line s
      (c.passed_by-passed.ensures.passed c.args.query.now.lines.now i s line c.requires.index low high at is) c.requires.cosine c.loop-at.invariant.frame);
}

-- the segments of 16 numbers were looked at
pub loop-at-preserved : goal.loop-at-preserved
loop-at-preserved c = record {
  slots = c.look_through-frame.ensures.slots;
  frame = c.look_through-frame.ensures.frame;
  judged = judged-more c.args.query.now.lines.now c.args.query.now.base.now.weights c.args.query.now.heading (position_of c.args.query.now.from) c.args.window.reach c.args.query.now.index.now.order.items 0 c.loop-at.at _
      c.loop-at.slots c.look_through-frame.new.slots c.loop-at.invariant.judged c.look_through-frame.ensures.stay c.look_through-frame.ensures.judged;
}

pub returns-clause-judged : goal.returns-clause-judged
returns-clause-judged c = λ s.
    judged-all c.args.query.now.lines.now c.args.query.now.base.now.weights c.args.query.now.heading (position_of c.args.query.now.from) c.args.window.reach c.args.query.now.index.now.order.items c.loop-at.at c.loop-at.slots
    c.requires.index.order (omega arith) c.loop-at.invariant.judged s
