use Rattle.std.proofs.Common.{refl, arith}
use Rattle.customized.proofs.MidpointLemmas.{midpoints-step}
use Rattle.customized.proofs.midpoints.ordinary_midpoints.Goals as goal

pub loop-s-preserved : goal.loop-s-preserved
loop-s-preserved c =
    midpoints-step c.args.network.now.segments c.loop-s.s c.ends.result.0 c.ends.result.1 c.loop-s.midpoints.items c.push-in-loop-s.new.self.items c.midpoint.result c.midpoint-in-loop-s.result _
    (omega (arith, c.segments-s-end.ensures.value)) c.ends.ensures c.midpoint.ensures c.midpoint-in-loop-s.ensures
    (rw (c.in_ok-push-2.ensures.items, c.in_ok-push.ensures.items) refl) c.loop-s.invariant
