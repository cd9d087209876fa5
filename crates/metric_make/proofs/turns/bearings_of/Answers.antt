use Rattle.std.proofs.Common.{refl, arith}
use Rattle.metric_make.proofs.CostLemmas.{bearings-step}
use Rattle.metric_make.proofs.turns.bearings_of.Goals as goal

pub loop-s-preserved : goal.loop-s-preserved
loop-s-preserved c =
    bearings-step c.args.network.now.segments c.loop-s.s c.ends.result.0 c.ends.result.1 c.loop-s.bearings.items c.push-in-loop-s.new.self.items c.bearing-there.result c.bearing_back.result _
    (omega (arith, c.segments-s-end.ensures.value)) c.ends.ensures c.bearing-there.ensures.value c.bearing_back.ensures
    (rw (c.in_ok-push-2.ensures.items, c.in_ok-push.ensures.items) refl) c.loop-s.invariant
