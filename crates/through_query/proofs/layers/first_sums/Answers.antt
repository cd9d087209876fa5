-- Each turn has one state more.
use Rattle.std.proofs.Common.{◌+◌, sym, subst}
use Rattle.through_query.specs.Layers.{IsStart}
use Rattle.through_query.proofs.Arriving.{start_more}
use Rattle.through_query.proofs.layers.first_sums.Goals as goal

pub loop-preserved : goal.loop-preserved
loop-preserved c =
    subst (λ l. IsStart (c.loop.counter + 1) l) (sym c.in_ok-push.ensures.items) (start_more c.loop.counter c.loop.sums.items c.zero.result c.loop.invariant c.zero.ensures.value c.zero.ensures.room)
