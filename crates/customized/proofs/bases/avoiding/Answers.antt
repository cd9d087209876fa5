use Rattle.std.proofs.Common.{arith, ap, map, ◌∙◌}
use Rattle.std.proofs.lemmas.List.{take_all}
use Rattle.metric_make.specs.Avoiding.{avoided}
use Rattle.metric_make.specs.MetricOf.{MetricView}
use Rattle.customized.specs.Excluding.{sets}
use Rattle.customized.proofs.ExclusionLemmas.{length-sets, sets-step}
use Rattle.customized.proofs.bases.avoiding.Goals as goal

pub loop-set-preserved : goal.loop-set-preserved
loop-set-preserved c =
    sets-step c.args.network.now c.args.plain.now.weights c.loop-set.set c.loop-set.avoiding.items c.push.new.self.items c.in_ok-base.base (omega (arith, c.loop-set-test.true, c.in_ok-count.ensures))
    (ap (λ (b : MetricView). b.weights) c.in_ok-base.ensures.value) c.in_ok-push.ensures.items c.loop-set.invariant

-- each set has them
pub returns : goal.returns
returns c =
    let network = c.args.network.now in
    c.loop-set.invariant
    ∙ ap (λ l. map (λ set. avoided network set c.args.plain.now.weights) l) (take_all c.loop-set.set (sets network) (omega (arith, length-sets network, c.loop-set-test.false, c.in_ok-count.ensures)))
