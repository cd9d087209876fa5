use Rattle.std.proofs.Common.{◌≡◌, map, take}
use Rattle.metric_make.specs.Avoiding.{avoided}
use Rattle.customized.specs.Excluding.{sets}
use Rattle.customized.proofs.bases.avoiding.Given as goal

-- the sets so far have their costs
abbrev pub invariant-loop-set : goal.invariant-loop-set
invariant-loop-set l = map (λ base. base.weights) l.avoiding.items ≡ map (λ set. avoided l.network set l.plain.weights) (take l.set (sets l.network))
