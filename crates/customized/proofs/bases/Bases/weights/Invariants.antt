use Rattle.std.proofs.Common.{◌≡◌, ◌∷◌, map, take}
use Rattle.customized.proofs.bases.Bases.weights.Given as goal

-- those without exclusion are copied, and those of the sets so far
abbrev pub invariant-loop-base : goal.invariant-loop-base
invariant-loop-base l = l.weights.items ≡ l.self.plain.weights ∷ map (λ base. base.weights) (take l.base-index l.base-items)
