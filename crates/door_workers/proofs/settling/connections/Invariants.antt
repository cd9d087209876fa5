use Rattle.std.proofs.Common.{◌≡◌, ◌+◌, ◌-◌, ◌^◌, min, take, sum_by}
use Rattle.door_workers.proofs.settling.connections.Given as goal

abbrev pub invariant-loop-post : goal.invariant-loop-post
invariant-loop-post g l = l.count ≡ min (sum_by (λ p. p.connections) (take l.post-index l.posts) + l.control) (2 ^ 64 - 1)
