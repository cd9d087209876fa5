use Rattle.self_scheduling.specs.Items.{AreNumbered}
use Rattle.self_scheduling.proofs.threads.share.Given as goal

-- each item so far is that of its number
abbrev pub invariant-loop : goal.invariant-loop
invariant-loop g l = AreNumbered (g.J.Job.count l.fn.job) (g.J.Job.is_item l.fn.job) l.made.items
