use Rattle.std.proofs.Common.{◌+◌, ◌*◌}
use Rattle.self_scheduling.proofs.threads.+fewer.Given as goal

abbrev pub decreases-shares : goal.decreases-shares
decreases-shares g l = 2 * l.threads + 1

abbrev pub decreases-others : goal.decreases-others
decreases-others g l = 2 * l.threads
