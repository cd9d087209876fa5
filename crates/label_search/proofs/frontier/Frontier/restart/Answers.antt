-- No key waits in a tree that begins anew, and nothing in an empty queue.
use Rattle.std.proofs.lemmas.Result.{on_ok_weaker}
use Rattle.label_search.proofs.Frontiers.{none_restarted}
use Rattle.label_search.proofs.frontier.Frontier.restart.Goals as goal

pub returns : goal.returns
returns g c = on_ok_weaker c.restart.result (λ e. none_restarted g.C.Cost.unranked c.args.count c.restart.new.self c.clear.new.self e c.clear.ensures) c.restart.ensures.ok
