-- A rank adds itself, and a cost without one, or with too long a one, nothing at least.
use Rattle.std.proofs.Common.{sym}
use Rattle.label_search.proofs.Ranking.{adds_nothing, adds_rank}
use Rattle.label_search.proofs.arc_ranks.added.Goals as goal

pub returns-in-None-clause-adds : goal.returns-in-None-clause-adds
returns-in-None-clause-adds g c = adds_nothing g.met.C.Cost.laws g.met.C.Cost.ranks c.args.cost

pub returns-then-rank-lt-TOO_LONG-clause-adds : goal.returns-then-rank-lt-TOO_LONG-clause-adds
returns-then-rank-lt-TOO_LONG-clause-adds g c = adds_rank g.met.C.Cost.laws g.met.C.Cost.ranks c.args.cost c.in-Some.rank (sym c.in-Some.ensures)

pub returns-else-rank-lt-TOO_LONG-clause-adds : goal.returns-else-rank-lt-TOO_LONG-clause-adds
returns-else-rank-lt-TOO_LONG-clause-adds g c = adds_nothing g.met.C.Cost.laws g.met.C.Cost.ranks c.args.cost
