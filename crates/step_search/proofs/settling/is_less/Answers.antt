-- The order of the type is that of its costs.
use Rattle.std.proofs.Common.{◌∙◌, ap}
use Rattle.std.specs.Ordering.{is_lt}
use Rattle.step_search.proofs.Taken.{OnTrue-Less, OnFalse-NoDearer}
use Rattle.step_search.proofs.settling.is_less.Goals as goal

pub returns-clause-yes : goal.returns-clause-yes
returns-clause-yes g c = OnTrue-Less g.met.C.Cost.laws g.C.Ord.cmp g.met.C.Cost.same_order c.args.a c.args.b c.is_lt.result (c.is_lt.ensures ∙ ap is_lt c.cmp.ensures)

pub returns-clause-no : goal.returns-clause-no
returns-clause-no g c = OnFalse-NoDearer g.met.C.Cost.laws g.C.Ord.cmp g.met.C.Cost.same_order c.args.a c.args.b c.is_lt.result (c.is_lt.ensures ∙ ap is_lt c.cmp.ensures)
