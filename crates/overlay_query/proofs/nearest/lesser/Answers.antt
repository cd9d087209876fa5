-- A cost that is less is no dearer, and where it isn't, the other is no dearer.
use Rattle.std.proofs.Common.{inl, inr, refl, sym, ◌∙◌, ap}
use Rattle.std.specs.Ordering.{is_lt}
use Rattle.overlay_query.proofs.Targets.{no_dearer_less, no_dearer_else}
use Rattle.overlay_query.proofs.nearest.lesser.Goals as goal

pub returns-in-None : goal.returns-in-None
returns-in-None g c = rw c.in-None.is (inr (refl, tt))

pub returns-then-is_lt : goal.returns-then-is_lt
returns-then-is_lt g c = rw c.in-Some.is (inr (refl, no_dearer_less g.met.C.Cost.laws g.C.Ord.cmp g.met.C.Cost.same_order c.args.other.cost c.in-Some.best.cost (sym (c.if-is_lt.ensures ∙ ap is_lt c.cmp.ensures))))

pub returns-else-is_lt : goal.returns-else-is_lt
returns-else-is_lt g c = rw c.in-Some.is (inl (refl, no_dearer_else g.met.C.Cost.laws g.C.Ord.cmp g.met.C.Cost.same_order c.args.other.cost c.in-Some.best.cost (sym (c.if-is_lt.ensures ∙ ap is_lt c.cmp.ensures))))
