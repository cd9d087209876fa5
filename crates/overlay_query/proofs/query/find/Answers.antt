-- What the search finds, packed.
use Rattle.std.proofs.Common.{sym}
use Rattle.list_lemmas.proofs.Gets.{get_is}
use Rattle.overlay_query.specs.PackLaws.{walk_below, walk_some}
use Rattle.overlay_query.proofs.Finding.{AreStarts-query, NoneBetween-query}
use Rattle.overlay_query.proofs.Packing.{IsPackedLeast-from}
use Rattle.overlay_query.proofs.query.find.Goals as goal

pub pack-requires-clause-walk : goal.pack-requires-clause-walk
pack-requires-clause-walk g c =
    let least = rw c.in-Some.is at c.in_ok-answer.ensures in
    let q = c.requires.query in
    rw c.deref.ensures.value (walk_below _ _ q.lawful.space _ (AreStarts-query g.met.C.Cost.laws _ _ _ _ _ q) _ _ _ least.leads)

pub returns-in-None-clause-found : goal.returns-in-None-clause-found
returns-in-None-clause-found g c =
    NoneBetween-query g.met.C.Cost.laws _ _ _ _ _ c.requires.query c.args.target c.requires.target (rw c.in-None.is at c.in_ok-answer.ensures)

pub returns-in_ok-hops-in-Some-clause-found : goal.returns-in_ok-hops-in-Some-clause-found
returns-in_ok-hops-in-Some-clause-found g c =
    let least = rw c.in-Some.is at c.in_ok-answer.ensures in
    let q = c.requires.query in
    let some = walk_some _ _ q.lawful.space _ (AreStarts-query g.met.C.Cost.laws _ _ _ _ _ q) _ _ _ least.leads in
    rw c.of.ensures (IsPackedLeast-from g.met.C.Cost.laws _ _ _ _ _ q c.args.target c.requires.target c.in-Some.path.walk.items _ _ least c.cost_with-cost.ensures _ (rw c.deref.ensures.value at c.in_ok-hops-in-Some.ensures) c.index.result.now (get_is c.in-Some.path.walk.items 0 _ some (sym c.index.ensures)))

pub cost_with-cost-requires-clause-path : goal.cost_with-cost-requires-clause-path
cost_with-cost-requires-clause-path g c = (c.in-Some.path.walk.items, rw c.in-Some.is at c.in_ok-answer.ensures)
