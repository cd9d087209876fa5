-- The inside can be searched; what the search finds opens the shortcut, and it finds something.
use Rattle.cell_customize.specs.InnerLaws.{AreStarts-inner}
use Rattle.overlay_query.specs.PackLaws.{walk_below, walk_some}
use Rattle.path_unpack.proofs.Inside.{among, opens_nothing, finds_one, opens_packed, low_packed}
use Rattle.path_unpack.proofs.opening.opened_over.Goals as goal

pub returns-then-entry-exit-clause-opens : goal.returns-then-entry-exit-clause-opens
returns-then-entry-exit-clause-opens g c = rw c.new.ensures.items (opens_nothing g.met.C.Cost.laws _ _ _ _ c.requires.inner _ _ _ c.requires.starts c.requires.shortcut c.if-entry-exit.true)

pub restart-requires-clause-starts : goal.restart-requires-clause-starts
restart-requires-clause-starts g c = AreStarts-inner g.met.C.Cost.laws _ _ _ _ c.requires.inner c.args.entry (among g.met.C.Cost.laws _ _ _ _ c.requires.inner _ _ _ c.requires.starts c.requires.shortcut) _ c.requires.starts

pub returns-in-None-clause-opens : goal.returns-in-None-clause-opens
returns-in-None-clause-opens g c = absurd (finds_one g.met.C.Cost.laws _ _ _ _ c.requires.inner _ _ _ c.requires.starts c.requires.shortcut c.if-entry-exit.false (rw c.in-None.is at c.in_ok-answer.ensures))

pub pack-requires-clause-walk : goal.pack-requires-clause-walk
pack-requires-clause-walk g c =
    let least = rw c.in-Some.is at c.in_ok-answer.ensures in
    let fit = AreStarts-inner g.met.C.Cost.laws _ _ _ _ c.requires.inner c.args.entry (among g.met.C.Cost.laws _ _ _ _ c.requires.inner _ _ _ c.requires.starts c.requires.shortcut) _ c.requires.starts in
    rw c.deref.ensures.value (walk_below g.C.Cost.ops _ c.requires.inner.lawful.space _ fit _ _ _ least.leads)

pub pack-requires-clause-some : goal.pack-requires-clause-some
pack-requires-clause-some g c =
    let least = rw c.in-Some.is at c.in_ok-answer.ensures in
    let fit = AreStarts-inner g.met.C.Cost.laws _ _ _ _ c.requires.inner c.args.entry (among g.met.C.Cost.laws _ _ _ _ c.requires.inner _ _ _ c.requires.starts c.requires.shortcut) _ c.requires.starts in
    rw c.deref.ensures.value (walk_some g.C.Cost.ops _ c.requires.inner.lawful.space _ fit _ _ _ least.leads)

pub returns-in_ok-hops-in-Some-clause-opens : goal.returns-in_ok-hops-in-Some-clause-opens
returns-in_ok-hops-in-Some-clause-opens g c =
    let least = rw c.in-Some.is at c.in_ok-answer.ensures in
    opens_packed g.met.C.Cost.laws _ _ _ _ c.requires.inner _ _ _ c.requires.starts c.requires.shortcut c.if-entry-exit.false _ _ least _ (rw c.deref.ensures.value at c.in_ok-hops-in-Some.ensures)

pub returns-in_ok-hops-in-Some-clause-below : goal.returns-in_ok-hops-in-Some-clause-below
returns-in_ok-hops-in-Some-clause-below g c =
    let least = rw c.in-Some.is at c.in_ok-answer.ensures in
    low_packed g.met.C.Cost.laws _ _ _ _ c.requires.inner _ _ _ c.requires.starts c.requires.shortcut c.if-entry-exit.false _ _ least _ (rw c.deref.ensures.value at c.in_ok-hops-in-Some.ensures)
