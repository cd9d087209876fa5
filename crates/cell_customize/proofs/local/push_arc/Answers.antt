-- An arc that is open has one hop, and one that is closed none.
use Rattle.std.proofs.Common.{inl}
use Rattle.std.proofs.lemmas.Option.{same_Some}
use Rattle.cell_customize.proofs.Numbered.{Keeps-refl, Keeps-push, Grows-refl, Grows-adds}
use Rattle.cell_customize.proofs.Locals.{AreHops-closed, AreHops-one, never_some}
use Rattle.cell_customize.proofs.local.push_arc.Goals as goal

pub returns-in-None-clause-grows : goal.returns-in-None-clause-grows
returns-in-None-clause-grows g c = Grows-refl _ c.args.numbers.now

pub returns-in-None-clause-keeps : goal.returns-in-None-clause-keeps
returns-in-None-clause-keeps g c = Keeps-refl c.args.hops.now.items

pub returns-in-None-clause-hops : goal.returns-in-None-clause-hops
returns-in-None-clause-hops g c = AreHops-closed (g.T.Steps.space c.args.steps.now) c.args.u c.args.numbers.now c.args.hops.now.items c.args.arc (λ v s h. never_some _ (c.in-None.ensures.all v s h))

pub returns-in_ok-push-in-Some-clause-grows : goal.returns-in_ok-push-in-Some-clause-grows
returns-in_ok-push-in-Some-clause-grows g c = Grows-adds _ c.args.numbers.now c.add.new.self c.in-Some.hop.head (c.requires.searched.space.heads c.args.u c.in-Some.hop.head c.in-Some.hop.cost (inl (c.args.arc, c.in-Some.ensures.some))) c.in_ok-head-in-Some.ensures.adds

pub returns-in_ok-push-in-Some-clause-keeps : goal.returns-in_ok-push-in-Some-clause-keeps
returns-in_ok-push-in-Some-clause-keeps g c = rw c.in_ok-push-in-Some.ensures.items (Keeps-push c.args.hops.now.items (record { head = c.in_ok-head-in-Some.head; cost = c.in-Some.hop.cost }))

pub returns-in_ok-push-in-Some-clause-hops : goal.returns-in_ok-push-in-Some-clause-hops
returns-in_ok-push-in-Some-clause-hops g c = rw c.in_ok-push-in-Some.ensures.items (AreHops-one (g.T.Steps.space c.args.steps.now) c.args.u c.add.new.self c.args.hops.now.items c.args.arc c.in_ok-head-in-Some.head c.in-Some.hop c.in_ok-head-in-Some.ensures.number c.in-Some.ensures.some (λ w t h. same_Some c.in-Some.hop (record { head = w; cost = t }) (c.in-Some.ensures.all w t h)))
