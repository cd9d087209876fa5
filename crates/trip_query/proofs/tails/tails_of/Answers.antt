-- Each turn has the tails of one set more.
use Rattle.std.proofs.Common.{◌≡◌, ℕ, ◌+◌, ◌*◌, ◌%◌, ◌^◌, ◌<◌, length, ◌∷◌, ◌++◌, [], sym, subst, ap, ◌∙◌, arith}
use Rattle.trip_query.specs.Tails.{AreRowsOfTails}
use Rattle.trip_query.proofs.Tailing.{sets_are, tails_more, tails_none}
use Rattle.trip_query.proofs.tails.tails_of.Goals as goal

pub loop-set-init : goal.loop-set-init
loop-set-init g c = tails_none g.met.C.Cost.laws c.requires.ready c.in_ok-tails.tails.items c.in_ok-tails.ensures.items

pub tails_of_set-requires-clause-set : goal.tails_of_set-requires-clause-set
tails_of_set-requires-clause-set g c = let n = sets_are (length c.args.paid.now.rows.now) c.requires.ready.few in omega (arith, n)

pub tails_of_set-requires-clause-tails : goal.tails_of_set-requires-clause-tails
tails_of_set-requires-clause-tails g c = subst (λ l. AreRowsOfTails g.C.Cost.ops c.args.paid.now.rows.now c.args.paid.now.ends.items c.loop-set.set l) (sym c.deref.ensures.value) c.loop-set.invariant

pub loop-set-preserved : goal.loop-set-preserved
loop-set-preserved g c =
    subst (λ l. AreRowsOfTails g.C.Cost.ops c.args.paid.now.rows.now c.args.paid.now.ends.items (c.loop-set.set + 1) l) (sym c.in_ok-push.ensures.items)
    (tails_more g.met.C.Cost.laws c.requires.ready c.loop-set.set c.loop-set.tails.items c.in_ok-values.values c.loop-set.invariant c.in_ok-values.ensures.size c.in_ok-values.ensures.each)

pub returns : goal.returns
returns g c =
    let n = sets_are (length c.args.paid.now.rows.now) c.requires.ready.few in
    let done : c.loop-set.set ≡ 2 ^ length c.args.paid.now.rows.now = omega (arith, n) in
    subst (λ n. AreRowsOfTails g.C.Cost.ops c.args.paid.now.rows.now c.args.paid.now.ends.items n c.loop-set.tails.items) done c.loop-set.invariant
