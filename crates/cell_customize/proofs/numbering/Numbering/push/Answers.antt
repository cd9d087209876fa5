-- The vertex stands at the end, and its place in the table.
use Rattle.std.proofs.Common.{◌≡◌, length, arith, rules}
use Rattle.list_lemmas.proofs.Gets.{get_pushed}
use Rattle.cell_customize.proofs.Numbered.{IsNumbered-longer, IsNumbered-push, Adds-push}
use Rattle.cell_customize.proofs.numbering.Numbering.push.Goals as goal

pub invariant_of-self : goal.invariant_of-self
invariant_of-self c = rw c.in_err-lengthen.ensures.longer.1 (IsNumbered-longer c.self.inside.names.items c.self.inside.table.items c.in_err-lengthen.ensures.longer.0 c.self.invariant)

pub invariant_of-self-in_err-push : goal.invariant_of-self-in_err-push
invariant_of-self-in_err-push c = rw (c.in_err-push.ensures.items, c.in_ok-lengthen.ensures.longer.1) (IsNumbered-longer c.self.inside.names.items c.self.inside.table.items c.in_ok-lengthen.ensures.longer.0 c.self.invariant)

pub invariant_of-self-2 : goal.invariant_of-self-2
invariant_of-self-2 c =
    let longer = IsNumbered-longer c.self.inside.names.items c.self.inside.table.items c.in_ok-lengthen.ensures.longer.0 c.self.invariant in
    let new = rw (← c.self.view_is) at c.requires in
    let n : c.len-a.result ≡ length c.self.inside.names.items = search rules in
    rw (c.in_ok-push.ensures.items, n) (IsNumbered-push c.self.inside.names.items c.lengthen.new.table.items c.args.v (rw c.in_ok-lengthen.ensures.longer.1 longer) new c.in_ok-lengthen.ensures.long (omega (arith, c.if-a.false, n)))

pub returns-clause-number : goal.returns-clause-number
returns-clause-number c =
    let n : c.len-a.result ≡ length c.self.inside.names.items = search rules in
    rw (c.in_ok-push.ensures.items, n) (get_pushed c.self.inside.names.items c.args.v)

pub returns-clause-adds : goal.returns-clause-adds
returns-clause-adds c = rw (c.in_ok-push.ensures.items, ← c.self.view_is) (Adds-push c.self.inside.names.items c.args.v)
