-- A vertex that has a number has it in the table.
use Rattle.std.proofs.Common.{sym}
use Rattle.std.proofs.lemmas.Option.{slice_get_past}
use Rattle.list_lemmas.proofs.Gets.{get_is}
use Rattle.cell_customize.proofs.Numbered.{none_here, none_other}
use Rattle.cell_customize.proofs.numbering.Numbering.number.Goals as goal

pub returns-in-None-clause-none : goal.returns-in-None-clause-none
returns-in-None-clause-none c =
    let at = rw c.deref.ensures.value at c.in-None.ensures.lookup in
    rw (← c.self.view_is) (none_here c.self.inside.names.items c.self.inside.table.items c.args.v c.self.invariant (slice_get_past c.self.inside.table.items c.args.v at.3))

pub returns-in-Some-clause-none : goal.returns-in-Some-clause-none
returns-in-Some-clause-none c =
    let at = rw c.deref.ensures.value at c.in-Some.ensures.lookup in
    let other = rw (← c.self.view_is) at c.checked.ensures.none in
    rw (← c.self.view_is) (none_other c.self.inside.names.items c.self.inside.table.items c.args.v c.in-Some.a.now c.checked.result c.self.invariant (get_is c.self.inside.table.items c.args.v c.in-Some.a.now at.3.0 (sym at.1)) other)
