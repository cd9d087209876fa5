-- What has a number keeps it.
use Rattle.list_lemmas.proofs.Gets.{Contains_get, get_Contains}
use Rattle.cell_customize.proofs.Locals.{on_ok}
use Rattle.cell_customize.proofs.local.Local.fill.Goals as goal

pub returns-clause-named : goal.returns-clause-named
returns-clause-named g c = on_ok c.go_on.result c.go_on.ensures.keeps (λ keeps v h.
    let k = get_Contains c.add_all.new.numbers v (c.in_ok-add_all.ensures.named v h) in
    Contains_get c.go_on.new.self.numbers k.0 v (keeps k.0 v k.1))
