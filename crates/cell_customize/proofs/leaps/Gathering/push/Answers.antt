-- The hop stands at the end.
use Rattle.cell_customize.proofs.Bundled.{Gathers-push}
use Rattle.cell_customize.proofs.leaps.Gathering.push.Goals as goal

pub returns : goal.returns
returns g c = rw c.in_ok-push.ensures.items (Gathers-push g.met.C.Cost.laws c.args.from c.args.self.now.hops.items c.args.hop.head c.args.hop.cost c.requires)
