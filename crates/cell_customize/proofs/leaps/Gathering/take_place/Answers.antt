-- Each arc of the head, and the head itself if it is a goal.
use Rattle.std.proofs.Common.{◌≤◌, length, inl, inr, arith}
use Rattle.cell_customize.proofs.Bundled.{Gathers-both}
use Rattle.cell_customize.proofs.Locals.{on_ok}
use Rattle.cell_customize.proofs.leaps.Gathering.take_place.Goals as goal

pub take_goal-requires : goal.take_goal-requires
take_goal-requires g c =
    let within : c.args.from ≤ length c.args.self.now.hops.items = c.requires.from in
    let longer : length c.args.self.now.hops.items ≤ length c.take_arcs.new.self.hops.items = c.in_ok-take_arcs.ensures.longer in
    omega (arith, within, longer)

pub returns : goal.returns
returns g c = on_ok c.take_goal.result c.take_goal.ensures (λ taken. Gathers-both g.met.C.Cost.laws c.args.from c.args.self.now.hops.items c.take_arcs.new.self.hops.items c.take_goal.new.self.hops.items _ _ _ (λ v d p. inl p) (λ v d p. inr p) (λ v d p. p) c.in_ok-take_arcs.ensures taken)
