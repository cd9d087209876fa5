-- Each turn takes what lies behind one arc more.
use Rattle.std.proofs.Common.{◌<◌, ◌≤◌, length, arith}
use Rattle.list_lemmas.proofs.Gets.{Contains_get}
use Rattle.cell_customize.proofs.Bundled.{Gathers-none}
use Rattle.cell_customize.proofs.Taking.{ByArcs-more, ByArcs-all}
use Rattle.cell_customize.proofs.leaps.Gathering.take_arcs.Goals as goal

pub loop-place-init : goal.loop-place-init
loop-place-init g c = record {
  within = c.requires.from;
  gathers = Gathers-none g.met.C.Cost.laws c.args.from c.args.self.now.hops.items _ (λ v d p. let lt : p.0 < 0 = p.2 in absurd (omega (arith, lt)));
}

pub take_arc-requires-clause-named : goal.take_arc-requires-clause-named
take_arc-requires-clause-named g c = c.arcs-arcs.ensures.named c.get.result (Contains_get c.arcs-arcs.result c.loop-place.place c.get.result c.get.ensures)

pub take_arc-requires-clause-fits : goal.take_arc-requires-clause-fits
take_arc-requires-clause-fits g c = λ v t h. c.requires.fits v t (c.get.result, h)

pub take_arc-requires-clause-from : goal.take_arc-requires-clause-from
take_arc-requires-clause-from g c = c.loop-place.invariant.within

pub loop-place-preserved : goal.loop-place-preserved
loop-place-preserved g c =
    let before = c.loop-place.invariant in
    let within : c.args.from ≤ length c.loop-place.self.hops.items = before.within in
    let longer : length c.loop-place.self.hops.items ≤ length c.take_arc.new.self.hops.items = c.in_ok-take_arc.ensures.longer in
    record {
      within = omega (arith, within, longer);
      gathers = ByArcs-more g.met.C.Cost.laws (g.T.Steps.space c.args.steps.now) c.args.from c.args.x c.arcs-arcs.result c.args.paid c.loop-place.place c.get.result c.args.self.now.hops.items c.loop-place.self.hops.items c.take_arc.new.self.hops.items c.get.ensures before.gathers c.in_ok-take_arc.ensures;
    }

pub returns : goal.returns
returns g c = ByArcs-all g.met.C.Cost.laws (g.T.Steps.space c.args.steps.now) c.args.from c.args.x c.arcs-arcs.result c.args.paid c.loop-place.place c.args.self.now.hops.items c.loop-place.self.hops.items (omega arith) c.arcs-arcs.ensures.all c.loop-place.invariant.gathers
