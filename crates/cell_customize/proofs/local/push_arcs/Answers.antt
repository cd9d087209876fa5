-- Each turn has the hop of one arc more.
use Rattle.std.proofs.Common.{◌<◌, ◌≤◌, length, arith}
use Rattle.std.proofs.lemmas.Option.{slice_get_within}
use Rattle.list_lemmas.proofs.Gets.{Contains_get, get_Contains}
use Rattle.cell_customize.proofs.Numbered.{Keeps-refl, Keeps-trans, Grows-refl, Grows-trans, keeps_length}
use Rattle.cell_customize.proofs.Locals.{AreHops-none, AreHops-more, AreHops-as, one_more_arc}
use Rattle.cell_customize.proofs.local.push_arcs.Goals as goal

pub loop-place-init : goal.loop-place-init
loop-place-init g c = record {
  grows = Grows-refl _ c.args.numbers.now;
  keeps = Keeps-refl c.args.hops.now.items;
  hops = AreHops-none (g.T.Steps.space c.args.steps.now) c.args.u c.args.numbers.now c.args.hops.now.items _ (λ arc h. absurd (omega (arith, h.1)));
}

pub push_arc-requires-clause-named : goal.push_arc-requires-clause-named
push_arc-requires-clause-named g c = c.arcs-arcs.ensures.named c.get.result (Contains_get c.arcs-arcs.result c.loop-place.place c.get.result c.get.ensures)

pub loop-place-preserved : goal.loop-place-preserved
loop-place-preserved g c =
    let before = c.loop-place.invariant in
    let S = g.T.Steps.space c.args.steps.now in
    let le : length c.args.hops.now.items ≤ length c.loop-place.hops.items = keeps_length c.args.hops.now.items c.loop-place.hops.items before.keeps _ (omega arith) in
    record {
      grows = Grows-trans _ c.args.numbers.now c.loop-place.numbers c.push_arc.new.numbers before.grows c.in_ok-push_arc.ensures.grows;
      keeps = Keeps-trans c.args.hops.now.items c.loop-place.hops.items c.push_arc.new.hops.items before.keeps c.in_ok-push_arc.ensures.keeps;
      hops = AreHops-as S c.args.u c.push_arc.new.numbers c.push_arc.new.hops.items (length c.args.hops.now.items) _ _ (λ arc v s h done. one_more_arc c.arcs-arcs.result c.loop-place.place c.get.result arc c.get.ensures done)
          (AreHops-more S c.args.u c.loop-place.numbers c.push_arc.new.numbers c.loop-place.hops.items c.push_arc.new.hops.items (length c.args.hops.now.items) c.get.result _ c.in_ok-push_arc.ensures.grows.keeps c.in_ok-push_arc.ensures.keeps le before.hops c.in_ok-push_arc.ensures.hops);
    }

pub returns-clause-grows : goal.returns-clause-grows
returns-clause-grows g c = c.loop-place.invariant.grows

pub returns-clause-keeps : goal.returns-clause-keeps
returns-clause-keeps g c = c.loop-place.invariant.keeps

pub returns-clause-hops : goal.returns-clause-hops
returns-clause-hops g c = AreHops-as (g.T.Steps.space c.args.steps.now) c.args.u c.loop-place.numbers c.loop-place.hops.items (length c.args.hops.now.items) _ _
    (λ arc v s h done.
    let k = get_Contains c.arcs-arcs.result arc (c.arcs-arcs.ensures.all arc v s h) in
    let lt : k.0 < length c.arcs-arcs.result = slice_get_within c.arcs-arcs.result k.0 arc k.1 in
    (k.0, omega arith, k.1)) c.loop-place.invariant.hops
