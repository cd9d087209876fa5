-- The road is that of the metric.
use Rattle.std.proofs.Common.{refl, ap, subst, sym, ◌∙◌}
use Rattle.json_text.specs.Values.{compact_text}
use Rattle.reply_texts.specs.RouteLegs.{AreSmall}
use Rattle.reply_core.proofs.AnswerLemmas.{permitted-on, route-told, told-in-steps}
use Rattle.reply_core.proofs.route_answers.told.Goals as goal

pub route_text-requires-clause-permitted : goal.route_text-requires-clause-permitted
route_text-requires-clause-permitted c =
    permitted-on c.args.under.now.road c.network-network.result.now c.base-base.result.now c.args.places.items c.deref.result.now c.args.routes.items c.deref-2.result.now
    c.network-network.ensures c.base-base.ensures.value c.deref.ensures.value c.deref-2.ensures.value c.requires.along

pub route_text-requires-clause-small : goal.route_text-requires-clause-small
route_text-requires-clause-small c = subst AreSmall (sym c.deref-2.ensures.value) c.requires.small

pub returns-clause-in_steps : goal.returns-clause-in_steps
returns-clause-in_steps c =
    told-in-steps c.args.under.now.road c.network-network.result.now c.args.places.items _ c.args.routes.items
    c.network-network.ensures c.of.ensures c.graph-turns.ensures.sound.simple c.graph-turns.ensures.sound.in_range c.requires.placed c.requires.along

pub returns-clause-tells : goal.returns-clause-tells
returns-clause-tells c =
    let request = c.args.request.now in
    record {
      code = refl;
      status = refl;
      text = c.of-3.ensures
          ∙ c.in_ok-text.ensures
          ∙ ap compact_text
          (route-told c.args.number request.skip_waypoints c.args.own.now.telling request.points c.args.under.now.road c.network-network.result.now c.base-base.result.now c.args.places.items c.deref.result.now c.args.routes.items c.deref-2.result.now
          c.network-network.ensures c.base-base.ensures.value c.deref.ensures.value c.deref-2.ensures.value);
    }
