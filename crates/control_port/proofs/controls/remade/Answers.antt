-- What may be published is akin to the last metric, so that one is on these roads.
use Rattle.std.proofs.Common.{◌≡◌, refl, sym, ◌∙◌, ap, ap₂, subst}
use Rattle.edge_graph.specs.NetworkView.{NetworkView}
use Rattle.metric_make.specs.MetricOf.{IsMetricOn}
use Rattle.cell_frame.specs.Borders.{Framed}
use Rattle.customized.specs.Exact.{Customized, customized_on}
use Rattle.control_port.proofs.controls.remade.Goals as goal

pub remake-requires-clause-base : goal.remake-requires-clause-base
remake-requires-clause-base g c κs within =
    let akin = c.last.ensures.kin (customized_on c.args.roads.now c.args.base) (c.requires.kin (customized_on c.args.roads.now c.args.base) (refl, refl)) in
    let same : c.deref.result.now.road.network ≡ c.args.roads.now.network = ap (λ (m : Customized). m.road.network) c.deref.ensures ∙ akin.0 in
    subst (λ (n : NetworkView). IsMetricOn n c.args.base.weights) (sym same) c.requires.on

pub returns : goal.returns
returns g c =
    let akin = c.last.ensures.kin (customized_on c.args.roads.now c.args.base) (c.requires.kin (customized_on c.args.roads.now c.args.base) (refl, refl)) in
    let networks : c.deref.result.now.road.network ≡ c.args.roads.now.network = ap (λ (m : Customized). m.road.network) c.deref.ensures ∙ akin.0 in
    let frames : c.deref.result.now.frame ≡ c.args.roads.now.frame = ap (λ (m : Customized). m.frame) c.deref.ensures ∙ akin.1 in
    c.in_ok-remade.ensures.metric ∙ ap₂ (λ (n : NetworkView) (f : Framed). customized_on (record { network = n; frame = f }) c.args.base) networks frames
