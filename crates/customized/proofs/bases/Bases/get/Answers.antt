use Rattle.std.proofs.Common.{◌≡◌, Some, add-one, ap, sym, ◌∙◌}
use Rattle.std.specs.Prelude.{option_map}
use Rattle.std.specs.List.{slice_get}
use Rattle.std.proofs.lemmas.Option.{slice_get-map}
use Rattle.list_lemmas.proofs.Gets.{get_is}
use Rattle.metric_make.specs.MetricOf.{MetricView}
use Rattle.customized.specs.Excluding.{place_of, weights_in}
use Rattle.customized.proofs.bases.Bases.get.Goals as goal

pub returns-in-Some : goal.returns-in-Some
returns-in-Some c =
    let bases = c.args.self.now in
    let k = c.in-Some.set in
    let at : slice_get bases.avoiding.items k ≡ Some c.index.result.now = get_is bases.avoiding.items k c.index.result.now (c.requires k c.in-Some.is) (sym c.index.ensures) in
    ap (λ o. slice_get (weights_in bases) (place_of o)) c.in-Some.is
    ∙ ap (slice_get (weights_in bases)) (add-one k)
    ∙ slice_get-map (λ (b : MetricView). b.weights) bases.avoiding.items k
    ∙ ap (option_map (λ (b : MetricView). b.weights)) at
