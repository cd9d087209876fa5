-- A place with a cost has an offer.
use Rattle.std.proofs.Common.{◌≡◌, ◌+◌, Some, ◌∙◌, ap, subst}
use Rattle.std.specs.List.{slice_get}
use Rattle.row_labels.specs.Lowered.{IsOffered}
use Rattle.row_labels.specs.Lowered.LowersAt.{offered}
use Rattle.row_labels.proofs.Lowering.{on_ok}
use Rattle.row_labels.proofs.rows.offer_cost.Goals as goal

pub returns-clause-lowers : goal.returns-clause-lowers
returns-clause-lowers g c =
    let at : slice_get c.args.offers.now.costs.now c.args.place ≡ Some (Some c.in-Some.cost) = c.get.ensures ∙ ap Some c.in-Some.is in
    on_ok c.lower_value.result c.lower_value.ensures.lowers
    (λ o. offered c.in-Some.cost at (subst (λ x. IsOffered g.C.Cost.ops c.args.words.now c.lower_value.new.words (c.args.first + c.args.place) x c.args.place c.args.improved.now.items c.lower_value.new.improved.items) c.plus.ensures o))
