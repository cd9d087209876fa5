use Rattle.std.proofs.Common.{◌*◌, ◌<◌, FitsSigned, All, ap, length, rules, subst, sym, w64, ◌∙◌}
use Rattle.std.specs.List.{list_any}
use Rattle.std.proofs.lemmas.Int.{to_z-of_z}
use Rattle.route_steps.specs.Roundabouts.{leads_off}
use Rattle.route_steps.proofs.RoundLemmas.{has_exit-head}
use Rattle.route_steps.proofs.WayLemmas.{vertices_from-below}
use Rattle.route_steps.proofs.roundabouts.has_exit.Goals as goal

-- what leaves a node is of the network
pub any_leads_off-requires : goal.any_leads_off-requires
any_leads_off-requires c =
    let network = c.args.network.now in
    let fits : FitsSigned w64 c.head.result = search rules in
    let leaving = simp to_z-of_z at c.leaving.ensures in
    subst (All (λ v. v < 2 * length network.segments)) (sym leaving) (vertices_from-below network c.head.result)

pub returns : goal.returns
returns c =
    let network = c.args.network.now in
    let fits : FitsSigned w64 c.head.result = search rules in
    let leaving = simp to_z-of_z at c.leaving.ensures in
    c.any_leads_off.ensures ∙ ap (list_any (leads_off network)) leaving ∙ sym (has_exit-head network c.args.v c.head.result c.head.ensures)
