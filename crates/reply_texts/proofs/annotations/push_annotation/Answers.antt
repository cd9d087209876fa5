use Rattle.std.proofs.Common.{ap, codes, sym, ◌∙◌, ◌++◌}
use Rattle.json_text.specs.declared.draft.Container.TheVariants as container
use Rattle.json_text.specs.Drafts.{begun, ended}
use Rattle.json_text.specs.WholeLaws.{object_written}
use Rattle.reply_texts.specs.Costs.{costs_value}
use Rattle.reply_texts.specs.Legs.{annotation_value, nodes_value}
use Rattle.reply_texts.specs.Optional.{member_if}
use Rattle.reply_texts.specs.declared.cost_parts.CostPart.TheVariants as part
use Rattle.reply_texts.proofs.MemberLemmas.{five-members}
use Rattle.reply_texts.proofs.annotations.push_annotation.Goals as goal

pub returns : goal.returns
unfolding annotation_value
returns c =
    let asked = c.args.asked in
    let paid = c.args.paid.now in
    let distance = member_if asked.distance (codes "distance") (costs_value part.Length paid) in
    let duration = member_if asked.duration (codes "duration") (costs_value part.Duration paid) in
    let weight = member_if asked.weight (codes "weight") (costs_value part.Weight paid) in
    let nodes = member_if asked.nodes (codes "nodes") (nodes_value c.args.nodes.now) in
    let speed = member_if asked.speed (codes "speed") (costs_value part.Speed paid) in
    rw (c.in_ok-end_object.ensures.ok, c.in_ok-push_costs_member-4.ensures.ok, c.in_ok-push_nodes_member.ensures.ok, c.in_ok-push_costs_member-3.ensures.ok, c.in_ok-push_costs_member-2.ensures.ok, c.in_ok-push_costs_member.ensures.ok, c.in_ok-begin_object.ensures.ok)
    (ap (ended container.Object) (sym (five-members distance duration weight nodes speed (begun container.Object c.args.json.now)))
    ∙ object_written (distance ++ duration ++ weight ++ nodes ++ speed) c.args.json.now)
