use Rattle.std.proofs.Common.{ap, arith, ◌∙◌}
use Rattle.json_text.specs.Drafts.{with_value}
use Rattle.route_steps.specs.declared.intersection_lists.Intersection.{Intersection}
use Rattle.json_text.specs.Items.{all_written, may_come, may_end, one_more}
use Rattle.step_texts.specs.Intersections.{intersection_value}
use Rattle.step_texts.proofs.intersections.push_intersections.Goals as goal

pub push_intersection-requires : goal.push_intersection-requires
push_intersection-requires c = may_come intersection_value c.args.nodes.now c.args.json.now c.loop-node.node-index c.loop-node.json c.loop-node.invariant

-- one more
pub loop-node-preserved : goal.loop-node-preserved
loop-node-preserved c =
    one_more intersection_value c.args.nodes.now c.args.json.now c.loop-node.node-index c.node-item.result c.loop-node.json _ (omega arith) c.loop-node.invariant
    (c.in_ok-push_intersection.ensures ∙ ap (λ (node : Intersection). with_value (intersection_value node) c.loop-node.json) c.node-item.is)

pub end_list-requires : goal.end_list-requires
end_list-requires c = may_end intersection_value c.args.nodes.now c.args.json.now c.loop-node.node-index c.loop-node.json c.loop-node.invariant

-- all of them
pub returns : goal.returns
returns c =
    all_written intersection_value c.args.nodes.now c.args.json.now c.loop-node.node-index c.loop-node.json _ (omega arith) c.loop-node.invariant c.in_ok-end_list.ensures.ok
