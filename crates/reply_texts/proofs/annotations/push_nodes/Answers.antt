use Rattle.std.proofs.Common.{arith, get_or, pos, rules, w64}
use mir.Val.{SFits}
use Rattle.std.proofs.lemmas.Int.{to_z-of_z}
use Rattle.json_text.specs.Values.{whole}
use Rattle.reply_texts.specs.Legs.{nodes_value}
use Rattle.json_text.specs.Items.{all_written, may_come, may_end, one_more}
use Rattle.reply_texts.proofs.annotations.push_nodes.Goals as goal

pub whole-requires : goal.whole-requires
whole-requires c = may_come whole c.args.nodes.now c.args.json.now c.loop-node.node-index c.loop-node.json c.loop-node.invariant

-- one more
pub loop-node-preserved : goal.loop-node-preserved
loop-node-preserved c =
    let fits : SFits w64 (get_or c.args.nodes.now c.loop-node.node-index (pos 0)) = search rules in
    one_more whole c.args.nodes.now c.args.json.now c.loop-node.node-index (pos 0) c.loop-node.json _ (omega arith) c.loop-node.invariant (simp to_z-of_z at c.in_ok-whole.ensures.ok)

pub end_list-requires : goal.end_list-requires
end_list-requires c = may_end whole c.args.nodes.now c.args.json.now c.loop-node.node-index c.loop-node.json c.loop-node.invariant

-- all of them
pub returns : goal.returns
unfolding nodes_value
returns c =
    all_written whole c.args.nodes.now c.args.json.now c.loop-node.node-index c.loop-node.json _ (omega arith) c.loop-node.invariant c.in_ok-end_list.ensures.ok
