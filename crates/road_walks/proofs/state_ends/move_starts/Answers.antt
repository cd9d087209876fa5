use Rattle.std.proofs.Common.{ℕ, ◌<◌, List, length, arith}
use Rattle.std.proofs.lemmas.List.Edits.{map_over_more}
use Rattle.search_graph.specs.declared.costs.WeightDurLen.{WeightDurLen}
use Rattle.search_graph.specs.declared.ends.Start.{Start}
use Rattle.road_walks.specs.BetweenParts.{start_moved}
use Rattle.road_walks.proofs.state_ends.move_starts.Goals as goal

-- one start more is moved
pub loop-number-preserved : goal.loop-number-preserved
loop-number-preserved c =
    let starts : List (Start WeightDurLen) = c.args.starts.now.items in
    let k : ℕ = c.loop-number.number in
    let lt : k < length starts = omega (arith, c.loop-number-test.true, c.len-number-end.ensures) in
    map_over_more (start_moved c.args.vertex) starts c.loop-number.starts.items k c.index.result.now lt c.loop-number.invariant c.index.ensures
