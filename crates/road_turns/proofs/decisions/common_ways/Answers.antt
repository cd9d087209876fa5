use Rattle.std.proofs.Common.{◌≡◌, filter, take, arith, ap, ◌∙◌}
use Rattle.std.proofs.lemmas.List.{take_all}
use Rattle.turn_rules.specs.Rules.{is_among}
use Rattle.road_turns.proofs.DecisionLemmas.{out_common}
use Rattle.road_turns.proofs.decisions.common_ways.Goals as goal

pub returns : goal.returns
returns c = λ way.
    let ways = c.args.ways.now in
    let all : take c.loop-way.way-index ways ≡ ways = take_all c.loop-way.way-index ways (omega arith) in
    out_common c.args.others.now way ways c.loop-way.common.items (c.loop-way.invariant ∙ ap (filter (is_among c.args.others.now)) all)
