use Rattle.std.proofs.Common.{◌∙◌, ap, ◌++◌, ◌∷◌, [], List, ℕ}
use Rattle.std.proofs.lemmas.Int.{to_z-of_z}
use Rattle.road_turns.proofs.LeavingLemmas.{groups-step}
use Rattle.road_turns.proofs.leaving.add_to_groups.Goals as goal

pub returns : goal.returns
returns c = λ q.
    let items = simp (to_z-of_z, c.ranges.node, c.ranges.way) at c.take_group-group.ensures.items in
    let rest = simp (to_z-of_z, c.ranges.node, c.ranges.way) at c.take_group-group.ensures.rest in
    let updates = simp (to_z-of_z, c.ranges.node, c.ranges.way) at c.in_ok-insert.ensures.updates in
    groups-step c.args.groups.now c.take_group-group.new.groups c.insert.new.self (c.args.node, c.args.way) q c.args.v c.push.new.self
    (c.in_ok-push.ensures.items ∙ ap (λ (l : List ℕ). l ++ c.args.v ∷ []) items) (rest q) (updates.0 q)
