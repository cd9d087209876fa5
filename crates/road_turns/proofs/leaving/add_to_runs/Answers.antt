use Rattle.std.proofs.Common.{◌∙◌, ap, ◌++◌, ◌∷◌, [], List, ℕ, ℤ}
use Rattle.std.proofs.lemmas.Int.{to_z-of_z}
use Rattle.road_turns.proofs.LeavingLemmas.{runs-step}
use Rattle.road_turns.proofs.leaving.add_to_runs.Goals as goal

pub returns : goal.returns
returns c = λ n.
    let exits = simp (to_z-of_z, c.ranges.node) at c.take_runs-runs.ensures.exits in
    let rest = simp (to_z-of_z, c.ranges.node) at c.take_runs-runs.ensures.rest in
    let grown = simp (to_z-of_z, c.ranges.way) at c.in_ok-add_exit.ensures in
    let updates = simp (to_z-of_z, c.ranges.node) at c.in_ok-insert.ensures.updates in
    runs-step c.args.all.now c.take_runs-runs.new.all c.insert.new.self c.args.node n c.args.v c.args.way c.add_exit.new.runs
    (grown ∙ ap (λ (l : List (ℕ × ℤ)). l ++ (c.args.v, c.args.way) ∷ []) exits) (rest n) (updates.0 n)
