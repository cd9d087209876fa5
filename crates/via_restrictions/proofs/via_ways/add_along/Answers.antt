use Rattle.std.proofs.Common.{◌∙◌, ap, ◌++◌, ◌∷◌, [], List, ℕ}
use Rattle.std.proofs.lemmas.Int.{to_z-of_z}
use Rattle.via_restrictions.proofs.ViaLemmas.{runs-put}
use Rattle.via_restrictions.proofs.via_ways.add_along.Goals as goal

pub returns : goal.returns
returns c = λ w.
    let items = simp (to_z-of_z, c.ranges.way) at c.take_run-run.ensures.items in
    let rest = simp (to_z-of_z, c.ranges.way) at c.take_run-run.ensures.rest in
    let updates = simp (to_z-of_z, c.ranges.way) at c.in_ok-insert.ensures.updates in
    runs-put c.args.along.now c.take_run-run.new.along c.insert.new.self c.args.way w c.args.v c.push.new.self
    (c.in_ok-push.ensures.items ∙ ap (λ (l : List ℕ). l ++ c.args.v ∷ []) items) (rest w) (updates.0 w)
