use Rattle.std.proofs.Common.{◌≡◌, ℤ, Bool, true, false, not, sym, ap, ◌∙◌}
use Rattle.std.proofs.lemmas.Int.{to_z-of_z}
use Rattle.road_turns.specs.Leaving.{leaving_at}
use Rattle.road_turns.specs.Restrictions.{is_forbidden_at}
use Rattle.road_turns.proofs.LeavingLemmas.{exits_onto-none}
use Rattle.road_turns.proofs.leaving.Leaving.open.Goals as goal

pub returns-in-Nothing : goal.returns-in-Nothing
returns-in-Nothing c =
    let kept = c.args.restrictions.now.kept in
    let test : ℤ → Bool = λ to. not (is_forbidden_at kept c.args.node c.args.from to false) in
    let none : (to : ℤ) → is_forbidden_at kept c.args.node c.args.from to false ≡ true = simp (to_z-of_z, c.ranges.node, c.ranges.from) at c.in-Nothing.ensures in
    c.new.ensures.items ∙ sym (exits_onto-none test (λ to. ap not (none to)) (leaving_at c.args.self.now.runs c.args.node))
