use Rattle.std.proofs.Common.{◌≡◌, ℤ, Bool, true, false, not, sym, ap, ◌∙◌}
use Rattle.std.proofs.lemmas.Int.{to_z-of_z}
use Rattle.std.proofs.lemmas.Result.{IfOk-weaker}
use Rattle.road_turns.specs.Leaving.{leaving_at, group_at, open_exits}
use Rattle.road_turns.specs.Restrictions.{is_forbidden_at}
use Rattle.road_turns.proofs.LeavingLemmas.{exits_onto-one}
use Rattle.road_turns.proofs.leaving.Leaving.open_of_way.Goals as goal

pub returns-then-forbid_turn : goal.returns-then-forbid_turn
returns-then-forbid_turn c =
    let kept = c.args.restrictions.now.kept in
    let test : ℤ → Bool = λ to. not (is_forbidden_at kept c.args.node c.args.from to false) in
    let says : c.forbid_turn.result ≡ is_forbidden_at kept c.args.node c.args.from c.args.way false = simp (to_z-of_z, c.ranges.node, c.ranges.from, c.ranges.way) at c.forbid_turn.ensures in
    c.new.ensures.items
    ∙ sym (exits_onto-one test c.args.way (λ to apart. ap not (c.requires.only to apart)) false (ap not (sym says ∙ c.if-forbid_turn.true)) (leaving_at c.args.self.now.runs c.args.node))

pub returns-else-forbid_turn : goal.returns-else-forbid_turn
returns-else-forbid_turn c =
    let kept = c.args.restrictions.now.kept in
    let exits = leaving_at c.args.self.now.runs c.args.node in
    let test : ℤ → Bool = λ to. not (is_forbidden_at kept c.args.node c.args.from to false) in
    let says : c.forbid_turn.result ≡ is_forbidden_at kept c.args.node c.args.from c.args.way false = simp (to_z-of_z, c.ranges.node, c.ranges.from, c.ranges.way) at c.forbid_turn.ensures in
    let group : c.of_way.result.now ≡ group_at c.args.self.now.groups (c.args.node, c.args.way) = simp (to_z-of_z, c.ranges.node, c.ranges.way) at c.of_way.ensures in
    let its : c.of_way.result.now ≡ open_exits kept c.args.node c.args.from exits =
    group
    ∙ c.requires.groups c.args.node c.args.way
    ∙ sym (exits_onto-one test c.args.way (λ to apart. ap not (c.requires.only to apart)) true (ap not (sym says ∙ c.if-forbid_turn.false)) exits) in
    IfOk-weaker c.from_slice.result (λ row. row.items ≡ c.of_way.result.now) (λ row. row.items ≡ open_exits kept c.args.node c.args.from exits) (λ row e. e ∙ its) c.from_slice.ensures.items
