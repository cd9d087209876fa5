use Rattle.std.proofs.Common.{◌≡◌, ◌∙◌, ℤ, List, [], Some, pos, get_or, drop, arith, rules, sym, ap, ◌&&◌, ◌||◌, w64, FitsSigned, to_z, of_z}
use Rattle.std.specs.List.{slice_get}
use Rattle.std.specs.Ordering.{int_eq}
use Rattle.std.proofs.Math.ListN.{drop_of_length-le}
use Rattle.std.proofs.lemmas.Int.{to_z-of_z}
use Rattle.std.proofs.lemmas.Option.{slice_get-get_or}
use Rattle.turn_rules.specs.Rules.{forbids_onto, is_among}
use Rattle.road_turns.specs.Decisions.{decides}
use Rattle.road_turns.proofs.DecisionLemmas.{from-step, last-way}
use Rattle.road_turns.proofs.decisions.Decisions.add.Goals as goal

pub loop-way-preserved : goal.loop-way-preserved
loop-way-preserved c =
    let ways = c.args.from.now in
    let k = c.loop-way.way-index in
    let w = get_or ways k (pos 0) in
    let at : slice_get ways k ≡ Some w = slice_get-get_or ways k (pos 0) c.loop-way-test.true in
    let fits : FitsSigned w64 (get_or ways k (pos 0)) = search rules in
    let inv = simp (to_z-of_z, c.ranges.node) at c.loop-way.invariant in
    rw (to_z-of_z w64 c.args.node c.ranges.node)
    (λ n f t back.
    let d = decides c.loop-way.self.forbidden c.loop-way.self.no_u_turn c.loop-way.self.only n f t back in
    let onto = forbids_onto c.args.sense c.args.to.now f t back in
    from-step ways k w f d (int_eq c.args.node n) onto _ at
    (c.in_ok-add_from.ensures n f t back
    ∙ ap (λ (z : ℤ). d || ((int_eq z n && int_eq (to_z w64 (of_z w64 w)) f) && onto)) (to_z-of_z w64 c.args.node c.ranges.node)
    ∙ ap (λ (z : ℤ). d || ((int_eq c.args.node n && int_eq z f) && onto)) (to_z-of_z w64 w fits))
    ∙ inv n f t back)

pub returns : goal.returns
returns c = λ n f t back.
    let inv = simp (to_z-of_z, c.ranges.node) at c.loop-way.invariant in
    let d = decides c.loop-way.self.forbidden c.loop-way.self.no_u_turn c.loop-way.self.only n f t back in
    let ways = c.args.from.now in
    let none : drop c.loop-way.way-index ways ≡ [] = drop_of_length-le ways (omega arith) in
    sym (last-way d (int_eq c.args.node n))
    ∙ ap (λ (l : List ℤ). d || (int_eq c.args.node n && (is_among l f && forbids_onto c.args.sense c.args.to.now f t back))) (sym none)
    ∙ inv n f t back
