use Rattle.std.proofs.Common.{◌≡◌, ℤ, ◌+◌, Bool, pos, ◌&&◌, drop, get_or, Some, sym, ap, ◌∙◌, rules, w64, FitsSigned, to_z, of_z}
use Rattle.std.specs.HashSet.{contains}
use Rattle.std.specs.List.{list_all, slice_get}
use Rattle.std.proofs.lemmas.Int.{to_z-of_z}
use Rattle.std.proofs.lemmas.Option.{slice_get-get_or}
use Rattle.road_turns.specs.RestrictionParts.{pair_eq}
use Rattle.road_turns.specs.DropLaws.{list_all-drop}
use Rattle.road_turns.proofs.restrictions.all_meet.Goals as goal

pub returns-then-not-contains : goal.returns-then-not-contains
returns-then-not-contains c =
    let ways = c.args.ways.now in
    let k = c.loop-way.way-index in
    let w = get_or ways k (pos 0) in
    let at : slice_get ways k ≡ Some w = slice_get-get_or ways k (pos 0) c.loop-way-test.true in
    let fits : FitsSigned w64 (get_or ways k (pos 0)) = search rules in
    let test : ℤ → Bool = λ way. contains pair_eq c.args.met.now (c.args.node, way) in
    let inv = simp (to_z-of_z, c.ranges.node) at c.loop-way.invariant in
    let says : c.contains.result ≡ test w =
    c.contains.ensures
    ∙ ap (λ (z : ℤ). contains pair_eq c.args.met.now (z, to_z w64 (of_z w64 w))) (to_z-of_z w64 c.args.node c.ranges.node)
    ∙ ap (λ (z : ℤ). contains pair_eq c.args.met.now (c.args.node, z)) (to_z-of_z w64 w fits) in
    sym (sym inv ∙ list_all-drop test ways k w at ∙ ap (λ (b : Bool). b && list_all test (drop (k + 1) ways)) (sym says ∙ c.if-not-contains.true))

pub loop-way-preserved : goal.loop-way-preserved
loop-way-preserved c =
    let ways = c.args.ways.now in
    let k = c.loop-way.way-index in
    let w = get_or ways k (pos 0) in
    let at : slice_get ways k ≡ Some w = slice_get-get_or ways k (pos 0) c.loop-way-test.true in
    let fits : FitsSigned w64 (get_or ways k (pos 0)) = search rules in
    let test : ℤ → Bool = λ way. contains pair_eq c.args.met.now (c.args.node, way) in
    let inv = simp (to_z-of_z, c.ranges.node) at c.loop-way.invariant in
    let says : c.contains.result ≡ test w =
    c.contains.ensures
    ∙ ap (λ (z : ℤ). contains pair_eq c.args.met.now (z, to_z w64 (of_z w64 w))) (to_z-of_z w64 c.args.node c.ranges.node)
    ∙ ap (λ (z : ℤ). contains pair_eq c.args.met.now (c.args.node, z)) (to_z-of_z w64 w fits) in
    rw (to_z-of_z w64 c.args.node c.ranges.node)
    (sym (list_all-drop test ways k w at ∙ ap (λ (b : Bool). b && list_all test (drop (k + 1) ways)) (sym says ∙ c.if-not-contains.false)) ∙ inv)
