use Rattle.std.proofs.Common.{◌≡◌, ◌+◌, ◌&&◌, Bool, true, Some, pos, get_or, drop, rules, sym, ap, ◌∙◌, w64, FitsSigned}
use Rattle.std.specs.List.{list_all, slice_get}
use Rattle.std.proofs.lemmas.Int.{to_z-of_z}
use Rattle.std.proofs.lemmas.Option.{slice_get-get_or}
use Rattle.via_restrictions.specs.ViaWays.{along, is_open}
use Rattle.road_segments.specs.Vertex.{vertices}
use Rattle.road_turns.specs.DropLaws.{list_all-drop}
use Rattle.via_restrictions.proofs.via_ways.ViaWays.are_open.Goals as goal

pub loop-i-preserved : goal.loop-i-preserved
loop-i-preserved c =
    let vs = vertices c.args.turning.now.roads.now in
    let via = c.args.via.now in
    let i = c.loop-i.i in
    let x = get_or via i (pos 0) in
    let at : slice_get via i ≡ Some x = slice_get-get_or via i (pos 0) c.loop-i-test.true in
    let fits : FitsSigned w64 (get_or via i (pos 0)) = search rules in
    let says = simp (to_z-of_z, fits) at c.is_open.ensures in
    let opened : is_open vs (along vs x) ≡ true = sym says ∙ c.if-not-is_open.false in
    sym
    (list_all-drop (λ way. is_open vs (along vs way)) via i x at ∙ ap (λ (b : Bool). b && list_all (λ way. is_open vs (along vs way)) (drop (i + 1) via)) opened)
    ∙ c.loop-i.invariant
