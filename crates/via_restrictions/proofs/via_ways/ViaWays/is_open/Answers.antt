use Rattle.std.proofs.Common.{◌≡◌, ◌-◌, ◌<◌, length, arith, sym, ap, ◌∙◌, not}
use Rattle.std.proofs.lemmas.Bool.Decides.{nat_tests}
use Rattle.std.proofs.lemmas.Int.{to_z-of_z}
use Rattle.std.proofs.lemmas.List.Elements.{All-same}
use Rattle.via_restrictions.specs.ViaWays.{along, is_open}
use Rattle.road_segments.specs.Vertex.{vertices}
use Rattle.via_restrictions.proofs.ViaLemmas.{IsVertex, below-those, is_along, open-at}
use Rattle.via_restrictions.proofs.via_ways.ViaWays.is_open.Goals as goal

pub meet-requires-clause-from : goal.meet-requires-clause-from
meet-requires-clause-from c =
    let segments = c.args.turning.now.roads.now in
    let run = c.along-run.result.now in
    let says = simp (to_z-of_z, c.ranges.way) at c.along-run.ensures in
    let is : run ≡ along (vertices segments) c.args.way = says ∙ c.requires.along c.args.way c.requires.way in
    let some : 0 < length run = grind (arith, nat_tests, c.is_empty.ensures, c.if-is_empty.false) in
    All-same (IsVertex segments) run (along (vertices segments) c.args.way) is (below-those segments (is_along c.args.way)) (length run - 1) 0 (omega (arith, some))

pub meet-requires-clause-onto : goal.meet-requires-clause-onto
meet-requires-clause-onto c =
    let segments = c.args.turning.now.roads.now in
    let run = c.along-run.result.now in
    let says = simp (to_z-of_z, c.ranges.way) at c.along-run.ensures in
    let is : run ≡ along (vertices segments) c.args.way = says ∙ c.requires.along c.args.way c.requires.way in
    let some : 0 < length run = grind (arith, nat_tests, c.is_empty.ensures, c.if-is_empty.false) in
    All-same (IsVertex segments) run (along (vertices segments) c.args.way) is (below-those segments (is_along c.args.way)) 0 0 some

pub returns : goal.returns
returns c =
    let vs = vertices c.args.turning.now.roads.now in
    let run = c.along-run.result.now in
    let says = simp (to_z-of_z, c.ranges.way) at c.along-run.ensures in
    let is : run ≡ along vs c.args.way = says ∙ c.requires.along c.args.way c.requires.way in
    let some : 0 < length run = grind (arith, nat_tests, c.is_empty.ensures, c.if-is_empty.false) in
    ap not c.meet.ensures ∙ sym (open-at vs run some) ∙ ap (is_open vs) is
