use Rattle.std.proofs.Common.{◌≡◌, ◌*◌, ◌<◌, Some, get_or, length, arith, rules, w64, FitsSigned}
use Rattle.std.specs.List.{slice_get}
use Rattle.std.proofs.lemmas.Int.{to_z-of_z}
use Rattle.std.proofs.lemmas.Option.{slice_get-get_or}
use Rattle.list_lemmas.proofs.Gets.{get_some}
use Rattle.road_segments.specs.Laws.{length-vertices}
use Rattle.road_segments.specs.Vertex.{vertices}
use Rattle.road_turns.specs.VertexLaws.{field-at}
use Rattle.via_restrictions.proofs.FindLemmas.{adds-vertex}
use Rattle.via_restrictions.proofs.via_words.Vias.reach.Goals as goal

pub loop-e-preserved : goal.loop-e-preserved
loop-e-preserved c =
    let segments = c.args.self.now.turning.roads.now in
    let vs = vertices segments in
    let es = c.args.exits.now in
    let i = c.loop-e.e-index in
    let e = get_or es i 0 in
    let at : slice_get es i ≡ Some e = slice_get-get_or es i 0 c.loop-e-test.true in
    let lt : e < 2 * length segments = c.requires.exits i 0 c.loop-e-test.true in
    let y = get_some vs e (omega (arith, lt, length-vertices segments)) in
    let way = field-at (λ z. z.way) vs e y.0 c.way.result y.1 c.way.ensures in
    let fits : FitsSigned w64 c.way.result = search rules in
    let more = simp to_z-of_z at c.in_ok-add.ensures.ways in
    let moreover = simp to_z-of_z at c.in_ok-add.ensures.others in
    adds-vertex vs c.args.number es i e y.0 c.way.result c.args.reached.now.ways c.loop-e.reached.ways c.add.new.self.ways c.args.reached.now.firsts c.loop-e.reached.firsts c.add.new.self.firsts at y.1 way more moreover
    c.loop-e.invariant
