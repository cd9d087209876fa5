use Rattle.std.proofs.Common.{◌≡◌, ◌<◌, Bool, true, false, length, arith, sym, ap, ◌∙◌, ◌||◌}
use Rattle.std.specs.Prelude.{◌==◌}
use Rattle.std.proofs.lemmas.Bool.Decides.{nat_tests}
use Rattle.list_lemmas.proofs.Gets.{get_some}
use Rattle.road_turns.specs.Turn.{exits}
use Rattle.road_segments.specs.Vertex.{vertices}
use Rattle.road_turns.specs.VertexLaws.{field-at, must_turn_back-at}
use Rattle.road_segments.specs.Laws.{length-vertices}
use Rattle.road_turns.proofs.turn_lists.must_turn_back.Goals as goal

pub returns-then-exit_count-eq0 : goal.returns-then-exit_count-eq0
returns-then-exit_count-eq0 c =
    let vs = vertices c.args.roads.now in
    let within : c.args.v < length vs = omega (arith, length-vertices c.args.roads.now) in
    let x = get_some vs c.args.v within in
    let none : exits vs c.args.v ≡ 0 = omega (arith, c.requires.exits) in
    let test : (exits vs c.args.v == 0) ≡ true = grind (arith, nat_tests, none) in
    let its : (c.args.exit_count == 0) ≡ true = grind (arith, nat_tests, c.if-exit_count-eq0.true) in
    its ∙ sym (must_turn_back-at vs c.args.v x.0 x.1 ∙ ap (λ (b : Bool). b || x.0.closed) test)

pub returns-else-exit_count-eq0 : goal.returns-else-exit_count-eq0
returns-else-exit_count-eq0 c =
    let vs = vertices c.args.roads.now in
    let within : c.args.v < length vs = omega (arith, length-vertices c.args.roads.now) in
    let x = get_some vs c.args.v within in
    let some : 0 < exits vs c.args.v = omega (arith, c.requires.exits) in
    let test : (exits vs c.args.v == 0) ≡ false = grind (arith, nat_tests, some) in
    let shut = field-at (λ z. z.closed) vs c.args.v x.0 c.closed.result x.1 c.closed.ensures in
    sym (must_turn_back-at vs c.args.v x.0 x.1 ∙ ap (λ (b : Bool). b || x.0.closed) test ∙ shut)
