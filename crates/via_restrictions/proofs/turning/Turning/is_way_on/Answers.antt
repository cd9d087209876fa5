use Rattle.std.proofs.Common.{◌≡◌, ◌<◌, ◌==◌, ◌||◌, Bool, true, false, not, cond, length, Option, arith, sym, ap, ◌∙◌}
use Rattle.std.specs.Option.{option_map_or}
use Rattle.std.proofs.lemmas.Bool.Decides.{nat_tests}
use Rattle.std.proofs.lemmas.Option.{slice_get-get_or}
use Rattle.road_turns.specs.Turn.{exits_at, is_way_on}
use Rattle.road_segments.specs.Laws.{length-vertices}
use Rattle.road_segments.specs.Vertex.{Vertex, opposite, vertices}
use Rattle.road_turns.specs.VertexLaws.{both-ways, must_turn_back-at}
use Rattle.via_restrictions.proofs.turning.Turning.is_way_on.Goals as goal

pub bounds-self-d : goal.bounds-self-d
bounds-self-d c = omega (arith, c.requires.vertex, c.requires.counts.as_many, length-vertices c.args.self.now.roads.now)

pub must_turn_back-requires-clause-exits : goal.must_turn_back-requires-clause-exits
must_turn_back-requires-clause-exits c =
    let lt : c.args.d < length c.args.self.now.counts.now = omega (arith, c.requires.vertex, c.requires.counts.as_many, length-vertices c.args.self.now.roads.now) in
    c.requires.counts.each c.args.d _ (slice_get-get_or c.args.self.now.counts.now c.args.d 0 lt)

pub returns-then-e-other_way : goal.returns-then-e-other_way
returns-then-e-other_way c =
    let vs = vertices c.args.self.now.roads.now in
    let d = c.args.d in
    let e = c.args.e in
    let w = both-ways c.args.self.now.roads.now d c.requires.vertex in
    let same : e ≡ opposite d = c.if-e-other_way.true ∙ c.other_way.ensures in
    let test : (e == opposite d) ≡ true = grind (arith, nat_tests, same) in
    ap (λ (o : Option Vertex). option_map_or (λ x. is_way_on vs (d, x) e) o false) w.2
    ∙ ap (λ (b : Bool). cond b ((exits_at vs w.0.head d == 0) || w.0.closed) (not w.0.closed)) test
    ∙ ap (λ (o : Option Vertex). (option_map_or (λ x. exits_at vs x.head d) o 0 == 0) || w.0.closed) (sym w.2)
    ∙ sym (must_turn_back-at vs d w.0 w.2)
    ∙ sym c.must_turn_back.ensures
