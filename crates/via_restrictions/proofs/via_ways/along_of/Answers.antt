use Rattle.std.proofs.Common.{◌≡◌, ℤ, ◌%◌, ◌==◌, ◌<◌, ◌++◌, ◌∷◌, [], true, false, cond, length, arith, rules, sym, ap, ◌∙◌, w64, FitsSigned}
use Rattle.std.specs.HashSet.{contains}
use Rattle.std.specs.Ordering.{int_eq}
use Rattle.std.proofs.lemmas.Bool.Decides.{nat_tests}
use Rattle.std.proofs.lemmas.Int.{to_z-of_z}
use Rattle.list_lemmas.proofs.Gets.{get_some}
use Rattle.via_restrictions.specs.ViaParts.{along_in}
use Rattle.road_segments.specs.Laws.{length-vertices}
use Rattle.road_segments.specs.Vertex.{vertices}
use Rattle.road_turns.specs.VertexLaws.{field-at}
use Rattle.via_restrictions.proofs.ViaLemmas.{along-added, along-all, along-none, along-other, along-unasked}
use Rattle.via_restrictions.proofs.via_ways.along_of.Goals.{then-v-eq0+then-contains+in_ok-add_along, then-v-eq0+else-contains, else-v-eq0}
use Rattle.via_restrictions.proofs.via_ways.along_of.Goals as goal

pub loop-v-init : goal.loop-v-init
loop-v-init c = along-none (vertices c.args.roads.now) c.args.ways.now c.new-along.result c.new-along.ensures.empty

pub returns : goal.returns
returns c =
    along-all (vertices c.args.roads.now) c.args.ways.now c.loop-v.along c.loop-v.v (omega (arith, length-vertices c.args.roads.now, c.len-v-end.ensures.value)) c.loop-v.invariant

pub loop-v-preserved : goal.loop-v-preserved
loop-v-preserved c =
    let vs = vertices c.args.roads.now in
    let ways = c.args.ways.now in
    let v = c.loop-v.v in
    let runs = c.loop-v.along in
    let within : v < length vs = omega (arith, length-vertices c.args.roads.now, c.len-v-end.ensures.value) in
    let x = get_some vs v within in
    elim c.if-v-eq0.branch [
      | then-v-eq0+then-contains+in_ok-add_along w ↦
          let even : (v % 2 == 0) ≡ true = grind (arith, nat_tests, w.if-v-eq0.true) in
          let way = field-at (λ y. y.way) vs v x.0 w.way-way.result x.1 w.way-way.ensures in
          let fits : FitsSigned w64 w.way-way.result = search rules in
          let more = simp to_z-of_z at w.in_ok-add_along.ensures in
          rw w.along-is (along-added vs ways v x.0 x.1 runs w.add_along.new.along even (λ n. more n ∙ ap (λ (z : ℤ). cond (int_eq z n) (along_in runs n ++ v ∷ []) (along_in runs n)) (sym way)) c.loop-v.invariant)
      | then-v-eq0+else-contains w ↦
          let way = field-at (λ y. y.way) vs v x.0 w.way-way.result x.1 w.way-way.ensures in
          let fits : FitsSigned w64 w.way-way.result = search rules in
          let says = simp to_z-of_z at w.contains.ensures in
          rw w.along-is (along-unasked vs ways v x.0 x.1 runs (ap (contains int_eq ways) way ∙ sym says ∙ w.if-contains.false) c.loop-v.invariant)
      | else-v-eq0 w ↦
          let odd : (v % 2 == 0) ≡ false = grind (arith, nat_tests, w.if-v-eq0.false) in
          rw w.along-is (along-other vs ways v x.0 x.1 runs odd c.loop-v.invariant)
    ]
