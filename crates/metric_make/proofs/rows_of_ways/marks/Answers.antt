-- A permitted vertex is marked at its place, and a closed one leaves what is known.
use Rattle.std.proofs.Common.{◌≡◌, ℕ, ℤ, ◌+◌, ◌*◌, ◌/◌, ◌<◌, cond, Bool, List, length, set, Some, None, Option, take, arith, rules, sym, ap, ◌∙◌, FitsSigned, w64}
use Rattle.std.specs.HashMap.{get}
use Rattle.std.specs.List.{slice_get}
use Rattle.std.proofs.lemmas.Int.{to_z-of_z}
use Rattle.std.proofs.lemmas.List.{take_all}
use Rattle.std.proofs.Math.ListN.{length-set}
use Rattle.list_lemmas.proofs.Gets.{get_is, get_some}
use Rattle.edge_graph.specs.NetworkView.{vertices_of}
use Rattle.road_segments.specs.Laws.{length-vertices}
use Rattle.road_segments.specs.Vertex.{Vertex}
use Rattle.metric_make.specs.LastRows.{pair_eq}
use Rattle.metric_make.specs.RowsOfWays.{in_order, known, place}
use Rattle.metric_make.specs.TrafficRows.{is_way}
use Rattle.metric_make.proofs.MatchLemmas.{field-at, is_way-closed}
use Rattle.metric_make.proofs.WayLemmas.{known-put, marks-push, place-of-vertex}
use Rattle.metric_make.proofs.rows_of_ways.marks.Goals as goal
use Rattle.metric_make.proofs.rows_of_ways.marks.Goals.{then-permitted, else-permitted}

pub loop-v-preserved : goal.loop-v-preserved
loop-v-preserved c =
    let vs = vertices_of c.args.network.now in
    let v = c.loop-v.v in
    let pairs = c.args.pairs.now in
    let x = get_some vs v (omega (arith, length-vertices c.args.network.now.segments, c.segments-count.ensures.value, c.loop-v-test.true)) in
    elim c.if-permitted.branch [
      | then-permitted w ↦
          let tail_fits : FitsSigned w64 w.tail.result = search rules in
          let head_fits : FitsSigned w64 w.head.result = search rules in
          let permitted = field-at (λ y. y.permitted) vs v x.0 c.permitted.result x.1 c.permitted.ensures ∙ w.if-permitted.true in
          let from = field-at (λ y. y.tail) vs v x.0 w.tail.result x.1 w.tail.ensures in
          let to = field-at (λ y. y.head) vs v x.0 w.head.result x.1 w.head.ensures in
          let half : v / 2 < length pairs.firsts.items = omega (arith, c.requires.many, c.segments-count.ensures.value, c.loop-v-test.true) in
          let read : slice_get pairs.firsts.items (v / 2) ≡ Some w.index-first.result.now = get_is pairs.firsts.items (v / 2) w.index-first.result.now half (sym w.index-first.ensures) in
          let there = place-of-vertex vs (length c.args.network.now.segments) pairs c.requires v x.0 x.1 (omega (arith, c.segments-count.ensures.value, c.loop-v-test.true)) w.tail.result w.head.result from to w.index-first.result.now read in
          let at : w.place.result ≡ place w.index-first.result.now (w.tail.result, w.head.result) = simp (to_z-of_z, tail_fits, head_fits) at w.place.ensures in
          let put : (q : ℤ × ℤ) → known pairs (set c.loop-v.last.items w.place.result (Some None)) q ≡ cond (pair_eq (w.tail.result, w.head.result) q) (Some None) (known pairs c.loop-v.last.items q) =
          λ q. ap (λ (i : ℕ). known pairs (set c.loop-v.last.items i (Some None)) q) at
          ∙ known-put vs (length c.args.network.now.segments) pairs c.requires (w.tail.result, w.head.result) (place w.index-first.result.now (w.tail.result, w.head.result)) there c.loop-v.last.items c.loop-v.invariant.many (Some None) q in
          let now : (q : ℤ × ℤ) → known pairs (set c.loop-v.last.items w.place.result (Some None)) q ≡ cond (is_way (take (v + 1) vs) q.0 q.1) (Some None) None =
          marks-push vs v x.0 x.1 permitted w.tail.result w.head.result from to (known pairs c.loop-v.last.items) (known pairs (set c.loop-v.last.items w.place.result (Some None))) put c.loop-v.invariant.marks in
          rw w.last-is (record {
            many = length-set c.loop-v.last.items w.place.result (Some None) ∙ c.loop-v.invariant.many;
            marks = now;
          })
      | else-permitted w ↦
          let closed = field-at (λ y. y.permitted) vs v x.0 c.permitted.result x.1 c.permitted.ensures ∙ w.if-permitted.false in
          let now : (q : ℤ × ℤ) → known pairs c.loop-v.last.items q ≡ cond (is_way (take (v + 1) vs) q.0 q.1) (Some None) None =
          λ q. c.loop-v.invariant.marks q ∙ ap (λ (b : Bool). cond b (Some None) None) (sym (is_way-closed vs v x.0 x.1 closed q)) in
          rw w.last-is (record { many = c.loop-v.invariant.many; marks = now })
    ]

pub returns : goal.returns
returns c =
    let vs = vertices_of c.args.network.now in
    let all : take c.loop-v.v vs ≡ vs = take_all c.loop-v.v vs (omega (arith, length-vertices c.args.network.now.segments, c.segments-count.ensures.value, c.loop-v-test.false)) in
    record {
      many = c.loop-v.invariant.many ∙ ap (λ (n : ℕ). 2 * n) (sym c.requires.many);
      marks = λ q. c.loop-v.invariant.marks q ∙ ap (λ (l : List Vertex). cond (is_way l q.0 q.1) (Some None) None) all;
    }
