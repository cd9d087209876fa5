use Rattle.std.proofs.Common.{◌≡◌, ◌+◌, ◌≤◌, ℕ, length, arith, ap}
use Rattle.road_segments.specs.Laws.{length-vertices}
use Rattle.road_turns.specs.Limits.{most_turns}
use Rattle.road_segments.specs.Vertex.{vertices}
use Rattle.road_turns.proofs.CountLemmas.{counted-step, no-counts, turns_at-few}
use Rattle.road_turns.proofs.TurnLemmas.{turns-all, turns-end}
use Rattle.road_turns.proofs.turn_counts.turn_count.Goals as goal

-- before the first vertex none is counted
from-none : (n total : ℕ) → n ≡ total → 0 + n ≡ total
from-none n total h = omega (arith, h)

pub loop-v-init : goal.loop-v-init
loop-v-init c = record {
  so_far = from-none _ _ (ap length (turns-all (vertices c.args.roads.now) c.args.restrictions.now.kept));
  few = omega arith;
  counts = no-counts c.args.restrictions.now.kept c.args.exits.now.leaving.runs c.new-counts.result c.new-counts.ensures.empty;
}

pub overflow_add-count : goal.overflow_add-count
unfolding most_turns
overflow_add-count c =
    let vs = vertices c.args.roads.now in
    omega (
      arith,
      c.in_ok-more.ensures.value,
      turns_at-few vs c.args.restrictions.now.kept c.loop-v.v,
      length-vertices c.args.roads.now,
      c.len-v-end.ensures.value,
      c.len-v-end.ensures.fits,
      c.loop-v.invariant.few,
    )

pub returns-then-count-gt-MOST_TURNS : goal.returns-then-count-gt-MOST_TURNS
unfolding most_turns
returns-then-count-gt-MOST_TURNS c =
    let counted =
    counted-step c.args.roads.now c.args.restrictions.now.kept c.loop-v.v c.loop-v.count c.in_ok-more.more _ (omega (arith, c.len-v-end.ensures.value)) c.in_ok-more.ensures.value c.loop-v.invariant.so_far in
    omega (arith, counted)

pub loop-v-preserved : goal.loop-v-preserved
unfolding most_turns
loop-v-preserved c = record {
  so_far = counted-step c.args.roads.now c.args.restrictions.now.kept c.loop-v.v c.loop-v.count c.in_ok-more.more _ (omega (arith, c.len-v-end.ensures.value)) c.in_ok-more.ensures.value c.loop-v.invariant.so_far;
  few = omega arith;
  counts = c.in_ok-more.ensures.counts;
}

pub returns : goal.returns
returns c =
    let vs = vertices c.args.roads.now in
    let end : length vs ≤ c.loop-v.v = omega (arith, length-vertices c.args.roads.now, c.len-v-end.ensures.value) in
    let none = ap length (turns-end vs c.args.restrictions.now.kept c.loop-v.v end) in
    (omega (arith, none, c.loop-v.invariant.so_far), omega (arith, none, c.loop-v.invariant.so_far, c.loop-v.invariant.few))
