use Rattle.std.proofs.Common.{◌≡◌, ℕ, ◌+◌, ◌*◌, ◌<◌, ◌≤◌, ◌++◌, List, drop, length, arith, sym, ap, ◌∙◌, append_assoc}
use Rattle.std.specs.List.{enumerate_from, flat_map}
use Rattle.std.proofs.lemmas.List.{append-nil}
use Rattle.list_lemmas.proofs.Gets.{get_some}
use Rattle.turn_rules.specs.Rules.{Rule}
use Rattle.road_turns.specs.Fans.{turns_at}
use Rattle.road_segments.specs.Segment.{Segment}
use Rattle.road_turns.specs.Turn.{turns, turns_from}
use Rattle.road_segments.specs.Vertex.{vertices}
use Rattle.road_turns.proofs.TurnLemmas.{no-rows, turns-all, turns-end, turns-step}
use Rattle.road_segments.specs.Laws.{length-vertices}
use Rattle.road_turns.proofs.turn_lists.turn_list.Goals as goal

-- the turns from one more vertex are listed
step : (segments : List Segment) (rules : List Rule) (v : ℕ) (list new : List (ℕ × ℕ)) → v < 2 * length segments → new ≡ list ++ turns_at (vertices segments) rules v
    → list ++ flat_map (turns_from (vertices segments) rules) (enumerate_from v (drop v (vertices segments))) ≡ turns (vertices segments) rules
    → new ++ flat_map (turns_from (vertices segments) rules) (enumerate_from (v + 1) (drop (v + 1) (vertices segments))) ≡ turns (vertices segments) rules
step segments rules v list new lt added so_far =
    let vs = vertices segments in
    let within : v < length vs = omega (arith, length-vertices segments) in
    let x = get_some vs v within in
    let rest = flat_map (turns_from vs rules) (enumerate_from (v + 1) (drop (v + 1) vs)) in
    ap (λ (l : List (ℕ × ℕ)). l ++ rest) added
    ∙ append_assoc list (turns_at vs rules v) rest
    ∙ ap (λ (l : List (ℕ × ℕ)). list ++ l) (sym (turns-step vs rules v x.0 x.1))
    ∙ so_far

pub loop-v-init : goal.loop-v-init
loop-v-init c = record {
  so_far = rw c.in_ok-list.ensures.items (turns-all (vertices c.args.roads.now) c.args.restrictions.now.kept);
  rows = no-rows c.args.restrictions.now.kept c.args.exits.now.leaving.runs c.new-rows.result c.new-rows.ensures.empty;
}

pub loop-v-preserved : goal.loop-v-preserved
loop-v-preserved c = record {
  so_far = step c.args.roads.now c.args.restrictions.now.kept c.loop-v.v c.loop-v.list.items c.push_turns.new.turns.items (omega (arith, c.len-v-end.ensures.value)) c.in_ok-push_turns.ensures.turns c.loop-v.invariant.so_far;
  rows = c.in_ok-push_turns.ensures.rows;
}

all-listed : (segments : List Segment) (rules : List Rule) (v : ℕ) (list : List (ℕ × ℕ)) → 2 * length segments ≤ v
    → list ++ flat_map (turns_from (vertices segments) rules) (enumerate_from v (drop v (vertices segments))) ≡ turns (vertices segments) rules → list ≡ turns (vertices segments) rules
all-listed segments rules v list le so_far =
    let end : length (vertices segments) ≤ v = omega (arith, length-vertices segments) in
    sym (append-nil list) ∙ ap (λ (l : List (ℕ × ℕ)). list ++ l) (sym (turns-end (vertices segments) rules v end)) ∙ so_far

pub returns : goal.returns
returns c = all-listed c.args.roads.now c.args.restrictions.now.kept c.loop-v.v c.loop-v.list.items (omega (arith, c.len-v-end.ensures.value)) c.loop-v.invariant.so_far
