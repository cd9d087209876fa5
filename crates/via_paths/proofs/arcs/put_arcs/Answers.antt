use Rattle.std.proofs.Common.{◌≡◌, ℕ, ◌<◌, ◌≤◌, List, Some, length, arith, refl, sym, ◌∙◌, ap}
use Rattle.std.specs.List.{slice_get}
use Rattle.std.proofs.lemmas.List.{take_all}
use Rattle.std.proofs.Math.ListN.{length-set}
use Rattle.std.proofs.lemmas.Option.{slice_get_read}
use Rattle.list_lemmas.proofs.Gets.{All_get}
use Rattle.via_paths.specs.Tries.{first_arcs}
use Rattle.via_paths.proofs.Putting.{same-at, put-rest, put-done}
use Rattle.via_paths.proofs.arcs.put_arcs.Goals as goal

pub onward-head-requires-clause-state : goal.onward-head-requires-clause-state
onward-head-requires-clause-state c =
    let n : ℕ = c.args.trie.now.vertices in
    let turns : List (ℕ × ℕ) = c.loop-i.turns.items in
    let i : ℕ = c.loop-i.i in
    let t : ℕ × ℕ = c.index-turn.result.now in
    let lt : i < length turns = let many : length turns ≡ length c.args.turns.now.items = c.loop-i.invariant.many in omega arith in
    let at : slice_get turns i ≡ Some t = slice_get_read turns (length turns) i t refl lt c.index-turn.ensures in
    let old : slice_get c.args.turns.now.items i ≡ Some t = (same-at turns c.args.turns.now.items i t c.loop-i.invariant.many c.loop-i.invariant.ahead at).0 in
    let below = All_get (λ t. (t.0 < n) × (t.1 < n)) c.args.turns.now.items i t c.requires old in
    omega (arith, below.0)

pub onward-head-requires-clause-vertex : goal.onward-head-requires-clause-vertex
onward-head-requires-clause-vertex c =
    let n : ℕ = c.args.trie.now.vertices in
    let turns : List (ℕ × ℕ) = c.loop-i.turns.items in
    let i : ℕ = c.loop-i.i in
    let t : ℕ × ℕ = c.index-turn.result.now in
    let lt : i < length turns = let many : length turns ≡ length c.args.turns.now.items = c.loop-i.invariant.many in omega arith in
    let at : slice_get turns i ≡ Some t = slice_get_read turns (length turns) i t refl lt c.index-turn.ensures in
    let old : slice_get c.args.turns.now.items i ≡ Some t = (same-at turns c.args.turns.now.items i t c.loop-i.invariant.many c.loop-i.invariant.ahead at).0 in
    (All_get (λ t. (t.0 < n) × (t.1 < n)) c.args.turns.now.items i t c.requires old).1

pub loop-i-preserved : goal.loop-i-preserved
loop-i-preserved c =
    let n : ℕ = c.args.trie.now.vertices in
    let turns : List (ℕ × ℕ) = c.loop-i.turns.items in
    let i : ℕ = c.loop-i.i in
    let t : ℕ × ℕ = c.index-turn.result.now in
    let lt : i < length turns = let many : length turns ≡ length c.args.turns.now.items = c.loop-i.invariant.many in omega arith in
    let at : slice_get turns i ≡ Some t = slice_get_read turns (length turns) i t refl lt c.index-turn.ensures in
    let same = same-at turns c.args.turns.now.items i t c.loop-i.invariant.many c.loop-i.invariant.ahead at in
    let below = All_get (λ t. (t.0 < n) × (t.1 < n)) c.args.turns.now.items i t c.requires same.0 in
    record {
      many = length-set turns i _ ∙ c.loop-i.invariant.many;
      ahead = put-rest turns i (t.0, c.onward-head.result) lt ∙ same.1;
      done = λ copies trie. put-done n copies turns c.args.turns.now.items i c.onward-head.result t lt same.0 below.0 (c.onward-head.ensures.is copies trie) (c.loop-i.invariant.done copies trie);
    }

pub returns : goal.returns
returns c = λ copies trie.
    let n : ℕ = c.args.trie.now.vertices in
    let all : length c.loop-i.turns.items ≤ c.loop-i.i = let many : length c.loop-i.turns.items ≡ length c.args.turns.now.items = c.loop-i.invariant.many in omega arith in
    let also : length c.args.turns.now.items ≤ c.loop-i.i = let many : length c.loop-i.turns.items ≡ length c.args.turns.now.items = c.loop-i.invariant.many in omega arith in
    sym (take_all c.loop-i.i c.loop-i.turns.items all) ∙ c.loop-i.invariant.done copies trie ∙ ap (first_arcs n copies) (take_all c.loop-i.i c.args.turns.now.items also)
