use Rattle.std.proofs.Common.{◌≡◌, ℕ, ◌+◌, ◌-◌, ◌^◌, ◌≤◌, List, length, take, arith, ◌∙◌, ap, length-append}
use Rattle.std.proofs.lemmas.List.{take_all}
use Rattle.via_paths.specs.Expansion.{copy_arcs, word_of}
use Rattle.via_paths.specs.Tries.{out_by}
use Rattle.via_paths.proofs.Falling.{copies-many}
use Rattle.via_paths.proofs.Outgoing.{copies-within}
use Rattle.via_paths.proofs.arcs.count_arcs.Goals as goal

pub returns-then-count-left-clause-none : goal.returns-then-count-left-clause-none
returns-then-count-left-clause-none c = λ sequences copies turns h f.
    let n : ℕ = c.args.trie.now.vertices in
    let k : ℕ = c.loop-k.k in
    let heads : List ℕ = c.heads_of-heads.result.now in
    let out : List (ℕ × ℕ) = out_by n sequences copies (n + k) (word_of n copies (n + k)) heads in
    let before : List (ℕ × ℕ) = copy_arcs n sequences copies turns n (take k copies) in
    let so_far : c.loop-k.left + (c.args.turns + length before) ≡ 2 ^ 27 = c.loop-k.invariant.is sequences copies turns h f in
    let here : c.count_out-count.result ≡ length out = c.count_out-count.ensures sequences copies h in
    let step : length (copy_arcs n sequences copies turns n (take (k + 1) copies)) ≡ length before + length out = ap length (c.heads_of-heads.ensures.is sequences copies turns h f) ∙ length-append before out in
    let within : length (copy_arcs n sequences copies turns n (take (k + 1) copies)) ≤ length (copy_arcs n sequences copies turns n copies) = copies-within n sequences copies turns copies n (k + 1) in
    omega arith

pub loop-k-preserved : goal.loop-k-preserved
loop-k-preserved c = record {
  room = let was : c.args.turns + c.loop-k.left ≤ 2 ^ 27 = c.loop-k.invariant.room in omega arith;
  less = let was : c.loop-k.left ≤ 2 ^ 27 - c.args.turns = c.loop-k.invariant.less in omega arith;
  is = λ sequences copies turns h f.
      let n : ℕ = c.args.trie.now.vertices in
      let k : ℕ = c.loop-k.k in
      let heads : List ℕ = c.heads_of-heads.result.now in
      let out : List (ℕ × ℕ) = out_by n sequences copies (n + k) (word_of n copies (n + k)) heads in
      let before : List (ℕ × ℕ) = copy_arcs n sequences copies turns n (take k copies) in
      let so_far : c.loop-k.left + (c.args.turns + length before) ≡ 2 ^ 27 = c.loop-k.invariant.is sequences copies turns h f in
      let here : c.count_out-count.result ≡ length out = c.count_out-count.ensures sequences copies h in
      let step : length (copy_arcs n sequences copies turns n (take (k + 1) copies)) ≡ length before + length out = ap length (c.heads_of-heads.ensures.is sequences copies turns h f) ∙ length-append before out in
      omega arith;
}

pub returns-clause-some : goal.returns-clause-some
returns-clause-some c = λ sequences copies turns h f.
    let n : ℕ = c.args.trie.now.vertices in
    let all : length copies ≤ c.loop-k.k = omega (arith, copies-many n copies _ _ h.trie) in
    let whole : length (copy_arcs n sequences copies turns n (take c.loop-k.k copies)) ≡ length (copy_arcs n sequences copies turns n copies) = ap (λ (l : List (List ℕ)). length (copy_arcs n sequences copies turns n l)) (take_all c.loop-k.k copies all) in
    let so_far : c.loop-k.left + (c.args.turns + length (copy_arcs n sequences copies turns n (take c.loop-k.k copies))) ≡ 2 ^ 27 = c.loop-k.invariant.is sequences copies turns h f in
    omega arith
