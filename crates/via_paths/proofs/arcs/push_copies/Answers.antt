use Rattle.std.proofs.Common.{ℕ, ◌+◌, ◌≤◌, List, ◌++◌, length, take, arith, sym, ◌∙◌, ap, append_assoc}
use Rattle.std.proofs.lemmas.List.{take_all}
use Rattle.via_paths.specs.Expansion.{copy_arcs, word_of}
use Rattle.via_paths.specs.Tries.{out_by}
use Rattle.via_paths.proofs.Falling.{copies-many}
use Rattle.via_paths.proofs.arcs.push_copies.Goals as goal

pub loop-k-preserved : goal.loop-k-preserved
loop-k-preserved c = λ sequences copies turns h f.
    let n : ℕ = c.args.trie.now.vertices in
    let k : ℕ = c.loop-k.k in
    let heads : List ℕ = c.heads_of-heads.result.now in
    let out : List (ℕ × ℕ) = out_by n sequences copies (n + k) (word_of n copies (n + k)) heads in
    c.in_ok-push_out.ensures sequences copies h
    ∙ ap (λ (l : List (ℕ × ℕ)). l ++ out) (c.loop-k.invariant sequences copies turns h f)
    ∙ append_assoc c.args.arcs.now.items (copy_arcs n sequences copies turns n (take k copies)) out
    ∙ ap (λ (l : List (ℕ × ℕ)). c.args.arcs.now.items ++ l) (sym (c.heads_of-heads.ensures.is sequences copies turns h f))

pub returns : goal.returns
returns c = λ sequences copies turns h f.
    let n : ℕ = c.args.trie.now.vertices in
    let all : length copies ≤ c.loop-k.k = omega (arith, copies-many n copies _ _ h.trie) in
    c.loop-k.invariant sequences copies turns h f ∙ ap (λ (l : List (List ℕ)). c.args.arcs.now.items ++ copy_arcs n sequences copies turns n l) (take_all c.loop-k.k copies all)

pub push_out-requires-clause-heads : goal.push_out-requires-clause-heads
push_out-requires-clause-heads c = c.heads_of-heads.ensures.below c.args.trie.now.vertices c.requires.below
