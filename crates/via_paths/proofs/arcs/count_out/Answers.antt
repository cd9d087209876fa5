use Rattle.std.proofs.Common.{◌≡◌, ℕ, ◌+◌, ◌<◌, ◌≤◌, true, false, List, [], ◌∷◌, ◌++◌, length, get_or, take, Some, arith, sym, ◌∙◌, ap}
use Rattle.std.specs.List.{slice_get}
use Rattle.std.proofs.lemmas.List.{length_push, take_all}
use Rattle.std.proofs.lemmas.Option.{slice_get-get_or}
use Rattle.via_paths.specs.Forbidden.{ends_in}
use Rattle.via_paths.specs.Expansion.{onward, word_of}
use Rattle.via_paths.specs.Tries.{out_by}
use Rattle.via_paths.proofs.Outgoing.{out-more, out-same}
use Rattle.via_paths.proofs.arcs.count_out.Goals as goal
use Rattle.via_paths.proofs.arcs.count_out.Goals.{then-not-is_ended, else-not-is_ended}

pub loop-i-preserved : goal.loop-i-preserved
loop-i-preserved c =
    let n : ℕ = c.args.trie.now.vertices in
    let heads : List ℕ = c.args.heads.now in
    let i : ℕ = c.loop-i.i in
    let lt : i < length heads = omega arith in
    let e : ℕ = get_or heads i 0 in
    let at : slice_get heads i ≡ Some e = slice_get-get_or heads i 0 lt in
    elim c.if-not-is_ended.branch [
      | then-not-is_ended w ↦ record {
        few = omega arith;
        is = λ sequences copies h.
            let word : List ℕ = word_of n copies c.args.state in
            let fine : ends_in sequences (word ++ e ∷ []) ≡ false = sym (c.is_ended.ensures sequences copies h.long h.trie h.are h.ended) ∙ w.if-not-is_ended.true in
            let more : length (out_by n sequences copies c.args.state word (take (i + 1) heads)) ≡ length (out_by n sequences copies c.args.state word (take i heads)) + 1 =
            ap length (out-more n sequences copies c.args.state e i word heads at fine) ∙ length_push (out_by n sequences copies c.args.state word (take i heads)) (c.args.state, onward n copies word e) in
            let so_far : c.loop-i.count ≡ length (out_by n sequences copies c.args.state word (take i heads)) = c.loop-i.invariant.is sequences copies h in
            omega arith;
      }
      | else-not-is_ended w ↦ record {
        few = omega arith;
        is = λ sequences copies h.
            let word : List ℕ = word_of n copies c.args.state in
            let ended : ends_in sequences (word ++ e ∷ []) ≡ true = sym (c.is_ended.ensures sequences copies h.long h.trie h.are h.ended) ∙ w.if-not-is_ended.false in
            w.count-is ∙ c.loop-i.invariant.is sequences copies h ∙ sym (ap length (out-same n sequences copies c.args.state e i word heads at ended));
      }
    ]

pub returns : goal.returns
returns c = λ sequences copies h.
    let n : ℕ = c.args.trie.now.vertices in
    let all : length c.args.heads.now ≤ c.loop-i.i = omega arith in
    c.loop-i.invariant.is sequences copies h
    ∙ ap (λ (l : List ℕ). length (out_by n sequences copies c.args.state (word_of n copies c.args.state) l)) (take_all c.loop-i.i c.args.heads.now all)
