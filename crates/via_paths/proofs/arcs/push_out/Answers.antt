use Rattle.std.proofs.Common.{◌≡◌, ℕ, ◌<◌, ◌≤◌, true, false, List, [], ◌∷◌, ◌++◌, length, get_or, take, Some, arith, sym, ◌∙◌, ap, append_assoc}
use Rattle.std.specs.List.{slice_get}
use Rattle.std.proofs.lemmas.List.{take_all}
use Rattle.std.proofs.lemmas.Option.{slice_get-get_or}
use Rattle.via_paths.specs.Forbidden.{ends_in}
use Rattle.via_paths.specs.Expansion.{word_of}
use Rattle.via_paths.specs.Tries.{out_by}
use Rattle.via_paths.proofs.Outgoing.{out-more, out-same}
use Rattle.via_paths.proofs.arcs.push_out.Goals as goal
use Rattle.via_paths.proofs.arcs.push_out.Goals.{then-not-is_ended+in_ok-push, else-not-is_ended}

pub loop-i-preserved : goal.loop-i-preserved
loop-i-preserved c =
    let n : ℕ = c.args.trie.now.vertices in
    let heads : List ℕ = c.args.heads.now in
    let i : ℕ = c.loop-i.i in
    let lt : i < length heads = omega arith in
    let at : slice_get heads i ≡ Some (get_or heads i 0) = slice_get-get_or heads i 0 lt in
    elim c.if-not-is_ended.branch [
      | then-not-is_ended+in_ok-push w ↦ λ sequences copies h.
          let word : List ℕ = word_of n copies c.args.state in
          let fine : ends_in sequences (word ++ get_or heads i 0 ∷ []) ≡ false = sym (c.is_ended.ensures sequences copies h.long h.trie h.are h.ended) ∙ w.if-not-is_ended.true in
          ap (λ v. v.items) w.arcs-is ∙ w.in_ok-push.ensures.items
          ∙ ap (λ (l : List (ℕ × ℕ)). l ++ (c.args.state, w.onward-next.result) ∷ []) (c.loop-i.invariant sequences copies h)
          ∙ append_assoc c.args.arcs.now.items (out_by n sequences copies c.args.state word (take i heads)) ((c.args.state, w.onward-next.result) ∷ [])
          ∙ ap (λ (v : ℕ). c.args.arcs.now.items ++ (out_by n sequences copies c.args.state word (take i heads) ++ (c.args.state, v) ∷ [])) (w.onward-next.ensures.is copies h.trie)
          ∙ ap (λ (l : List (ℕ × ℕ)). c.args.arcs.now.items ++ l) (sym (out-more n sequences copies c.args.state (get_or heads i 0) i word heads at fine))
      | else-not-is_ended w ↦ λ sequences copies h.
          let word : List ℕ = word_of n copies c.args.state in
          let ended : ends_in sequences (word ++ get_or heads i 0 ∷ []) ≡ true = sym (c.is_ended.ensures sequences copies h.long h.trie h.are h.ended) ∙ w.if-not-is_ended.false in
          ap (λ v. v.items) w.arcs-is ∙ c.loop-i.invariant sequences copies h
          ∙ ap (λ (l : List (ℕ × ℕ)). c.args.arcs.now.items ++ l) (sym (out-same n sequences copies c.args.state (get_or heads i 0) i word heads at ended))
    ]

pub returns : goal.returns
returns c = λ sequences copies h.
    let n : ℕ = c.args.trie.now.vertices in
    let all : length c.args.heads.now ≤ c.loop-i.i = omega arith in
    c.loop-i.invariant sequences copies h
    ∙ ap (λ (l : List ℕ). c.args.arcs.now.items ++ out_by n sequences copies c.args.state (word_of n copies c.args.state) l) (take_all c.loop-i.i c.args.heads.now all)
