use Rattle.std.proofs.Common.{◌≡◌, ℕ, ◌+◌, ◌<◌, List, All, length, arith, sym, ◌∙◌, ap, subst}
use Rattle.via_paths.specs.Copies.{copies_of}
use Rattle.via_paths.specs.Expansion.{copy_arcs, expanded_arcs}
use Rattle.via_paths.specs.Tries.{AreFans, first_arcs}
use Rattle.via_paths.proofs.Expanding.{all-arcs, arcs-count}
use Rattle.via_paths.proofs.expansion.Copies.expand.Goals as goal

pub put_arcs-requires : goal.put_arcs-requires
put_arcs-requires c = subst (All (λ t. (t.0 < c.args.self.now.trie.vertices) × (t.1 < c.args.self.now.trie.vertices))) (sym c.in_ok-reserve_exact.ensures.items) c.requires

pub returns-in_default-clause-turns : goal.returns-in_default-clause-turns
returns-in_default-clause-turns c = λ failed n sequences made.
    let m : ℕ = c.args.self.now.trie.vertices in
    let copies : List (List ℕ) = copies_of sequences in
    let fans = subst (λ (l : List (ℕ × ℕ)). AreFans c.args.self.now.trie.copied.items l c.in_ok-fans.fans) c.as_slice.ensures.value c.in_ok-fans.ensures.are in
    let count : length c.args.turns.items + length (copy_arcs m sequences copies c.args.turns.items m copies) ≡ length (expanded_arcs n sequences copies c.args.turns.items) = arcs-count m n sequences copies c.args.turns.items made.vertices in
    let many = c.in_default.ensures.none sequences copies c.args.turns.items made.automaton fans in
    omega (arith, many, count)

pub returns-clause-arcs : goal.returns-clause-arcs
returns-clause-arcs c = λ n sequences made.
    let m : ℕ = c.args.self.now.trie.vertices in
    let copies : List (List ℕ) = copies_of sequences in
    let fans = subst (λ (l : List (ℕ × ℕ)). AreFans c.args.self.now.trie.copied.items l c.in_ok-fans.fans) c.as_slice.ensures.value c.in_ok-fans.ensures.are in
    all-arcs m n sequences copies c.args.turns.items made.vertices c.put_arcs.new.turns.items c.push_copies.new.arcs.items
    (c.put_arcs.ensures copies made.automaton.trie ∙ ap (first_arcs m copies) c.in_ok-reserve_exact.ensures.items)
    (c.in_ok-push_copies.ensures sequences copies c.args.turns.items made.automaton fans)

pub returns-clause-within : goal.returns-clause-within
returns-clause-within c = λ n sequences made.
    let m : ℕ = c.args.self.now.trie.vertices in
    let copies : List (List ℕ) = copies_of sequences in
    let fans = subst (λ (l : List (ℕ × ℕ)). AreFans c.args.self.now.trie.copied.items l c.in_ok-fans.fans) c.as_slice.ensures.value c.in_ok-fans.ensures.are in
    let turns : List (ℕ × ℕ) = c.args.turns.items in
    let count : length turns + length (copy_arcs m sequences copies turns m copies) ≡ length (expanded_arcs n sequences copies turns) = arcs-count m n sequences copies turns made.vertices in
    let told = c.in-Some.ensures.some sequences copies turns made.automaton fans in
    let is : c.push_copies.new.arcs.items ≡ expanded_arcs n sequences copies turns =
    all-arcs m n sequences copies turns made.vertices c.put_arcs.new.turns.items c.push_copies.new.arcs.items
    (c.put_arcs.ensures copies made.automaton.trie ∙ ap (first_arcs m copies) c.in_ok-reserve_exact.ensures.items)
    (c.in_ok-push_copies.ensures sequences copies turns made.automaton fans) in
    let same_length : length c.push_copies.new.arcs.items ≡ length (expanded_arcs n sequences copies turns) = ap length is in
    omega (arith, c.in-Some.ensures.within, told)
