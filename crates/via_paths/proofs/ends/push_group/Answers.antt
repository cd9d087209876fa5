use Rattle.std.proofs.Common.{◌≡◌, ℕ, ◌+◌, ◌<◌, ◌≤◌, ◌==◌, ◌&&◌, ◌||◌, Bool, List, ◌∷◌, Some, length, map, take, All, arith, refl, sym, ◌∙◌, ap, subst}
use Rattle.std.specs.List.{slice_get, list_any}
use Rattle.std.specs.Option.{option_map}
use Rattle.std.proofs.lemmas.Bool.{eqb-false}
use Rattle.std.proofs.lemmas.List.{length-map, take_all}
use Rattle.std.proofs.lemmas.Option.{slice_get-map, slice_get_read}
use Rattle.list_lemmas.proofs.Fronts.{take-get}
use Rattle.list_lemmas.proofs.Gets.{All_get}
use Rattle.via_paths.specs.Expansion.{held, word_of}
use Rattle.via_paths.specs.Forbidden.{has}
use Rattle.via_paths.specs.Stems.{stems_by}
use Rattle.via_paths.specs.Tries.{list_at}
use Rattle.via_paths.specs.WordLaws.{has-push}
use Rattle.via_paths.proofs.Falling.{copies-many}
use Rattle.via_paths.proofs.Grouping.{stems-some}
use Rattle.via_paths.proofs.Gathering.{group-step, state-same}
use Rattle.via_paths.proofs.ends.push_group.Goals as goal

pub loop-i-preserved : goal.loop-i-preserved
loop-i-preserved c = λ copies t held_all q h.
    let n : ℕ = c.args.trie.now.vertices in
    let b = c.args.barred.now in
    let path : List ℕ = b.path.items in
    let i : ℕ = c.loop-i.i in
    let start : ℕ = c.index.result.now in
    let lt : i < length b.starts.items = omega arith in
    let at : slice_get b.starts.items i ≡ Some start = slice_get_read b.starts.items (length b.starts.items) i start refl lt c.index.ensures in
    let some : 0 < length b.ends.items = let ne : b.ends.len ≡ 0 → ⊥ = eqb-false b.ends.len 0 (sym c.is_empty.ensures ∙ c.if-is_empty.false) in omega (arith, ne, b.ends.ok) in
    let words : List (List ℕ) = map {A = ℕ} {B = List ℕ} (λ d. d ∷ path) b.starts.items in
    let there : slice_get words i ≡ Some (start ∷ path) = slice_get-map {A = ℕ} {B = List ℕ} (λ d. d ∷ path) b.starts.items i ∙ ap (option_map {T = ℕ} {U = List ℕ} (λ d. d ∷ path)) at in
    let whole : held copies (start ∷ path) ≡ start ∷ path = All_get (λ w. held copies w ≡ w) words i (start ∷ path) (subst (All (λ w. held copies w ≡ w)) (stems-some b.starts.items path b.ends.items some) held_all) there in
    let state : ℕ = c.state_of-state.result in
    let word : word_of n copies state ≡ start ∷ path = c.state_of-state.ensures.is copies t ∙ ap (λ (l : List ℕ). held copies (start ∷ l)) c.as_slice.ensures.value ∙ whole in
    let range : state < n + length copies = let old : state < n + length c.args.trie.now.copied.items = c.state_of-state.ensures.within in omega (arith, copies-many n copies _ _ t) in
    let grown : has (take (i + 1) words) (word_of n copies q) ≡ (has (take i words) (word_of n copies q) || (state == q)) =
    ap (λ (l : List (List ℕ)). has l (word_of n copies q)) (take-get words i (start ∷ path) there) ∙ has-push (take i words) (start ∷ path) (word_of n copies q)
    ∙ ap (λ (d : Bool). has (take i words) (word_of n copies q) || d) (state-same n copies _ _ t q state (start ∷ path) range word) in
    group-step (list_at c.loop-i.groups q) (list_at c.add_to.new.lists q) c.args.group h (state == q) (list_any (λ x. x == h) (list_at c.args.groups.now q))
    (has (take i words) (word_of n copies q)) (has (take (i + 1) words) (word_of n copies q)) (c.in_ok-add_to.ensures q) (c.loop-i.invariant copies t held_all q h) grown

pub returns : goal.returns
returns c = λ copies t held_all q h.
    let n : ℕ = c.args.trie.now.vertices in
    let b = c.args.barred.now in
    let some : 0 < length b.ends.items = let ne : b.ends.len ≡ 0 → ⊥ = eqb-false b.ends.len 0 (sym c.is_empty.ensures ∙ c.if-is_empty.false) in omega (arith, ne, b.ends.ok) in
    let words : List (List ℕ) = map {A = ℕ} {B = List ℕ} (λ d. d ∷ b.path.items) b.starts.items in
    let many : length words ≡ length b.starts.items = length-map b.starts.items (λ d. d ∷ b.path.items) in
    let all : length words ≤ c.loop-i.i = omega arith in
    let same_words : take c.loop-i.i words ≡ stems_by b.starts.items b.path.items b.ends.items = take_all c.loop-i.i words all ∙ sym (stems-some b.starts.items b.path.items b.ends.items some) in
    c.loop-i.invariant copies t held_all q h
    ∙ ap (λ (l : List (List ℕ)). list_any (λ x. x == h) (list_at c.args.groups.now q) || ((c.args.group == h) && has l (word_of n copies q))) same_words
