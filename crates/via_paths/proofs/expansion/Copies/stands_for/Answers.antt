use Rattle.std.proofs.Common.{◌≡◌, ℕ, ◌<◌, ◌≤◌, List, [], ◌∷◌, ◌++◌, length, take, Some, arith, refl, sym, ◌∙◌, ap}
use Rattle.std.specs.List.{slice_get}
use Rattle.std.proofs.lemmas.List.{map_push, take_all}
use Rattle.std.proofs.lemmas.Option.{slice_get_read}
use Rattle.list_lemmas.proofs.Fronts.{take-get}
use Rattle.via_paths.specs.declared.copied.Copied.{Copied}
use Rattle.via_paths.specs.Tries.{vertices_in}
use Rattle.via_paths.proofs.Expanding.{stands}
use Rattle.via_paths.proofs.expansion.Copies.stands_for.Goals as goal

pub loop-k-preserved : goal.loop-k-preserved
loop-k-preserved c =
    let copied : List Copied = c.args.self.now.trie.copied.items in
    let k : ℕ = c.loop-k.k in
    let entry = c.index.result.now in
    let lt : k < length copied = omega arith in
    let got : slice_get copied k ≡ Some entry = slice_get_read copied (length copied) k entry refl lt c.index.ensures in
    c.in_ok-push.ensures.items ∙ ap (λ (l : List ℕ). l ++ entry.vertex ∷ []) c.loop-k.invariant
    ∙ sym (ap vertices_in (take-get copied k entry got) ∙ map_push {X = Copied} {Y = ℕ} (λ e. e.vertex) (take k copied) entry)

pub returns : goal.returns
returns c = λ n sequences made.
    let tree = c.args.self.now.trie in
    let all : length tree.copied.items ≤ c.loop-k.k = omega arith in
    c.loop-k.invariant ∙ ap vertices_in (take_all c.loop-k.k tree.copied.items all)
    ∙ stands tree.vertices tree.vertices sequences tree.next tree.copied.items refl made.automaton.trie
