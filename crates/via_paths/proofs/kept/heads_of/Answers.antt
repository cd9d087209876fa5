use Rattle.std.proofs.Common.{◌≡◌, ℕ, ◌+◌, ◌<◌, not, List, ◌++◌, length, take, Some, All, refl, sym, ◌∙◌, ap, subst}
use Rattle.std.specs.HashMap.{get}
use Rattle.std.specs.HashSet.{contains}
use Rattle.std.specs.List.{slice_get}
use Rattle.std.proofs.lemmas.List.Elements.{All-filter}
use Rattle.std.proofs.lemmas.Option.{slice_get_read}
use Rattle.via_paths.specs.declared.copied.Copied.{Copied}
use Rattle.via_paths.specs.Expansion.{copy_arcs, word_of}
use Rattle.via_paths.specs.Tries.{left_by, list_at, out_by, pair_eq}
use Rattle.via_paths.proofs.Keeping.{out-left}
use Rattle.via_paths.proofs.Outgoing.{copies-step}
use Rattle.via_paths.proofs.kept.heads_of.Goals as goal

pub returns-in-Some-get-clause-below : goal.returns-in-Some-get-clause-below
returns-in-Some-get-clause-below c = λ n below.
    let group : ℕ = c.in-Some.group in
    let vertex : ℕ = c.index.result.now.vertex in
    let heads : List ℕ = list_at c.args.fans.now vertex in
    let got : get pair_eq c.args.kept.now (group, vertex) ≡ Some c.in-Some-get.heads.now = sym c.in-Some-get.ensures.value in
    let is : c.as_slice.result.now ≡ left_by c.args.ends.now.vertices group heads = c.as_slice.ensures.value ∙ c.requires.kept (group, vertex) c.in-Some-get.heads.now got in
    subst (All (λ e. e < n)) (sym is) (All-filter (λ e. not (contains pair_eq c.args.ends.now.vertices (group, e))) (λ e. e < n) heads (below vertex))

pub returns-in-Some-get-clause-is : goal.returns-in-Some-get-clause-is
returns-in-Some-get-clause-is c = λ sequences copies turns h f.
    let n : ℕ = c.args.trie.now.vertices in
    let k : ℕ = c.args.k in
    let copied : List Copied = c.args.trie.now.copied.items in
    let entry = c.index.result.now in
    let at : slice_get copied k ≡ Some entry = slice_get_read copied (length copied) k entry refl c.requires.copy c.index.ensures in
    let group : ℕ = c.in-Some.group in
    let heads : List ℕ = list_at c.args.fans.now entry.vertex in
    let got : get pair_eq c.args.kept.now (group, entry.vertex) ≡ Some c.in-Some-get.heads.now = sym c.in-Some-get.ensures.value in
    let is : c.as_slice.result.now ≡ left_by c.args.ends.now.vertices group heads = c.as_slice.ensures.value ∙ c.requires.kept (group, entry.vertex) c.in-Some-get.heads.now got in
    let word : List ℕ = word_of n copies (n + k) in
    let same : out_by n sequences copies (n + k) word c.as_slice.result.now ≡ out_by n sequences copies (n + k) word heads =
    ap (out_by n sequences copies (n + k) word) is ∙ out-left n sequences copies (n + k) group word heads c.args.ends.now.vertices (λ e. c.in-Some.ensures sequences copies e h) in
    copies-step n sequences copies turns c.args.trie.now.next copied c.args.ends.now c.args.fans.now h f k entry heads at refl
    ∙ ap (λ (l : List (ℕ × ℕ)). copy_arcs n sequences copies turns n (take k copies) ++ l) (sym same)

pub returns-clause-is : goal.returns-clause-is
returns-clause-is c = λ sequences copies turns h f.
    let n : ℕ = c.args.trie.now.vertices in
    let copied : List Copied = c.args.trie.now.copied.items in
    let entry = c.index.result.now in
    let at : slice_get copied c.args.k ≡ Some entry = slice_get_read copied (length copied) c.args.k entry refl c.requires.copy c.index.ensures in
    copies-step n sequences copies turns c.args.trie.now.next copied c.args.ends.now c.args.fans.now h f c.args.k entry c.list_of.result.now at c.list_of.ensures
