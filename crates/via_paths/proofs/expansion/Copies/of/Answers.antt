use Rattle.std.proofs.Common.{◌≡◌, ℕ, All, Result, Err, sym, subst}
use Rattle.via_paths.specs.declared.errors.ViaError.{ViaError}
use Rattle.via_paths.specs.Forbidden.{IsBelow, words_in}
use Rattle.via_paths.proofs.Expanding.{few-copies, automaton}
use Rattle.via_paths.specs.GroupLaws.{words-long}
use Rattle.via_paths.proofs.expansion.Copies.of.Goals as goal

same_error : {X : Type 0} (r : Result X ViaError) (x y z : ViaError) → r ≡ Err y → r ≡ Err z → y ≡ x → x ≡ z
same_error r x y z e f g = cc

pub ends_of-requires-clause-ordinary : goal.ends_of-requires-clause-ordinary
ends_of-requires-clause-ordinary c = subst (λ (n : ℕ). All (IsBelow n) c.args.groups.now) (sym c.in_ok-trie.ensures.vertices) c.requires.ordinary

pub returns-clause-are : goal.returns-clause-are
returns-clause-are c =
    let tree = c.in_ok-trie.trie in
    record {
      vertices = c.in_ok-trie.ensures.vertices;
      automaton = automaton c.args.vertices tree.vertices (words_in c.args.groups.now) tree.next tree.copied.items c.in_ok-trie.ensures.vertices c.in_ok-trie.ensures.is c.in_ok-ends.ends (words-long c.args.groups.now c.requires.paths) c.in_ok-ends.ensures;
    }

pub returns-clause-few : goal.returns-clause-few
returns-clause-few c =
    let tree = c.in_ok-trie.trie in
    few-copies c.args.vertices tree.vertices (words_in c.args.groups.now) tree.next tree.copied.items c.in_ok-trie.ensures.vertices c.in_ok-trie.ensures.is tree.sound.few
