-- The leaf of the least key is written, and no other.
use Rattle.std.proofs.Common.{◌≡◌, ◌+◌, ◌-◌, ℕ, Some, drop, get_or, set, sym, ◌∙◌, ap, arith}
use Rattle.std.proofs.lemmas.List.{drop-set-add}
use Rattle.tournament_tree.specs.Keys.{no_key}
use Rattle.tournament_tree.proofs.Nodes.{first_is, leaf_there, whole}
use Rattle.tournament_tree.proofs.tree.TournamentTree.pop.Goals as goal

pub leaf_of-leaf-requires-clause-least : goal.leaf_of-leaf-requires-clause-least
leaf_of-leaf-requires-clause-least c =
    let some = rw (← c.self.view_is) at c.in_ok-least.ensures.some in
    rw c.deref.ensures.value (first_is c.self.inside.words.items c.self.inside.count c.self.invariant.0 c.in_ok-least.least some.1.0 some.1.1 some.2)

pub returns-clause-some : goal.returns-clause-some
returns-clause-some c = rw (← c.self.view_is) (
    let words = c.self.inside.words.items in
    let count = c.self.inside.count in
    let some = rw (← c.self.view_is) at c.in_ok-least.ensures.some in
    let leaf : ℕ = c.leaf_of-leaf.result in
    let there : count + (leaf - count) ≡ leaf = omega (arith, c.leaf_of-leaf.ensures.leaf) in
    let is : get_or words leaf 0 ≡ c.in_ok-least.least = rw c.deref.ensures.value at c.leaf_of-leaf.ensures.there in
    record {
      some = some.0;
      was = leaf_there words count c.self.invariant.0 (leaf - count) (omega (arith, c.leaf_of-leaf.ensures.leaf, c.leaf_of-leaf.ensures.within)) ∙ ap Some (ap (λ (n : ℕ). get_or words n 0) there ∙ is);
      least = some.2;
      now =
          let put : c.deref_mut.result.now ≡ set words (count + (leaf - count)) no_key = rw there c.deref_mut.ensures.value in
          ap (drop count) (whole c.self.inside.words.len c.raise_above.new.words _ (c.raise_above.ensures.nodes.size ∙ sym c.self.invariant.0.size ∙ sym c.self.inside.words.ok.0)) ∙ c.raise_above.ensures.leaves ∙ ap (drop count) put ∙ drop-set-add count words (leaf - count) no_key;
    })
