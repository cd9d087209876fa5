-- What stands at 1 is the least, and a leaf's.
use Rattle.std.proofs.Common.{◌≡◌, ◌<◌, Some, get_or, length, sym, ◌∙◌, ap, arith}
use Rattle.std.proofs.lemmas.Grind.{get_or_default_zero}
use Rattle.tournament_tree.proofs.Nodes.{leaf_least, some_leaf}
use Rattle.tournament_tree.proofs.tree.TournamentTree.least.Goals as goal

pub returns-then-least-clause-none : goal.returns-then-least-clause-none
returns-then-least-clause-none c = rw (← c.self.view_is) (λ v d e.
    let at = rw c.deref.ensures.value at c.in-Some.ensures.lookup in
    let same : c.in-Some.least.now ≡ get_or c.self.inside.words.items 1 0 = at.1 ∙ get_or_default_zero c.self.inside.words.items 1 c.in-Some.least.now (omega (arith, at.0)) in
    let low = leaf_least c.self.inside.words.items c.self.inside.count c.self.invariant.0 v d e in
    omega (arith, same, c.if-least.true, low))

pub returns-else-least-clause-some : goal.returns-else-least-clause-some
returns-else-least-clause-some c = rw (← c.self.view_is) (
    let words = c.self.inside.words.items in
    let count = c.self.inside.count in
    let nodes = c.self.invariant.0 in
    let at = rw c.deref.ensures.value at c.in-Some.ensures.lookup in
    let more : 1 < length words = omega (arith, at.0) in
    let same : c.in-Some.least.now ≡ get_or words 1 0 = at.1 ∙ get_or_default_zero words 1 c.in-Some.least.now more in
    let size = nodes.size in
    let some : 0 < count = omega (arith, size, more) in
    let leaf = some_leaf words count nodes count 1 (omega arith) (omega arith) (omega (arith, some)) in (
      omega (arith, c.if-least.false, c.in-Some.least-is),
      (leaf.0, leaf.1 ∙ ap Some (sym same)),
      λ v d e. let low = leaf_least words count nodes v d e in omega (arith, same, low),
    ))
