-- The leaf is written, and no other.
use Rattle.std.proofs.Common.{◌≡◌, ◌+◌, drop, get_or, sym, ◌∙◌, ap, arith}
use Rattle.std.proofs.lemmas.Grind.{get_or_default_zero}
use Rattle.std.proofs.lemmas.List.{drop-set-add}
use Rattle.tournament_tree.proofs.Nodes.{leaf_there, whole}
use Rattle.tournament_tree.proofs.tree.TournamentTree.lower.Goals as goal

pub returns-clause-yes : goal.returns-clause-yes
returns-clause-yes c = rw (← c.self.view_is) (
    let words = c.self.inside.words.items in
    let count = c.self.inside.count in
    record {
      before = get_or words (count + c.args.item) 0;
      was = leaf_there words count c.self.invariant.0 c.args.item (omega (arith, c.if-item-self.false));
      less =
          let size = c.self.invariant.0.size in
          let read : c.index.result.now ≡ get_or words (count + c.args.item) 0 = c.index.ensures ∙ get_or_default_zero words (count + c.args.item) c.index.result.now (omega (arith, size, c.if-item-self.false)) in
          omega (arith, c.if-index-key.false, read);
      now = ap (drop count) (whole c.self.inside.words.len c.lower_above.new.words _ (c.lower_above.ensures.nodes.size ∙ sym c.self.invariant.0.size ∙ sym c.self.inside.words.ok.0)) ∙ c.lower_above.ensures.leaves ∙ ap (drop count) c.deref_mut.ensures.value ∙ drop-set-add count words c.args.item c.args.key;
    })
