-- One element more.
use Rattle.std.proofs.Common.{◌∷◌, [], ◌++◌, get_or, length, sym, ◌∙◌, ap}
use Rattle.list_lemmas.proofs.Gets.{get_is}
use Rattle.reply_core.proofs.ChosenLemmas.{index-within, picked-more}
use Rattle.reply_core.proofs.chosen_ends.elements_at.Goals as goal

pub loop-index-preserved : goal.loop-index-preserved
loop-index-preserved g c =
    let all = c.args.all.now in
    let indexes = c.args.indexes.now in
    let k = c.loop-index.index-index in
    let x = c.index-all-index.result in
    let i = get_or indexes k 0 in
    let there = index-within indexes (length all) k 0 c.requires c.loop-index-test.true in
    c.in_ok-push.ensures.items
    ∙ ap (λ xs. xs ++ x ∷ []) c.loop-index.invariant
    ∙ sym (picked-more all indexes k 0 x c.loop-index-test.true (get_is all i x there (sym c.index-all-index.is)))
