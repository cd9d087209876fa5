-- The words so far stand for the first costs of the row.
use Rattle.std.proofs.Common.{◌≡◌, ℕ, ◌++◌, List, Option, take, ap, ◌∙◌}
use Rattle.cost_lists.proofs.Placing.{OnErr-always, row-begun}
use Rattle.cost_lists.proofs.lists.CostList.extend_from_row.Goals as goal

pub returns-in_err-push_word-clause-begun : goal.returns-in_err-push_word-clause-begun
returns-in_err-push_word-clause-begun g c =
    let first = row-begun g.C.Narrow.widened c.row.inside.others.now c.row.inside.words.now c.args.row.now c.loop-word.word-index c.row.view_is in
    let begun : (count : ℕ) × (c.push_word.new.self ≡ c.args.self.now ++ take count c.args.row.now) = (c.loop-word.word-index, c.in_err-push_word.ensures.kept ∙ c.loop-word.invariant ∙ ap (λ (xs : List (Option _)). c.args.self.now ++ xs) first) in
    OnErr-always _ begun
