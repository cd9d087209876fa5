-- The rank of the offer is the sum of two.
use Rattle.std.proofs.Common.{◌≡◌, ◌+◌, Some, ◌∙◌, ap, set}
use Rattle.row_labels.proofs.Lowering.{on_true, summed}
use Rattle.row_labels.proofs.rows.lower_word.Goals as goal

pub lower-requires-clause-rank : goal.lower-requires-clause-rank
lower-requires-clause-rank g c =
    let o = c.args.offers.now in
    (summed g.met.C.Cost.ranks g.met.C.Cost.own_ranks g.met.C.Cost.few_ranks o.paid o.costs.now c.args.place o.rank o.ranks c.word-word.result c.in-Some.rank c.rank_of_sum.result c.requires.ranks c.if-word-offers.false c.word-word.ensures.short c.rank_of_sum.ensures c.in-Some.is).2

pub returns-in-Some-clause-yes : goal.returns-in-Some-clause-yes
returns-in-Some-clause-yes g c =
    let o = c.args.offers.now in
    let s = summed g.met.C.Cost.ranks g.met.C.Cost.own_ranks g.met.C.Cost.few_ranks o.paid o.costs.now c.args.place o.rank o.ranks c.word-word.result c.in-Some.rank c.rank_of_sum.result c.requires.ranks c.if-word-offers.false c.word-word.ensures.short c.rank_of_sum.ensures c.in-Some.is in
    on_true {P = c.lower.new.self ≡ set c.args.words.now (c.args.first + c.args.place) (Some (g.C.Cost.unranked c.in-Some.rank))} c.lower.result c.lower.ensures.yes (λ e. (s.0, s.1, e ∙ ap (λ x. set c.args.words.now (c.args.first + c.args.place) (Some x)) s.3))
