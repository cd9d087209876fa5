-- A label is what its word says.
use Rattle.std.proofs.Common.{◌<◌, sym, subst, arith}
use Rattle.list_lemmas.proofs.Gets.{get_is}
use Rattle.label_search.proofs.Wording.{in-costs, in-words, label-by-cost, label-by-none, label-by-rank}
use Rattle.label_search.proofs.label_list.LabelList.get.Goals as goal

pub index-word-requires : goal.index-word-requires
index-word-requires g c = subst (λ n. c.args.v < n) (sym c.self.inside.words.ok.0) (in-words c.self.inside.words.items c.self.inside.costs.items c.args.self.now c.self.invariant c.self.view_is c.args.v c.requires)

pub returns-then-word-lt-UNRANKED : goal.returns-then-word-lt-UNRANKED
returns-then-word-lt-UNRANKED g c =
    let word = c.index-word.result.now in
    let at = get_is c.self.inside.words.items c.args.v word (in-words c.self.inside.words.items c.self.inside.costs.items c.args.self.now c.self.invariant c.self.view_is c.args.v c.requires) (sym c.index-word.ensures) in
    rw c.of_rank.ensures (label-by-rank c.self.inside.words.items c.self.inside.costs.items c.args.self.now c.self.invariant c.self.view_is c.args.v c.requires word at c.if-word-lt-UNRANKED.true)

pub returns-then-word : goal.returns-then-word
returns-then-word g c =
    let word = c.index-word.result.now in
    let at = get_is c.self.inside.words.items c.args.v word (in-words c.self.inside.words.items c.self.inside.costs.items c.args.self.now c.self.invariant c.self.view_is c.args.v c.requires) (sym c.index-word.ensures) in
    label-by-none c.self.inside.words.items c.self.inside.costs.items c.args.self.now c.self.invariant c.self.view_is c.args.v c.requires word at c.if-word.true

pub index-requires : goal.index-requires
index-requires g c = subst (λ n. c.args.v < n) (sym c.self.inside.costs.ok.0) (in-costs c.self.inside.words.items c.self.inside.costs.items c.args.self.now c.self.invariant c.self.view_is c.args.v c.requires)

pub returns : goal.returns
returns g c =
    let word = c.index-word.result.now in
    let cost = c.index.result.now in
    let at = get_is c.self.inside.words.items c.args.v word (in-words c.self.inside.words.items c.self.inside.costs.items c.args.self.now c.self.invariant c.self.view_is c.args.v c.requires) (sym c.index-word.ensures) in
    let beside = get_is c.self.inside.costs.items c.args.v cost (in-costs c.self.inside.words.items c.self.inside.costs.items c.args.self.now c.self.invariant c.self.view_is c.args.v c.requires) (sym c.index.ensures) in
    label-by-cost c.self.inside.words.items c.self.inside.costs.items c.args.self.now c.self.invariant c.self.view_is c.args.v c.requires word cost at beside (λ lt. let long = c.if-word-lt-UNRANKED.false in omega (arith, lt, long)) c.if-word.false
