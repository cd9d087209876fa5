-- A word that is no more than a rank is one.
use Rattle.std.proofs.Common.{◌<◌, sym, subst, arith}
use Rattle.list_lemmas.proofs.Gets.{get_is}
use Rattle.label_search.proofs.Wording.{in-words, within-rank}
use Rattle.label_search.proofs.label_list.LabelList.is_within.Goals as goal

pub index-requires : goal.index-requires
index-requires g c = subst (λ n. c.args.v < n) (sym c.self.inside.words.ok.0) (in-words c.self.inside.words.items c.self.inside.costs.items c.args.self.now c.self.invariant c.self.view_is c.args.v c.requires.vertex)

pub returns : goal.returns
returns g c =
    let word = c.index.result.now in
    let at = get_is c.self.inside.words.items c.args.v word (in-words c.self.inside.words.items c.self.inside.costs.items c.args.self.now c.self.invariant c.self.view_is c.args.v c.requires.vertex) (sym c.index.ensures) in
    within-rank c.self.inside.words.items c.self.inside.costs.items c.args.self.now c.self.invariant c.self.view_is c.args.v c.requires.vertex word c.args.rank at c.requires.rank
