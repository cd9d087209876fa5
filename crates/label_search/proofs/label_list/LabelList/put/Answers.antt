-- What is written is a rank, or a cost where there is none.
use Rattle.std.proofs.Common.{◌<◌, sym, subst, arith}
use Rattle.label_search.proofs.Wording.{in-costs, in-words, put-cost, put-rank, ranked-cost, ranked-put}
use Rattle.label_search.proofs.label_list.LabelList.put.Goals as goal

pub index_mut-requires : goal.index_mut-requires
index_mut-requires g c = subst (λ n. c.args.v < n) (sym c.self.inside.words.ok.0) (in-words c.self.inside.words.items c.self.inside.costs.items c.args.self.now c.self.invariant c.self.view_is c.args.v c.requires)

pub index_mut-requires-in-None : goal.index_mut-requires-in-None
index_mut-requires-in-None g c = subst (λ n. c.args.v < n) (sym c.self.inside.words.ok.0) (in-words c.self.inside.words.items c.self.inside.costs.items c.args.self.now c.self.invariant c.self.view_is c.args.v c.requires)

pub index_mut-requires-in-None-2 : goal.index_mut-requires-in-None-2
index_mut-requires-in-None-2 g c = subst (λ n. c.args.v < n) (sym c.self.inside.costs.ok.0) (in-costs c.self.inside.words.items c.self.inside.costs.items c.args.self.now c.self.invariant c.self.view_is c.args.v c.requires)

pub invariant_of-self : goal.invariant_of-self
invariant_of-self g c =
    ranked-put c.self.inside.words.items c.self.inside.costs.items c.args.self.now c.self.invariant c.self.view_is c.args.v c.requires c.args.label c.in-Some.rank (sym c.in-Some.ensures) (g.met.C.Cost.ranks.back c.args.label c.in-Some.rank (sym c.in-Some.ensures))

pub invariant_of-self-in-None : goal.invariant_of-self-in-None
invariant_of-self-in-None g c = ranked-cost c.self.inside.words.items c.self.inside.costs.items c.args.self.now c.self.invariant c.self.view_is c.args.v c.requires c.args.label

pub returns-in-Some : goal.returns-in-Some
returns-in-Some g c =
    let short = g.met.C.Cost.ranks.short c.args.label c.in-Some.rank (sym c.in-Some.ensures) in
    put-rank c.self.inside.words.items c.self.inside.costs.items c.args.self.now c.self.invariant c.self.view_is c.args.v c.requires c.args.label c.in-Some.rank (omega (arith, short)) (g.met.C.Cost.ranks.back c.args.label c.in-Some.rank (sym c.in-Some.ensures))

pub returns-in-None : goal.returns-in-None
returns-in-None g c = put-cost c.self.inside.words.items c.self.inside.costs.items c.args.self.now c.self.invariant c.self.view_is c.args.v c.requires c.args.label
