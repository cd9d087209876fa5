-- Small weights are a weighting.
use Rattle.std.proofs.Common.{sym, subst}
use Rattle.std.proofs.lemmas.Result.{IfOk-weaker}
use Rattle.search_graph.specs.Weighted.{IsWeighting, AreSmall}
use Rattle.search_graph.specs.WeightLaws.{small_is_weighting}
use Rattle.search_graph.proofs.weighting.small_weights.Goals as goal

pub of-requires : goal.of-requires
of-requires g c = small_is_weighting g.met.C.Cost.laws c.args.graph.now _ c.requires

pub returns-clause-small : goal.returns-clause-small
returns-clause-small g c = IfOk-weaker _ _ _ (λ made e. subst (λ w. AreSmall g.C.Cost.ops c.args.graph.now w) (sym e) c.requires) c.of.ensures

pub returns-clause-weighting : goal.returns-clause-weighting
returns-clause-weighting g c =
    let weighting = small_is_weighting g.met.C.Cost.laws c.args.graph.now _ c.requires in
    IfOk-weaker _ _ _ (λ made e. subst (λ w. IsWeighting g.C.Cost.ops c.args.graph.now w) (sym e) weighting) c.of.ensures
