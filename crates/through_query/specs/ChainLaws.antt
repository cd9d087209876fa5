-- Chains through the first legs and through the rest: how they are joined and taken apart, and that legs which break have
-- no chain.
use Rattle.std.proofs.Common.{◌≡◌, ℕ, ◌+◌, List, [], ◌∷◌, ◌++◌, Option, Some, None, drop, slice_index_or, take, refl, sym, subst, ap, ◌∙◌}
use Rattle.std.proofs.lemmas.List.{take-append-drop}
use Rattle.std.proofs.lemmas.Option.{none-some, same_Some}
use Rattle.search_graph.specs.OrderLaws.{zero_plus}
use Rattle.search_graph.specs.RoadCosts.{road_cost_ops, road_cost_laws}
use Rattle.search_graph.specs.declared.costs.WeightDurLen.{WeightDurLen}
use Rattle.through_query.specs.Chains.{HasChain, IsBrokenAt, both, chain_cost, leg_cost}
use Rattle.through_query.specs.declared.legs.LegCosts.{LegCosts}

-- both are there where their sum is, and the other way round
pub both_some : (x y : Option WeightDurLen) (d : WeightDurLen) → both x y ≡ Some d → (a : WeightDurLen) × (b : WeightDurLen) × (x ≡ Some a) × (y ≡ Some b) × (d ≡ road_cost_ops.plus a b)
both_some None y d e = absurd (none-some d e)
both_some (Some a) None d e = absurd (none-some d e)
both_some (Some a) (Some b) d e = (a, b, refl, refl, sym (same_Some (road_cost_ops.plus a b) d e))

pub both_are : (x y : Option WeightDurLen) (a b : WeightDurLen) → x ≡ Some a → y ≡ Some b → both x y ≡ Some (road_cost_ops.plus a b)
both_are x y a b e f = ap (λ o. both o y) e ∙ ap (both (Some a)) f

-- one leg in front of two parts
both_along : (x y z : Option WeightDurLen) (a b : WeightDurLen) → both x y ≡ Some a → ((c : WeightDurLen) → y ≡ Some c → z ≡ Some (road_cost_ops.plus c b)) → both x z ≡ Some (road_cost_ops.plus a b)
both_along x y z a b e f =
    let p = both_some x y a e in
    both_are x z p.0 (road_cost_ops.plus p.1 b) p.2 (f p.1 p.3) ∙ ap Some (sym (road_cost_laws.assoc p.0 p.1 b tt tt tt) ∙ ap (λ s. road_cost_ops.plus s b) (sym p.4))

-- a chain through the first legs, and one through the rest from the state in which it ends, are one through all
pub chain_joined : (legs rest : List LegCosts) (states : List ℕ) (y : ℕ) (more : List ℕ) (a b : WeightDurLen) → chain_cost legs (states ++ y ∷ []) ≡ Some a → chain_cost rest (y ∷ more) ≡ Some b
    → chain_cost (legs ++ rest) (states ++ y ∷ more) ≡ Some (road_cost_ops.plus a b)
chain_joined [] rest [] y more a b e f = f ∙ ap Some (sym (zero_plus road_cost_laws b tt) ∙ ap (λ s. road_cost_ops.plus s b) (same_Some road_cost_ops.zero a e))
chain_joined [] rest (x ∷ []) y more a b e f = absurd (none-some a e)
chain_joined [] rest (x ∷ z ∷ states) y more a b e f = absurd (none-some a e)
chain_joined (leg ∷ legs) rest [] y more a b e f = absurd (none-some a e)
chain_joined (leg ∷ legs) rest (x ∷ []) y more a b e f =
    both_along (leg_cost leg x y) (chain_cost legs (y ∷ [])) (chain_cost (legs ++ rest) (y ∷ more)) a b e (λ c g. chain_joined legs rest [] y more c b g f)
chain_joined (leg ∷ legs) rest (x ∷ z ∷ states) y more a b e f =
    both_along (leg_cost leg x z) (chain_cost legs (z ∷ states ++ y ∷ [])) (chain_cost (legs ++ rest) (z ∷ states ++ y ∷ more)) a b e (λ c g. chain_joined legs rest (z ∷ states) y more c b g f)

-- a chain through all legs in two parts: that through the first of them up to state y, and that through the rest from there
pub record IsSplit (legs rest : List LegCosts) (states : List ℕ) (cost : WeightDurLen) : Type 0 where
  pub front : List ℕ
  pub seam : ℕ
  pub more : List ℕ
  pub are : states ≡ front ++ seam ∷ more
  pub first : WeightDurLen
  pub second : WeightDurLen
  pub first_costs : chain_cost legs (front ++ seam ∷ []) ≡ Some first
  pub second_costs : chain_cost rest (seam ∷ more) ≡ Some second
  pub sum : cost ≡ road_cost_ops.plus first second

-- a leg to the head of a list, in front of the chain along the list
one_before : (leg : LegCosts) (legs : List LegCosts) (x y z : ℕ) (front more rest : List ℕ) (a b : WeightDurLen) → y ∷ rest ≡ front ++ z ∷ more → leg_cost leg x y ≡ Some a → chain_cost legs (front ++ z ∷ []) ≡ Some b
    → chain_cost (leg ∷ legs) (x ∷ front ++ z ∷ []) ≡ Some (road_cost_ops.plus a b)
one_before leg legs x y z [] more rest a b same e f = both_are (leg_cost leg x z) (chain_cost legs (z ∷ [])) a b (ap (λ l. leg_cost leg x (slice_index_or l 0 0)) (sym same) ∙ e) f
one_before leg legs x y z (w ∷ front) more rest a b same e f = both_are (leg_cost leg x w) (chain_cost legs (w ∷ front ++ z ∷ [])) a b (ap (λ l. leg_cost leg x (slice_index_or l 0 0)) (sym same) ∙ e) f

pub chain_split : (legs rest : List LegCosts) (states : List ℕ) (d : WeightDurLen) → chain_cost (legs ++ rest) states ≡ Some d → IsSplit legs rest states d
chain_split [] [] [] d e = absurd (none-some d e)
chain_split [] (leg ∷ rest) [] d e = absurd (none-some d e)
chain_split [] rest (y ∷ more) d e = record {
  front = [];
  seam = y;
  more = more;
  are = refl;
  first = road_cost_ops.zero;
  second = d;
  first_costs = refl;
  second_costs = e;
  sum = sym (zero_plus road_cost_laws d tt);
}
chain_split (leg ∷ legs) rest [] d e = absurd (none-some d e)
chain_split (leg ∷ legs) rest (x ∷ []) d e = absurd (none-some d e)
chain_split (leg ∷ legs) rest (x ∷ y ∷ more) d e =
    let p = both_some (leg_cost leg x y) (chain_cost (legs ++ rest) (y ∷ more)) d e in
    let s = chain_split legs rest (y ∷ more) p.1 p.3 in
    record {
      front = x ∷ s.front;
      seam = s.seam;
      more = s.more;
      are = ap (λ l. x ∷ l) s.are;
      first = road_cost_ops.plus p.0 s.first;
      second = s.second;
      first_costs = one_before leg legs x y s.seam s.front s.more more p.0 s.first s.are p.2 s.first_costs;
      second_costs = s.second_costs;
      sum = p.4 ∙ ap (road_cost_ops.plus p.0) s.sum ∙ sym (road_cost_laws.assoc p.0 s.first s.second tt tt tt);
    }

-- a chain through all legs goes through the first of them
pub chain_front : (legs rest : List LegCosts) → HasChain (legs ++ rest) → HasChain legs
chain_front legs rest chain = let s = chain_split legs rest chain.0 chain.1 chain.2 in (s.front ++ s.seam ∷ [], s.first, s.first_costs)

-- where a leg breaks there is no chain through all
pub broken_has_none : (legs : List LegCosts) (i : ℕ) → IsBrokenAt legs i → ¬ HasChain legs
broken_has_none legs i broken = λ chain. broken.none (chain_front (take (i + 1) legs) (drop (i + 1) legs) (subst HasChain (sym (take-append-drop (i + 1) legs)) chain))
