-- What a search over the parts answers is what one over the whole would.
use Rattle.std.proofs.Common.{◌≡◌, ℕ, zero, suc, ◌<◌, ◌↔◌, inl, inr, Some, List, [], ◌∷◌, ◌++◌, length, arith, refl, sym, subst}
use Rattle.std.specs.List.{Contains, slice_get}
use Rattle.list_lemmas.proofs.Gets.{Contains_get, get_Contains}
use Rattle.std.proofs.lemmas.Option.{slice_get_within, same_Some}
use Rattle.search_graph.specs.Costs.{CostOps, CostLaws, NoDearer}
use Rattle.search_graph.specs.declared.ends.Start.{Start}
use Rattle.search_graph.specs.Walks.{Chain, Paying}
use Rattle.search_graph.specs.OrderLaws.{le_trans, plus_le_left}
use Rattle.search_graph.specs.ChainLaws.{Chain-push, Chain-map, Chain-valid, Chain-from_zero, Chain-to_more}
use Rattle.step_search.specs.Spaces.{Space, StepBy, Path}
use Rattle.step_search.specs.Paths.{IsPathTo, IsLeastPath, NoPathTo}
use Rattle.cut_walks.specs.Cut.{Cut, IsCut, OverHop, Goes, Passes, MayEnd, IsWhole, IsOver, AreAlone, AreAcross}
use Rattle.cut_walks.specs.Cutting.{over_valid, goes_from_pass, pass_from_goes, entered_begins}
use Rattle.cut_walks.specs.Bounds.{Chain-ends, pass_from_path, path_from_pass}

Contains_one : {X : Type 0} (x : X) → Contains (x ∷ []) x
Contains_one x = Contains_get (x ∷ []) 0 x refl

get_one : {X : Type 0} (x y : X) (k : ℕ) → slice_get (x ∷ []) k ≡ Some y → y ≡ x
get_one {X} x y zero e = sym (same_Some x y e)
get_one {X} x y (suc k) e = let lt : k < length {A = X} [] = slice_get_within [] k y e in absurd (omega arith)

-- what a list of one element contains is that element
pub only_one : {X : Type 0} (x y : X) → Contains (x ∷ []) y → y ≡ x
only_one x y h = let g = get_Contains (x ∷ []) y h in get_one x y g.0 g.1

cons_nil : (x : ℕ) (xs : List ℕ) → x ∷ xs ≡ [] → ⊥
cons_nil x xs e = cc

module _ {C : Type 0} {ops : CostOps C} (laws : CostLaws ops) (K : Cut C) (cut : IsCut ops K) where
  -- from a vertex that is alone, a chain of one hop or more is matched by one of one hop or more
  pass_on : (u z : ℕ) (d : C) (v : ℕ) (vs : List ℕ) → (¬ K.Joined u u) → MayEnd K z → Goes ops K u (v ∷ vs) z d → (ws : List ℕ) × (f : C) × Passes ops K u (v ∷ ws) z f × NoDearer ops f d
  pass_on u z d v vs alone m h =
      let s : C = h.1.0 in
      let hop : K.Hop u v s = h.1.1 in
      let vs0 : ops.valid s = cut.valid u v s hop in
      let vn : ops.valid h.0 = subst ops.valid (sym h.1.2) (laws.plus_valid ops.zero s laws.zero_valid vs0) in
      let apart : ¬ K.Joined u v = λ j. alone (cut.along u v u j (cut.back u v j)) in
      let rest = Chain-from_zero laws cut.valid v z h.0 d vs vn h.2 in
      let on = pass_from_goes laws K cut v z rest.0 vs (entered_begins laws K cut u v s apart hop) m rest.1 in
      let vo : ops.valid on.1 = Chain-valid laws (over_valid laws K cut) v z ops.zero on.1 on.0 laws.zero_valid on.2 in
      let vr : ops.valid rest.0 = Chain-valid laws cut.valid v z ops.zero rest.0 vs laws.zero_valid rest.1 in (
        on.0,
        ops.plus h.0 on.1,
        (h.0, (s, inl (apart, hop), h.1.2), Chain-to_more laws (over_valid laws K cut) v z h.0 on.1 on.0 vn on.2),
        subst (λ x. NoDearer ops (ops.plus h.0 on.1) x) (sym rest.2) (plus_le_left laws on.1 rest.0 h.0 vo vr vn on.3),
      )

  pass_to : (u z : ℕ) (d : C) (m : List ℕ) → (¬ K.Joined u u) → MayEnd K z → Goes ops K u (m ++ z ∷ []) z d → (v : ℕ) × (ws : List ℕ) × (f : C) × Passes ops K u (v ∷ ws) z f × NoDearer ops f d
  pass_to u z d [] alone e h = let r = pass_on u z d z [] alone e h in (z, r.0, r.1, r.2, r.3)
  pass_to u z d (v ∷ vs) alone e h = let r = pass_on u z d v (vs ++ z ∷ []) alone e h in (v, r.0, r.1, r.2, r.3)

  module _ (over : Space C) (is_over : IsOver K over) (whole : Space C) (is_whole : IsWhole K whole) (starts : List (Start C)) (t : ℕ) (alone : AreAlone ops K over whole starts t) where
    -- a path over the parts is one over the whole, at the same cost
    path_whole : (walk : List ℕ) (r : C) → IsPathTo ops over starts t walk r → (other : List ℕ) × IsPathTo ops whole starts t other r
    path_whole walk r p =
        let g = goes_from_pass laws K cut p.start.vertex p.last p.start.cost p.paid p.middle (alone.paid p.start p.among) (pass_from_path laws K cut over is_over p.start.vertex p.last p.start.cost p.paid p.middle p.goes) in
        let s : C = p.joins.0 in
        let hop : K.Hop p.last t s = elim ((is_over p.last t s).0 p.joins.1) [
          | inl q ↦ q.1
          | inr q ↦ let j : K.Joined p.last t = (cut.joins p.last t s q).0 in absurd (alone.ends (cut.along t p.last t (cut.back p.last t j) j))
        ] in (
          p.start.vertex ∷ (g.0 ++ t ∷ []),
          record {
            start = p.start;
            among = p.among;
            may = (alone.may p.start p.among).0 p.may;
            middle = g.0;
            last = p.last;
            paid = p.paid;
            goes = Chain-map (Paying ops K.Hop) {T = StepBy ops whole} (λ u v c d k. (k.0, (is_whole u v k.0).1 k.1, k.2)) p.start.vertex p.last p.start.cost p.paid g.0 g.1;
            joins = (s, (is_whole p.last t s).1 hop, p.joins.2);
            is_walk = refl;
          },
        )

    -- a path over the whole is matched by one over the parts that is no dearer
    path_over : (other : List ℕ) (e : C) → IsPathTo ops whole starts t other e → (walk : List ℕ) × (f : C) × IsPathTo ops over starts t walk f × NoDearer ops f e
    path_over other e p =
        let u : ℕ = p.start.vertex in
        let c : C = p.start.cost in
        let vc : ops.valid c = alone.paid p.start p.among in
        let goes : Chain (Paying ops K.Hop) u c p.middle p.last p.paid = Chain-map (StepBy ops whole) {T = Paying ops K.Hop} (λ u v c d k. (k.0, (is_whole u v k.0).0 k.1, k.2)) u p.last c p.paid p.middle p.goes in
        let all : Chain (Paying ops K.Hop) u c (p.middle ++ t ∷ []) t e = Chain-push (Paying ops K.Hop) u p.last t c p.paid e p.middle goes (p.joins.0, (is_whole p.last t p.joins.0).0 p.joins.1, p.joins.2) in
        let rest = Chain-from_zero laws cut.valid u t c e (p.middle ++ t ∷ []) vc all in
        let r = pass_to u t rest.0 p.middle (alone.start p.start p.among) (inl alone.ends) rest.1 in
        let vf : ops.valid r.2 = Chain-valid laws (over_valid laws K cut) u t ops.zero r.2 (r.0 ∷ r.1) laws.zero_valid r.3 in
        let vr : ops.valid rest.0 = Chain-valid laws cut.valid u t ops.zero rest.0 (p.middle ++ t ∷ []) laws.zero_valid rest.1 in
        let pass : Chain (Paying ops (OverHop K)) u c (r.0 ∷ r.1) t (ops.plus c r.2) = Chain-to_more laws (over_valid laws K cut) u t c r.2 (r.0 ∷ r.1) vc r.3 in
        let le : NoDearer ops (ops.plus c r.2) e = subst (λ x. NoDearer ops (ops.plus c r.2) x) (sym rest.2) (plus_le_left laws r.2 rest.0 c vf vr vc r.4) in
        elim (Chain-ends (Paying ops (OverHop K)) u t c (ops.plus c r.2) (r.0 ∷ r.1) pass) [
          | inl q ↦ absurd (cons_nil r.0 r.1 q.2)
          | inr q ↦ (
            u ∷ (q.0 ++ t ∷ []),
            ops.plus c r.2,
            record {
              start = p.start;
              among = p.among;
              may = (alone.may p.start p.among).1 p.may;
              middle = q.0;
              last = q.1;
              paid = q.2;
              goes = path_from_pass laws K cut over is_over u q.1 c q.2 q.0 q.3;
              joins = (q.4.0, (is_over q.1 t q.4.0).1 q.4.1, q.4.2);
              is_walk = refl;
            },
            le,
          )
        ]

    -- the least over the parts is the least over the whole
    pub IsLeastPath-whole : (walk : List ℕ) (d : C) → IsLeastPath ops over starts t walk d → (other : List ℕ) × IsLeastPath ops whole starts t other d
    IsLeastPath-whole walk d p =
        let w = path_whole walk d p.leads in
        (w.0, record { leads = w.1; least = λ other e q. let o = path_over other e q in le_trans laws d o.1 e (p.least o.0 o.1 o.2) o.3 })

    -- and none over the parts is none over the whole
    pub NoPathTo-whole : NoPathTo ops over starts t → NoPathTo ops whole starts t
    NoPathTo-whole none other e q = let o = path_over other e q in none o.0 o.1 o.2

  -- from where one may begin to another vertex, where one may end
  module _ (over : Space C) (is_over : IsOver K over) (start : Start C) (z : ℕ) (across : AreAcross ops K over start z) where
    pub goes_from_path : (walk : List ℕ) (r : C) → IsPathTo ops over (start ∷ []) z walk r → (vs : List ℕ) × Goes ops K start.vertex vs z r
    goes_from_path walk r p =
        let q : Path ops over p.start.vertex p.start.cost (p.middle ++ z ∷ []) z r = Chain-push (StepBy ops over) p.start.vertex p.last z p.start.cost p.paid r p.middle p.goes p.joins in
        let at : Path ops over start.vertex start.cost (p.middle ++ z ∷ []) z r = subst (λ (s : Start C). Path ops over s.vertex s.cost (p.middle ++ z ∷ []) z r) (only_one start p.start p.among) q in
        let zero : Path ops over start.vertex ops.zero (p.middle ++ z ∷ []) z r = subst (λ (c : C). Path ops over start.vertex c (p.middle ++ z ∷ []) z r) across.free at in
        goes_from_pass laws K cut start.vertex z ops.zero r (p.middle ++ z ∷ []) laws.zero_valid (pass_from_path laws K cut over is_over start.vertex z ops.zero r (p.middle ++ z ∷ []) zero)

    pub path_from_goes : (vs : List ℕ) (d : C) → Goes ops K start.vertex vs z d → (walk : List ℕ) × (f : C) × IsPathTo ops over (start ∷ []) z walk f × NoDearer ops f d
    path_from_goes vs d h =
        let r = pass_from_goes laws K cut start.vertex z d vs across.begins across.ends h in
        elim (Chain-ends (Paying ops (OverHop K)) start.vertex z ops.zero r.1 r.0 r.2) [
          | inl q ↦ absurd (across.apart (sym q.0))
          | inr q ↦ (
            start.vertex ∷ (q.0 ++ z ∷ []),
            r.1,
            record {
              start = start;
              among = Contains_one start;
              may = across.may;
              middle = q.0;
              last = q.1;
              paid = q.2;
              goes = subst (λ (c : C). Path ops over start.vertex c q.0 q.1 q.2) (sym across.free) (path_from_pass laws K cut over is_over start.vertex q.1 ops.zero q.2 q.0 q.3);
              joins = (q.4.0, (is_over q.1 z q.4.0).1 q.4.1, q.4.2);
              is_walk = refl;
            },
            r.3,
          )
        ]
