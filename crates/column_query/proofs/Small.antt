-- How large the sums of a row are: what a cheapest path costs to a vertex where none begins, and a cheapest walk inside a cell.
use Rattle.std.proofs.Common.{◌≡◌, ℕ, ◌+◌, ◌*◌, ◌^◌, inl, inr, Option, Some, None, List, [], ◌∷◌, ◌++◌, length, arith, refl, sym, ◌∙◌, ap, subst}
use Rattle.std.specs.Prelude.{IfSome}
use Rattle.std.specs.List.{Contains}
use Rattle.list_lemmas.proofs.Sums.{twos_within}
use Rattle.search_graph.specs.Costs.{CostOps, CostLaws, NoDearer}
use Rattle.search_graph.specs.declared.ends.Start.{Start}
use Rattle.search_graph.specs.Digraph.{Digraph, Weighting}
use Rattle.search_graph.specs.Weighted.{AreSmall}
use Rattle.search_graph.specs.OrderLaws.{plus_le_back, same_from_le}
use Rattle.search_graph.specs.ChainLaws.{Chain-push, Chain-valid, Chain-from_zero, Chain-to_more, Chain-short}
use Rattle.search_graph.specs.WeightLaws.{move_valid, move_below, small_move_units, open_below}
use Rattle.step_search.specs.Spaces.{Space, HasHop, StepBy, Path, IsSpace, IsLeastCost}
use Rattle.step_search.specs.Paths.{AreStarts, IsPathTo, IsLeastPath}
use Rattle.cut_walks.specs.Bounds.{Chain-ends}
use Rattle.cell_frame.specs.Inside.{IsMoveIn, IsInside, IsLeastInside, IsInsideValue}

module _ {C : Type 0} {ops : CostOps C} (laws : CostLaws ops) (S : Space C) (space : IsSpace ops S) (starts : List (Start C)) (fit : AreStarts ops S starts) (e : ℕ) where
  hop_valid : (u v : ℕ) (s : C) → HasHop S u v s → ops.valid s
  hop_valid u v s h = laws.units_valid s (2 ^ 29) (space.hop_units u v s h)

  start_valid : (s : Start C) → Contains starts s → ops.valid s.cost
  start_valid s h = laws.units_valid s.cost 1 (fit s h).1

  pub path_valid : (walk : List ℕ) (r : C) → IsPathTo ops S starts e walk r → ops.valid r
  path_valid walk r p =
      let paid : ops.valid p.paid = Chain-valid laws hop_valid p.start.vertex p.last p.start.cost p.paid p.middle (start_valid p.start p.among) p.goes in
      subst ops.valid (sym p.joins.2) (laws.plus_valid p.paid p.joins.0 paid (hop_valid p.last e p.joins.0 p.joins.1))

  -- a path from no cost, behind a start's
  path_behind : (q : Start C) → Contains starts q → S.May q.vertex → ((s : Start C) → Contains starts s → s.vertex ≡ e → ⊥) → (ws : List ℕ) (f : C) → Path ops S q.vertex ops.zero ws e f → (walk : List ℕ) × IsPathTo ops S starts e walk (ops.plus q.cost f)
  path_behind q among may apart ws f k =
      let u : ℕ = q.vertex in
      let a : C = q.cost in
      let va : ops.valid a = start_valid q among in
      elim (Chain-ends (StepBy ops S) u e ops.zero f ws k) [
        | inl z ↦ absurd (apart q among (sym z.0))
        | inr y ↦
            let v_paid : ops.valid y.2 = Chain-valid laws hop_valid u y.1 ops.zero y.2 y.0 laws.zero_valid y.3 in (
              u ∷ (y.0 ++ e ∷ []),
              record {
                start = q;
                among = among;
                may = may;
                middle = y.0;
                last = y.1;
                paid = ops.plus a y.2;
                goes = Chain-to_more laws hop_valid u y.1 a y.2 y.0 va y.3;
                joins = (y.4.0, y.4.1, ap (ops.plus a) y.4.2 ∙ sym (laws.assoc a y.2 y.4.0 va v_paid (hop_valid y.1 e y.4.0 y.4.1)));
                is_walk = refl;
              },
            )
      ]

  pub path_units : ((s : Start C) → Contains starts s → s.vertex ≡ e → ⊥) → (walk : List ℕ) (r : C) → IsLeastPath ops S starts e walk r → ops.units r (1 + 2 ^ 28)
  path_units apart walk r p =
      let q = p.leads in
      let u : ℕ = q.start.vertex in
      let a : C = q.start.cost in
      let va : ops.valid a = start_valid q.start q.among in
      let all : Path ops S u a (q.middle ++ e ∷ []) e r = Chain-push (StepBy ops S) u q.last e a q.paid r q.middle q.goes q.joins in
      let rest = Chain-from_zero laws hop_valid u e a r (q.middle ++ e ∷ []) va all in
      let v_rest : ops.valid rest.0 = Chain-valid laws hop_valid u e ops.zero rest.0 (q.middle ++ e ∷ []) laws.zero_valid rest.1 in
      let least : IsLeastCost ops S u e rest.0 = λ ws f k.
      let vf : ops.valid f = Chain-valid laws hop_valid u e ops.zero f ws laws.zero_valid k in
      let other = path_behind q.start q.among q.may apart ws f k in
      let le : NoDearer ops (ops.plus a rest.0) (ops.plus a f) = subst (λ x. NoDearer ops x (ops.plus a f)) rest.2 (p.least other.0 (ops.plus a f) other.1) in
      plus_le_back laws rest.0 f a v_rest vf va (subst (λ x. NoDearer ops x (ops.plus f a)) (laws.comm a rest.0 va v_rest) (subst (λ x. NoDearer ops (ops.plus a rest.0) x) (laws.comm a f va vf) le)) in
      let small : ops.units rest.0 (2 ^ 28) = space.least_units u e rest.0 (q.middle ++ e ∷ []) q.may rest.1 least in
      subst (λ x. ops.units x (1 + 2 ^ 28)) (sym rest.2) (laws.plus_units a rest.0 1 (2 ^ 28) (fit q.start q.among).1 small)

module _ {C : Type 0} {ops : CostOps C} (laws : CostLaws ops) (g : Digraph) (w : Weighting C) (small : AreSmall ops g w) (In : ℕ → Type 0) (u v : ℕ) where
  pub inside_valid : (vs : List ℕ) (d : C) → IsInside ops g w In u v vs d → ops.valid d
  inside_valid vs d h = Chain-valid laws {Hop = IsMoveIn ops g w In} (λ x y s m. move_valid laws g w small x y s m.1) u v ops.zero d vs laws.zero_valid h.goes

  pub inside_units : (d : C) → IsLeastInside ops g w In u v d → ops.units d (2 ^ 28)
  inside_units d h =
      let p = h.leads in
      let r = Chain-short laws {Hop = IsMoveIn ops g w In} (λ x y s m. move_valid laws g w small x y s m.1) g.vertices 2 (λ x y s m. move_below laws g w small x y s m.1) (λ x y s m. small_move_units laws g w small x y s m.1) u v d h.walk (open_below laws g w small u p.opens.0 p.opens.1) p.goes in
      let other : IsInside ops g w In u v r.0 r.1 = record { begins = p.begins; opens = p.opens; goes = r.2 } in
      let same : r.1 ≡ d = same_from_le laws r.1 d (inside_valid r.0 r.1 other) (inside_valid h.walk d p) r.3 (h.least r.0 r.1 other) in
      subst (λ x. ops.units x (2 ^ 28)) same (laws.units_more r.1 (length r.0 * 2) (2 ^ 28) r.5 (twos_within g.vertices (length r.0) small.few r.4))

  -- a column's value is small
  pub value_small : (o : Option C) → IsInsideValue ops g w In u v o → IfSome o (λ d. ops.units d (2 ^ 28))
  value_small None h = tt
  value_small (Some d) h = inside_units d h

-- both together are within the bounds of a sum
pub sum_units : {C : Type 0} {ops : CostOps C} → CostLaws ops → (r m : C) → ops.units r (1 + 2 ^ 28) → ops.units m (2 ^ 28) → ops.units (ops.plus r m) (2 ^ 31)
sum_units {C} {ops} laws r m h k = laws.units_more (ops.plus r m) (1 + 2 ^ 28 + 2 ^ 28) (2 ^ 31) (laws.plus_units r m (1 + 2 ^ 28) (2 ^ 28) h k) (omega arith)
