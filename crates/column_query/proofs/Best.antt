-- The best of the ways by the entries of a target's part is the cheapest path to it.
use Rattle.std.proofs.Common.{◌≡◌, ℕ, ◌+◌, ◌<◌, ◌≤◌, inl, inr, Option, Some, None, List, length, arith, refl, sym, ◌∙◌, ap, subst}
use Rattle.std.specs.Prelude.{IfSome}
use Rattle.std.specs.List.{slice_get}
use Rattle.std.proofs.lemmas.Bool.{cases_lt}
use Rattle.std.proofs.lemmas.Option.{same_Some, slice_get_within}
use Rattle.list_lemmas.proofs.Gets.{get_Contains}
use Rattle.search_graph.specs.Costs.{CostOps, CostLaws, NoDearer}
use Rattle.search_graph.specs.declared.ends.Start.{Start}
use Rattle.search_graph.specs.Digraph.{Weighting}
use Rattle.search_graph.specs.OrderLaws.{le_trans, plus_le, plus_le_left}
use Rattle.step_search.specs.Paths.{IsPathTo, IsLeastPathCost}
use Rattle.step_search.specs.ArcSpace.{arc_space}
use Rattle.cell_frame.specs.Borders.{Framed, Holds, at_cell}
use Rattle.cell_frame.specs.Cliqued.{CliqueLists}
use Rattle.cell_frame.specs.Free.{free_level}
use Rattle.cell_frame.specs.Inside.{IsLeastInside, IsInsideValue}
use Rattle.cell_frame.specs.Parts.{whole_at}
use Rattle.column_query.specs.Rows.{IsReady, IsAtMost, IsLesser, IsByEntry, paid_on, row_space}
use Rattle.column_query.proofs.Ways.{GoesBy, AreStarts-row}
use Rattle.column_query.proofs.Through.{path_from_way, way_from_path}
use Rattle.column_query.proofs.Small.{path_valid, inside_valid}

-- the best of the ways by the first m entries: some walk costs what it does, and no such way costs less
pub record IsBest {C : Type 0} (ops : CostOps C) (f : Framed) (w : Weighting C) (vertices : List ℕ) (starts : List (Start C)) (t : ℕ) (entries : List ℕ) (m : ℕ) (best : Option C) : Type 0 where
  pub reached : IfSome best (λ b. (walk : List ℕ) × IsPathTo ops (arc_space ops f.graph w) starts t walk b)
  pub least : (i e : ℕ) (d : C) → i < m → slice_get entries i ≡ Some e → GoesBy ops f w vertices starts t e d → IsAtMost ops best d

module _ {C : Type 0} {ops : CostOps C} (laws : CostLaws ops) (f : Framed) (w : Weighting C) (cliques : CliqueLists C) (vertices : List ℕ) (starts : List (Start C)) (ready : IsReady ops f w cliques vertices starts)
    (t : ℕ) (below : t < f.graph.vertices) (some : 1 ≤ free_level f.cells vertices t) where
  abbrev In : ℕ → Type 0
  In = Holds f.cells (whole_at f.cells (free_level f.cells vertices) t)

  module _ (e : ℕ) where
    -- a sum is what some walk costs
    sum_at : (path : Option C) (m : C) (sum : Option C) → IsLeastInside ops f.graph w In e t m → IsLeastPathCost ops (row_space ops f w vertices) starts e path → sum ≡ paid_on ops path m → IfSome sum (λ b. (walk : List ℕ) × IsPathTo ops (arc_space ops f.graph w) starts t walk b)
    sum_at None m sum value none same = subst (λ (o : Option C). IfSome o (λ b. (walk : List ℕ) × IsPathTo ops (arc_space ops f.graph w) starts t walk b)) (sym same) tt
    sum_at (Some r) m sum value path same =
        subst (λ (o : Option C). IfSome o (λ b. (walk : List ℕ) × IsPathTo ops (arc_space ops f.graph w) starts t walk b)) (sym same)
        (path_from_way laws f w cliques vertices starts ready t below some e (ops.plus r m) (record { walk = path.0; paid = r; path = path.1.leads; rest = value.walk; more = m; inside = value.leads; sum = refl }))

    sum_reached : (more sum : Option C) → IsInsideValue ops f.graph w In e t more → IsByEntry ops (row_space ops f w vertices) starts e more sum → IfSome sum (λ b. (walk : List ℕ) × IsPathTo ops (arc_space ops f.graph w) starts t walk b)
    sum_reached None sum value by = subst (λ (o : Option C). IfSome o (λ b. (walk : List ℕ) × IsPathTo ops (arc_space ops f.graph w) starts t walk b)) (sym by) tt
    sum_reached (Some m) sum value by = sum_at by.0 m sum value by.1 by.2

    -- and no way by this entry costs less
    no_less : (path : Option C) (m : C) (sum : Option C) → IsLeastInside ops f.graph w In e t m → IsLeastPathCost ops (row_space ops f w vertices) starts e path → sum ≡ paid_on ops path m → (d : C) → GoesBy ops f w vertices starts t e d → IsAtMost ops sum d
    no_less None m sum value none same d q = absurd (none q.walk q.paid q.path)
    no_less (Some r) m sum value path same d q =
        let fit = AreStarts-row laws f w cliques vertices starts ready in
        let vr : ops.valid r = path_valid laws (row_space ops f w vertices) ready.lawful.space starts fit e path.0 r path.1.leads in
        let vp : ops.valid q.paid = path_valid laws (row_space ops f w vertices) ready.lawful.space starts fit e q.walk q.paid q.path in
        let vm : ops.valid m = inside_valid laws f.graph w ready.small In e t value.walk m value.leads in
        let vq : ops.valid q.more = inside_valid laws f.graph w ready.small In e t q.rest q.more q.inside in
        let first : NoDearer ops (ops.plus r m) (ops.plus q.paid m) = plus_le laws r q.paid m vr vp vm (path.1.least q.walk q.paid q.path) in
        let second : NoDearer ops (ops.plus q.paid m) (ops.plus q.paid q.more) = plus_le_left laws m q.more q.paid vm vq vp (value.least q.rest q.more q.inside) in
        let le : NoDearer ops (ops.plus r m) d = subst (λ x. NoDearer ops (ops.plus r m) x) (sym q.sum) (le_trans laws (ops.plus r m) (ops.plus q.paid m) (ops.plus q.paid q.more) first second) in
        subst (λ (o : Option C). IsAtMost ops o d) (sym same) le

    sum_least : (more sum : Option C) → IsInsideValue ops f.graph w In e t more → IsByEntry ops (row_space ops f w vertices) starts e more sum → (d : C) → GoesBy ops f w vertices starts t e d → IsAtMost ops sum d
    sum_least None sum value by d q = absurd (value q.rest q.more q.inside)
    sum_least (Some m) sum value by d q = no_less by.0 m sum value by.1 by.2 d q

  module _ (entries : List ℕ) where
    pub IsBest-none : IsBest ops f w vertices starts t entries 0 None
    IsBest-none = record { reached = tt; least = λ i e d lt at q. absurd (omega (arith, lt)) }

    -- the best of one entry more
    pub IsBest-more : (m e : ℕ) (best more sum new : Option C) → slice_get entries m ≡ Some e → IsInsideValue ops f.graph w In e t more → IsByEntry ops (row_space ops f w vertices) starts e more sum → IsLesser ops best sum new →
        IsBest ops f w vertices starts t entries m best → IsBest ops f w vertices starts t entries (m + 1) new
    IsBest-more m e best more sum new at value by lesser h = record {
      reached = elim lesser.one [
        | inl same ↦ subst (λ (o : Option C). IfSome o (λ b. (walk : List ℕ) × IsPathTo ops (arc_space ops f.graph w) starts t walk b)) (sym same) h.reached
        | inr same ↦ subst (λ (o : Option C). IfSome o (λ b. (walk : List ℕ) × IsPathTo ops (arc_space ops f.graph w) starts t walk b)) (sym same) (sum_reached e more sum value by)
      ];
      least = λ i x d lt there q. elim (cases_lt i m) [
        | inl less ↦ lesser.first d (h.least i x d less there q)
        | inr le ↦
            let same : i ≡ m = omega (arith, lt, le) in
            let here : x ≡ e = same_Some x e (sym there ∙ ap (slice_get entries) same ∙ at) in
            lesser.second d (sum_least e more sum value by d (subst (λ (y : ℕ). GoesBy ops f w vertices starts t y d) here q))
      ];
    }

  module _ (m : ℕ) (all : length (at_cell f.entries (whole_at f.cells (free_level f.cells vertices) t)) ≤ m) where
    abbrev entries_of : List ℕ
    entries_of = at_cell f.entries (whole_at f.cells (free_level f.cells vertices) t)

    -- each walk costs as much as the best of all entries or more
    at_most : (best : Option C) → IsBest ops f w vertices starts t entries_of m best → (walk : List ℕ) (d : C) → IsPathTo ops (arc_space ops f.graph w) starts t walk d → (x : C) × IsAtMost ops best x × NoDearer ops x d
    at_most best h walk d p =
        let q = way_from_path laws f w cliques vertices starts ready t below some walk d p in
        let g = get_Contains entries_of q.0 q.2 in
        let lt : g.0 < length entries_of = slice_get_within entries_of g.0 q.0 g.1 in
        (q.1, h.least g.0 q.0 q.1 (omega (arith, all, lt)) g.1 q.3, q.4)

    -- so it is the least
    pub IsLeastPathCost-best : (best : Option C) → IsBest ops f w vertices starts t entries_of m best → IsLeastPathCost ops (arc_space ops f.graph w) starts t best
    IsLeastPathCost-best None h = λ walk d p. (at_most None h walk d p).1
    IsLeastPathCost-best (Some b) h = (h.reached.0, record { leads = h.reached.1; least = λ walk d p. let q = at_most (Some b) h walk d p in le_trans laws b q.0 d q.1 q.2 })
