-- What is taken from the arcs and the places of a row, as far as a loop has come.
use Rattle.std.proofs.Common.{◌≡◌, ℕ, ◌+◌, ◌^◌, ◌<◌, ◌≤◌, ◌⊎◌, inl, inr, Option, Bool, true, List, length, Some, refl, sym, ◌∙◌, ap, subst, arith}
use Rattle.std.specs.List.{Contains, slice_get}
use Rattle.std.proofs.lemmas.Bool.{cases_lt}
use Rattle.std.proofs.lemmas.Option.{same_Some, slice_get_within}
use Rattle.std.proofs.Math.ListN.{set, length-set}
use Rattle.list_lemmas.proofs.Gets.{get_Contains, get_some, get_set}
use Rattle.search_graph.specs.Costs.{CostOps, CostLaws}
use Rattle.search_graph.specs.OrderLaws.{zero_plus}
use Rattle.step_search.specs.Spaces.{Space, IsSpace}
use Rattle.step_search.specs.declared.hops.Hop.{Hop}
use Rattle.cell_customize.specs.Leaping.{ArcHop, RowHop, Beyond, Leap, Placed, IfPlaced, Gathers, IsGoal}
use Rattle.cell_customize.proofs.Bundled.{Gathers-both, Gathers-as}

-- behind what is paid, an arc of x
abbrev pub ByArc : {C : Type 0} → CostOps C → Space C → ℕ → ℕ → C → ℕ → C → Type 0
ByArc {C} ops S x arc paid v c = (t : C) × S.Arc x arc v t × (c ≡ ops.plus paid t)

-- one of the first m arcs of a list
abbrev pub ByArcs : {C : Type 0} → CostOps C → Space C → ℕ → List ℕ → C → ℕ → ℕ → C → Type 0
ByArcs ops S x arcs paid m v c = (k : ℕ) × (arc : ℕ) × (k < m) × (slice_get arcs k ≡ Some arc) × ByArc ops S x arc paid v c

-- behind one of the first m places of u's row
abbrev pub ByPlaces : {C : Type 0} → CostOps C → Space C → (ℕ → Type 0) → ℕ → ℕ → ℕ → C → Type 0
ByPlaces {C} ops S Goal u m v c = (j : ℕ) × (x : ℕ) × (s : C) × (j < m) × (slice_get (S.heads u) j ≡ Some x) × S.Costs u j s × Placed ops S Goal x s v c

module _ {C : Type 0} {ops : CostOps C} (laws : CostLaws ops) (S : Space C) (from : ℕ) where
  pub ByArcs-more : (x : ℕ) (arcs : List ℕ) (paid : C) (m arc : ℕ) (old mid new : List (Hop C)) → slice_get arcs m ≡ Some arc → Gathers ops old mid from (ByArcs ops S x arcs paid m) → Gathers ops mid new from (ByArc ops S x arc paid) → Gathers ops old new from (ByArcs ops S x arcs paid (m + 1))
  ByArcs-more x arcs paid m arc old mid new at a b = Gathers-both laws from old mid new (ByArcs ops S x arcs paid m) (ByArc ops S x arc paid) (ByArcs ops S x arcs paid (m + 1))
      (λ v c p. let lt : p.0 < m + 1 = omega (arith, p.2) in (p.0, p.1, lt, p.3, p.4))
      (λ v c p. let lt : m < m + 1 = omega arith in (m, arc, lt, at, p))
      (λ v c p. elim (cases_lt p.0 m) [
        | inl lt ↦ inl (p.0, p.1, lt, p.3, p.4)
        | inr past ↦
            let same : m ≡ p.0 = omega (arith, past, p.2) in
            let is : p.1 ≡ arc = same_Some p.1 arc (sym p.3 ∙ ap (slice_get arcs) (sym same) ∙ at) in
            inr (subst (λ (i : ℕ). ByArc ops S x i paid v c) is p.4)
      ])
      a b

  -- all arcs
  pub ByArcs-all : (x : ℕ) (arcs : List ℕ) (paid : C) (m : ℕ) (old new : List (Hop C)) → length arcs ≤ m → ((i w : ℕ) (s : C) → S.Arc x i w s → Contains arcs i) → Gathers ops old new from (ByArcs ops S x arcs paid m) →
      Gathers ops old new from (λ v c. (t : C) × ArcHop S x v t × (c ≡ ops.plus paid t))
  ByArcs-all x arcs paid m old new le all h = Gathers-as laws from old new (ByArcs ops S x arcs paid m) (λ v c. (t : C) × ArcHop S x v t × (c ≡ ops.plus paid t))
      (λ v c p. (p.4.0, (p.1, p.4.1), p.4.2))
      (λ v c p.
      let k = get_Contains arcs p.1.0 (all p.1.0 v p.0 p.1.1) in
      let lt : k.0 < length arcs = slice_get_within arcs k.0 p.1.0 k.1 in
      (k.0, p.1.0, omega (arith, lt, le), k.1, (p.0, p.1.1, p.2)))
      h

  module _ (Goal : ℕ → Type 0) where
    pub ByPlaces-more : (u m x : ℕ) (cost : Option C) (old mid new : List (Hop C)) → slice_get (S.heads u) m ≡ Some x → ((s : C) → cost ≡ Some s → S.Costs u m s) → ((s : C) → S.Costs u m s → cost ≡ Some s) →
        Gathers ops old mid from (ByPlaces ops S Goal u m) → Gathers ops mid new from (IfPlaced ops S Goal x cost) → Gathers ops old new from (ByPlaces ops S Goal u (m + 1))
    ByPlaces-more u m x cost old mid new at some all a b = Gathers-both laws from old mid new (ByPlaces ops S Goal u m) (IfPlaced ops S Goal x cost) (ByPlaces ops S Goal u (m + 1))
        (λ v c p. let lt : p.0 < m + 1 = omega (arith, p.3) in (p.0, p.1, p.2, lt, p.4, p.5, p.6))
        (λ v c p. let lt : m < m + 1 = omega arith in (m, x, p.0, lt, at, some p.0 p.1, p.2))
        (λ v c p. elim (cases_lt p.0 m) [
          | inl lt ↦ inl (p.0, p.1, p.2, lt, p.4, p.5, p.6)
          | inr past ↦
              let same : p.0 ≡ m = omega (arith, past, p.3) in
              let is : p.1 ≡ x = same_Some p.1 x (sym p.4 ∙ ap (slice_get (S.heads u)) same ∙ at) in
              inr (p.2, all p.2 (subst (λ (j : ℕ). S.Costs u j p.2) same p.5), subst (λ (y : ℕ). Placed ops S Goal y p.2 v c) is p.6)
        ])
        a b

    -- all places
    pub ByPlaces-all : (u m : ℕ) (old new : List (Hop C)) → length (S.heads u) ≤ m → Gathers ops old new from (ByPlaces ops S Goal u m) → Gathers ops old new from (λ v c. Beyond ops S u v c ⊎ (Goal v × RowHop S u v c))
    ByPlaces-all u m old new le h = Gathers-as laws from old new (ByPlaces ops S Goal u m) (λ v c. Beyond ops S u v c ⊎ (Goal v × RowHop S u v c))
        (λ v c p. elim p.6 [
          | inl q ↦ inl (p.1, p.2, q.0, (p.0, p.4, p.5), q.1, q.2)
          | inr q ↦ inr (subst Goal (sym q.1) q.0, (p.0, subst (λ (y : ℕ). slice_get (S.heads u) p.0 ≡ Some y) (sym q.1) p.4, subst (λ (t : C). S.Costs u p.0 t) (sym q.2) p.5))
        ])
        (λ v c p. elim p [
          | inl q ↦
              let lt : q.3.0 < length (S.heads u) = slice_get_within (S.heads u) q.3.0 q.0 q.3.1 in
              (q.3.0, q.0, q.1, omega (arith, lt, le), q.3.1, q.3.2, inl (q.2, q.4, q.5))
          | inr q ↦
              let lt : q.1.0 < length (S.heads u) = slice_get_within (S.heads u) q.1.0 v q.1.1 in
              (q.1.0, v, c, omega (arith, lt, le), q.1.1, q.1.2, inr (q.0, refl, refl))
        ])
        h

    -- the arcs of u and what lies behind its row are its leaps
    pub Gathers-leaps : (space : IsSpace ops S) (u : ℕ) (old mid new : List (Hop C)) → Gathers ops old mid from (λ v c. (t : C) × ArcHop S u v t × (c ≡ ops.plus ops.zero t)) → Gathers ops mid new from (λ v c. Beyond ops S u v c ⊎ (Goal v × RowHop S u v c)) →
        Gathers ops old new from (Leap ops S Goal u)
    Gathers-leaps space u old mid new a b =
        let alone : (v : ℕ) (t : C) → ArcHop S u v t → ops.plus ops.zero t ≡ t = λ v t arc. zero_plus laws t (laws.units_valid t (2 ^ 29) (space.hop_units u v t (inl arc))) in
        Gathers-both laws from old mid new (λ v c. (t : C) × ArcHop S u v t × (c ≡ ops.plus ops.zero t)) (λ v c. Beyond ops S u v c ⊎ (Goal v × RowHop S u v c)) (Leap ops S Goal u)
        (λ v c p. inl (subst (λ (t : C). ArcHop S u v t) (sym (p.2 ∙ alone v p.0 p.1)) p.1))
        (λ v c p. inr p)
        (λ v c p. elim p [
          | inl arc ↦ inl (c, arc, sym (alone v c arc))
          | inr q ↦ inr q
        ])
        a b

  -- where a place of a row leads
  pub row_head : IsSpace ops S → (u j x : ℕ) (s : C) → slice_get (S.heads u) j ≡ Some x → S.Costs u j s → x < S.vertices
  row_head space u j x s at costs = space.heads u x s (inr (j, at, costs))

  -- a sum of two hops fits
  pub two_fit : IsSpace ops S → (u j x v : ℕ) (s t : C) → slice_get (S.heads u) j ≡ Some x → S.Costs u j s → ArcHop S x v t → ops.units (ops.plus s t) (2 ^ 31)
  two_fit space u j x v s t at costs arc = laws.units_more (ops.plus s t) (2 ^ 29 + 2 ^ 29) (2 ^ 31) (laws.plus_units s t (2 ^ 29) (2 ^ 29) (space.hop_units u x s (inr (j, at, costs))) (space.hop_units x v t (inl arc))) (omega arith)

  -- and one of nothing and a hop
  pub one_fits : IsSpace ops S → (u v : ℕ) (z t : C) → z ≡ ops.zero → ArcHop S u v t → ops.units (ops.plus z t) (2 ^ 31)
  one_fits space u v z t none arc = subst (λ (x : C). ops.units (ops.plus x t) (2 ^ 31)) (sym none) (laws.units_more (ops.plus ops.zero t) (0 + 2 ^ 29) (2 ^ 31) (laws.plus_units ops.zero t 0 (2 ^ 29) laws.zero_units (space.hop_units u v t (inl arc))) (omega arith))

-- a mark more takes none away
pub marks_stay : (goals : List Bool) (b : ℕ) → (x : ℕ) → IsGoal goals x → IsGoal (set goals b true) x
marks_stay goals b x h =
    let lt : x < length goals = slice_get_within goals x true h in
    let long : x < length (set goals b true) = omega (arith, lt, length-set goals b true) in
    let g = get_some (set goals b true) x long in
    elim (get_set goals b x true g.0 g.1) [
      | inl here ↦ subst (λ (o : Bool). slice_get (set goals b true) x ≡ Some o) here.1 g.1
      | inr other ↦ subst (λ (o : Bool). slice_get (set goals b true) x ≡ Some o) (same_Some g.0 true (sym other.1 ∙ h)) g.1
    ]
