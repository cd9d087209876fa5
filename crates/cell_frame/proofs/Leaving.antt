-- The arcs from a vertex to other cells of a level, by what is told of it.
use Rattle.std.proofs.Common.{◌≡◌, ◌≢◌, ℕ, ◌+◌, ◌-◌, ◌<◌, ◌≤◌, inl, inr, Bool, cond, List, [], length, nat_eq, Option, Some, None, IfNone, IfSome, MatchOption, sym, ◌∙◌, ap, subst, arith}
use Rattle.std.specs.List.{Contains, range_with_len, slice_get}
use Rattle.std.proofs.lemmas.Option.{same_Some, slice_get_within, get_or_from_slice_get}
use Rattle.std.proofs.lemmas.Bool.Decides.{eqb_tells}
use Rattle.std.proofs.lemmas.List.FromFn.{get_or-range_with_len, length-range_with_len}
use Rattle.list_lemmas.proofs.Gets.{Contains_get, get_Contains, get_is, get_some}
use Rattle.search_graph.specs.Digraph.{Digraph, IsArc}
use Rattle.cell_partition.specs.Partition.{Partition}
use Rattle.cell_frame.specs.Borders.{AreApart, Listed, at_cell, cell_of, names_by, none, tell_by}
use Rattle.cell_frame.specs.Spots.{AreSpots, IsSpot, TellsLevel}
use Rattle.cell_frame.specs.declared.crossings.Crossing.{Crossing}
use Rattle.cell_frame.specs.declared.spots.Spot.{Spot}
use Rattle.cell_frame.specs.declared.spots.Spots.{Spots}
use Rattle.cell_frame.specs.declared.spots.Tell.{Tell}

-- numbers from n on
pub range-within : (n k q : ℕ) → Contains (range_with_len n k) q → (n ≤ q) × (q < n + k)
range-within n k q among =
    let place = get_Contains (range_with_len n k) q among in
    let few : place.0 < k = omega (arith, slice_get_within (range_with_len n k) place.0 q place.1, length-range_with_len n k) in
    let is : q ≡ n + place.0 = sym (get_or_from_slice_get (range_with_len n k) place.0 q 0 place.1) ∙ get_or-range_with_len n k place.0 0 few in
    (omega (arith, is), omega (arith, is, few))

pub within-range : (n k m : ℕ) → m < k → Contains (range_with_len n k) (n + m)
within-range n k m few = Contains_get (range_with_len n k) m (n + m) (get_is (range_with_len n k) m (n + m) (omega (arith, few, length-range_with_len n k)) (get_or-range_with_len n k m (n + m) few))

get_nothing : (i : ℕ) → ¬ Contains (names_by None) i
get_nothing i h = let g = get_Contains (names_by None) i h in let lt : g.0 < length {A = ℕ} [] = slice_get_within (names_by None) g.0 i g.1 in omega arith

-- what a spot tells at a level: nothing where the vertex is inside its cells, and else what stands there
pub tell_inner : (tells : List Tell) (level : ℕ) (spot : Spot) → spot.border ≡ none → tell_by tells level (Some spot) ≡ None
tell_inner tells level spot e = elim (eqb_tells spot.border none) [
  | inl p ↦ ap (λ (b : Bool). cond b None (slice_get tells (spot.border + (level - 1)))) p.0
  | inr p ↦ absurd (p.1 e)
]

pub tell_border : (tells : List Tell) (level : ℕ) (spot : Spot) → spot.border ≢ none → tell_by tells level (Some spot) ≡ slice_get tells (spot.border + (level - 1))
tell_border tells level spot ne = elim (eqb_tells spot.border none) [
  | inl p ↦ absurd (ne p.1)
  | inr p ↦ ap (λ (b : Bool). cond b None (slice_get tells (spot.border + (level - 1)))) p.0
]

module _ (g : Digraph) (p : Partition) (entries : List Listed) (tells : List Tell) (crossings : List Crossing) (level v : ℕ) (spot : Spot) (is : IsSpot g p entries tells crossings v spot) (low : 1 ≤ level) (high : level ≤ length p.levels) where
  up : level - 1 + 1 ≡ level
  up = omega arith

  -- at a border it tells of the level
  pub tells_there : spot.border ≢ none → (tell : Tell) × (tell_by tells level (Some spot) ≡ Some tell) × TellsLevel g p entries crossings v level tell
  tells_there ne =
      let t = is.border ne (level - 1) (omega (arith, low, high)) in
      (t.0, tell_border tells level spot ne ∙ t.1, subst (λ (l : ℕ). TellsLevel g p entries crossings v l t.0) up t.2)

  pub tell_there : spot.border ≢ none → (tell : Tell) × (slice_get tells (spot.border + (level - 1)) ≡ Some tell)
  tell_there ne = let t = is.border ne (level - 1) (omega (arith, low, high)) in (t.0, t.1)

  -- what is told of the level, and that the vertex is no entry where nothing is
  pub told : (o : Option Tell) → o ≡ tell_by tells level (Some spot) → MatchOption o (¬ Contains (at_cell entries (cell_of p level v)) v) (TellsLevel g p entries crossings v level)
  told o e = elim (eqb_tells spot.border none) [
    | inl q ↦ subst (λ (x : Option Tell). MatchOption x (¬ Contains (at_cell entries (cell_of p level v)) v) (TellsLevel g p entries crossings v level)) (sym (e ∙ tell_inner tells level spot q.1)) ((is.inner q.1).entered level low high)
    | inr q ↦ let t = tells_there q.1 in subst (λ (x : Option Tell). MatchOption x (¬ Contains (at_cell entries (cell_of p level v)) v) (TellsLevel g p entries crossings v level)) (sym (e ∙ t.1)) t.2
  ]

  pub out_by : (i : ℕ) → Contains (names_by (tell_by tells level (Some spot))) i → (c : Crossing) × (slice_get crossings i ≡ Some c) × IsArc g c.arc v c.head × AreApart p level v c.head
  out_by i h = elim (eqb_tells spot.border none) [
    | inl q ↦ absurd (get_nothing i (subst (λ (o : Option Tell). Contains (names_by o) i) (tell_inner tells level spot q.1) h))
    | inr q ↦
        let t = tells_there q.1 in
        let r = range-within t.0.first t.0.count i (subst (λ (o : Option Tell). Contains (names_by o) i) t.1 h) in
        let there : t.0.first + (i - t.0.first) ≡ i = omega (arith, r.0) in
        let c = t.2.out (i - t.0.first) (omega (arith, r.0, r.1)) in
        (c.0, subst (λ (k : ℕ). slice_get crossings k ≡ Some c.0) there c.1, c.2.0, c.2.1)
  ]

  pub all_by : (w arc : ℕ) → IsArc g arc v w → AreApart p level v w → (i : ℕ) × (c : Crossing) × Contains (names_by (tell_by tells level (Some spot))) i × (slice_get crossings i ≡ Some c) × (c.arc ≡ arc)
  all_by w arc along apart = elim (eqb_tells spot.border none) [
    | inl q ↦ absurd ((is.inner q.1).left arc w level along low high apart)
    | inr q ↦
        let t = tells_there q.1 in
        let c = t.2.all arc w along apart in
        (t.0.first + c.0, c.1, subst (λ (o : Option Tell). Contains (names_by o) (t.0.first + c.0)) (sym t.1) (within-range t.0.first t.0.count c.0 c.2), c.3, c.4)
  ]

-- what is so of what is told, and where nothing is
pub on_some : (P : Type 0) (Q R : Tell → Type 0) (o : Option Tell) → MatchOption o P Q → ((t : Tell) → Q t → R t) → IfSome o R
on_some P Q R None h f = tt
on_some P Q R (Some t) h f = f t h

pub on_none : (P : Type 0) (Q : Tell → Type 0) (o : Option Tell) → MatchOption o P Q → IfNone o P
on_none P Q None h = h
on_none P Q (Some t) h = tt

module _ (g : Digraph) (p : Partition) (entries : List Listed) (known : Spots) (spots : AreSpots g p entries known g.vertices) where
  pub leaving_out : (level v i : ℕ) → 1 ≤ level → level ≤ length p.levels → v < g.vertices → Contains (names_by (tell_by known.tells.items level (slice_get known.spots.items v))) i →
      (c : Crossing) × (slice_get known.crossings.items i ≡ Some c) × IsArc g c.arc v c.head × AreApart p level v c.head
  leaving_out level v i low high lv h =
      let s = get_some known.spots.items v (omega (arith, lv, spots.size)) in
      out_by g p entries known.tells.items known.crossings.items level v s.0 (spots.each v s.0 s.1) low high i (subst (λ (o : Option Spot). Contains (names_by (tell_by known.tells.items level o)) i) s.1 h)

  pub leaving_all : (level v w arc : ℕ) → 1 ≤ level → level ≤ length p.levels → v < g.vertices → IsArc g arc v w → AreApart p level v w →
      (i : ℕ) × (c : Crossing) × Contains (names_by (tell_by known.tells.items level (slice_get known.spots.items v))) i × (slice_get known.crossings.items i ≡ Some c) × (c.arc ≡ arc)
  leaving_all level v w arc low high lv along apart =
      let s = get_some known.spots.items v (omega (arith, lv, spots.size)) in
      let r = all_by g p entries known.tells.items known.crossings.items level v s.0 (spots.each v s.0 s.1) low high w arc along apart in
      (r.0, r.1, subst (λ (o : Option Spot). Contains (names_by (tell_by known.tells.items level o)) r.0) (sym s.1) r.2, r.3, r.4)
