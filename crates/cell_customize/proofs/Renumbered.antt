-- The law of renaming: what a search finds under other numbers is what the whole space has.
use Rattle.std.proofs.Common.{◌≡◌, ℕ, ◌<◌, inl, inr, Option, Some, None, List, [], ◌∷◌, ◌++◌, refl, sym, ◌∙◌, subst}
use Rattle.std.specs.List.{slice_get}
use Rattle.std.proofs.lemmas.Option.{same_Some, slice_get_within}
use Rattle.list_lemmas.proofs.Gets.{Contains_get}
use Rattle.search_graph.specs.Costs.{CostOps}
use Rattle.search_graph.specs.declared.ends.Start.{Start}
use Rattle.step_search.specs.Spaces.{Space, HasHop, Path, IsLeastCost, IsSpace}
use Rattle.step_search.specs.Paths.{IsPathTo, NoPathTo, IsLeastPathCost}
use Rattle.cut_walks.specs.Answering.{only_one}
use Rattle.cell_customize.specs.Leaping.{RowHop, IsJoinable}
use Rattle.cell_customize.specs.Renaming.{IsRenaming}

module _ {C : Type 0} (ops : CostOps C) (whole small : Space C) (names : List ℕ) (h : IsRenaming whole small names) where
  hop_there : (a b u : ℕ) (s : C) → slice_get names a ≡ Some u → HasHop small a b s → (v : ℕ) × (slice_get names b ≡ Some v) × HasHop whole u v s
  hop_there a b u s n hop = elim hop [
    | inl p ↦ let r = h.arc_there a b u s n p in (r.0, r.1, inl r.2)
    | inr p ↦ let r = h.row_there a b u s n p in (r.0, r.1, inr r.2)
  ]

  hop_back : (a u v : ℕ) (s : C) → slice_get names a ≡ Some u → HasHop whole u v s → (b : ℕ) × (slice_get names b ≡ Some v) × HasHop small a b s
  hop_back a u v s n hop = elim hop [
    | inl p ↦ let r = h.arc_back a u v s n p in (r.0, r.1, inl r.2)
    | inr p ↦ let r = h.row_back a u v s n p in (r.0, r.1, inr r.2)
  ]

  -- each path under other numbers is one of the whole space
  path_there : (bs : List ℕ) (a u z : ℕ) (c d : C) → slice_get names a ≡ Some u → Path ops small a c bs z d →
      (vs : List ℕ) × (w : ℕ) × (slice_get names z ≡ Some w) × Path ops whole u c vs w d
  path_there [] a u z c d n p = ([], u, subst (λ (x : ℕ). slice_get names x ≡ Some u) (sym p.0) n, (refl, p.1))
  path_there (b ∷ bs) a u z c d n p =
      let hop = hop_there a b u p.1.0 n p.1.1 in
      let rest = path_there bs b hop.0 z p.0 d hop.1 p.2 in
      (hop.0 ∷ rest.0, rest.1, rest.2, (p.0, (p.1.0, hop.2, p.1.2), rest.3))

  -- and each path of the whole space from a vertex that has a number is one under other numbers
  path_back : (vs : List ℕ) (a u w : ℕ) (c d : C) → slice_get names a ≡ Some u → Path ops whole u c vs w d →
      (bs : List ℕ) × (z : ℕ) × (slice_get names z ≡ Some w) × Path ops small a c bs z d
  path_back [] a u w c d n p = ([], a, subst (λ (x : ℕ). slice_get names a ≡ Some x) (sym p.0) n, (refl, p.1))
  path_back (v ∷ vs) a u w c d n p =
      let hop = hop_back a u v p.1.0 n p.1.1 in
      let rest = path_back vs hop.0 v w p.0 d hop.1 p.2 in
      (hop.0 ∷ rest.0, rest.1, rest.2, (p.0, (p.1.0, hop.2, p.1.2), rest.3))

  -- it can be searched where the whole space can
  pub IsSpace-renamed : IsSpace ops whole → IsSpace ops small
  IsSpace-renamed space = record {
    heads = λ a b s hop.
        let u = h.leaves a b s hop in
        let v = hop_there a b u.0 s u.1 hop in
        subst (λ (n : ℕ). b < n) (sym h.size) (slice_get_within names b v.0 v.1);
    hop_units = λ a b s hop.
        let u = h.leaves a b s hop in
        let v = hop_there a b u.0 s u.1 hop in
        space.hop_units u.0 v.0 s v.2;
    least_units = λ a z d bs m p least.
        let u = h.begins a m in
        let q = path_there bs a u.0 z ops.zero d u.1 p in
        let cheapest : IsLeastCost ops whole u.0 q.1 d = λ vs e r.
        let back = path_back vs a u.0 q.1 ops.zero e u.1 r in
        least back.0 e (subst (λ (x : ℕ). Path ops small a ops.zero back.0 x e) (h.distinct back.1 z q.1 back.2 q.2) back.3) in
        space.least_units u.0 q.1 d q.0 ((h.may a u.0 u.1).0 m) q.3 cheapest;
  }

  -- and its leaps are lawful where those of the whole space are
  pub IsJoinable-renamed : IsJoinable ops whole → IsJoinable ops small
  IsJoinable-renamed join = record {
    triangle = λ a x b s t first second.
        let u = h.leaves a x s (inr first) in
        let one = h.row_there a x u.0 s u.1 first in
        let two = h.row_there x b one.0 t one.1 second in
        let r = join.triangle u.0 one.0 two.0 s t one.2 two.2 in
        let back = h.row_back a u.0 two.0 r.0 u.1 r.1 in
        (r.0, subst (λ (z : ℕ). RowHop small a z r.0) (h.distinct back.0 b two.0 back.1 two.1) back.2, r.2);
    beyond_units = λ a x b s t first second.
        let u = h.leaves a x s (inr first) in
        let one = h.row_there a x u.0 s u.1 first in
        let two = h.arc_there x b one.0 t one.1 second in
        join.beyond_units u.0 one.0 two.0 s t one.2 two.2;
    behind_units = λ a x b c t bs m p least arc.
        let u = h.begins a m in
        let q = path_there bs a u.0 x ops.zero c u.1 p in
        let cheapest : IsLeastCost ops whole u.0 q.1 c = λ vs e r.
        let back = path_back vs a u.0 q.1 ops.zero e u.1 r in
        least back.0 e (subst (λ (z : ℕ). Path ops small a ops.zero back.0 z e) (h.distinct back.1 x q.1 back.2 q.2) back.3) in
        let on = h.arc_there x b q.1 t q.2 arc in
        join.behind_units u.0 q.1 on.0 c t q.0 ((h.may a u.0 u.1).0 m) q.3 cheapest on.2;
  }

  module _ (a u : ℕ) (n : slice_get names a ≡ Some u) where
    abbrev start_small : Start C
    start_small = record { vertex = a; cost = ops.zero }

    abbrev start_whole : Start C
    start_whole = record { vertex = u; cost = ops.zero }

    -- what leads to a vertex of the whole space leads to its number
    to_small : (v : ℕ) (walk : List ℕ) (d : C) → IsPathTo ops whole (start_whole ∷ []) v walk d →
        (b : ℕ) × (slice_get names b ≡ Some v) × (other : List ℕ) × IsPathTo ops small (start_small ∷ []) b other d
    to_small v walk d p =
        let at : p.start ≡ start_whole = only_one start_whole p.start p.among in
        let goes : Path ops whole u ops.zero p.middle p.last p.paid = subst (λ (s : Start C). Path ops whole s.vertex s.cost p.middle p.last p.paid) at p.goes in
        let may : whole.May u = subst (λ (s : Start C). whole.May s.vertex) at p.may in
        let q = path_back p.middle a u p.last ops.zero p.paid n goes in
        let hop = hop_back q.1 p.last v p.joins.0 q.2 p.joins.1 in (
          hop.0,
          hop.1,
          a ∷ (q.0 ++ hop.0 ∷ []),
          record {
            start = start_small;
            among = Contains_get (start_small ∷ []) 0 start_small refl;
            may = (h.may a u n).1 may;
            middle = q.0;
            last = q.1;
            paid = p.paid;
            goes = q.3;
            joins = (p.joins.0, hop.2, p.joins.2);
            is_walk = refl;
          },
        )

    -- and what leads to a number leads to its vertex
    to_whole : (b v : ℕ) (walk : List ℕ) (d : C) → slice_get names b ≡ Some v → IsPathTo ops small (start_small ∷ []) b walk d →
        (other : List ℕ) × IsPathTo ops whole (start_whole ∷ []) v other d
    to_whole b v walk d m p =
        let at : p.start ≡ start_small = only_one start_small p.start p.among in
        let goes : Path ops small a ops.zero p.middle p.last p.paid = subst (λ (s : Start C). Path ops small s.vertex s.cost p.middle p.last p.paid) at p.goes in
        let may : small.May a = subst (λ (s : Start C). small.May s.vertex) at p.may in
        let q = path_there p.middle a u p.last ops.zero p.paid n goes in
        let hop = hop_there p.last b q.1 p.joins.0 q.2 p.joins.1 in
        let same : hop.0 ≡ v = same_Some hop.0 v (sym hop.1 ∙ m) in (
          u ∷ (q.0 ++ v ∷ []),
          record {
            start = start_whole;
            among = Contains_get (start_whole ∷ []) 0 start_whole refl;
            may = (h.may a u n).0 may;
            middle = q.0;
            last = q.1;
            paid = p.paid;
            goes = q.3;
            joins = (p.joins.0, subst (λ (x : ℕ). HasHop whole q.1 x p.joins.0) same hop.2, p.joins.2);
            is_walk = refl;
          },
        )

    to_number : (b v : ℕ) (walk : List ℕ) (d : C) → slice_get names b ≡ Some v → IsPathTo ops whole (start_whole ∷ []) v walk d →
        (other : List ℕ) × IsPathTo ops small (start_small ∷ []) b other d
    to_number b v walk d m p =
        let q = to_small v walk d p in
        (q.2, subst (λ (x : ℕ). IsPathTo ops small (start_small ∷ []) x q.2 d) (h.distinct q.0 b v q.1 m) q.3)

    -- a cheapest path to a number costs what a cheapest one to its vertex does
    pub cost_renamed : (b v : ℕ) → slice_get names b ≡ Some v → (cost : Option C) → IsLeastPathCost ops small (start_small ∷ []) b cost → IsLeastPathCost ops whole (start_whole ∷ []) v cost
    cost_renamed b v m None none = λ walk d p. let q = to_number b v walk d m p in none q.0 d q.1
    cost_renamed b v m (Some d) some =
        let q = to_whole b v some.0 d m some.1.leads in
        (q.0, record { leads = q.1; least = λ walk e p. let r = to_number b v walk e m p in some.1.least r.0 e r.1 })

    -- and to a vertex that has no number no path leads
    pub none_renamed : (v : ℕ) → ((b : ℕ) → ¬ (slice_get names b ≡ Some v)) → NoPathTo ops whole (start_whole ∷ []) v
    none_renamed v absent walk d p = let q = to_small v walk d p in absent q.0 q.1
