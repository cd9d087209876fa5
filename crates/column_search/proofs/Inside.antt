-- What a search backwards finds at an entry of the cell is the least cost inside the cell from there to its target.
use Rattle.std.proofs.Common.{◌≡◌, ◌≢◌, ℕ, ◌<◌, ◌≤◌, inl, inr, Option, Some, None, List, [], ◌∷◌, ◌++◌, length, refl, sym, ◌∙◌, subst, arith}
use Rattle.std.specs.List.{Contains, slice_get}
use Rattle.std.proofs.lemmas.Option.{same_Some}
use Rattle.list_lemmas.proofs.Singles.{Contains_one, only_one}
use Rattle.search_graph.specs.Costs.{CostOps, CostLaws, NoDearer}
use Rattle.search_graph.specs.declared.ends.Start.{Start}
use Rattle.search_graph.specs.Digraph.{Weighting, IsOpen}
use Rattle.search_graph.specs.OrderLaws.{le_trans}
use Rattle.search_graph.specs.ChainLaws.{Chain-valid, Chain-push}
use Rattle.search_graph.specs.WeightLaws.{move_valid}
use Rattle.step_search.specs.Spaces.{Space, StepBy, Path}
use Rattle.step_search.specs.Paths.{AreStarts, IsPathTo, IsLeastPath, IsLeastPathCost, NoPathTo}
use Rattle.cut_walks.specs.Cut.{Cut, MayBegin, Goes}
use Rattle.cut_walks.specs.Cutting.{goes_from_pass, pass_from_goes}
use Rattle.cut_walks.specs.Bounds.{Chain-ends}
use Rattle.cell_frame.specs.declared.cells.Cell.{Cell}
use Rattle.cell_frame.specs.Borders.{Framed, Holds, IsEntry, at_cell}
use Rattle.cell_frame.specs.Cliqued.{CliqueLists}
use Rattle.cell_frame.specs.Inside.{IsMoveIn, IsInside, IsLeastInside, IsInsideValue}
use Rattle.cell_frame.specs.Parts.{ShareCell}
use Rattle.column_search.specs.Toward.{level_toward, IsToward}
use Rattle.column_search.specs.Backward.{toward_cut, back_space}
use Rattle.column_search.proofs.Levels.{some_or_none}
use Rattle.column_search.proofs.Parting.{held_below}
use Rattle.column_search.proofs.Turning.{AreTo, path_from_pass, pass_from_path}
use Rattle.column_search.proofs.Bounded.{ends}

pub none_some : {X : Type 0} (x : X) → ◌≡◌ {A = Option X} None (Some x) → ⊥
none_some x e = cc

-- one start, at what is nothing
pub one_is : {C : Type 0} (u : ℕ) {a b : C} → a ≡ b → ◌≡◌ {A = List (Start C)} (record { vertex = u; cost = a } ∷ []) (record { vertex = u; cost = b } ∷ [])
one_is u e = cc

module _ {C : Type 0} {ops : CostOps C} (laws : CostLaws ops) (f : Framed) (w : Weighting C) (cliques : CliqueLists C) (k : Cell) (t : ℕ) (to : IsToward ops f w cliques k t) where
  abbrev cut : Cut C
  cut = toward_cut ops f w k t

  abbrev the_start : Start C
  the_start = record { vertex = t; cost = ops.zero }

  pub AreStarts-back : (heads : List (List ℕ)) (starts : List (Start C)) → starts ≡ the_start ∷ [] → AreStarts ops (back_space ops f w k t heads) starts
  AreStarts-back heads starts is s h =
      let same : the_start ≡ s = sym (only_one the_start s (subst (λ (xs : List (Start C)). Contains xs s) is h)) in
      (subst (λ (x : Start C). x.vertex < f.graph.vertices) same (held_below f to.framed k to.is_cell t to.toward k t to.held), subst (λ (x : Start C). ops.units x.cost 1) same (laws.units_more ops.zero 0 1 laws.zero_units (omega arith)))

  module _ (entry : ℕ) (among : Contains (at_cell f.entries k) entry) where
    is_entry : IsEntry f.graph f.cells k entry
    is_entry = (to.framed.entries k entry to.is_cell).0 among

    pub entry_below : entry < f.graph.vertices
    entry_below = held_below f to.framed k to.is_cell t to.toward k entry is_entry.0

    pub entry_weighed : entry < length w.vertex
    entry_weighed = let lt : entry < f.graph.vertices = entry_below in let n : length w.vertex ≡ f.graph.vertices = to.small.vertices in omega arith

    -- from a closed vertex no walk leads
    pub closed_none : slice_get w.vertex entry ≡ Some None → IsInsideValue ops f.graph w (Holds f.cells k) entry t None
    closed_none none = λ vs d h. none_some h.opens.0 (same_Some None (Some h.opens.0) (sym none ∙ h.opens.1))

    -- to stay at an open one costs nothing
    pub stays : (x : C) → IsOpen w entry x → IsLeastInside ops f.graph w (Holds f.cells k) entry entry ops.zero
    stays x o = record {
      walk = [];
      leads = record { begins = is_entry.0; opens = (x, o); goes = (refl, refl) };
      least = λ other e h. laws.zero_least e (Chain-valid laws {Hop = IsMoveIn ops f.graph w (Holds f.cells k)} (λ a b s m. move_valid laws f.graph w to.small a b s m.1) entry entry ops.zero e other laws.zero_valid h.goes);
    }

    -- a chain over the parts may begin at an open entry
    begins : (x : C) → IsOpen w entry x → MayBegin cut entry
    begins x o = (
      (is_entry.0, x, o),
      elim (some_or_none (level_toward f.cells k t entry)) [
        | inl none ↦ inl (λ (j : ShareCell f.cells (level_toward f.cells k t) entry entry). let some : 1 ≤ level_toward f.cells k t entry = j.0 in omega (arith, none))
        | inr some ↦ elim (to.toward.enters entry is_entry) [
          | inl none ↦ absurd (omega (arith, none, some))
          | inr enter ↦ inr ((some, enter.0, enter.0), enter)
        ]
      ],
    )

    module _ (heads : List (List ℕ)) (by_head : AreTo f.graph heads) (other : entry ≢ t) where
      abbrev back : Space C
      back = back_space ops f w k t heads

      -- a walk inside the cell is matched by a path backwards
      path_from_inside : (vs : List ℕ) (d : C) → IsInside ops f.graph w (Holds f.cells k) entry t vs d → (walk : List ℕ) × (e : C) × IsPathTo ops back (the_start ∷ []) entry walk e × NoDearer ops e d
      path_from_inside vs d h =
          let p = pass_from_goes laws cut to.lawful.cut entry t d vs (begins h.opens.0 h.opens.1) (ends laws f w cliques k t to) h.goes in
          let r = path_from_pass laws f w cliques k t to heads by_head entry t p.1 p.0 is_entry.0 p.2 in
          elim (Chain-ends (StepBy ops back) t entry ops.zero p.1 r.0 r.1) [
            | inl q ↦ absurd (other q.0)
            | inr q ↦ (
              t ∷ (q.0 ++ entry ∷ []),
              p.1,
              record {
                start = the_start;
                among = Contains_one the_start;
                may = refl;
                middle = q.0;
                last = q.1;
                paid = q.2;
                goes = q.3;
                joins = q.4;
                is_walk = refl;
              },
              p.3,
            )
          ]

      -- and a path backwards is a walk inside the cell
      goes_from_path : (walk : List ℕ) (r : C) → IsPathTo ops back (the_start ∷ []) entry walk r → (vs : List ℕ) × Goes ops cut entry vs t r
      goes_from_path walk r p =
          let q : Path ops back p.start.vertex p.start.cost (p.middle ++ entry ∷ []) entry r = Chain-push (StepBy ops back) p.start.vertex p.last entry p.start.cost p.paid r p.middle p.goes p.joins in
          let at : Path ops back t ops.zero (p.middle ++ entry ∷ []) entry r = subst (λ (s : Start C). Path ops back s.vertex s.cost (p.middle ++ entry ∷ []) entry r) (only_one the_start p.start p.among) q in
          let pass = pass_from_path laws f w cliques k t to heads by_head entry t r (p.middle ++ entry ∷ []) to.held at in
          goes_from_pass laws cut to.lawful.cut entry t ops.zero r pass.1 laws.zero_valid pass.2

      module _ (starts : List (Start C)) (one : starts ≡ the_start ∷ []) (x : C) (o : IsOpen w entry x) where
        inside_least : (walk : List ℕ) (r : C) → IsLeastPath ops back starts entry walk r → IsLeastInside ops f.graph w (Holds f.cells k) entry t r
        inside_least walk r path =
            let p : IsLeastPath ops back (the_start ∷ []) entry walk r = subst (λ (s : List (Start C)). IsLeastPath ops back s entry walk r) one path in
            let g = goes_from_path walk r p.leads in
            record {
              walk = g.0;
              leads = record { begins = is_entry.0; opens = (x, o); goes = g.1 };
              least = λ vs e h. let q = path_from_inside vs e h in le_trans laws r q.1 e (p.least q.0 q.1 q.2) q.3;
            }

        -- what is found backwards is the value
        pub value_found : (cost : Option C) → IsLeastPathCost ops back starts entry cost → IsInsideValue ops f.graph w (Holds f.cells k) entry t cost
        value_found None none = λ vs d h.
            let n : NoPathTo ops back (the_start ∷ []) entry = subst (λ (s : List (Start C)). NoPathTo ops back s entry) one none in
            let q = path_from_inside vs d h in
            n q.0 q.1 q.2
        value_found (Some r) found = inside_least found.0 r found.1
