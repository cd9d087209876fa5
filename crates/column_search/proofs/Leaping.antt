-- The value of a clique's row at the place of an exit is the least cost of a leap back from there to the row's entry.
use Rattle.std.proofs.Common.{◌≡◌, ℕ, ◌+◌, ◌-◌, ◌*◌, ◌<◌, ◌≤◌, Option, Some, None, List, length, sym, ◌∙◌, ap, subst, arith}
use Rattle.std.specs.List.{slice_get, slice_range}
use Rattle.std.proofs.lemmas.Option.{same_Some, slice_get_within}
use Rattle.list_lemmas.proofs.Gets.{Contains_get}
use Rattle.search_graph.specs.Costs.{CostOps, CostLaws}
use Rattle.search_graph.specs.Digraph.{Digraph, Weighting}
use Rattle.search_graph.specs.Weighted.{AreSmall}
use Rattle.search_graph.specs.OrderLaws.{same_from_le}
use Rattle.search_graph.specs.ChainLaws.{Chain-valid}
use Rattle.search_graph.specs.WeightLaws.{move_valid}
use Rattle.cell_frame.specs.declared.cells.Cell.{Cell}
use Rattle.cell_frame.specs.Borders.{Framed, Holds, IsCell, IsExit, at_cell}
use Rattle.cell_frame.specs.Cliqued.{CliqueLists, HasCellRow, IsRow, Rows}
use Rattle.cell_frame.specs.Inside.{IsMoveIn, IsLeastInside, IsInsideValue}
use Rattle.column_search.specs.Toward.{level_toward, IsToward}
use Rattle.column_search.specs.Backward.{part_toward, IsLeapBack}
use Rattle.column_search.proofs.Parting.{part_is_cell}

-- a clique has one row at a place
row_same : {C : Type 0} (f : Framed) (cliques : CliqueLists C) (k : Cell) (i : ℕ) (row other : List (Option C)) → HasCellRow f cliques k i row → HasCellRow f cliques k i other → row ≡ other
row_same {C} f cliques k i row other a b =
    let rows : a.rows ≡ b.rows = same_Some a.rows b.rows (sym a.level ∙ b.level) in
    let begins : slice_get b.rows.first k.number ≡ Some a.has.first = subst (λ (r : Rows C). slice_get r.first k.number ≡ Some a.has.first) rows a.has.begins in
    let first : a.has.first ≡ b.has.first = same_Some a.has.first b.has.first (sym begins ∙ b.has.begins) in
    let width : ℕ = length (at_cell f.exits k) in
    let here : row ≡ slice_range b.rows.values (a.has.first + i * width) (a.has.first + i * width + width) = subst (λ (r : Rows C). row ≡ slice_range r.values (a.has.first + i * width) (a.has.first + i * width + width)) rows a.has.row_is in
    here ∙ ap (λ (n : ℕ). slice_range b.rows.values (n + i * width) (n + i * width + width)) first ∙ sym b.has.row_is

module _ {C : Type 0} {ops : CostOps C} (laws : CostLaws ops) (g : Digraph) (w : Weighting C) (small : AreSmall ops g w) (In : ℕ → Type 0) (u v : ℕ) where
  least_valid : (s : C) → IsLeastInside ops g w In u v s → ops.valid s
  least_valid s h = Chain-valid laws {Hop = IsMoveIn ops g w In} (λ a b c m. move_valid laws g w small a b c m.1) u v ops.zero s h.walk laws.zero_valid h.leads.goes

  -- a least cost inside is the value inside
  value_is : (s : C) (o : Option C) → IsInsideValue ops g w In u v o → IsLeastInside ops g w In u v s → o ≡ Some s
  value_is s None none least = absurd (none least.walk s least.leads)
  value_is s (Some x) some least = ap Some (same_from_le laws x s (least_valid x some) (least_valid s least) (some.least least.walk s least.leads) (least.least some.walk x some.leads))

module _ {C : Type 0} {ops : CostOps C} (laws : CostLaws ops) (f : Framed) (w : Weighting C) (cliques : CliqueLists C) (k : Cell) (t : ℕ) (to : IsToward ops f w cliques k t)
    (v : ℕ) (lt : v < f.graph.vertices) (some : 1 ≤ level_toward f.cells k t v) (part : Cell) (is : part ≡ part_toward f k t v) where
  pub part_cell : IsCell f.cells part
  part_cell = subst (λ (x : Cell). IsCell f.cells x) (sym is) (part_is_cell f to.framed k to.is_cell t to.toward v lt some)

  module _ (j u : ℕ) (entry : slice_get (at_cell f.entries part) j ≡ Some u) where
    exact : (row : List (Option C)) × HasCellRow f cliques part j row × IsRow ops f w part u row
    exact = to.exact.rows part j u part_cell (subst (λ (x : Cell). x.level ≤ k.level - 1) (sym is) (to.toward.high v)) entry

    -- there is a row
    pub row_has : (row : List (Option C)) × HasCellRow f cliques part j row
    row_has = (exact.0, exact.1)

    module _ (row : List (Option C)) (has : HasCellRow f cliques part j row) where
      is_row : IsRow ops f w part u row
      is_row = subst (IsRow ops f w part u) (row_same f cliques part j exact.0 row exact.1 has) exact.2

      module _ (e : ℕ) (exit : slice_get (at_cell f.exits part) e ≡ Some v) where
        pub row_within : e < length row
        row_within =
            let size : length row ≡ length (at_cell f.exits part) = is_row.size in
            let below : e < length (at_cell f.exits part) = slice_get_within (at_cell f.exits part) e v exit in
            omega arith

        -- what it has there is what a leap costs
        pub leap_some : (s : C) → slice_get row e ≡ Some (Some s) → IsLeapBack ops f w k t v j u s
        leap_some s here =
            let leaves : IsExit f.graph f.cells part v = (to.framed.exits part v part_cell).0 (Contains_get (at_cell f.exits part) e v exit) in
            subst (λ (x : Cell). (1 ≤ level_toward f.cells k t v) × IsExit f.graph f.cells x v × (slice_get (at_cell f.entries x) j ≡ Some u) × IsLeastInside ops f.graph w (Holds f.cells x) u v s) is
            (some, leaves, entry, is_row.each e v (Some s) exit here)

        -- and what a leap costs it has there
        pub leap_all : (o : Option C) → slice_get row e ≡ Some o → (x : ℕ) (s : C) → IsLeapBack ops f w k t v j x s → (x ≡ u) × (o ≡ Some s)
        leap_all o here x s leap =
            let there : slice_get (at_cell f.entries part) j ≡ Some x = subst (λ (y : Cell). slice_get (at_cell f.entries y) j ≡ Some x) (sym is) leap.2 in
            let same : x ≡ u = same_Some x u (sym there ∙ entry) in
            let least : IsLeastInside ops f.graph w (Holds f.cells part) u v s = subst (λ (y : Cell). IsLeastInside ops f.graph w (Holds f.cells y) u v s) (sym is) (subst (λ (y : ℕ). IsLeastInside ops f.graph w (Holds f.cells (part_toward f k t v)) y v s) same leap.3) in
            (same, value_is laws f.graph w to.small (Holds f.cells part) u v s o (is_row.each e v o exit here) least)
