-- What the rows of a search over parts cost.
use Rattle.std.proofs.Common.{◌≡◌, ◌≢◌, ℕ, ◌+◌, ◌*◌, ◌<◌, ◌≤◌, inl, inr, cond, Option, Some, List, [], length, nat_eq, refl, sym, ◌∙◌, ap, subst, arith}
use Rattle.std.specs.List.{slice_get, slice_range, Contains}
use Rattle.std.proofs.lemmas.Option.{same_Some, slice_get_within}
use Rattle.std.proofs.lemmas.Bool.Decides.{eqb_tells}
use Rattle.list_lemmas.proofs.Gets.{Contains_get, get_some}
use Rattle.search_graph.specs.Costs.{CostOps, CostLaws}
use Rattle.search_graph.specs.Digraph.{Weighting}
use Rattle.cell_partition.specs.Partition.{Partition, level_at, number_of}
use Rattle.cell_frame.specs.declared.cells.Cell.{Cell}
use Rattle.cell_frame.specs.Borders.{Framed, IsFramed, Holds, IsCell, IsEntry, IsExit, at_cell, cell_of}
use Rattle.cell_frame.specs.Cliqued.{AreExact, CliqueLists, HasCellRow, IsRow, Rows}
use Rattle.cell_frame.specs.Inside.{IsLeastInside}
use Rattle.cell_frame.specs.Parts.{whole_at, AreParts, ShareCell, part_cut}
use Rattle.cell_frame.specs.PartSpace.{row_heads, row_name, part_space}
use Rattle.search_graph.specs.Weighted.{AreSmall}
use Rattle.cell_frame.proofs.Spacing.{value_is, whole_is_cell, heads_are}

-- the part of u, by its level
pub whole_from_level : (p : Partition) (level : ℕ → ℕ) (u n : ℕ) (k : Cell) → n ≡ level u → k ≡ cell_of p n u → k ≡ whole_at p level u
whole_from_level p level u n k e h = h ∙ ap (λ (l : ℕ). cell_of p l u) e

-- the part of u is the cell of its own level
pub named_cell : (p : Partition) (level : ℕ → ℕ) (u : ℕ) (k : Cell) → k ≡ whole_at p level u → cell_of p k.level u ≡ k
named_cell p level u k is = ap (λ (x : Cell). cell_of p x.level u) is ∙ sym is

-- a row of level 0 is that of a vertex alone, and any other is named by the part
module _ (f : Framed) (level : ℕ → ℕ) (u : ℕ) (row : ℕ × ℕ) (is : row ≡ row_name f level u) where
  whole : ℕ × ℕ
  whole = (level u, (whole_at f.cells level u).number)

  pub named_alone : row.0 ≡ 0 → level u ≡ 0
  unfolding whole
  named_alone zero = elim (eqb_tells (level u) 0) [
    | inl p ↦ p.1
    | inr p ↦ let same : row ≡ whole = is ∙ ap (λ b. cond b (0, 0) whole) p.0 in sym (ap (λ (r : ℕ × ℕ). r.0) same) ∙ zero
  ]

  pub named_whole : row.0 ≢ 0 → (whole_at f.cells level u ≡ record { level = row.0; number = row.1 }) × (1 ≤ level u)
  unfolding whole
  named_whole some = elim (eqb_tells (level u) 0) [
    | inl p ↦ absurd (some (ap (λ (r : ℕ × ℕ). r.0) is ∙ ap (λ b. (cond b (0, 0) whole).0) p.0))
    | inr p ↦
        let same : row ≡ whole = is ∙ ap (λ b. cond b (0, 0) whole) p.0 in
        let ne : level u ≢ 0 = p.1 in
        (subst (λ (r : ℕ × ℕ). whole_at f.cells level u ≡ record { level = r.0; number = r.1 }) (sym same) refl, omega arith)
  ]

-- what shares a part that is a cell has the cell's number at its level
module _ (p : Partition) (level : ℕ → ℕ) (u v : ℕ) (k : Cell) (is : k ≡ whole_at p level u) where
  pub share_from_number : 1 ≤ level u → u < p.vertices → v < p.vertices → number_of (level_at p k.level) v ≡ k.number → ShareCell p level u v
  share_from_number some lu lv e = (some, (lu, refl), (lv, subst (λ (x : Cell). number_of (level_at p x.level) v ≡ x.number) is e))

  pub number_from_share : ShareCell p level u v → number_of (level_at p k.level) v ≡ k.number
  number_from_share h = subst (λ (x : Cell). number_of (level_at p x.level) v ≡ x.number) (sym is) h.2.1

-- where u is alone its row leads nowhere
pub heads_alone : (f : Framed) (level : ℕ → ℕ) (u : ℕ) → level u ≡ 0 → row_heads f level u ≡ []
heads_alone f level u e = ap (λ (n : ℕ). cond (nat_eq n 0) [] (at_cell f.exits (whole_at f.cells level u))) e

-- and elsewhere to the exits of the part
pub heads_whole : (f : Framed) (level : ℕ → ℕ) (u : ℕ) → 1 ≤ level u → row_heads f level u ≡ at_cell f.exits (whole_at f.cells level u)
heads_whole f level u some = elim (eqb_tells (level u) 0) [
  | inl p ↦ let zero : level u ≡ 0 = p.1 in absurd (omega arith)
  | inr p ↦ ap (λ b. cond b [] (at_cell f.exits (whole_at f.cells level u))) p.0
]

get_nothing : {A : Type 0} (xs : List A) (j : ℕ) (x : A) → xs ≡ [] → ¬ (slice_get xs j ≡ Some x)
get_nothing {A} xs j x e h = let lt : j < length {A = A} [] = slice_get_within [] j x (ap (λ (ys : List A). slice_get ys j) (sym e) ∙ h) in omega arith

-- a clique has one row at a place
row_same : {C : Type 0} (f : Framed) (cliques : CliqueLists C) (k : Cell) (i : ℕ) (row other : List (Option C)) → HasCellRow f cliques k i row → HasCellRow f cliques k i other → row ≡ other
row_same {C} f cliques k i row other a b =
    let rows : a.rows ≡ b.rows = same_Some a.rows b.rows (sym a.level ∙ b.level) in
    let begins : slice_get b.rows.first k.number ≡ Some a.has.first = subst (λ (r : Rows C). slice_get r.first k.number ≡ Some a.has.first) rows a.has.begins in
    let first : a.has.first ≡ b.has.first = same_Some a.has.first b.has.first (sym begins ∙ b.has.begins) in
    let width : ℕ = length (at_cell f.exits k) in
    let here : row ≡ slice_range b.rows.values (a.has.first + i * width) (a.has.first + i * width + width) = subst (λ (r : Rows C). row ≡ slice_range r.values (a.has.first + i * width) (a.has.first + i * width + width)) rows a.has.row_is in
    here ∙ ap (λ (n : ℕ). slice_range b.rows.values (n + i * width) (n + i * width + width)) first ∙ sym b.has.row_is

module _ {C : Type 0} {ops : CostOps C} (laws : CostLaws ops) (f : Framed) (framed : IsFramed f) (w : Weighting C) (small : AreSmall ops f.graph w)
    (In : ℕ → Type 0) (level : ℕ → ℕ) (parts : AreParts f.cells In level) (cliques : CliqueLists C) (top : ℕ) (exact : AreExact ops f w cliques top)
    (high : (v : ℕ) → level v ≤ top) (most : top ≤ length f.cells.levels) (u : ℕ) where
  -- where u is alone nothing costs
  pub costs_alone : level u ≡ 0 → (j : ℕ) (s : C) → ¬ (part_space ops f w In level).Costs u j s
  costs_alone e j s h = get_nothing (row_heads f level u) j h.0 (heads_alone f level u e) h.1

  module _ (lt : u < f.graph.vertices) (some : 1 ≤ level u) (k : Cell) (is : k ≡ whole_at f.cells level u) where
    is_cell : IsCell f.cells k
    is_cell = subst (λ (x : Cell). IsCell f.cells x) (sym is) (whole_is_cell laws f framed w small In level parts cliques top exact high most u lt some)

    at_top : k.level ≤ top
    at_top = subst (λ (x : Cell). x.level ≤ top) (sym is) (high u)

    heads_here : row_heads f level u ≡ at_cell f.exits k
    heads_here = heads_are laws f framed w small In level parts cliques top exact high most u some ∙ ap (λ (x : Cell). at_cell f.exits x) (sym is)

    shortcut_here : (v : ℕ) (s : C) → (part_cut ops f.graph f.cells w In level).Shortcut u v s → IsEntry f.graph f.cells k u × IsLeastInside ops f.graph w (Holds f.cells k) u v s
    shortcut_here v s h = subst (λ (x : Cell). IsEntry f.graph f.cells x u × IsLeastInside ops f.graph w (Holds f.cells x) u v s) (sym is) (h.2, h.4)

    -- nor where u is no entry
    pub costs_none : (¬ Contains (at_cell f.entries k) u) → (j : ℕ) (s : C) → ¬ (part_space ops f w In level).Costs u j s
    costs_none none j s h = none ((framed.entries k u is_cell).1 (shortcut_here h.0 s h.2).0)

    module _ (i : ℕ) (entry : slice_get (at_cell f.entries k) i ≡ Some u) where
      -- there is a row
      pub row_has : (row : List (Option C)) × HasCellRow f cliques k i row
      row_has = let r = exact.rows k i u is_cell at_top entry in (r.0, r.1)

      module _ (row : List (Option C)) (has : HasCellRow f cliques k i row) where
        is_row : IsRow ops f w k u row
        is_row = let r = exact.rows k i u is_cell at_top entry in subst (IsRow ops f w k u) (row_same f cliques k i r.0 row r.1 has) r.2

        -- what it has is what its places cost
        pub costs_row : In u → (j : ℕ) (s : C) → slice_get row j ≡ Some (Some s) → (part_space ops f w In level).Costs u j s
        costs_row inside j s e =
            let size : length row ≡ length (at_cell f.exits k) = is_row.size in
            let lt2 : j < length row = slice_get_within row j (Some s) e in
            let x = get_some (at_cell f.exits k) j (omega arith) in
            let enter : IsEntry f.graph f.cells k u = (framed.entries k u is_cell).0 (Contains_get (at_cell f.entries k) i u entry) in
            let exit : IsExit f.graph f.cells k x.0 = (framed.exits k x.0 is_cell).0 (Contains_get (at_cell f.exits k) j x.0 x.1) in
            let least : IsLeastInside ops f.graph w (Holds f.cells k) u x.0 s = is_row.each j x.0 (Some s) x.1 e in
            let there = subst (λ (y : Cell). IsEntry f.graph f.cells y u × IsExit f.graph f.cells y x.0 × IsLeastInside ops f.graph w (Holds f.cells y) u x.0 s) is (enter, exit, least) in
            (x.0, ap (λ (vs : List ℕ). slice_get vs j) heads_here ∙ x.1, (inside, (some, there.0.0, there.1.0), there.0, there.1, there.2))

        -- and what they cost it has
        pub row_costs : (j : ℕ) (s : C) → (part_space ops f w In level).Costs u j s → slice_get row j ≡ Some (Some s)
        row_costs j s h =
            let ex : slice_get (at_cell f.exits k) j ≡ Some h.0 = ap (λ (vs : List ℕ). slice_get vs j) (sym heads_here) ∙ h.1 in
            let size : length row ≡ length (at_cell f.exits k) = is_row.size in
            let lt2 : j < length (at_cell f.exits k) = slice_get_within (at_cell f.exits k) j h.0 ex in
            let o = get_some row j (omega arith) in
            o.1 ∙ ap Some (value_is laws f framed w small k u h.0 s o.0 (is_row.each j h.0 o.0 ex o.1) (shortcut_here h.0 s h.2).1)
