-- The names of the ways back out of a vertex, and of its row.
use Rattle.std.proofs.Common.{◌≡◌, ℕ, ◌+◌, ◌-◌, ◌<◌, ◌≤◌, inl, inr, cond, nat_eq, Option, Some, None, List, length, refl, sym, ◌∙◌, ap, subst, arith}
use Rattle.std.specs.Prelude.{IfSome}
use Rattle.std.specs.List.{Contains, slice_get, range_with_len}
use Rattle.std.proofs.lemmas.Bool.{cases_lt}
use Rattle.std.proofs.lemmas.Bool.Decides.{eqb_tells}
use Rattle.std.proofs.lemmas.List.FromFn.{length-range_with_len, get_or-range_with_len}
use Rattle.std.proofs.lemmas.Option.{same_Some, slice_get_within, get_or_from_slice_get}
use Rattle.list_lemmas.proofs.Gets.{get_is, get_Contains, Contains_get}
use Rattle.search_graph.specs.Costs.{CostOps}
use Rattle.search_graph.specs.Digraph.{Weighting}
use Rattle.step_search.specs.declared.hops.Hop.{Hop}
use Rattle.cell_frame.specs.declared.cells.Cell.{Cell}
use Rattle.cell_frame.specs.Borders.{Framed, IsFramed, IsCell, IsExit, cell_of, at_cell}
use Rattle.column_search.specs.Toward.{level_toward}
use Rattle.column_search.specs.Backward.{arcs_to, part_toward, place_in, row_toward, IsArcBack, IsLeapBack, IsLeapName, back_space}
use Rattle.column_search.proofs.Finding.{place_there, place_found}

-- the numbers below n
range_below : (n i : ℕ) → Contains (range_with_len 0 n) i → i < n
range_below n i h =
    let g = get_Contains (range_with_len 0 n) i h in
    let lt : g.0 < length (range_with_len 0 n) = slice_get_within (range_with_len 0 n) g.0 i g.1 in
    let few : g.0 < n = omega (arith, lt, length-range_with_len 0 n) in
    let is : i ≡ 0 + g.0 = sym (get_or_from_slice_get (range_with_len 0 n) g.0 i 0 g.1) ∙ get_or-range_with_len 0 n g.0 0 few in
    omega (arith, is, few)

below_range : (n i : ℕ) → i < n → Contains (range_with_len 0 n) i
below_range n i lt =
    let long : length (range_with_len 0 n) ≡ n = length-range_with_len 0 n in
    let is : 0 + i ≡ i = omega arith in
    Contains_get (range_with_len 0 n) i i (get_is (range_with_len 0 n) i i (omega (arith, lt, long)) (get_or-range_with_len 0 n i i lt ∙ is))

pub pair_is : {a b c d : ℕ} → a ≡ b → c ≡ d → ◌≡◌ {A = ℕ × ℕ} (a, c) (b, d)
pair_is e f = cc

-- a hop to the same head at the same cost is the same
pub hop_is : {C : Type 0} (a b : ℕ) (x y : C) → a ≡ b → x ≡ y → ◌≡◌ {A = Option (Hop C)} (Some (record { head = a; cost = x })) (Some (record { head = b; cost = y }))
hop_is a b x y e f = cc

-- what holds of a hop, if there is one
pub some_map : {X : Type 0} (P Q : X → Type 0) → ((x : X) → P x → Q x) → (o : Option X) → IfSome o P → IfSome o Q
some_map P Q f None h = tt
some_map P Q f (Some x) h = f x h

module _ (f : Framed) (k : Cell) (t v : ℕ) where
  abbrev exits : List ℕ
  exits = at_cell f.exits (part_toward f k t v)

  -- the row of a vertex that is alone
  pub row_alone : level_toward f.cells k t v ≡ 0 → row_toward f k t v ≡ (0, 0)
  row_alone e = pair_is e (ap (λ (n : ℕ). cond (nat_eq n 0) 0 (place_in exits v)) e)

  -- and of one whose part is a cell
  pub row_whole : 1 ≤ level_toward f.cells k t v → row_toward f k t v ≡ (level_toward f.cells k t v, place_in exits v)
  row_whole some = elim (eqb_tells (level_toward f.cells k t v) 0) [
    | inl p ↦ let none : level_toward f.cells k t v ≡ 0 = p.1 in absurd (omega (arith, none, some))
    | inr p ↦ pair_is refl (ap (λ b. cond b 0 (place_in exits v)) p.0)
  ]

  pub row_level : (row : ℕ × ℕ) → row ≡ row_toward f k t v → row.0 ≡ level_toward f.cells k t v
  row_level row e = ap (λ (r : ℕ × ℕ). r.0) e

  pub row_exit : (row : ℕ × ℕ) → row ≡ row_toward f k t v → 1 ≤ level_toward f.cells k t v → row.1 ≡ place_in exits v
  row_exit row e some = ap (λ (r : ℕ × ℕ). r.1) (e ∙ row_whole some)

  -- the part by its level
  pub part_is : (n : ℕ) (part : Cell) → n ≡ level_toward f.cells k t v → part ≡ cell_of f.cells n v → part ≡ part_toward f k t v
  part_is n part e h = h ∙ ap (λ (l : ℕ). cell_of f.cells l v) e

  module _ (framed : IsFramed f) (part : Cell) (is : part ≡ part_toward f k t v) (is_cell : IsCell f.cells part) where
    -- a name of an entry is that of an exit's way
    pub exit_named : (j : ℕ) → IsLeapName f k t v j → slice_get (at_cell f.exits part) (place_in (at_cell f.exits part) v) ≡ Some v
    exit_named j h =
        let exit : IsExit f.graph f.cells part v = subst (λ (c : Cell). IsExit f.graph f.cells c v) (sym is) h.1 in
        place_found (at_cell f.exits part) v ((framed.exits part v is_cell).1 exit)

    pub entry_named : (j : ℕ) → IsLeapName f k t v j → j < length (at_cell f.entries part)
    entry_named j h = subst (λ (c : Cell). j < length (at_cell f.entries c)) (sym is) h.2

    pub names_exit : (j : ℕ) → 1 ≤ level_toward f.cells k t v → place_in (at_cell f.exits part) v < length (at_cell f.exits part) → j < length (at_cell f.entries part) → IsLeapName f k t v j
    names_exit j some lt below =
        let exit : IsExit f.graph f.cells part v = (framed.exits part v is_cell).0 (Contains_get (at_cell f.exits part) (place_in (at_cell f.exits part) v) v (place_there (at_cell f.exits part) v lt)) in
        subst (λ (c : Cell). (1 ≤ level_toward f.cells k t v) × IsExit f.graph f.cells c v × (j < length (at_cell f.entries c))) is (some, exit, below)

  module _ {C : Type 0} (ops : CostOps C) (w : Weighting C) (heads : List (List ℕ)) where
    module _ (count : ℕ) where
      -- a name is below the number of arcs and entries
      pub range_names : ((j : ℕ) → j < count → IsLeapName f k t v j) → (i : ℕ) → Contains (range_with_len 0 (length (arcs_to heads v) + count)) i → (back_space ops f w k t heads).Name v i
      range_names named i h =
          let lt : i < length (arcs_to heads v) + count = range_below (length (arcs_to heads v) + count) i h in
          elim (cases_lt i (length (arcs_to heads v))) [
            | inl less ↦ inl less
            | inr le ↦ inr (i - length (arcs_to heads v), omega (arith, le), named (i - length (arcs_to heads v)) (omega (arith, le, lt)))
          ]

      pub ways_named : ((j : ℕ) → IsLeapName f k t v j → j < count) → (i u : ℕ) (s : C) → (back_space ops f w k t heads).Arc v i u s → Contains (range_with_len 0 (length (arcs_to heads v) + count)) i
      ways_named all i u s h = below_range (length (arcs_to heads v) + count) i (elim h [
        | inl a ↦ let lt : i < length (arcs_to heads v) = slice_get_within (arcs_to heads v) i a.0 a.1 in omega (arith, lt)
        | inr a ↦ let lt : a.0 < count = all a.0 (a.2.0, a.2.1, slice_get_within (at_cell f.entries (part_toward f k t v)) a.0 u a.2.2) in omega (arith, a.1, lt)
      ])

    -- by a name below the number of arcs one goes along the arc
    pub way_along : (i j : ℕ) → slice_get (arcs_to heads v) i ≡ Some j → (u : ℕ) (s : C) → (back_space ops f w k t heads).Arc v i u s → IsArcBack ops f w k t v j u s
    way_along i j at u s h = elim h [
      | inl a ↦ subst (λ (n : ℕ). IsArcBack ops f w k t v n u s) (same_Some a.0 j (sym a.1 ∙ at)) a.2
      | inr a ↦ let lt : i < length (arcs_to heads v) = slice_get_within (arcs_to heads v) i j at in absurd (omega (arith, lt, a.1))
    ]

    -- and by any other over the part
    pub way_over : (i j : ℕ) → i ≡ length (arcs_to heads v) + j → (u : ℕ) (s : C) → (back_space ops f w k t heads).Arc v i u s → IsLeapBack ops f w k t v j u s
    way_over i j e u s h = elim h [
      | inl a ↦ let lt : i < length (arcs_to heads v) = slice_get_within (arcs_to heads v) i a.0 a.1 in absurd (omega (arith, lt, e))
      | inr a ↦ let same : a.0 ≡ j = omega (arith, a.1, e) in subst (λ (n : ℕ). IsLeapBack ops f w k t v n u s) same a.2
    ]

    -- such a name is that of an entry
    pub name_over : (i j : ℕ) → i ≡ length (arcs_to heads v) + j → (back_space ops f w k t heads).Name v i → IsLeapName f k t v j
    name_over i j e h = elim h [
      | inl lt ↦ absurd (omega (arith, lt, e))
      | inr a ↦ let same : a.0 ≡ j = omega (arith, a.1, e) in subst (IsLeapName f k t v) same a.2
    ]
