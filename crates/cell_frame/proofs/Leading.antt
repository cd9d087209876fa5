-- An exit of a part has the part's row, and one that is no entry leads on by arcs alone.
use Rattle.std.proofs.Common.{◌≡◌, ◌≢◌, ℕ, ◌<◌, ◌≤◌, inl, inr, Bool, cond, List, Some, length, refl, sym, ◌∙◌, ap, subst, arith}
use Rattle.std.specs.List.{Contains, slice_get}
use Rattle.std.proofs.lemmas.Option.{slice_get_within}
use Rattle.std.proofs.lemmas.Bool.Decides.{eqb_tells}
use Rattle.list_lemmas.proofs.Gets.{Contains_get, get_Contains}
use Rattle.search_graph.specs.Costs.{CostLaws, CostOps}
use Rattle.search_graph.specs.Digraph.{Weighting}
use Rattle.search_graph.specs.Weighted.{AreSmall}
use Rattle.step_search.specs.Spaces.{IsHeadAt, LeadsBy}
use Rattle.cell_partition.specs.Partition.{level_at, number_of}
use Rattle.cell_frame.specs.declared.cells.Cell.{Cell}
use Rattle.cell_frame.specs.Borders.{Framed, IsExit, IsFramed, at_cell, leaving_at}
use Rattle.cell_frame.specs.Cliqued.{AreExact, CliqueLists}
use Rattle.cell_frame.specs.Parts.{AreParts, whole_at}
use Rattle.cell_frame.specs.PartSpace.{part_space, row_heads, row_name}
use Rattle.cell_frame.proofs.Crossed.{names_across}
use Rattle.cell_frame.proofs.Levels.{IsCell-of}
use Rattle.cell_frame.proofs.Stepping.{costs_none, heads_alone, heads_whole, named_whole}

row_whole : (f : Framed) (level : ℕ → ℕ) (u : ℕ) → 1 ≤ level u → row_name f level u ≡ (level u, (whole_at f.cells level u).number)
row_whole f level u some = elim (eqb_tells (level u) 0) [
  | inl p ↦ let zero : level u ≡ 0 = p.1 in absurd (omega arith)
  | inr p ↦ ap (λ (b : Bool). cond b (0, 0) (level u, (whole_at f.cells level u).number)) p.0
]

module _ (f : Framed) (framed : IsFramed f) (In : ℕ → Type 0) (level : ℕ → ℕ) (parts : AreParts f.cells In level) (high : (v : ℕ) → level v ≤ length f.cells.levels) (v u : ℕ) (lu : u < f.graph.vertices) (row : ℕ × ℕ) (is : row_name f level u ≡ row) (among : Contains (row_heads f level u) v) where
  some : 1 ≤ level u
  some = elim (eqb_tells (level u) 0) [
    | inl p ↦
        let g = get_Contains (row_heads f level u) v among in
        let lt : g.0 < length (row_heads f level u) = slice_get_within (row_heads f level u) g.0 v g.1 in
        absurd (omega (arith, lt, ap (length {A = ℕ}) (heads_alone f level u p.1)))
    | inr p ↦ let ne : level u ≢ 0 = p.1 in omega arith
  ]

  abbrev here : Cell
  here = whole_at f.cells level u

  below : u < f.cells.vertices
  below = omega (arith, lu, framed.vertices)

  exit : IsExit f.graph f.cells here v
  exit = (framed.exits here v (IsCell-of f.cells framed.kept u (level u) below some (high u))).0 (subst (λ (vs : List ℕ). Contains vs v) (heads_whole f level u some) among)

  same_level : level v ≡ level u
  same_level = parts.steady u v (some, (below, refl), exit.0)

  leads_some : 1 ≤ level v
  leads_some = omega (arith, some, same_level)

  -- its row has the same name
  leads_row : row ≡ row_name f level v
  leads_row =
      let pair : (level v, number_of (level_at f.cells (level v)) v) ≡ (level u, number_of (level_at f.cells (level u)) u) =
      ap (λ (n : ℕ). (n, number_of (level_at f.cells n) v)) same_level ∙ ap (λ (m : ℕ). (level u, m)) exit.0.1 in
      sym is ∙ row_whole f level u some ∙ sym pair ∙ sym (row_whole f level v leads_some)

module _ {C : Type 0} {ops : CostOps C} (laws : CostLaws ops) (f : Framed) (framed : IsFramed f) (w : Weighting C) (small : AreSmall ops f.graph w)
    (In : ℕ → Type 0) (level : ℕ → ℕ) (parts : AreParts f.cells In level) (cliques : CliqueLists C) (top : ℕ) (exact : AreExact ops f w cliques top)
    (high : (v : ℕ) → level v ≤ top) (most : top ≤ length f.cells.levels) (row : ℕ × ℕ) where
  below_top : (v : ℕ) → level v ≤ length f.cells.levels
  below_top v = omega (arith, high v, most)

  abbrev part : Cell
  part = record { level = row.0; number = row.1 }

  -- where what is told beside an exit of it tells that this is no entry, it leads on by the arcs that are told
  pub LeadsBy-told : (place v : ℕ) (arcs : List ℕ) → v < f.graph.vertices → row.0 ≢ 0 →
      ((n : ℕ) → slice_get (at_cell f.exits part) place ≡ Some n → (¬ Contains (at_cell f.entries part) n) × (arcs ≡ leaving_at f row.0 n)) →
      IsHeadAt (part_space ops f w In level) row place v → LeadsBy (part_space ops f w In level) row v arcs
  LeadsBy-told place v arcs lv ne told head =
      let u : ℕ = head.0 in
      let named = named_whole f level u row (sym head.2) ne in
      let among : Contains (row_heads f level u) v = Contains_get (row_heads f level u) place v head.3 in
      let same : row ≡ row_name f level v = leads_row f framed In level parts below_top v u head.1 row head.2 among in
      let own = named_whole f level v row same ne in
      let at : level v ≡ row.0 = ap (λ (k : Cell). k.level) own.0 in
      let exits : row_heads f level u ≡ at_cell f.exits part = heads_whole f level u named.1 ∙ ap (λ (k : Cell). at_cell f.exits k) named.0 in
      let t = told v (ap (λ (vs : List ℕ). slice_get vs place) (sym exits) ∙ head.3) in
      let are : arcs ≡ leaving_at f (level v) v = t.1 ∙ ap (λ (l : ℕ). leaving_at f l v) (sym at) in
      record {
        row = same;
        no_costs = costs_none laws f framed w small In level parts cliques top exact high most v lv own.1 part (sym own.0) t.0;
        named = λ i h. names_across f framed level v i (below_top v) lv own.1 (level v) refl (subst (λ (is : List ℕ). Contains is i) are h);
        all = λ i x s h. elim h.3 [
          | inl p ↦ let zero : level v ≡ 0 = p.0 in absurd (omega (arith, zero, own.1))
          | inr p ↦ subst (λ (is : List ℕ). Contains is i) (sym are) p.2
        ];
      }
