-- The parts of a search to a vertex of a cell: what shares one has the same, and each is a cell.
use Rattle.std.proofs.Common.{◌≡◌, ℕ, ◌-◌, ◌<◌, ◌≤◌, length, refl, sym, ◌∙◌, ap, subst, arith}
use Rattle.cell_partition.specs.Partition.{level_at, number_of}
use Rattle.cell_frame.specs.declared.cells.Cell.{Cell}
use Rattle.cell_frame.specs.Borders.{Framed, IsFramed, IsCell, Holds}
use Rattle.cell_frame.specs.Parts.{ShareCell}
use Rattle.column_search.specs.Toward.{level_toward, AreToward}
use Rattle.column_search.specs.Backward.{part_toward}
use Rattle.column_search.proofs.Levels.{IsCell-of}

-- cells of equal level and number are one
same_cell : {a b c d : ℕ} → a ≡ b → c ≡ d → ◌≡◌ {A = Cell} (record { level = a; number = c }) (record { level = b; number = d })
same_cell e f = cc

module _ (f : Framed) (framed : IsFramed f) (k : Cell) (is_cell : IsCell f.cells k) (t : ℕ) (toward : AreToward f k t) where
  abbrev Shares : ℕ → ℕ → Type 0
  Shares u v = ShareCell f.cells (level_toward f.cells k t) u v

  -- what the cell holds is a vertex, and a vertex is one of the partition
  pub held_below : (c : Cell) (v : ℕ) → Holds f.cells c v → v < f.graph.vertices
  held_below c v h = let lt : v < f.cells.vertices = h.0 in let n : f.cells.vertices ≡ f.graph.vertices = framed.vertices in omega arith

  pub below_cells : (v : ℕ) → v < f.graph.vertices → v < f.cells.vertices
  below_cells v lt = let n : f.cells.vertices ≡ f.graph.vertices = framed.vertices in omega arith

  -- what shares a part has the same one
  pub part_same : (u v : ℕ) → Shares u v → part_toward f k t v ≡ part_toward f k t u
  part_same u v h =
      let e : level_toward f.cells k t v ≡ level_toward f.cells k t u = toward.parts.steady u v h in
      same_cell e (ap (λ (l : ℕ). number_of (level_at f.cells l) v) e ∙ h.2.1)

  pub share_back : (u v : ℕ) → Shares u v → Shares v u
  share_back u v h =
      let e : part_toward f k t v ≡ part_toward f k t u = part_same u v h in
      let l : level_toward f.cells k t v ≡ level_toward f.cells k t u = toward.parts.steady u v h in
      let some : 1 ≤ level_toward f.cells k t u = h.0 in
      (omega arith, subst (λ (c : Cell). Holds f.cells c v) (sym e) h.2, subst (λ (c : Cell). Holds f.cells c u) (sym e) h.1)

  -- a vertex shares its part with what that holds
  pub share_held : (u v : ℕ) → u < f.graph.vertices → 1 ≤ level_toward f.cells k t u → Holds f.cells (part_toward f k t u) v → Shares u v
  share_held u v lt some h = (some, (below_cells u lt, refl), h)

  -- a part is a cell, below the cell that is searched
  pub part_is_cell : (v : ℕ) → v < f.graph.vertices → 1 ≤ level_toward f.cells k t v → IsCell f.cells (part_toward f k t v)
  part_is_cell v lt some =
      let high : level_toward f.cells k t v ≤ k.level - 1 = toward.high v in
      let top : k.level ≤ length f.cells.levels = is_cell.1 in
      IsCell-of f.cells framed.kept v (level_toward f.cells k t v) (below_cells v lt) some (omega arith)
