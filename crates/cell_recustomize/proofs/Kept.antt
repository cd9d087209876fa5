-- Inside a cell that no change touches both weightings agree, so what walks cost there stays.
use Rattle.std.proofs.Common.{◌≡◌, ℕ, ◌+◌, ◌-◌, ◌*◌, ◌<◌, ◌≤◌, inl, inr, Bool, true, false, true≢false, Option, Some, None, List, [], ◌∷◌, length, take, drop, length-drop, refl, sym, ◌∙◌, ap, subst, arith}
use Rattle.std.specs.List.{slice_get, slice_range}
use Rattle.std.proofs.lemmas.List.{length-take-le}
use Rattle.std.proofs.lemmas.Option.{slice_get_within, same_Some}
use Rattle.search_graph.specs.Costs.{CostOps}
use Rattle.search_graph.specs.Digraph.{Digraph, Weighting, IsArc}
use Rattle.search_graph.specs.Weighted.{AreSmall}
use Rattle.search_graph.specs.Walks.{Chain, Paying}
use Rattle.cell_partition.specs.Partition.{level_at}
use Rattle.cell_frame.specs.declared.cells.Cell.{Cell}
use Rattle.cell_frame.specs.Borders.{Framed, Holds, IsCell, at_cell}
use Rattle.cell_frame.specs.Cliqued.{AreExact, CliqueLists, HasCellClique, HasCellRow, HasRow, IsRow, Rows}
use Rattle.cell_frame.specs.Inside.{IsMoveIn, IsInside, IsInsideValue}
use Rattle.cell_customize.specs.Levels.{IsClique}
use Rattle.cell_customize.specs.Slices.{range_of_range}
use Rattle.cell_customize.specs.Piling.{more_times, times_within}
use Rattle.cell_recustomize.specs.Touched.{DifferOnlyAt, WereExact, IsTouched}
use Rattle.cell_recustomize.specs.Making.{AreMarked, HasExactRows, IsPrepared}

-- two weightings give one cost to each vertex of `In`, and to each arc between two of them
pub record AgreeIn {C : Type 0} (g : Digraph) (In : ℕ → Type 0) (a b : Weighting C) : Type 0 where
  pub vertex : (v : ℕ) → In v → slice_get a.vertex v ≡ slice_get b.vertex v
  pub arc : (i u v : ℕ) → IsArc g i u v → In u → In v → slice_get a.arc i ≡ slice_get b.arc i

module _ {C : Type 0} (ops : CostOps C) (g : Digraph) (In : ℕ → Type 0) where
  AgreeIn-sym : (a b : Weighting C) → AgreeIn g In a b → AgreeIn g In b a
  AgreeIn-sym a b agree = record { vertex = λ v inside. sym (agree.vertex v inside); arc = λ i u v is tail head. sym (agree.arc i u v is tail head) }

  -- walks that stay in `In` cost the same
  goes_same : (a b : Weighting C) → AgreeIn g In a b → (u z : ℕ) (c d : C) (vs : List ℕ) → In u → Chain (Paying ops (IsMoveIn ops g a In)) u c vs z d → Chain (Paying ops (IsMoveIn ops g b In)) u c vs z d
  goes_same a b agree u z c d [] inside goes = goes
  goes_same a b agree u z c d (v ∷ vs) inside goes =
      let there : In v = goes.1.1.0 in
      let move = goes.1.1.1 in
      let arc = move.2 in
      (goes.0, (goes.1.0, (there, (move.0, move.1, (arc.0, arc.1, sym (agree.arc arc.0 u v arc.1 inside there) ∙ arc.2), sym (agree.vertex v there) ∙ move.3, move.4)), goes.1.2), goes_same a b agree v z goes.0 d vs there goes.2)

  inside_same : (a b : Weighting C) → AgreeIn g In a b → (u v : ℕ) (vs : List ℕ) (d : C) → IsInside ops g a In u v vs d → IsInside ops g b In u v vs d
  inside_same a b agree u v vs d walk = record {
    begins = walk.begins;
    opens = (walk.opens.0, sym (agree.vertex u walk.begins) ∙ walk.opens.1);
    goes = goes_same a b agree u v ops.zero d vs walk.begins walk.goes;
  }

  -- so the least cost is the same
  pub value_same : (a b : Weighting C) → AgreeIn g In a b → (u v : ℕ) (o : Option C) → IsInsideValue ops g a In u v o → IsInsideValue ops g b In u v o
  value_same a b agree u v None none = λ vs d walk. none vs d (inside_same b a (AgreeIn-sym a b agree) u v vs d walk)
  value_same a b agree u v (Some d) least = record {
    walk = least.walk;
    leads = inside_same a b agree u v least.walk d least.leads;
    least = λ other e walk. least.least other e (inside_same b a (AgreeIn-sym a b agree) u v other e walk);
  }

-- weights agree inside a cell that their change does not touch
AgreeIn-untouched : {C : Type 0} (f : Framed) (before after : Weighting C) (vertices arcs : List ℕ) (k : Cell) → DifferOnlyAt before after vertices arcs → ¬ IsTouched f vertices arcs k → AgreeIn f.graph (Holds f.cells k) before after
AgreeIn-untouched f before after vertices arcs k differ free = record {
  vertex = λ v inside. differ.vertex v (λ listed. free (inl (v, listed, inside)));
  arc = λ i u v is tail head. differ.arc i (λ listed. free (inr (i, u, v, listed, is, tail, head)));
}

module _ {C : Type 0} (ops : CostOps C) (f : Framed) (w : Weighting C) (old : CliqueLists C) (vertices arcs : List ℕ) (were : WereExact ops f w old vertices arcs) where
  -- the old rows of an untouched cell are exact
  HasExactRows-untouched : (k : Cell) → IsCell f.cells k → ¬ IsTouched f vertices arcs k → HasExactRows ops f w old k
  HasExactRows-untouched k is_cell free i u e =
      let agree : AgreeIn f.graph (Holds f.cells k) were.0 w = AgreeIn-untouched f were.0 w vertices arcs k were.1 free in
      let r = were.2.rows k i u is_cell is_cell.1 e in
      let row : IsRow ops f were.0 k u r.0 = r.2 in
      (r.0, r.1, record { size = row.size; each = λ j v o ex er. value_same ops f.graph (Holds f.cells k) were.0 w agree u v o (row.each j v o ex er) })

  -- and so are those of the cells that are not marked
  HasExactRows-unmarked : (level : ℕ) (marks : List Bool) → 1 ≤ level → level ≤ length f.cells.levels → AreMarked f vertices arcs level marks →
      (n : ℕ) → slice_get marks n ≡ Some false → HasExactRows ops f w old (record { level = level; number = n })
  HasExactRows-unmarked level marks above below marked n e =
      let low : n < length (level_at f.cells level) = subst (λ (m : ℕ). n < m) marked.size (slice_get_within marks n false e) in
      HasExactRows-untouched (record { level = level; number = n }) (above, below, low) (λ touched. true≢false (same_Some true false (sym (marked.found n low touched) ∙ e)))

  -- so where the marks are those of the changes, a level can be made
  pub IsPrepared-marked : AreSmall ops f.graph w → (cliques : CliqueLists C) (below : ℕ) (marks : List Bool) → below + 1 ≤ length f.cells.levels → AreExact ops f w cliques below → AreMarked f vertices arcs (below + 1) marks →
      IsPrepared ops f w old cliques marks (below + 1)
  IsPrepared-marked small cliques below marks within exact marked =
      let same : below ≡ below + 1 - 1 = omega arith in
      record {
        above = omega arith;
        below = within;
        small = small;
        exact = subst (λ (n : ℕ). AreExact ops f w cliques n) same exact;
        size = marked.size;
        kept = HasExactRows-unmarked (below + 1) marks (omega arith) within marked;
      }

-- how long a part is
range_size : {X : Type 0} (xs part : List X) (a n : ℕ) → part ≡ slice_range xs a (a + n) → a + n ≤ length xs → length part ≡ n
range_size xs part a n is le =
    let long : length (drop a xs) ≡ length xs - a = length-drop a xs in
    let cut : length (take (a + n - a) (drop a xs)) ≡ a + n - a = length-take-le (a + n - a) (drop a xs) (omega (arith, long, le)) in
    let same : a + n - a ≡ n = omega arith in
    ap length is ∙ cut ∙ same

-- a clique has one row at a place
HasRow-same : {C : Type 0} (rows : Rows C) (n i width : ℕ) (a b : List (Option C)) → HasRow rows n i width a → HasRow rows n i width b → a ≡ b
HasRow-same rows n i width a b h g =
    let first : h.first ≡ g.first = same_Some h.first g.first (sym h.begins ∙ g.begins) in
    h.row_is ∙ ap (λ (x : ℕ). slice_range rows.values (x + i * width) (x + i * width + width)) first ∙ sym g.row_is

HasCellRow-same : {C : Type 0} (f : Framed) (cliques : CliqueLists C) (k : Cell) (i : ℕ) (a b : List (Option C)) → HasCellRow f cliques k i a → HasCellRow f cliques k i b → a ≡ b
HasCellRow-same {C} f cliques k i a b h g =
    let rows : h.rows ≡ g.rows = same_Some h.rows g.rows (sym h.level ∙ g.level) in
    HasRow-same g.rows k.number i (length (at_cell f.exits k)) a b (subst (λ (r : Rows C). HasRow r k.number i (length (at_cell f.exits k)) a) rows h.has) g.has

-- so each row that is found is exact
pub exact_row : {C : Type 0} (ops : CostOps C) (f : Framed) (w : Weighting C) (old : CliqueLists C) (k : Cell) (i u : ℕ) (row : List (Option C)) →
    HasExactRows ops f w old k → slice_get (at_cell f.entries k) i ≡ Some u → HasCellRow f old k i row → IsRow ops f w k u row
exact_row {C} ops f w old k i u row exact e has =
    let r = exact i u e in
    subst (λ (x : List (Option C)). IsRow ops f w k u x) (HasCellRow-same f old k i r.0 row r.1 has) r.2

-- the rows of a cell that has entries make a clique
pub clique_found : {C : Type 0} (ops : CostOps C) (f : Framed) (w : Weighting C) (old : CliqueLists C) (k : Cell) (last u : ℕ) →
    HasExactRows ops f w old k → slice_get (at_cell f.entries k) last ≡ Some u → last + 1 ≡ length (at_cell f.entries k) → (values : List (Option C)) × HasCellClique f old k values
clique_found ops f w old k last u exact e all =
    let width : ℕ = length (at_cell f.exits k) in
    let count : ℕ = length (at_cell f.entries k) in
    let r = (exact last u e).1 in
    let rows = r.rows in
    let first : ℕ = r.has.first in
    let end : last * width + width ≡ count * width = more_times last width ∙ ap (λ (n : ℕ). n * width) all in
    (slice_range rows.values first (first + count * width), record { rows = rows; level = r.level; has = record { first = first; begins = r.has.begins; within = omega (arith, r.has.within, end); values_are = refl } })

-- each row is a part of the clique
row_of_clique : {C : Type 0} (f : Framed) (old : CliqueLists C) (k : Cell) (values : List (Option C)) (i : ℕ) → HasCellClique f old k values → i < length (at_cell f.entries k) →
    HasCellRow f old k i (slice_range values (i * length (at_cell f.exits k)) (i * length (at_cell f.exits k) + length (at_cell f.exits k)))
row_of_clique f old k values i h lt =
    let width : ℕ = length (at_cell f.exits k) in
    let count : ℕ = length (at_cell f.entries k) in
    let first : ℕ = h.has.first in
    let le : i * width + width ≤ count * width = times_within i count width lt in
    record {
      rows = h.rows;
      level = h.level;
      has = record {
        first = first;
        begins = h.has.begins;
        within = omega (arith, h.has.within, le);
        row_is = range_of_range h.rows.values values first (count * width) (i * width) width h.has.values_are le;
      };
    }

-- so the clique that is found is exact
pub exact_clique : {C : Type 0} (ops : CostOps C) (f : Framed) (w : Weighting C) (old : CliqueLists C) (k : Cell) (values : List (Option C)) →
    HasExactRows ops f w old k → HasCellClique f old k values → IsClique ops f w k values
exact_clique ops f w old k values exact h =
    let width : ℕ = length (at_cell f.exits k) in
    let count : ℕ = length (at_cell f.entries k) in record {
      size = range_size h.rows.values values h.has.first (count * width) h.has.values_are h.has.within;
      each = λ i u lt e. exact_row ops f w old k i u _ exact e (row_of_clique f old k values i h lt);
    }
