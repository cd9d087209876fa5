-- Each turn takes one entry more.
use Rattle.std.proofs.Common.{◌≡◌, ℕ, ◌<◌, ◌≤◌, Option, Some, List, length, get_or, arith, sym, ◌∙◌, ap, subst}
use Rattle.std.specs.List.{slice_get}
use Rattle.std.proofs.lemmas.Option.{slice_get-get_or}
use Rattle.list_lemmas.proofs.Gets.{get_is, Contains_get}
use Rattle.cell_partition.specs.Partition.{Partition}
use Rattle.cell_frame.specs.declared.cells.Cell.{Cell}
use Rattle.cell_frame.specs.Borders.{Listed, cell_of, at_cell}
use Rattle.cell_frame.specs.Free.{free_level}
use Rattle.cell_frame.specs.Parts.{whole_at}
use Rattle.column_query.proofs.Best.{IsBest-none, IsBest-more, IsLeastPathCost-best}
use Rattle.column_query.proofs.Small.{value_small}
use Rattle.column_query.proofs.Ways.{entry_apart}
use Rattle.column_query.proofs.paths.through.Goals as goal

-- the entries of the cell are those of the target's part
part_entries : (p : Partition) (borders : List Listed) (entries : List ℕ) (k : Cell) (l level t : ℕ) → entries ≡ at_cell borders k → k ≡ cell_of p l t → l ≡ level → entries ≡ at_cell borders (cell_of p level t)
part_entries p borders entries k l level t e h same = e ∙ ap (at_cell borders) (h ∙ ap (λ (x : ℕ). cell_of p x t) same)

entry_at : (xs ys : List ℕ) (i : ℕ) → xs ≡ ys → i < length xs → slice_get ys i ≡ Some (get_or xs i 0)
entry_at xs ys i are lt = subst (λ (zs : List ℕ). slice_get zs i ≡ Some (get_or xs i 0)) are (slice_get-get_or xs i 0 lt)

value_at : {C : Type 0} (column : List (Option C)) (xs ys : List ℕ) (i : ℕ) (o : Option C) → length column ≡ length ys → xs ≡ ys → i < length xs → o ≡ get_or column i o → slice_get column i ≡ Some o
value_at column xs ys i o size are lt is = let n : length xs ≡ length ys = ap length are in get_is column i o (omega (arith, size, n, lt)) (sym is)

at_end : (xs ys : List ℕ) (i : ℕ) → xs ≡ ys → length xs ≤ i → length ys ≤ i
at_end xs ys i are le = let n : length xs ≡ length ys = ap length are in omega (arith, n, le)

pub loop-i-init : goal.loop-i-init
loop-i-init g c = record {
  under_way = c.requires.under_way;
  best = IsBest-none g.met.C.Cost.laws _ _ _ _ _ c.requires.ready c.args.target c.requires.target c.requires.part _;
}

pub by_entry-requires-clause-apart : goal.by_entry-requires-clause-apart
by_entry-requires-clause-apart g c =
    let are = part_entries c.args.over.now.frame.now.cells c.args.over.now.frame.now.entries c.entries-entry-items.result.now c.cell-cell.result c.level-level.result _ c.args.target c.entries-entry-items.ensures c.cell-cell.ensures.named c.level-level.ensures in
    let at = entry_at c.entries-entry-items.result.now _ c.loop-i.i are c.loop-i-test.true in
    entry_apart g.met.C.Cost.laws _ _ _ _ _ c.requires.ready c.args.target c.requires.target c.requires.part _ (Contains_get _ c.loop-i.i _ at)

pub by_entry-requires-clause-small : goal.by_entry-requires-clause-small
by_entry-requires-clause-small g c =
    let are = part_entries c.args.over.now.frame.now.cells c.args.over.now.frame.now.entries c.entries-entry-items.result.now c.cell-cell.result c.level-level.result _ c.args.target c.entries-entry-items.ensures c.cell-cell.ensures.named c.level-level.ensures in
    let at = entry_at c.entries-entry-items.result.now _ c.loop-i.i are c.loop-i-test.true in
    let value = value_at c.args.column.now c.entries-entry-items.result.now _ c.loop-i.i c.index-column-i.result c.requires.column.size are c.loop-i-test.true c.index-column-i.is in
    value_small g.met.C.Cost.laws _ _ c.requires.ready.small _ _ _ c.index-column-i.result (c.requires.column.each c.loop-i.i _ c.index-column-i.result at value)

pub loop-i-preserved : goal.loop-i-preserved
loop-i-preserved g c =
    let are = part_entries c.args.over.now.frame.now.cells c.args.over.now.frame.now.entries c.entries-entry-items.result.now c.cell-cell.result c.level-level.result _ c.args.target c.entries-entry-items.ensures c.cell-cell.ensures.named c.level-level.ensures in
    let at = entry_at c.entries-entry-items.result.now _ c.loop-i.i are c.loop-i-test.true in
    let value = value_at c.args.column.now c.entries-entry-items.result.now _ c.loop-i.i c.index-column-i.result c.requires.column.size are c.loop-i-test.true c.index-column-i.is in
    record {
      under_way = c.in_ok-sum.ensures.under_way;
      best = IsBest-more g.met.C.Cost.laws _ _ _ _ _ c.requires.ready c.args.target c.requires.target c.requires.part (at_cell c.args.over.now.frame.now.entries (whole_at c.args.over.now.frame.now.cells (free_level c.args.over.now.frame.now.cells c.args.over.now.parts.now.vertices.now) c.args.target)) c.loop-i.i (get_or c.entries-entry-items.result.now c.loop-i.i 0) c.loop-i.best c.index-column-i.result c.in_ok-sum.sum c.lesser-best.result at (c.requires.column.each c.loop-i.i _ c.index-column-i.result at value) c.in_ok-sum.ensures.sum c.lesser-best.ensures c.loop-i.invariant.best;
    }

pub returns-clause-cost : goal.returns-clause-cost
returns-clause-cost g c =
    let are = part_entries c.args.over.now.frame.now.cells c.args.over.now.frame.now.entries c.entries-entry-items.result.now c.cell-cell.result c.level-level.result _ c.args.target c.entries-entry-items.ensures c.cell-cell.ensures.named c.level-level.ensures in
    IsLeastPathCost-best g.met.C.Cost.laws _ _ _ _ _ c.requires.ready c.args.target c.requires.target c.requires.part c.loop-i.i (at_end c.entries-entry-items.result.now _ c.loop-i.i are c.loop-i-test.false) c.loop-i.best c.loop-i.invariant.best
