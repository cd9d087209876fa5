use Rattle.std.proofs.Common.{◌≡◌, ℕ, [], ◌+◌, ◌-◌, ◌≤◌, true, eqb, List, length, drop, get_or, ap, sym, ◌∙◌, subst, arith}
use Rattle.std.specs.List.{list_any}
use Rattle.std.proofs.lemmas.List.{drop_all}
use Rattle.cell_partition.specs.Bounds.{joined}
use Rattle.cell_partition.specs.Partition.{number_of}
use Rattle.cell_partition.proofs.Bounds.{between_bounds, length-bounds}
use Rattle.cell_partition.proofs.Numbers.{numbered_more}
use Rattle.cell_partition.proofs.numbering.number_cells.Goals as goal

pub loop-cell-init : goal.loop-cell-init
loop-cell-init g c =
    let count = length-bounds g.cells c.args.bounds.now c.requires.1.0 in
    let none : drop (length c.args.bounds.now - 1) g.cells ≡ [] = drop_all (length c.args.bounds.now - 1) g.cells (omega arith) in record {
      within = omega arith;
      numbers = λ vertex h. let h' : list_any (eqb vertex) (joined []) ≡ true = ap (λ (cs : List (List ℕ)). list_any (eqb vertex) (joined cs)) (sym none) ∙ h in absurd (cc h');
    }

pub bounds-bounds-cell : goal.bounds-bounds-cell
bounds-bounds-cell g c = omega (arith, length-bounds g.cells c.args.bounds.now c.requires.1.0, c.loop-cell.invariant.within)

pub bounds-bounds-cell-in-loop-cell : goal.bounds-bounds-cell-in-loop-cell
bounds-bounds-cell-in-loop-cell g c =
    omega (arith, length-bounds g.cells c.args.bounds.now c.requires.1.0, c.loop-cell.invariant.within)

pub slice_bounds-number_members-count : goal.slice_bounds-number_members-count
slice_bounds-number_members-count g c =
    (between_bounds g.cells c.args.bounds.now c.args.order.now (c.loop-cell.cell - 1) c.requires.1.0 c.requires.0 (omega (arith, c.loop-cell.invariant.within))).ordered

pub slice_bounds-number_members-start : goal.slice_bounds-number_members-start
slice_bounds-number_members-start g c =
    (between_bounds g.cells c.args.bounds.now c.args.order.now (c.loop-cell.cell - 1) c.requires.1.0 c.requires.0 (omega (arith, c.loop-cell.invariant.within))).ordered

pub slice_bounds-number_members-end : goal.slice_bounds-number_members-end
slice_bounds-number_members-end g c =
    (between_bounds g.cells c.args.bounds.now c.args.order.now (c.loop-cell.cell - 1) c.requires.1.0 c.requires.0 (omega (arith, c.loop-cell.invariant.within))).inside

pub loop-cell-preserved : goal.loop-cell-preserved
loop-cell-preserved g c =
    let k = c.loop-cell.cell - 1 in
    let cell : k + 1 ≡ c.loop-cell.cell = omega arith in
    let within : c.loop-cell.cell ≤ length g.cells = c.loop-cell.invariant.within in
    let at = between_bounds g.cells c.args.bounds.now c.args.order.now k c.requires.1.0 c.requires.0 (omega arith) in record {
      within = omega arith;
      numbers = numbered_more g.cells k _ c.loop-cell.numbers c.number_members.new.numbers (omega arith) at.part c.number_members.ensures.members c.number_members.ensures.others
          (subst (λ (n : ℕ). (vertex : ℕ) → list_any (eqb vertex) (joined (drop n g.cells)) ≡ true → get_or c.loop-cell.numbers vertex 0 ≡ n + number_of (drop n g.cells) vertex) (sym cell) c.loop-cell.invariant.numbers);
    }
