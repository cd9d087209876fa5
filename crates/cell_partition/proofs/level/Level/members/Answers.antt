use Rattle.std.proofs.Common.{◌∙◌, arith}
use Rattle.cell_partition.specs.Levels.{cells_of}
use Rattle.cell_partition.proofs.Bounds.{between_bounds, length-bounds}
use Rattle.cell_partition.proofs.level.Level.members.Goals as goal

pub bounds-bounds-cell : goal.bounds-bounds-cell
bounds-bounds-cell c =
    omega (arith, length-bounds (cells_of c.args.self.now) _ (c.as_slice-bounds.ensures.value ∙ c.requires.kept.bounds), c.requires.inside)

pub bounds-bounds-cell-2 : goal.bounds-bounds-cell-2
bounds-bounds-cell-2 c =
    omega (arith, length-bounds (cells_of c.args.self.now) _ (c.as_slice-bounds.ensures.value ∙ c.requires.kept.bounds), c.requires.inside)

pub slice_bounds-result-count : goal.slice_bounds-result-count
slice_bounds-result-count c =
    (between_bounds (cells_of c.args.self.now) _ _ c.args.cell (c.as_slice-bounds.ensures.value ∙ c.requires.kept.bounds) (c.deref.ensures.value ∙ c.requires.kept.order) c.requires.inside).ordered

pub slice_bounds-result-start : goal.slice_bounds-result-start
slice_bounds-result-start c =
    (between_bounds (cells_of c.args.self.now) _ _ c.args.cell (c.as_slice-bounds.ensures.value ∙ c.requires.kept.bounds) (c.deref.ensures.value ∙ c.requires.kept.order) c.requires.inside).ordered

pub slice_bounds-result-end : goal.slice_bounds-result-end
slice_bounds-result-end c =
    (between_bounds (cells_of c.args.self.now) _ _ c.args.cell (c.as_slice-bounds.ensures.value ∙ c.requires.kept.bounds) (c.deref.ensures.value ∙ c.requires.kept.order) c.requires.inside).inside

pub returns : goal.returns
returns c =
    (between_bounds (cells_of c.args.self.now) _ _ c.args.cell (c.as_slice-bounds.ensures.value ∙ c.requires.kept.bounds) (c.deref.ensures.value ∙ c.requires.kept.order) c.requires.inside).part
