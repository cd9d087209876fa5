use Rattle.std.proofs.Common.{arith}
use Rattle.cell_partition.proofs.InOrder.{part_at, other_at, part_in_order, parts_sizes}
use Rattle.cell_partition.proofs.parts.Parts.part.Goals as goal

pub bounds-bounds-number : goal.bounds-bounds-number
bounds-bounds-number g c = omega (arith, (parts_sizes c.args.self.now g.parts c.requires.0).0, c.requires.1, c.as_slice-bounds.ensures.len)

pub offset_bounds-bounds-number : goal.offset_bounds-bounds-number
offset_bounds-bounds-number g c = omega (arith, (parts_sizes c.args.self.now g.parts c.requires.0).0, c.requires.1, c.args.self.now.bounds.ok)

pub offset_bounds-bounds-number-2 : goal.offset_bounds-bounds-number-2
offset_bounds-bounds-number-2 g c = omega (arith, (parts_sizes c.args.self.now g.parts c.requires.0).0, c.requires.1, c.args.self.now.bounds.ok)

pub overflow_add-end : goal.overflow_add-end
overflow_add-end g c = omega (arith, (parts_sizes c.args.self.now g.parts c.requires.0).0, c.requires.1, c.args.self.now.bounds.ok.0)

pub bounds-bounds-number-2 : goal.bounds-bounds-number-2
bounds-bounds-number-2 g c = omega (arith, (parts_sizes c.args.self.now g.parts c.requires.0).0, c.requires.1, c.as_slice-bounds.ensures.len)

pub bounds-axes-number : goal.bounds-axes-number
bounds-axes-number g c = omega (arith, (parts_sizes c.args.self.now g.parts c.requires.0).1, c.requires.1, c.as_slice-axes.ensures.len)

pub slice_bounds-result-count : goal.slice_bounds-result-count
slice_bounds-result-count g c = (part_at c.args.self.now g.parts c.args.number _ _ c.requires.0 c.requires.1 c.as_slice-bounds.ensures.value c.deref.ensures.value).ordered

pub slice_bounds-result-start : goal.slice_bounds-result-start
slice_bounds-result-start g c = (part_at c.args.self.now g.parts c.args.number _ _ c.requires.0 c.requires.1 c.as_slice-bounds.ensures.value c.deref.ensures.value).ordered

pub slice_bounds-result-end : goal.slice_bounds-result-end
slice_bounds-result-end g c = (part_at c.args.self.now g.parts c.args.number _ _ c.requires.0 c.requires.1 c.as_slice-bounds.ensures.value c.deref.ensures.value).inside

pub slice_bounds-result-count-2 : goal.slice_bounds-result-count-2
slice_bounds-result-count-2 g c = (other_at c.args.self.now g.parts c.args.number _ _ c.requires.0 c.requires.1 c.as_slice-bounds.ensures.value c.deref-2.ensures.value).ordered

pub slice_bounds-result-start-2 : goal.slice_bounds-result-start-2
slice_bounds-result-start-2 g c = (other_at c.args.self.now g.parts c.args.number _ _ c.requires.0 c.requires.1 c.as_slice-bounds.ensures.value c.deref-2.ensures.value).ordered

pub slice_bounds-result-end-2 : goal.slice_bounds-result-end-2
slice_bounds-result-end-2 g c = (other_at c.args.self.now g.parts c.args.number _ _ c.requires.0 c.requires.1 c.as_slice-bounds.ensures.value c.deref-2.ensures.value).inside

pub returns-clause-part : goal.returns-clause-part
returns-clause-part g c = (part_at c.args.self.now g.parts c.args.number _ _ c.requires.0 c.requires.1 c.as_slice-bounds.ensures.value c.deref.ensures.value).part

pub returns-clause-in_order : goal.returns-clause-in_order
returns-clause-in_order g c =
    part_in_order c.args.self.now g.parts c.args.number _ _ _ _ _ c.requires.0 c.requires.1 c.as_slice-bounds.ensures.value c.deref.ensures.value c.deref-2.ensures.value c.as_slice-axes.ensures.value
