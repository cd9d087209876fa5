-- Each vertex marks its cell.
use Rattle.std.proofs.Common.{◌≡◌, ℕ, ◌<◌, length, sym, ◌∙◌, ap, subst}
use Rattle.std.proofs.lemmas.Option.{slice_get-get_or}
use Rattle.cell_partition.specs.Partition.{level_at}
use Rattle.cell_frame.specs.declared.cells.Cell.{Cell}
use Rattle.overlay_query.proofs.Marks.{AreMarksAt-none, AreMarksAt-more, AreMarksAt-all}
use Rattle.overlay_query.proofs.terminal_marks.marks_at.Goals as goal

pub loop-vertex-init : goal.loop-vertex-init
loop-vertex-init c = AreMarksAt-none c.args.frame.now.cells c.args.level _ c.in_ok-marks.marks.items (c.in_ok-marks.ensures.items_if_clones_equal (λ y e. e)) c.count.ensures

pub index_mut-requires : goal.index_mut-requires
index_mut-requires c =
    let level : c.cell.result.level ≡ c.args.level = ap (λ (x : Cell). x.level) c.cell.ensures.named in
    let below : c.cell.result.number < length (level_at c.args.frame.now.cells c.args.level) = subst (λ (l : ℕ). c.cell.result.number < length (level_at c.args.frame.now.cells l)) level c.cell.ensures.cell.2 in
    subst (λ (n : ℕ). c.cell.result.number < n) (sym (c.loop-vertex.marks.ok.0 ∙ c.loop-vertex.invariant.size)) below

pub loop-vertex-preserved : goal.loop-vertex-preserved
loop-vertex-preserved c = AreMarksAt-more c.args.frame.now.cells c.args.level c.args.vertices.now c.loop-vertex.vertex-index _ c.cell.result.number c.loop-vertex.marks.items (slice_get-get_or c.args.vertices.now c.loop-vertex.vertex-index _ c.loop-vertex-test.true) (ap (λ (x : Cell). x.number) c.cell.ensures.named) c.loop-vertex.invariant

pub returns : goal.returns
returns c = AreMarksAt-all c.args.frame.now.cells c.args.level c.args.vertices.now c.loop-vertex.vertex-index c.loop-vertex.marks.items c.loop-vertex-test.false c.loop-vertex.invariant
