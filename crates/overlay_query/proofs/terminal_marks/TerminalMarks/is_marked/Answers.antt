-- The mark of a vertex's cell tells it.
use Rattle.std.proofs.Common.{◌-◌, arith, sym, ◌∙◌, ap, Some}
use Rattle.std.proofs.lemmas.Option.{slice_get-get_or}
use Rattle.overlay_query.proofs.Marks.{mark_tells}
use Rattle.overlay_query.proofs.terminal_marks.TerminalMarks.is_marked.Goals as goal

pub returns : goal.returns
returns c = λ v lv is.
    let f = c.args.frame.now in
    let marks = c.args.self.now in
    let cells = c.requires.ready.cells in
    mark_tells f.cells marks.vertices.now marks.levels.items c.args.level c.args.number v c.index.result.now c.get.result c.known.ensures.kept cells c.requires.above c.requires.below (omega (arith, lv, c.known.ensures.vertices)) is
    (slice_get-get_or marks.levels.items (c.args.level - 1) c.index.result.now (omega (arith, c.requires.above, c.requires.below, cells.size)) ∙ ap Some (sym c.index.ensures)) c.get.ensures
