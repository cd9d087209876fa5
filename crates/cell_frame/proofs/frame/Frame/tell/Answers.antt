-- What is known of the vertex tells of the level.
use Rattle.std.proofs.Common.{◌≡◌, ◌+◌, ◌≤◌, ◌^◌, length, IfSome, IfNone, subst, sym}
use Rattle.std.specs.List.{Contains}
use Rattle.cell_frame.specs.Borders.{Framed, at_cell, cell_of}
use Rattle.cell_frame.specs.Spots.{TellsEntry}
use Rattle.cell_frame.proofs.Leaving.{on_none, on_some, tell_there, told}
use Rattle.cell_frame.proofs.frame.Frame.tell.Goals as goal

pub tell-requires-clause-there : goal.tell-requires-clause-there
tell-requires-clause-there c =
    let f = c.self.inside in
    let high : c.args.level ≤ length f.cells.levels = subst (λ (x : Framed). c.args.level ≤ length x.cells.levels) (sym c.self.view_is) c.requires.below in
    rw c.deref.ensures.value (tell_there f.graph f.cells f.entries.items f.spots.tells.items f.spots.crossings.items c.args.level c.args.v c.spot.result (c.self.invariant.1.each c.args.v c.spot.result c.spot.ensures) c.requires.above high)

pub returns-clause-few : goal.returns-clause-few
returns-clause-few c =
    let f = c.self.inside in
    let high : c.args.level ≤ length f.cells.levels = subst (λ (x : Framed). c.args.level ≤ length x.cells.levels) (sym c.self.view_is) c.requires.below in
    on_some _ _ _ c.tell.result (told f.graph f.cells f.entries.items f.spots.tells.items f.spots.crossings.items c.args.level c.args.v c.spot.result (c.self.invariant.1.each c.args.v c.spot.result c.spot.ensures) c.requires.above high c.tell.result (rw c.deref.ensures.value at c.tell.ensures)) (λ t h. h.few)

pub returns-clause-entered : goal.returns-clause-entered
returns-clause-entered c =
    let f = c.self.inside in
    let high : c.args.level ≤ length f.cells.levels = subst (λ (x : Framed). c.args.level ≤ length x.cells.levels) (sym c.self.view_is) c.requires.below in
    subst (λ (x : Framed). IfSome c.tell.result (λ t. TellsEntry x.cells x.entries c.args.v c.args.level t.place)) c.self.view_is
    (on_some _ _ _ c.tell.result (told f.graph f.cells f.entries.items f.spots.tells.items f.spots.crossings.items c.args.level c.args.v c.spot.result (c.self.invariant.1.each c.args.v c.spot.result c.spot.ensures) c.requires.above high c.tell.result (rw c.deref.ensures.value at c.tell.ensures)) (λ t h. h.entered))

pub returns-clause-none : goal.returns-clause-none
returns-clause-none c =
    let f = c.self.inside in
    let high : c.args.level ≤ length f.cells.levels = subst (λ (x : Framed). c.args.level ≤ length x.cells.levels) (sym c.self.view_is) c.requires.below in
    subst (λ (x : Framed). IfNone c.tell.result (¬ Contains (at_cell x.entries (cell_of x.cells c.args.level c.args.v)) c.args.v)) c.self.view_is
    (on_none _ _ c.tell.result (told f.graph f.cells f.entries.items f.spots.tells.items f.spots.crossings.items c.args.level c.args.v c.spot.result (c.self.invariant.1.each c.args.v c.spot.result c.spot.ensures) c.requires.above high c.tell.result (rw c.deref.ensures.value at c.tell.ensures)))
