-- By a place among the arcs one goes along that arc, and by any behind them over the part.
use Rattle.std.proofs.Common.{◌≡◌, ℕ, ◌+◌, ◌-◌, inl, inr, Some, List, length, get_or, sym, ◌∙◌, ap, subst, arith}
use Rattle.std.specs.List.{slice_get}
use Rattle.std.proofs.lemmas.Option.{slice_get-get_or}
use Rattle.list_lemmas.proofs.Gets.{Contains_get}
use Rattle.cell_frame.specs.declared.cells.Cell.{Cell}
use Rattle.cell_frame.specs.Borders.{at_cell}
use Rattle.column_search.specs.Backward.{arcs_to, place_in, IsArcBack, IsLeapBack, back_space}
use Rattle.column_search.proofs.Counting.{AreTo-heads, list_is}
use Rattle.column_search.proofs.Naming.{entry_named, exit_named, name_over, part_is, row_exit, row_level, some_map, way_along, way_over}
use Rattle.column_search.proofs.backward.BackwardSteps.by_arc_named.Goals as goal

pub along-requires-clause-arc : goal.along-requires-clause-arc
along-requires-clause-arc g c =
    let o = c.args.self.now.overlay.now in
    let h = c.requires.ready in
    let arcs = c.leading_to-arcs.result.now in
    let is = list_is o.frame.now.graph o.heads.now h.by_head c.args.v arcs c.requires.vertex c.leading_to-arcs.ensures in
    let at = subst (λ (xs : List ℕ). slice_get xs c.args.i ≡ Some (get_or arcs c.args.i 0)) is (slice_get-get_or arcs c.args.i 0 c.if-place-arcs.true) in
    (AreTo-heads o.frame.now.graph o.heads.now h.by_head c.args.v c.requires.vertex (get_or arcs c.args.i 0)).0 (Contains_get (arcs_to o.heads.now c.args.v) c.args.i (get_or arcs c.args.i 0) at)

pub returns-then-place-arcs-clause-some : goal.returns-then-place-arcs-clause-some
returns-then-place-arcs-clause-some g c =
    let o = c.args.self.now.overlay.now in
    let s = c.args.self.now.toward.now in
    let h = c.requires.ready in
    let arcs = c.leading_to-arcs.result.now in
    let is = list_is o.frame.now.graph o.heads.now h.by_head c.args.v arcs c.requires.vertex c.leading_to-arcs.ensures in
    let at = subst (λ (xs : List ℕ). slice_get xs c.args.i ≡ Some (get_or arcs c.args.i 0)) is (slice_get-get_or arcs c.args.i 0 c.if-place-arcs.true) in
    some_map (λ x. IsArcBack g.C.Cost.ops o.frame.now o.weights.now s.cell s.target c.args.v (get_or arcs c.args.i 0) x.head x.cost) (λ x. (back_space g.C.Cost.ops o.frame.now o.weights.now s.cell s.target o.heads.now).Arc c.args.v c.args.i x.head x.cost)
    (λ x q. inl (get_or arcs c.args.i 0, at, q)) c.along.result c.along.ensures.some

pub returns-then-place-arcs-clause-all : goal.returns-then-place-arcs-clause-all
returns-then-place-arcs-clause-all g c = λ u cost way.
    let o = c.args.self.now.overlay.now in
    let s = c.args.self.now.toward.now in
    let h = c.requires.ready in
    let arcs = c.leading_to-arcs.result.now in
    let is = list_is o.frame.now.graph o.heads.now h.by_head c.args.v arcs c.requires.vertex c.leading_to-arcs.ensures in
    let at = subst (λ (xs : List ℕ). slice_get xs c.args.i ≡ Some (get_or arcs c.args.i 0)) is (slice_get-get_or arcs c.args.i 0 c.if-place-arcs.true) in
    c.along.ensures.all u cost (way_along o.frame.now s.cell s.target c.args.v g.C.Cost.ops o.weights.now o.heads.now c.args.i (get_or arcs c.args.i 0) at u cost way)

pub cell-part-requires-clause-above : goal.cell-part-requires-clause-above
cell-part-requires-clause-above g c =
    let o = c.args.self.now.overlay.now in
    let s = c.args.self.now.toward.now in
    let arcs = c.leading_to-arcs.result.now in
    let is = list_is o.frame.now.graph o.heads.now c.requires.ready.by_head c.args.v arcs c.requires.vertex c.leading_to-arcs.ensures in
    let e : c.args.i ≡ length (arcs_to o.heads.now c.args.v) + (c.args.i - length arcs) = omega (arith, ap length is, c.if-place-arcs.false) in
    let name = name_over o.frame.now s.cell s.target c.args.v g.C.Cost.ops o.weights.now o.heads.now c.args.i (c.args.i - length arcs) e c.requires.named in
    omega (arith, name.0, row_level o.frame.now s.cell s.target c.args.v c.args.row c.requires.row)

pub over-requires-clause-whole : goal.over-requires-clause-whole
over-requires-clause-whole g c =
    let o = c.args.self.now.overlay.now in
    let s = c.args.self.now.toward.now in
    let arcs = c.leading_to-arcs.result.now in
    let is = list_is o.frame.now.graph o.heads.now c.requires.ready.by_head c.args.v arcs c.requires.vertex c.leading_to-arcs.ensures in
    let e : c.args.i ≡ length (arcs_to o.heads.now c.args.v) + (c.args.i - length arcs) = omega (arith, ap length is, c.if-place-arcs.false) in
    (name_over o.frame.now s.cell s.target c.args.v g.C.Cost.ops o.weights.now o.heads.now c.args.i (c.args.i - length arcs) e c.requires.named).0

pub over-requires-clause-part : goal.over-requires-clause-part
over-requires-clause-part g c =
    let o = c.args.self.now.overlay.now in
    let s = c.args.self.now.toward.now in
    part_is o.frame.now s.cell s.target c.args.v _ _ (row_level o.frame.now s.cell s.target c.args.v c.args.row c.requires.row) c.cell-part.ensures.named

pub over-requires-clause-exit : goal.over-requires-clause-exit
over-requires-clause-exit g c =
    let o = c.args.self.now.overlay.now in
    let f = o.frame.now in
    let s = c.args.self.now.toward.now in
    let arcs = c.leading_to-arcs.result.now in
    let part = c.cell-part.result in
    let is = list_is f.graph o.heads.now c.requires.ready.by_head c.args.v arcs c.requires.vertex c.leading_to-arcs.ensures in
    let e : c.args.i ≡ length (arcs_to o.heads.now c.args.v) + (c.args.i - length arcs) = omega (arith, ap length is, c.if-place-arcs.false) in
    let name = name_over f s.cell s.target c.args.v g.C.Cost.ops o.weights.now o.heads.now c.args.i (c.args.i - length arcs) e c.requires.named in
    let same = part_is f s.cell s.target c.args.v c.args.row.0 part (row_level f s.cell s.target c.args.v c.args.row c.requires.row) c.cell-part.ensures.named in
    let place = row_exit f s.cell s.target c.args.v c.args.row c.requires.row name.0 ∙ ap (λ (k : Cell). place_in (at_cell f.exits k) c.args.v) (sym same) in
    ap (slice_get (at_cell f.exits part)) place ∙ exit_named f s.cell s.target c.args.v c.requires.ready.toward.framed part same c.cell-part.ensures.cell (c.args.i - length arcs) name

pub over-requires-clause-place : goal.over-requires-clause-place
over-requires-clause-place g c =
    let o = c.args.self.now.overlay.now in
    let f = o.frame.now in
    let s = c.args.self.now.toward.now in
    let arcs = c.leading_to-arcs.result.now in
    let part = c.cell-part.result in
    let is = list_is f.graph o.heads.now c.requires.ready.by_head c.args.v arcs c.requires.vertex c.leading_to-arcs.ensures in
    let e : c.args.i ≡ length (arcs_to o.heads.now c.args.v) + (c.args.i - length arcs) = omega (arith, ap length is, c.if-place-arcs.false) in
    let name = name_over f s.cell s.target c.args.v g.C.Cost.ops o.weights.now o.heads.now c.args.i (c.args.i - length arcs) e c.requires.named in
    let same = part_is f s.cell s.target c.args.v c.args.row.0 part (row_level f s.cell s.target c.args.v c.args.row c.requires.row) c.cell-part.ensures.named in
    entry_named f s.cell s.target c.args.v c.requires.ready.toward.framed part same c.cell-part.ensures.cell (c.args.i - length arcs) name

pub returns-clause-some : goal.returns-clause-some
returns-clause-some g c =
    let o = c.args.self.now.overlay.now in
    let s = c.args.self.now.toward.now in
    let arcs = c.leading_to-arcs.result.now in
    let is = list_is o.frame.now.graph o.heads.now c.requires.ready.by_head c.args.v arcs c.requires.vertex c.leading_to-arcs.ensures in
    let e : c.args.i ≡ length (arcs_to o.heads.now c.args.v) + (c.args.i - length arcs) = omega (arith, ap length is, c.if-place-arcs.false) in
    some_map (λ x. IsLeapBack g.C.Cost.ops o.frame.now o.weights.now s.cell s.target c.args.v (c.args.i - length arcs) x.head x.cost) (λ x. (back_space g.C.Cost.ops o.frame.now o.weights.now s.cell s.target o.heads.now).Arc c.args.v c.args.i x.head x.cost)
    (λ x q. inr (c.args.i - length arcs, e, q)) c.over.result c.over.ensures.some

pub returns-clause-all : goal.returns-clause-all
returns-clause-all g c = λ u cost way.
    let o = c.args.self.now.overlay.now in
    let s = c.args.self.now.toward.now in
    let arcs = c.leading_to-arcs.result.now in
    let is = list_is o.frame.now.graph o.heads.now c.requires.ready.by_head c.args.v arcs c.requires.vertex c.leading_to-arcs.ensures in
    let e : c.args.i ≡ length (arcs_to o.heads.now c.args.v) + (c.args.i - length arcs) = omega (arith, ap length is, c.if-place-arcs.false) in
    c.over.ensures.all u cost (way_over o.frame.now s.cell s.target c.args.v g.C.Cost.ops o.weights.now o.heads.now c.args.i (c.args.i - length arcs) e u cost way)
