-- The row of the entry has at the exit's place what the way back over the part costs.
use Rattle.std.proofs.Common.{get_or, sym}
use Rattle.std.proofs.lemmas.Option.{slice_get-get_or, same_Some}
use Rattle.cell_frame.specs.Borders.{at_cell}
use Rattle.column_search.proofs.Inside.{none_some}
use Rattle.column_search.proofs.Leaping.{row_has, row_within, leap_some, leap_all}
use Rattle.column_search.proofs.Naming.{hop_is}
use Rattle.column_search.proofs.backward.Backward.over.Goals as goal

pub row-requires-clause-has : goal.row-requires-clause-has
row-requires-clause-has g c =
    let o = c.args.self.now.overlay.now in
    let s = c.args.self.now.toward.now in
    let entries = at_cell o.frame.now.entries c.args.part in
    row_has g.met.C.Cost.laws o.frame.now o.weights.now o.cliques.now s.cell s.target c.requires.ready.toward c.args.v c.requires.vertex c.requires.whole c.args.part c.requires.part c.args.place (get_or entries c.args.place 0) (slice_get-get_or entries c.args.place 0 c.requires.place)

pub get-requires : goal.get-requires
get-requires g c =
    let o = c.args.self.now.overlay.now in
    let s = c.args.self.now.toward.now in
    let entries = at_cell o.frame.now.entries c.args.part in
    row_within g.met.C.Cost.laws o.frame.now o.weights.now o.cliques.now s.cell s.target c.requires.ready.toward c.args.v c.requires.vertex c.requires.whole c.args.part c.requires.part c.args.place (get_or entries c.args.place 0) (slice_get-get_or entries c.args.place 0 c.requires.place) c.row.result c.row.ensures c.args.exit c.requires.exit

pub returns-in-None-clause-all : goal.returns-in-None-clause-all
returns-in-None-clause-all g c = λ u cost leap.
    let o = c.args.self.now.overlay.now in
    let s = c.args.self.now.toward.now in
    let entries = at_cell o.frame.now.entries c.args.part in
    absurd (none_some cost (leap_all g.met.C.Cost.laws o.frame.now o.weights.now o.cliques.now s.cell s.target c.requires.ready.toward c.args.v c.requires.vertex c.requires.whole c.args.part c.requires.part c.args.place (get_or entries c.args.place 0) (slice_get-get_or entries c.args.place 0 c.requires.place) c.row.result c.row.ensures c.args.exit c.requires.exit _ c.in-None.ensures u cost leap).1)

pub returns-in-Some-clause-some : goal.returns-in-Some-clause-some
returns-in-Some-clause-some g c =
    let o = c.args.self.now.overlay.now in
    let s = c.args.self.now.toward.now in
    let entries = at_cell o.frame.now.entries c.args.part in
    rw c.entries.ensures (leap_some g.met.C.Cost.laws o.frame.now o.weights.now o.cliques.now s.cell s.target c.requires.ready.toward c.args.v c.requires.vertex c.requires.whole c.args.part c.requires.part c.args.place (get_or entries c.args.place 0) (slice_get-get_or entries c.args.place 0 c.requires.place) c.row.result c.row.ensures c.args.exit c.requires.exit c.in-Some.cost c.in-Some.ensures)

pub returns-in-Some-clause-all : goal.returns-in-Some-clause-all
returns-in-Some-clause-all g c = λ u cost leap.
    let o = c.args.self.now.overlay.now in
    let s = c.args.self.now.toward.now in
    let entries = at_cell o.frame.now.entries c.args.part in
    let both = leap_all g.met.C.Cost.laws o.frame.now o.weights.now o.cliques.now s.cell s.target c.requires.ready.toward c.args.v c.requires.vertex c.requires.whole c.args.part c.requires.part c.args.place (get_or entries c.args.place 0) (slice_get-get_or entries c.args.place 0 c.requires.place) c.row.result c.row.ensures c.args.exit c.requires.exit _ c.in-Some.ensures u cost leap in
    rw c.entries.ensures (hop_is (get_or entries c.args.place 0) u c.in-Some.cost cost (sym both.0) (same_Some c.in-Some.cost cost both.1))
