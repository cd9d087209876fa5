-- Of a range by the sum, of a list by its element.
use Rattle.std.proofs.Common.{◌+◌, ◌^◌, ◌≤◌, arith, sym}
use Rattle.std.proofs.lemmas.Option.{slice_get-get_or}
use Rattle.search_graph.proofs.IndexRows.{none_from_test, full_from_test, range_length, range_place, listed_view}
use Rattle.search_graph.proofs.rows.ArcRow.get.Goals as goal

pub overflow_cast-result : goal.overflow_cast-result
overflow_cast-result c =
    let long = range_length _ _ _ _ c.self.view_is (none_from_test _ _ c.if-is_empty.true c.is_empty.ensures) in
    let fits : c.self.inside.from + c.self.inside.count ≤ 2 ^ 32 = c.self.invariant in
    omega (arith, long, c.requires)

pub overflow_add-result : goal.overflow_add-result
overflow_add-result c =
    let long = range_length _ _ _ _ c.self.view_is (none_from_test _ _ c.if-is_empty.true c.is_empty.ensures) in
    let fits : c.self.inside.from + c.self.inside.count ≤ 2 ^ 32 = c.self.invariant in
    omega (arith, long, c.requires)

pub returns-then-is_empty : goal.returns-then-is_empty
returns-then-is_empty c = range_place _ _ _ _ c.self.view_is (none_from_test _ _ c.if-is_empty.true c.is_empty.ensures) c.args.place c.requires

pub returns-else-is_empty : goal.returns-else-is_empty
returns-else-is_empty c =
    let same = listed_view _ _ _ _ c.self.view_is (full_from_test _ _ c.if-is_empty.false c.is_empty.ensures) in
    rw same (slice_get-get_or c.self.inside.listed.now c.args.place 0 (rw (sym same) c.requires))
