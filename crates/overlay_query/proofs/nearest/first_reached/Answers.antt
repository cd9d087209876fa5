-- Where the search comes to a target, that one is the best to begin with.
use Rattle.std.proofs.Common.{◌<◌, length, arith, sym}
use Rattle.overlay_query.proofs.Targets.{IsBest-first, place_within}
use Rattle.overlay_query.proofs.nearest.first_reached.Goals as goal

pub bounds-targets-first : goal.bounds-targets-first
bounds-targets-first g c =
    let first = rw c.in-Some.is at c.in_ok-run_first.ensures.first in
    place_within c.args.targets.now c.in_ok-vertices.vertices.items c.as_slice.result.now c.in-Some.first first.0 c.in_ok-vertices.ensures c.as_slice.ensures.value first.1

pub offset_bounds-targets-first : goal.offset_bounds-targets-first
offset_bounds-targets-first g c =
    let first = rw c.in-Some.is at c.in_ok-run_first.ensures.first in
    let lt : c.in-Some.first < length c.args.targets.now = place_within c.args.targets.now c.in_ok-vertices.vertices.items c.as_slice.result.now c.in-Some.first first.0 c.in_ok-vertices.ensures c.as_slice.ensures.value first.1 in
    omega (arith, lt)

pub cheaper-requires-clause-target : goal.cheaper-requires-clause-target
cheaper-requires-clause-target g c =
    let first = rw c.in-Some.is at c.in_ok-run_first.ensures.first in
    let lt = place_within c.args.targets.now c.in_ok-vertices.vertices.items c.as_slice.result.now c.in-Some.first first.0 c.in_ok-vertices.ensures c.as_slice.ensures.value first.1 in
    c.requires.targets c.index-targets-first.result (c.in-Some.first, lt, sym c.index-targets-first.is)

pub returns-clause-best : goal.returns-clause-best
returns-clause-best g c =
    let first = rw c.in-Some.is at c.in_ok-run_first.ensures.first in
    let lt = place_within c.args.targets.now c.in_ok-vertices.vertices.items c.as_slice.result.now c.in-Some.first first.0 c.in_ok-vertices.ensures c.as_slice.ensures.value first.1 in
    IsBest-first g.met.C.Cost.laws c.args.over.now.frame.now c.args.over.now.weights.now c.args.over.now.parts.now.vertices.items c.args.starts.now c.args.targets.now c.index-targets-first.result (c.in-Some.first, lt, sym c.index-targets-first.is) c.in_ok-best-in-Some.best c.in_ok-best-in-Some.ensures.better
