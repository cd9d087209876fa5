-- The leaps of a vertex stand side by side.
use Rattle.std.proofs.Common.{◌≡◌, ◌<◌, Some, length, sym, arith}
use Rattle.std.specs.List.{slice_get}
use Rattle.list_lemmas.proofs.Gets.{get_is}
use Rattle.cell_customize.specs.Leaping.{IsGoal}
use Rattle.cell_customize.proofs.Bundled.{bundle_places, places_bundle}
use Rattle.cell_customize.proofs.leaping.LeapingSteps.arcs.Goals as goal

pub returns-clause-named : goal.returns-clause-named
returns-clause-named g c =
    let l = c.args.self.now.leaps.now in
    let S = g.T.Steps.space c.args.self.now.steps.now in
    let bundle = c.index-bundle.result.now in
    let size : length l.bundles.items ≡ S.vertices = c.requires.ready.1.size in
    let few : c.args.v < length l.bundles.items = omega (arith, size, c.requires.vertex) in
    let at : slice_get l.bundles.items c.args.v ≡ Some bundle = get_is l.bundles.items c.args.v bundle few (sym c.index-bundle.ensures) in
    rw c.range.ensures (bundle_places g.C.Cost.ops S (IsGoal l.goals.items) l.bundles.items l.gathering.hops.items S.vertices c.args.v c.requires.ready.1 bundle at)

pub returns-clause-all : goal.returns-clause-all
returns-clause-all g c =
    let l = c.args.self.now.leaps.now in
    let S = g.T.Steps.space c.args.self.now.steps.now in
    let bundle = c.index-bundle.result.now in
    let size : length l.bundles.items ≡ S.vertices = c.requires.ready.1.size in
    let few : c.args.v < length l.bundles.items = omega (arith, size, c.requires.vertex) in
    let at : slice_get l.bundles.items c.args.v ≡ Some bundle = get_is l.bundles.items c.args.v bundle few (sym c.index-bundle.ensures) in
    rw c.range.ensures (λ i w s h. places_bundle g.C.Cost.ops S (IsGoal l.goals.items) l.bundles.items l.gathering.hops.items S.vertices c.args.v c.requires.ready.1 bundle at i h.0)
