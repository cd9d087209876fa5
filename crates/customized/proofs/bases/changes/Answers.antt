use Rattle.std.proofs.Common.{arith, subst}
use Rattle.std.specs.List.{AllZip, zip}
use Rattle.std.proofs.lemmas.List.{take_all}
use Rattle.std.proofs.lemmas.Slice.Zip.{length-zip}
use Rattle.customized.specs.Exact.{AreChangesBetween}
use Rattle.customized.proofs.ExclusionLemmas.{changes-step}
use Rattle.customized.proofs.bases.changes.Goals as goal

pub loop-place-preserved : goal.loop-place-preserved
loop-place-preserved c =
    changes-step c.args.before.now c.args.after.now c.loop-place.place c.index-before-place.result c.index-after-place.result c.loop-place.changes.items c.push.new.self.items c.in_ok-places.places
    (omega (arith, c.loop-place-test.true)) c.requires.many c.index-before-place.is c.index-after-place.is (record { vertices = c.in_ok-places.ensures.vertices; arcs = c.in_ok-places.ensures.arcs }) c.in_ok-push.ensures.items c.loop-place.invariant

pub returns : goal.returns
returns c =
    let pairs = zip c.args.before.now c.args.after.now in
    subst (λ l. AllZip AreChangesBetween l c.loop-place.changes.items) (take_all c.loop-place.place pairs (omega (arith, length-zip c.args.before.now c.args.after.now, c.requires.many, c.loop-place-test.false))) c.loop-place.invariant
