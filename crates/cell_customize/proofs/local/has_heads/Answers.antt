-- Each turn finds one number more.
use Rattle.std.proofs.Common.{◌≡◌, length, arith}
use Rattle.std.proofs.lemmas.Option.{slice_get-get_or}
use Rattle.cell_customize.proofs.Locals.{found_more, heads_found}
use Rattle.cell_customize.proofs.local.has_heads.Goals as goal

pub loop-place-init : goal.loop-place-init
loop-place-init c = λ k v lt e. absurd (omega (arith, lt))

pub loop-place-preserved : goal.loop-place-preserved
loop-place-preserved c = found_more c.args.numbers.now c.args.heads.now c.args.vertices.now c.args.from c.loop-place.place _ (slice_get-get_or c.args.vertices.now c.loop-place.place 0 c.loop-place-test.true) c.if-not-has_head.ensures c.loop-place.invariant

pub returns : goal.returns
returns c =
    let all : c.loop-place.place ≡ length c.args.vertices.now = omega arith in
    heads_found c.fits.result c.args.numbers.now c.args.heads.now c.args.vertices.now c.args.from c.loop-place.place all c.fits.ensures c.loop-place.invariant
