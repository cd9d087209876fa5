use Rattle.std.proofs.Common.{◌≡◌, ◌<◌, ◌∙◌, ◌++◌, ◌∷◌, [], ap, arith, length, true, false}
use Rattle.std.specs.Prelude.{None, Some}
use Rattle.geo_integer.specs.Position.{position_of}
use Rattle.snap_index.specs.Kept.{decimetres_between}
use Rattle.snap_index.proofs.FoundLemmas.{decimetres-are, found-empty, found-end, found-far, found-near, near-false, near-true}
use Rattle.snap_index.proofs.SlotLemmas.{read-is}
use Rattle.snap_index.proofs.snapping.found.Goals as goal

-- a slot isn't filled
pub returns-in_default : goal.returns-in_default
returns-in_default c =
    let lt : c.loop-i.i < length c.args.slots.now = omega arith in
    found-empty c.args.radius (position_of c.args.from) c.args.slots.now c.loop-i.i c.loop-i.found.items _ (read-is c.args.slots.now c.loop-i.i _ None lt c.in_default.is) c.loop-i.invariant

-- it lies out of reach
pub returns-then-not-is_in_reach : goal.returns-then-not-is_in_reach
returns-then-not-is_in_reach c =
    let lt : c.loop-i.i < length c.args.slots.now = omega arith in
    let out = near-false c.args.radius (decimetres_between (position_of c.args.from) (position_of c.in-Some.candidate.spot))
    (λ h. let yes : c.is_in_reach.result ≡ true = c.is_in_reach.ensures.1 h in let no : c.is_in_reach.result ≡ false = c.if-not-is_in_reach.true in cc) in
    found-far c.args.radius (position_of c.args.from) c.args.slots.now c.loop-i.i c.in-Some.candidate c.loop-i.found.items _ (read-is c.args.slots.now c.loop-i.i _ (Some c.in-Some.candidate) lt c.in-Some.is) out c.loop-i.invariant

-- one place more
pub loop-i-preserved : goal.loop-i-preserved
loop-i-preserved c =
    let lt : c.loop-i.i < length c.args.slots.now = omega arith in
    let near = near-true c.args.radius (decimetres_between (position_of c.args.from) (position_of c.in-Some.candidate.spot)) (c.is_in_reach.ensures.0 c.if-not-is_in_reach.false) in
    let far = c.distance.ensures.value ∙ decimetres-are (position_of c.args.from) (position_of c.in-Some.candidate.spot) in
    let pushed = c.in_ok-push.ensures.items ∙ ap (λ d. c.loop-i.found.items ++ record { place = c.in-Some.candidate.place; point = c.in-Some.candidate.spot; distance = d } ∷ []) far in
    found-near c.args.radius (position_of c.args.from) c.args.slots.now c.loop-i.i c.in-Some.candidate c.loop-i.found.items c.push.new.self.items _ (read-is c.args.slots.now c.loop-i.i _ (Some c.in-Some.candidate) lt c.in-Some.is) near pushed c.loop-i.invariant

pub returns : goal.returns
returns c = found-end c.args.radius (position_of c.args.from) c.args.slots.now c.loop-i.i c.loop-i.found.items _ (omega arith) c.loop-i.invariant
