-- One place more is gone along, and those behind it are passed over.
use Rattle.std.proofs.Common.{◌≡◌, ◌+◌, ◌<◌, ◌-◌, length, refl, ◌∙◌, arith, subst}
use Rattle.row_labels.specs.Lowered.{Lowers}
use Rattle.row_labels.proofs.Lowering.{Lowers-none, Lowers-at, Lowers-over}
use Rattle.row_labels.proofs.rows.lower_values.Goals as goal

pub loop-place-init : goal.loop-place-init
loop-place-init g c =
    let ops = g.C.Cost.ops in
    let words = c.args.words.now in
    let paid = c.args.offers.now.paid in
    let costs = c.args.offers.now.costs.now in
    let improved = c.args.improved.now.items in
    let over = c.pass_over-place in
    record {
      count = over.ensures.count;
      room = refl;
      lowers = Lowers-over g.met.C.Cost.laws g.met.C.Cost.ranks c.args.first words words paid costs 0 over.result improved over.ensures.from over.ensures.over (Lowers-none ops c.args.first words paid costs improved c.requires.none);
    }

pub loop-place-preserved : goal.loop-place-preserved
loop-place-preserved g c =
    let ops = g.C.Cost.ops in
    let old = c.args.words.now in
    let new = c.offer_place.new.words in
    let paid = c.args.offers.now.paid in
    let costs = c.args.offers.now.costs.now in
    let improved = c.offer_place.new.improved.items in
    let place = c.loop-place.place in
    let over = c.pass_over-place-in-loop-place in
    let room : c.args.first + place < length c.loop-place.words = omega (arith, c.requires.room, c.loop-place.invariant.room, c.loop-place-test.true) in
    let at = Lowers-at ops c.args.first old paid costs c.loop-place.words new place c.loop-place.improved.items improved room c.loop-place.invariant.lowers c.in_ok-offer_place.ensures.lowers in
    record {
      count = over.ensures.count;
      room = c.offer_place.ensures.long ∙ c.loop-place.invariant.room;
      lowers = Lowers-over g.met.C.Cost.laws g.met.C.Cost.ranks c.args.first old new paid costs (place + 1) over.result improved over.ensures.from over.ensures.over at;
    }

pub loop-place-smaller : goal.loop-place-smaller
loop-place-smaller g c =
    let over = c.pass_over-place-in-loop-place in
    let less : c.args.offers.now.count - over.result < c.args.offers.now.count - c.loop-place.place = omega (arith, over.ensures.from, c.loop-place-test.true) in
    less

pub returns-clause-lowers : goal.returns-clause-lowers
returns-clause-lowers g c =
    let all : c.loop-place.place ≡ c.args.offers.now.count = omega (arith, c.loop-place.invariant.count, c.loop-place-test.false) in
    subst (λ n. Lowers g.C.Cost.ops c.args.first c.args.words.now c.loop-place.words c.args.offers.now.paid c.args.offers.now.costs.now n c.loop-place.improved.items) all c.loop-place.invariant.lowers
