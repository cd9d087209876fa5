use Rattle.std.proofs.Common.{◌≡◌, ◌+◌, ◌-◌, ◌∙◌, ap, arith, get_or, refl, reverse, sym, take}
use Rattle.route_steps.proofs.RoundLemmas.{added-few, number-all, number-none, number-other, number-round, number_with, reverse-take}
use Rattle.route_steps.proofs.roundabouts.exit_behind.Goals as goal

pub loop-k-init : goal.loop-k-init
loop-k-init c = record { rest = refl; few = omega arith }

-- the run begins behind the walk's begin
pub returns-then-not-is_round : goal.returns-then-not-is_round
returns-then-not-is_round c =
    let network = c.args.network.now in
    let walk = c.args.walk.now in
    let k = c.loop-k.k in
    c.exit_number.ensures
    ∙ sym (sym (number-all network (reverse (take c.args.place walk))) ∙ c.loop-k.invariant.rest ∙ ap (number_with network c.loop-k.count) (reverse-take walk k (omega arith) (omega arith))
    ∙ number-other network c.loop-k.count (get_or walk (k - 1) 0) (reverse (take (k - 1) walk)) (sym c.is_round.ensures ∙ c.if-not-is_round.true))

pub overflow_add-count : goal.overflow_add-count
overflow_add-count c = omega (arith, c.added_by-count.ensures, added-few c.args.network.now (get_or c.args.walk.now (c.loop-k.k - 1) 0), c.loop-k.invariant.few)

-- one vertex more
pub loop-k-preserved : goal.loop-k-preserved
loop-k-preserved c =
    let network = c.args.network.now in
    let walk = c.args.walk.now in
    let k = c.loop-k.k in
    let v = get_or walk (k - 1) 0 in
    record {
      rest = c.loop-k.invariant.rest ∙ ap (number_with network c.loop-k.count) (reverse-take walk k (omega arith) (omega arith))
          ∙ number-round network c.loop-k.count v (reverse (take (k - 1) walk)) (sym c.is_round.ensures ∙ c.if-not-is_round.false)
          ∙ ap (λ n. number_with network (c.loop-k.count + n) (reverse (take (k - 1) walk))) (sym c.added_by-count.ensures);
      few = omega (arith, c.added_by-count.ensures, added-few network v, c.loop-k.invariant.few);
    }

-- all of them
pub returns : goal.returns
returns c =
    let network = c.args.network.now in
    let walk = c.args.walk.now in
    let none : c.loop-k.k ≡ 0 = omega arith in
    c.exit_number-2.ensures
    ∙ sym (sym (number-all network (reverse (take c.args.place walk))) ∙ c.loop-k.invariant.rest ∙ ap (λ n. number_with network c.loop-k.count (reverse (take n walk))) none
    ∙ number-none network c.loop-k.count)
