use Rattle.std.proofs.Common.{◌+◌, ◌∙◌, Some, ap, arith, drop, get_or, refl, sym}
use Rattle.std.proofs.lemmas.List.{drop_all, drop_more}
use Rattle.route_steps.specs.Roundabouts.{exit_ahead}
use Rattle.route_steps.proofs.RoundLemmas.{added-few, ahead-all, ahead-other, ahead-round, ahead_with}
use Rattle.route_steps.proofs.roundabouts.exit_ahead.Goals as goal

pub loop-k-init : goal.loop-k-init
loop-k-init c = record { rest = refl; few = omega arith }

-- the run ends before the walk does
pub returns-then-not-is_round : goal.returns-then-not-is_round
unfolding exit_ahead
returns-then-not-is_round c =
    let network = c.args.network.now in
    let walk = c.args.walk.now in
    let k = c.loop-k.k in
    ap Some c.exit_number.ensures
    ∙ sym (sym (ahead-all network (drop c.args.place walk)) ∙ c.loop-k.invariant.rest ∙ ap (ahead_with network c.loop-k.count) (drop_more walk k 0 (omega arith))
    ∙ ahead-other network c.loop-k.count (get_or walk k 0) (drop (k + 1) walk) (sym c.is_round.ensures ∙ c.if-not-is_round.true))

pub overflow_add-count : goal.overflow_add-count
overflow_add-count c = omega (arith, c.added_by-count.ensures, added-few c.args.network.now (get_or c.args.walk.now c.loop-k.k 0), c.loop-k.invariant.few)

-- one vertex more
pub loop-k-preserved : goal.loop-k-preserved
loop-k-preserved c =
    let network = c.args.network.now in
    let walk = c.args.walk.now in
    let k = c.loop-k.k in
    let v = get_or walk k 0 in
    record {
      rest = c.loop-k.invariant.rest ∙ ap (ahead_with network c.loop-k.count) (drop_more walk k 0 (omega arith))
          ∙ ahead-round network c.loop-k.count v (drop (k + 1) walk) (sym c.is_round.ensures ∙ c.if-not-is_round.false)
          ∙ ap (λ n. ahead_with network (c.loop-k.count + n) (drop (k + 1) walk)) (sym c.added_by-count.ensures);
      few = omega (arith, c.added_by-count.ensures, added-few network v, c.loop-k.invariant.few);
    }

-- the walk ends in the run
pub returns : goal.returns
unfolding exit_ahead
returns c =
    sym (sym (ahead-all c.args.network.now (drop c.args.place c.args.walk.now)) ∙ c.loop-k.invariant.rest ∙ ap (ahead_with c.args.network.now c.loop-k.count) (drop_all c.loop-k.k c.args.walk.now (omega arith)))
