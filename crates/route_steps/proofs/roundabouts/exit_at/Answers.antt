use Rattle.std.proofs.Common.{◌∙◌, ℕ, Bool, Option, Some, ap, ap₂, sym}
use Rattle.route_steps.specs.Roundabouts.{exit_at, exit_between}
use Rattle.route_steps.proofs.roundabouts.exit_at.Goals as goal

-- the walk leaves a run
pub returns-in-true-false : goal.returns-in-true-false
unfolding exit_at
returns-in-true-false c =
    ap Some c.exit_behind.ensures
    ∙ sym (ap₂ {C = Option ℕ} (λ (before behind : Bool). exit_between before behind c.args.network.now c.args.walk.now c.args.place)
    (sym c.in-true-false.ensures) (sym c.in-true-false.ensures'))

-- it enters one
pub returns-in-false-true : goal.returns-in-false-true
unfolding exit_at
returns-in-false-true c =
    c.exit_ahead.ensures
    ∙ sym (ap₂ {C = Option ℕ} (λ (before behind : Bool). exit_between before behind c.args.network.now c.args.walk.now c.args.place)
    (sym c.in-false-true.ensures) (sym c.in-false-true.ensures'))

-- it goes on inside of one, or outside
pub returns-in-true-true : goal.returns-in-true-true
unfolding exit_at
returns-in-true-true c =
    sym (ap₂ {C = Option ℕ} (λ (before behind : Bool). exit_between before behind c.args.network.now c.args.walk.now c.args.place)
    (sym c.in-true-true.ensures) (sym c.in-true-true.ensures'))

pub returns-in-true-true-2 : goal.returns-in-true-true-2
unfolding exit_at
returns-in-true-true-2 c =
    sym (ap₂ {C = Option ℕ} (λ (before behind : Bool). exit_between before behind c.args.network.now c.args.walk.now c.args.place)
    (sym c.in-true-true.ensures) (sym c.in-true-true.ensures'))
