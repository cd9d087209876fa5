use Rattle.std.proofs.Common.{◌≡◌, List, [], ◌∷◌, ◌++◌, ap, ◌∙◌, subst, arith}
use Rattle.std.proofs.lemmas.Grind.{common_steps}
use Rattle.std.proofs.lemmas.List.{take_all}
use Rattle.board_core.specs.declared.event.Event.{Event}
use Rattle.board_core.specs.State.{IsKept}
use Rattle.board_core.specs.History.{outcomes}
use Rattle.board_core.proofs.Steps.{joins_more, board_more, all_joined}
use Rattle.board_core.proofs.Trails.{history}
use Rattle.board_core.proofs.machine.Machine.run.Goals as goal

pub loop-event-preserved : goal.loop-event-preserved
loop-event-preserved c =
    let at = c.loop-event.invariant in
    let i = c.loop-event.event-index in
    let events = c.args.events.now in
    let answers = c.loop-event.answers.items in
    let kept : IsKept c.args.self.now = subst IsKept c.self.view_is c.self.invariant in
    let items : c.push.new.self.items ≡ answers ++ c.step.result ∷ [] = grind (arith, common_steps) in record {
      room = omega (arith, c.push.ensures.capacity);
      count = grind (arith, common_steps);
      joins = λ later. rw items (joins_more c.args.self.now c.loop-event.self c.step.new.self events i _ answers c.step.result c.loop-event-test.true at.joins c.step.ensures.joins later);
      after = board_more c.args.self.now c.loop-event.self c.step.new.self events i _ answers c.step.result c.loop-event-test.true kept at.joins at.after (record { kept = c.step.ensures.kept; outcome = c.step.ensures.outcome; after = c.step.ensures.after });
    }

pub returns-clause-outcomes : goal.returns-clause-outcomes
returns-clause-outcomes c =
    all_joined c.args.self.now c.loop-event.self c.args.events.now c.loop-event.event-index c.loop-event.answers.items c.loop-event-test.false c.loop-event.invariant.joins

pub returns-clause-history : goal.returns-clause-history
returns-clause-history c =
    history c.args.self.now c.args.events.now c.loop-event.answers.items (subst IsKept c.self.view_is c.self.invariant) (returns-clause-outcomes c)

pub returns-clause-joins : goal.returns-clause-joins
returns-clause-joins c later =
    let all : outcomes c.args.self.now (c.args.events.now ++ later) ≡ c.loop-event.answers.items ++ outcomes c.loop-event.self later =
    subst (λ (seen : List Event). outcomes c.args.self.now (seen ++ later) ≡ c.loop-event.answers.items ++ outcomes c.loop-event.self later) (take_all c.loop-event.event-index c.args.events.now c.loop-event-test.false) (c.loop-event.invariant.joins later) in
    all ∙ ap (λ answers. answers ++ outcomes c.loop-event.self later) (returns-clause-outcomes c)
