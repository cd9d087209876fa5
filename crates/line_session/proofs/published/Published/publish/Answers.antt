-- What comes of the two files, by the last publication of the board.
use Rattle.std.proofs.Common.{◌≡◌, ◌++◌, rules, subst}
use Rattle.metric_publish.specs.History.{entry_of}
use Rattle.control_port.specs.Telling.{body_of}
use Rattle.line_session.specs.Publication.{Comes, Publication, newline, publication_of}
use Rattle.line_session.proofs.BoardLaws.{comes_of, on_after}
use Rattle.line_session.proofs.published.Published.publish.Goals as goal

-- the board as it is then
pub invariant_of-self-2 : goal.invariant_of-self-2
invariant_of-self-2 g c =
    let board = c.self.inside.board.page in
    let after = c.publish_files.new.desk.page in
    record {
      on = on_after c.self.inside.roads board.token.log after.token.log (entry_of board.put) (entry_of after.put) c.args.speeds.now c.args.turns.now board.last after.last c.self.invariant.on c.in_ok-answer.answer c.in_ok-answer.ensures.controlled;
      kin = λ x on. c.publish_files.ensures.kin_stays x (c.self.invariant.kin x on);
      ends = c.self.invariant.ends;
    }

pub returns-clause-reply : goal.returns-clause-reply
returns-clause-reply g c =
    let board = c.self.inside.board.page in
    let after = c.publish_files.new.desk.page in
    let text : c.of.result ≡ body_of c.in_ok-answer.answer ++ newline = search rules in (
      c.in_ok-answer.answer,
      subst (λ (p : Publication). Comes p c.args.speeds.now c.args.turns.now c.in_ok-answer.answer (publication_of (entry_of after.put))) c.self.view_is
          (comes_of c.self.inside.roads board.token.log after.token.log (entry_of board.put) (entry_of after.put) c.args.speeds.now c.args.turns.now board.last after.last c.self.invariant.on c.in_ok-answer.answer c.in_ok-answer.ensures.controlled),
      text,
    )
