use Rattle.std.proofs.Common.{◌≡◌, ℕ, ◌^◌, ◌<◌, ◌≤◌, ◌∙◌, List, [], length, arith, refl, rules, subst, sym}
use Rattle.std.proofs.lemmas.Result.{on_ok_weaker}
use Rattle.road_io.specs.Outside.{outside}
use Rattle.line_session.specs.Growing.{sides}
use Rattle.line_session.specs.Leading.{StopsAt, TakenSoFar}
use Rattle.line_session.specs.Stopping.{Stopped}
use Rattle.line_session.specs.declared.asking.Stop.{Stop}
use Rattle.line_session.proofs.AnswerLaws.{if_err_weaker}
use Rattle.line_session.proofs.EndLaws.{input_failed, stopped_last, stopped_within, taken_none, taken_piece, told_all, took_long}
use Rattle.line_session.proofs.asking.answer_lines.Goals as goal

pub loop-taken-init : goal.loop-taken-init
loop-taken-init g c =
    let input = g.I.Source.view c.args.input.now in
    let start = sides (g.F.Files.view c.args.files.now) (g.O.Sink.view c.args.output.now) in
    let none : c.in-Ok.held.items ≡ [] = search rules in
    record {
      so_far = subst (λ (held : List ℕ). TakenSoFar c.args.published.now c.args.published.now input input held start start 0) (sym none) (taken_none c.args.published.now input start);
      below = omega arith;
      steady = refl;
    }

-- the input failed
pub returns-in-Err-clause-stopped : goal.returns-in-Err-clause-stopped
returns-in-Err-clause-stopped g c =
    input_failed c.args.published.now c.loop-taken.published (g.I.Source.view c.args.input.now) (g.I.Source.view c.loop-taken.input) (g.I.Source.view c.take.new.self) c.loop-taken.buffer.held.items (sides (g.F.Files.view c.args.files.now) (g.O.Sink.view c.args.output.now)) (sides (g.F.Files.view c.loop-taken.files) (g.O.Sink.view c.loop-taken.output)) c.loop-taken.taken
    c.loop-taken.invariant.so_far c.in-Err.ensures.bytes c.in-Err.ensures.count (rw (← c.loop-taken.invariant.steady) c.in-Err.ensures.cause.failed)

-- the end of the input, where the last line is answered or not
pub returns-then-count-eq0-clause-told : goal.returns-then-count-eq0-clause-told
returns-then-count-eq0-clause-told g c =
    let input = g.I.Source.view c.args.input.now in
    let mid = g.I.Source.view c.loop-taken.input in
    let after = g.I.Source.view c.take.new.self in
    let start = sides (g.F.Files.view c.args.files.now) (g.O.Sink.view c.args.output.now) in
    let now = sides (g.F.Files.view c.loop-taken.files) (g.O.Sink.view c.loop-taken.output) in
    let short : c.loop-taken.taken < 2 ^ 63 = omega arith in
    let room : 0 < length c.take.new.into = omega arith in
    on_ok_weaker c.answer_line.result
    (told_all c.args.published.now c.loop-taken.published c.answer_line.new.published input mid after c.loop-taken.buffer.held.items c.take.new.into start now (sides (g.F.Files.view c.answer_line.new.files) (g.O.Sink.view c.answer_line.new.output)) c.in-Ok-take.count c.loop-taken.taken
    c.loop-taken.invariant.so_far short (c.if-count-eq0.true, c.in-Ok-take.ensures.bytes.0, c.in-Ok-take.ensures.count, c.in-Ok-take.ensures.bytes.1 c.if-count-eq0.true room) (c.in-Ok-take.ensures.cause.kept ∙ c.loop-taken.invariant.steady))
    (rw c.deref.ensures.value at c.answer_line.ensures.all)

pub returns-then-count-eq0-clause-stopped : goal.returns-then-count-eq0-clause-stopped
returns-then-count-eq0-clause-stopped g c =
    let input = g.I.Source.view c.args.input.now in
    let mid = g.I.Source.view c.loop-taken.input in
    let after = g.I.Source.view c.take.new.self in
    let start = sides (g.F.Files.view c.args.files.now) (g.O.Sink.view c.args.output.now) in
    let now = sides (g.F.Files.view c.loop-taken.files) (g.O.Sink.view c.loop-taken.output) in
    let short : c.loop-taken.taken < 2 ^ 63 = omega arith in
    let room : 0 < length c.take.new.into = omega arith in
    if_err_weaker (λ (why : Stop). StopsAt why c.loop-taken.published c.loop-taken.buffer.held.items now (sides (g.F.Files.view c.answer_line.new.files) (g.O.Sink.view c.answer_line.new.output)) c.answer_line.new.published)
    (λ (why : Stop). Stopped why c.args.published.now c.answer_line.new.published (outside (g.F.Files.view c.args.files.now) (g.I.Source.view c.args.input.now) (g.O.Sink.view c.args.output.now)) (outside (g.F.Files.view c.answer_line.new.files) (g.I.Source.view c.take.new.self) (g.O.Sink.view c.answer_line.new.output)))
    c.answer_line.result
    (λ why. stopped_last c.args.published.now c.loop-taken.published c.answer_line.new.published input mid after c.loop-taken.buffer.held.items c.take.new.into start now (sides (g.F.Files.view c.answer_line.new.files) (g.O.Sink.view c.answer_line.new.output)) c.in-Ok-take.count c.loop-taken.taken
    c.loop-taken.invariant.so_far why short (c.if-count-eq0.true, c.in-Ok-take.ensures.bytes.0, c.in-Ok-take.ensures.count, c.in-Ok-take.ensures.bytes.1 c.if-count-eq0.true room) (c.in-Ok-take.ensures.cause.kept ∙ c.loop-taken.invariant.steady))
    (rw c.deref.ensures.value at c.answer_line.ensures.stopped)

-- in a piece a line was not answered whole
pub returns-in-Err-take_piece-clause-stopped : goal.returns-in-Err-take_piece-clause-stopped
returns-in-Err-take_piece-clause-stopped g c =
    let input = g.I.Source.view c.args.input.now in
    let mid = g.I.Source.view c.loop-taken.input in
    let after = g.I.Source.view c.take.new.self in
    let start = sides (g.F.Files.view c.args.files.now) (g.O.Sink.view c.args.output.now) in
    let now = sides (g.F.Files.view c.loop-taken.files) (g.O.Sink.view c.loop-taken.output) in
    stopped_within c.args.published.now c.loop-taken.published c.take_piece.new.published input mid after c.loop-taken.buffer.held.items c.take.new.into start now (sides (g.F.Files.view c.take_piece.new.files) (g.O.Sink.view c.take_piece.new.output)) c.in-Ok-take.count c.loop-taken.taken
    c.loop-taken.invariant.so_far c.in-Err-take_piece.why (c.in-Ok-take.ensures.bytes.0, c.in-Ok-take.ensures.bound, c.in-Ok-take.ensures.count) (c.in-Ok-take.ensures.cause.kept ∙ c.loop-taken.invariant.steady) c.in-Err-take_piece.ensures.stopped

pub loop-taken-preserved : goal.loop-taken-preserved
loop-taken-preserved g c =
    let input = g.I.Source.view c.args.input.now in
    let mid = g.I.Source.view c.loop-taken.input in
    let after = g.I.Source.view c.take.new.self in
    let start = sides (g.F.Files.view c.args.files.now) (g.O.Sink.view c.args.output.now) in
    let now = sides (g.F.Files.view c.loop-taken.files) (g.O.Sink.view c.loop-taken.output) in
    record {
      so_far = taken_piece c.args.published.now c.loop-taken.published c.take_piece.new.published input mid after c.loop-taken.buffer.held.items c.take.new.into start now (sides (g.F.Files.view c.take_piece.new.files) (g.O.Sink.view c.take_piece.new.output)) c.in-Ok-take.count c.loop-taken.taken
          c.loop-taken.invariant.so_far c.take_piece.new.buffer.held.items (c.in-Ok-take.ensures.bytes.0, c.in-Ok-take.ensures.bound, c.in-Ok-take.ensures.count) c.in-Ok-take_piece.ensures.all;
      below = omega (arith, c.in-Ok-take.ensures.bound);
      steady = c.in-Ok-take.ensures.cause.kept ∙ c.loop-taken.invariant.steady;
    }

-- too much input
pub returns-clause-stopped : goal.returns-clause-stopped
returns-clause-stopped g c =
    let long : 2 ^ 63 ≤ c.loop-taken.taken = omega arith in
    took_long c.args.published.now c.loop-taken.published (g.I.Source.view c.args.input.now) (g.I.Source.view c.loop-taken.input) c.loop-taken.buffer.held.items (sides (g.F.Files.view c.args.files.now) (g.O.Sink.view c.args.output.now)) (sides (g.F.Files.view c.loop-taken.files) (g.O.Sink.view c.loop-taken.output)) c.loop-taken.taken
    c.loop-taken.invariant.so_far long c.loop-taken.invariant.steady
