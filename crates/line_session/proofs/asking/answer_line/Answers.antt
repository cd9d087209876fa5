-- Nothing is told of an empty line; want of memory is told in place of a reply.
use Rattle.std.proofs.Common.{◌≡◌, ◌<◌, ◌++◌, length, arith}
use Rattle.std.proofs.lemmas.Bool.Decides.{nat_tests}
use Rattle.refusal_texts.specs.Refusals.{busy_text}
use Rattle.line_session.specs.Growing.{sides}
use Rattle.line_session.specs.Publication.{newline}
use Rattle.line_session.specs.Traffic.{traffic_names}
use Rattle.line_session.proofs.AnswerLaws.{busy_replied, empty_of, puts_nothing, puts_reply_on, stops_reply}
use Rattle.line_session.proofs.asking.answer_line.Goals as goal

pub returns-then-is_empty-clause-all : goal.returns-then-is_empty-clause-all
returns-then-is_empty-clause-all g c =
    let none : length c.args.line.now ≡ 0 = grind (arith, nat_tests) in
    puts_nothing c.args.published.now c.args.line.now (sides (g.F.Files.view c.args.files.now) (g.O.Sink.view c.args.output.now)) (empty_of c.args.line.now none)

pub returns-in-Err-Memory-clause-all : goal.returns-in-Err-Memory-clause-all
returns-in-Err-Memory-clause-all g c =
    let some : 0 < length c.args.line.now = grind (arith, nat_tests) in
    let busy = busy_replied c.args.published.now c.reply.new.published c.args.line.now (traffic_names c.args.line.now) (g.F.Files.view c.args.files.now) (g.F.Files.view c.reply.new.files)
    (rw c.in-Err-Memory.field-0-is at c.in-Err-Memory.ensures.left) c.in-Err-Memory.ensures.stays in
    puts_reply_on c.args.published.now c.reply.new.published c.args.line.now (busy_text ++ newline) (g.F.Files.view c.args.files.now) (g.F.Files.view c.reply.new.files) (g.O.Sink.view c.args.output.now) (g.O.Sink.view c.put-in-Err-Memory.new.output) c.put-in-Err-Memory.result
    some busy c.put-in-Err-Memory.ensures.all c.put-in-Err-Memory.ensures.kept

pub returns-in-Err-Memory-clause-stopped : goal.returns-in-Err-Memory-clause-stopped
returns-in-Err-Memory-clause-stopped g c =
    let some : 0 < length c.args.line.now = grind (arith, nat_tests) in
    let busy = busy_replied c.args.published.now c.reply.new.published c.args.line.now (traffic_names c.args.line.now) (g.F.Files.view c.args.files.now) (g.F.Files.view c.reply.new.files)
    (rw c.in-Err-Memory.field-0-is at c.in-Err-Memory.ensures.left) c.in-Err-Memory.ensures.stays in
    stops_reply c.args.published.now c.reply.new.published c.args.line.now (busy_text ++ newline) (g.F.Files.view c.args.files.now) (g.F.Files.view c.reply.new.files) (g.O.Sink.view c.args.output.now) (g.O.Sink.view c.put-in-Err-Memory.new.output) c.put-in-Err-Memory.result
    some busy c.put-in-Err-Memory.ensures.part c.put-in-Err-Memory.ensures.rose c.put-in-Err-Memory.ensures.why
