-- The line on which answering ends stands behind what was told.
use Rattle.std.proofs.Common.{ℕ, List, ap, inl, inr, subst, sym}
use Rattle.program_ends.specs.StoppedEarly.{cannot_read, memory_line}
use Rattle.road_base.specs.declared.program_status.Status.{Status}
use Rattle.road_io.specs.Outside.{Outside, outside}
use Rattle.road_io.specs.Putting.{Closes}
use Rattle.road_io.specs.Views.{OutputView}
use Rattle.road_run.specs.InnerEnds.{EndsFrom}
use Rattle.road_run.proofs.running.answer.Goals as goal

pub returns-in-Ok : goal.returns-in-Ok
returns-in-Ok g c = (c.answer_lines.new.published, c.in-Ok.ensures.told)

pub returns-in-Err-Input : goal.returns-in-Err-Input
returns-in-Err-Input g c = inl (c.answer_lines.new.published, inl (rw c.in-Err-Input.field-0-is at c.in-Err-Input.ensures.stopped))

pub returns-in-Err-Output : goal.returns-in-Err-Output
returns-in-Err-Output g c = inl (c.answer_lines.new.published, inr (rw c.in-Err-Output.field-0-is at c.in-Err-Output.ensures.stopped))

-- a file of a traffic line
pub returns-in-Err-File : goal.returns-in-Err-File
returns-in-Err-File g c =
    let told = c.end_unread.ensures in
    let before = outside (g.F.Files.view c.args.files.now) (g.I.Source.view c.args.input.now) (g.O.Sink.view c.args.output.now) in
    let after = outside (g.F.Files.view c.answer_lines.new.files) (g.I.Source.view c.answer_lines.new.input) (g.O.Sink.view c.end_unread.new.output) in
    subst (λ (code : Status). EndsFrom code c.args.published.now before after) (sym told.0)
    (inr (record {
      name = c.in-Err-File.name;
      last = c.answer_lines.new.published;
      replies = g.O.Sink.view c.answer_lines.new.output;
      failed = rw c.in-Err-File.field-0-is at c.in-Err-File.ensures.stopped;
      put = subst (λ (n : List ℕ). Closes (g.O.Sink.view c.answer_lines.new.output) (g.O.Sink.view c.end_unread.new.output) (cannot_read n)) c.as_str.ensures told.1;
    }))

pub returns-in-Err-TooLong : goal.returns-in-Err-TooLong
returns-in-Err-TooLong g c = record {
  last = c.answer_lines.new.published;
  replies = g.O.Sink.view c.answer_lines.new.output;
  too_much = rw c.in-Err-TooLong.field-0-is at c.in-Err-TooLong.ensures.stopped;
  put = c.close.ensures.put;
}

-- nothing was begun
pub returns-in-Err-Memory : goal.returns-in-Err-Memory
returns-in-Err-Memory g c =
    let stopped = rw c.in-Err-Memory.field-0-is at c.in-Err-Memory.ensures.stopped in
    let before = outside (g.F.Files.view c.args.files.now) (g.I.Source.view c.args.input.now) (g.O.Sink.view c.args.output.now) in
    let after = outside (g.F.Files.view c.answer_lines.new.files) (g.I.Source.view c.answer_lines.new.input) (g.O.Sink.view c.end_exhausted.new.output) in
    subst (λ (code : Status). EndsFrom code c.args.published.now before after) (sym c.end_exhausted.ensures.status) (
      ap (λ (o : Outside). o.files) stopped.1,
      ap (λ (o : Outside). o.input) stopped.1,
      subst (λ (v : OutputView). Closes v (g.O.Sink.view c.end_exhausted.new.output) memory_line) (ap (λ (o : Outside). o.output) stopped.1) c.end_exhausted.ensures.put,
    )
