-- Two lines, one behind the other.
use Rattle.serve_command.proofs.LineLaws.{both_lines, front_of_both_lines, front_of_first_line, on_err_always}
use Rattle.serve_command.proofs.ending.put_numbers.Goals as goal

pub returns-in_err-put_line-clause-part : goal.returns-in_err-put_line-clause-part
returns-in_err-put_line-clause-part g c =
    on_err_always c.from_residual.result
    (front_of_first_line (g.O.Sink.view c.args.output.now).written (g.O.Sink.view c.put_line.new.output).written c.args.connections c.args.metric c.format.result.now c.format.ensures.text c.in_err-put_line.ensures.part)

pub returns-clause-all : goal.returns-clause-all
returns-clause-all g c =
    both_lines c.put_line-2.result (g.O.Sink.view c.args.output.now).written (g.O.Sink.view c.put_line.new.output).written (g.O.Sink.view c.put_line-2.new.output).written c.args.connections c.args.metric c.format.result.now c.format-2.result.now
    c.format.ensures.text c.format-2.ensures.text c.in_ok-put_line.ensures.all c.put_line-2.ensures.all

pub returns-clause-part : goal.returns-clause-part
returns-clause-part g c =
    front_of_both_lines c.put_line-2.result (g.O.Sink.view c.args.output.now).written (g.O.Sink.view c.put_line.new.output).written (g.O.Sink.view c.put_line-2.new.output).written c.args.connections c.args.metric c.format.result.now c.format-2.result.now
    c.format.ensures.text c.format-2.ensures.text c.in_ok-put_line.ensures.all c.put_line-2.ensures.part
