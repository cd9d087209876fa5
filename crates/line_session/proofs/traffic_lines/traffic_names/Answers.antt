-- A line that is text, and one that is not.
use Rattle.std.proofs.Common.{◌≡◌, ◌≤◌, ◌==◌, ℕ, List, Option, ap, ◌∙◌, length}
use Rattle.std.specs.List.{slice_split}
use Rattle.line_session.specs.Traffic.{names_in}
use Rattle.line_session.proofs.TrafficLaws.{traffic_not_text, traffic_text}
use Rattle.line_session.proofs.traffic_lines.traffic_names.Goals as goal

pub returns-in-Ok : goal.returns-in-Ok
returns-in-Ok c =
    c.names_in.ensures
    ∙ ap (λ (text : List ℕ). names_in (slice_split (λ b. b == 32) text)) c.in-Ok.ensures.cases.0
    ∙ traffic_text c.args.line.now c.if-line-gt-LONGEST_LINE.false c.in-Ok.ensures.cases.1

pub returns-in-Err : goal.returns-in-Err
returns-in-Err c = traffic_not_text c.args.line.now c.in-Err.ensures.cases.0
