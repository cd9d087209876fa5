-- There is a part too many.
use Rattle.std.proofs.Common.{◌≡◌, false, rules}
use Rattle.std.specs.Prelude.{is_none}
use Rattle.line_session.proofs.TrafficLaws.{names_many}
use Rattle.line_session.proofs.traffic_lines.names_in.Goals as goal

pub returns-then-is_some : goal.returns-then-is_some
returns-then-is_some c =
    let some : is_none c.cut-3.result ≡ false = search rules in
    names_many c.args.text.now c.in-Some.word.now c.in-Some.names.now c.in-Some-cut.speeds.now c.in-Some-cut.turns.now c.cut-3.result c.in-Some.ensures c.in-Some-cut.ensures c.cut-3.ensures some
