use Rattle.std.proofs.Common.{◌≡◌}
use Rattle.json_text.specs.Values.{boolean}
use Rattle.json_text.specs.Items.{so_far}
use Rattle.step_texts.proofs.intersections.push_entries.Given as goal

-- what is written so far
abbrev pub invariant-loop-entry : goal.invariant-loop-entry
invariant-loop-entry l = l.json ≡ so_far boolean l.entries l.fn.json l.entry-index
