use Rattle.std.proofs.Common.{◌≡◌, length}
use Rattle.traffic_files.specs.Fields.{skip_blanks}
use Rattle.traffic_files.proofs.fields.trim_start.Given as goal

abbrev pub invariant-loop-text : goal.invariant-loop-text
invariant-loop-text l = skip_blanks l.text ≡ skip_blanks l.fn.text

abbrev pub decreases-loop-text : goal.decreases-loop-text
decreases-loop-text l = length l.text
