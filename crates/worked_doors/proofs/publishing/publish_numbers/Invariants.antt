use Rattle.worked_doors.specs.declared.publishing.Figure.{Figure}
use Rattle.worked_doors.proofs.publishing.publish_numbers.Given as goal

-- every figure stays akin to the list
abbrev pub invariant-loop-number : goal.invariant-loop-number
invariant-loop-number g l = (x : Figure) → g.D.Publishing.kin l.desk x
