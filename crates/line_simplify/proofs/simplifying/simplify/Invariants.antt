use Rattle.std.proofs.Common.{◌*◌, ◌-◌, length}
use Rattle.line_simplify.specs.Searches.{Knows}
use Rattle.line_simplify.specs.Simplified.{limit_of}
use Rattle.line_simplify.proofs.Ends.{Stands}
use Rattle.line_simplify.proofs.simplifying.simplify.Given as goal

abbrev pub invariant-loop-to : goal.invariant-loop-to
invariant-loop-to l = record {
  stands : Stands l.tolerance l.points l.kept.items l.from l.ends.items;
  knows : Knows (limit_of l.tolerance) l.points l.from l.search;
}

-- an end more, or a point that stays
abbrev pub decreases-loop-to : goal.decreases-loop-to
decreases-loop-to l = 2 * (length l.points - l.from) - length l.ends.items
