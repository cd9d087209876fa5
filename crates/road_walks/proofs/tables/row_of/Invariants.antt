use Rattle.std.proofs.Common.{take}
use Rattle.road_walks.specs.TableParts.{IsRowWithin}
use Rattle.road_walks.proofs.tables.row_of.Given as goal

-- each of the destinations so far has its cell
abbrev pub invariant-loop-column : goal.invariant-loop-column
invariant-loop-column l = IsRowWithin l.under.road (take l.column l.destinations) l.from l.values.items
