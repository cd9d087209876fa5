use Rattle.std.proofs.Common.{take}
use Rattle.std.specs.List.{AllZip}
use Rattle.road_walks.specs.TableParts.{IsRowWithin}
use Rattle.road_walks.proofs.tables.cost_rows.Given as goal

-- each of the sources so far has its row
abbrev pub invariant-loop-number : goal.invariant-loop-number
invariant-loop-number g l = AllZip (IsRowWithin l.under.road l.destinations) (take l.number l.sources) l.rows.items
