use Rattle.std.proofs.Common.{take}
use Rattle.std.specs.List.{AllZip}
use Rattle.road_walks.specs.TableParts.{AreStartsFrom}
use Rattle.road_walks.proofs.table_ends.starts_of.Given as goal

-- each of the sources so far has its list
abbrev pub invariant-loop-source : goal.invariant-loop-source
invariant-loop-source l = AllZip (AreStartsFrom l.under.frame.graph.vertices l.under.road) (take l.source-index l.sources) l.lists.items
