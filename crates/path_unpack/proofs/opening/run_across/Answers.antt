-- No path from the entry to the exit costs less than a cheapest walk inside the cell.
use Rattle.path_unpack.proofs.Inside.{IsBeyond-inside}
use Rattle.path_unpack.proofs.opening.run_across.Goals as goal

pub run_to-requires-clause-known : goal.run_to-requires-clause-known
run_to-requires-clause-known g c = IsBeyond-inside g.met.C.Cost.laws _ _ _ _ c.requires.inner _ _ _ c.requires.starts c.requires.shortcut c.requires.apart c.in-Some.known c.in-Some.ensures
