-- A piece ends behind no cell but those of the level.
use Rattle.cell_customize.specs.Cuts.{cut_within}
use Rattle.cell_customize.proofs.turns.keys_of.Goals as goal

pub entries_within-entries-requires-clause-to : goal.entries_within-entries-requires-clause-to
entries_within-entries-requires-clause-to c = rw (c.cut-to.ensures, c.count-count.ensures) (cut_within _ c.loop-place.place c.loop-place-test.true)
