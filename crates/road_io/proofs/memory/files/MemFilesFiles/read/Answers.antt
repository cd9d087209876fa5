use Rattle.std.proofs.Common.{refl}
use Rattle.road_io.proofs.memory.files.MemFilesFiles.read.Goals as goal

-- what `readable` says of the fields, said of the value
pub returns-in_ok-note-in-None-clause-failed : goal.returns-in_ok-note-in-None-clause-failed
returns-in_ok-note-in-None-clause-failed c =
    λ _. rw (← c.self.view_is, ← c.deref.ensures.value, ← c.deref-2.ensures.value, ← c.saturating_add-self-inside.ensures)
    (c.in-None.ensures.none.0 refl)
