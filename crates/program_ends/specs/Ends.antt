-- What the calls leave that end a run: their line, by what it ends for.
use Rattle.std.specs.Prelude.{◌≡◌, ℕ, List, refl}
use Rattle.std.proofs.Common.{sym, subst}
use Rattle.road_io.specs.Outside.{outside}
use Rattle.road_io.specs.Putting.{Closes}
use Rattle.road_io.specs.Views.{FilesView, InputView, OutputView}
use Rattle.road_io.specs.declared.failures.FileFault.{FileFault}
use Rattle.road_io.specs.declared.failures.FileFault.TheVariants as file
use Rattle.road_base.specs.declared.program_status.Status.{Status}
use Rattle.road_base.specs.declared.program_status.Status.TheVariants as status
use Rattle.program_ends.specs.FileReads.{IsLeft}
use Rattle.program_ends.specs.StoppedEarly.{EndsUnbegun, cannot_read, memory_line}

-- the run ended for the file of this name, which could not be read or for which there was no memory
abbrev pub EndsLeft : FileFault → List ℕ → Status → OutputView → OutputView → Type 0
EndsLeft file.Failed name code before after = (code ≡ status.Outside) × Closes before after (cannot_read name)
EndsLeft file.Memory name code before after = (code ≡ status.Memory) × Closes before after memory_line

-- so it ends where one of its files is not read
pub unbegun : (code : Status) (first last : FilesView) (input : InputView) (before after : OutputView) (names : List (List ℕ)) (name : List ℕ) (fault : FileFault) → IsLeft first last names name fault → EndsLeft fault name code before after → EndsUnbegun code (outside first input before) (outside last input after) names
unbegun code first last input before after names name file.Failed left ends =
    subst (λ (c : Status). EndsUnbegun c (outside first input before) (outside last input after) names) (sym ends.0)
    (record { name = name; failed = left.failed refl; input = refl; put = ends.1 })
unbegun code first last input before after names name file.Memory left ends =
    subst (λ (c : Status). EndsUnbegun c (outside first input before) (outside last input after) names) (sym ends.0)
    (record { files = left.memory refl; input = refl; put = ends.1 })
