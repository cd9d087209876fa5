-- How a run ends that did not come to what it is for: a file of its words could not be read, the data are refused,
-- or there was no memory. It took nothing of the input.
use Rattle.std.specs.Prelude.{◌≡◌, ℕ, List, ◌++◌, codes}
use Rattle.road_io.specs.Outside.{Outside}
use Rattle.road_io.specs.Putting.{Closes}
use Rattle.road_base.specs.declared.program_status.Status.{Status}
use Rattle.road_base.specs.declared.program_status.Status.TheVariants as status
use Rattle.program_ends.specs.FileReads.{AreBegun, AreRead, FileBytes, IsFailed}

abbrev pub memory_line : List ℕ
memory_line = codes "out of memory\n"

abbrev pub cannot_read : List ℕ → List ℕ
cannot_read name = codes "cannot read " ++ (name ++ codes "\n")

-- one of these files could not be read, and a line tells it
pub record IsUnread (before after : Outside) (names : List (List ℕ)) : Type 0 where
  pub name : List ℕ
  pub failed : IsFailed before.files after.files names name
  pub input : after.input ≡ before.input
  pub put : Closes before.output after.output (cannot_read name)

-- these files were read, and what they hold is refused on this line
pub record Refuses (before after : Outside) (files : List FileBytes) (line : List ℕ) : Type 0 where
  pub read : AreRead before.files after.files files
  pub input : after.input ≡ before.input
  pub put : Closes before.output after.output line

-- there was no memory: none, some or all of these files were read, and no more was done
pub record IsExhausted (before after : Outside) (names : List (List ℕ)) : Type 0 where
  pub files : AreBegun before.files after.files names
  pub input : after.input ≡ before.input
  pub put : Closes before.output after.output memory_line

-- one of these files was not read, by the status
abbrev pub EndsUnbegun : Status → Outside → Outside → List (List ℕ) → Type 0
EndsUnbegun status.Ok before after names = ⊥
EndsUnbegun status.Outside before after names = IsUnread before after names
EndsUnbegun status.Words before after names = ⊥
EndsUnbegun status.Refused before after names = ⊥
EndsUnbegun status.Memory before after names = IsExhausted before after names
