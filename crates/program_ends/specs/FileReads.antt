-- Which of the files of its words a run read, and what came of it.
use Rattle.std.specs.Prelude.{◌≡◌, ℕ, List, [], ◌∷◌, ◌++◌, map, Option, Some, None, ⊤}
use Rattle.road_io.specs.Faults.{FilesRose}
use Rattle.road_io.specs.FailedNames.{AppendsNames}
use Rattle.road_io.specs.FileContent.{IsFileContent}
use Rattle.road_io.specs.Views.{FilesView}
use Rattle.road_io.specs.declared.failures.FileFault.{FileFault}
use Rattle.road_io.specs.declared.failures.FileFault.TheVariants as file

-- a file: its name, and the bytes that were read of it
abbrev pub FileBytes : Type 0
FileBytes = List ℕ × List ℕ

abbrev pub names_of : List FileBytes → List (List ℕ)
names_of files = map (λ file. file.0) files

-- the file of this name, where one is named
abbrev pub named : Option (List ℕ) → List ℕ → List FileBytes
named None bytes = []
named (Some name) bytes = (name, bytes) ∷ []

abbrev pub listed : Option (List ℕ) → List (List ℕ)
listed None = []
listed (Some name) = name ∷ []

-- where no file is named there are no bytes
abbrev pub IsBare : Option (List ℕ) → List ℕ → Type 0
IsBare None bytes = bytes ≡ []
IsBare (Some name) bytes = ⊤

-- these are the bytes of the files, where these are told of: none of them is told to be missing
abbrev pub AreContents : FilesView → List FileBytes → Type 0
AreContents before [] = ⊤
AreContents before (file ∷ more) = IsFileContent (before.content file.0) file.1 × AreContents before more

-- these files were read in this order, and no other; no read failed
pub record AreRead (before after : FilesView) (files : List FileBytes) : Type 0 where
  pub contents : AreContents before files
  pub reads : AppendsNames before.reads after.reads (names_of files)
  pub told : AppendsNames before.failed_names after.failed_names []
  pub steady : after.faults ≡ before.faults
  pub kept : after.content ≡ before.content

-- the file of this name, one of these, could not be read. Those before it were read in this order, and no other; it
-- is the one failed read, and the last of all
pub record IsFailed (before after : FilesView) (names : List (List ℕ)) (name : List ℕ) : Type 0 where
  pub earlier : List (List ℕ)
  pub later : List (List ℕ)
  pub place : names ≡ earlier ++ name ∷ later
  pub reads : AppendsNames before.reads after.reads (earlier ++ name ∷ [])
  pub told : AppendsNames before.failed_names after.failed_names (name ∷ [])
  pub rose : FilesRose before after

-- none, some or all of the files were read in this order, and no other; no read failed
pub record AreBegun (before after : FilesView) (names : List (List ℕ)) : Type 0 where
  pub all : List (List ℕ)
  pub rest : List (List ℕ)
  pub front : names ≡ all ++ rest
  pub reads : AppendsNames before.reads after.reads all
  pub told : AppendsNames before.failed_names after.failed_names []
  pub steady : after.faults ≡ before.faults

-- of these files the one of this name was not read, with this fault
pub record IsLeft (before after : FilesView) (names : List (List ℕ)) (name : List ℕ) (fault : FileFault) : Type 0 where
  pub failed : fault ≡ file.Failed → IsFailed before after names name
  pub memory : fault ≡ file.Memory → AreBegun before after names
