-- Files in memory by name.
use Rattle.std.specs.Prelude.{ℕ, List, [], ◌∷◌, Option, Some, None, Vec, if◌then◌else◌, bytes_eq, map}
use Rattle.std.specs.Global.{Global}
use Rattle.road_io.specs.FileContent.{FileTold}

-- the bytes of the first file of this name
abbrev pub file_of : List (List ℕ × List ℕ) → List ℕ → Option (List ℕ)
file_of [] name = None
file_of (file ∷ files) name = if bytes_eq file.0 name then Some file.1 else file_of files name

-- what files tell that hold just these: the bytes of a name, or that none of them has it
abbrev pub told_of : List (List ℕ × List ℕ) → List ℕ → FileTold
told_of files name = Some (file_of files name)

-- each file as its name and its bytes
abbrev pub named_files : List (List ℕ × Vec ℕ Global) → List (List ℕ × List ℕ)
named_files files = map (λ file. (file.0, file.1.items)) files
