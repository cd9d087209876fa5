-- What is told of a file, and which bytes it may be read as then.
use Rattle.std.specs.Prelude.{◌≡◌, ℕ, List, Option, None, Some, ⊤}

-- what is told of the file of a name: nothing (None), that there is no such file (Some None), or its bytes
abbrev pub FileTold : Type 0
FileTold = Option (Option (List ℕ))

-- these are the bytes of the file, where it is told of: a file that is told to be missing has none
abbrev pub IsFileContent : FileTold → List ℕ → Type 0
IsFileContent None bytes = ⊤
IsFileContent (Some None) bytes = ⊥
IsFileContent (Some (Some told)) bytes = bytes ≡ told
