-- Lines that ask for a metric of two traffic files (this project's rule): `TRAFFIC` and the names of the files, one
-- blank before each.
use Rattle.std.specs.Prelude.{◌≡◌, ℕ, Bool, not, ◌&&◌, ◌==◌, List, [], ◌∷◌, ◌++◌, ◌⊎◌, length, codes, bytes_eq, nat_le, Option, Some, None, if◌then◌else◌}
use Rattle.std.specs.List.{list_any, slice_split}
use Rattle.std.specs.Str.{is_utf8}
use Rattle.road_io.specs.FileContent.{FileTold, IsFileContent}

-- one byte at least, and no tab; that there is no blank is known of what stands between blanks
abbrev pub is_name : List ℕ → Bool
is_name text = nat_le 1 (length text) && not (list_any (λ b. b == 9) text)

-- the names of the speeds file and of the turns file behind the word
abbrev pub names_behind : List ℕ → List ℕ → List ℕ → Option (List ℕ × List ℕ)
names_behind word speeds turns = if bytes_eq word (codes "TRAFFIC") && (is_name speeds && is_name turns) then Some (speeds, turns) else None

-- those in the parts of a line between its blanks
abbrev pub names_in : List (List ℕ) → Option (List ℕ × List ℕ)
names_in (word ∷ speeds ∷ turns ∷ []) = names_behind word speeds turns
names_in parts = None

-- those in a line of text of at most 8192 bytes; None where the line is of another form
abbrev pub traffic_names : List ℕ → Option (List ℕ × List ℕ)
traffic_names line = if nat_le (length line) 8192 && is_utf8 line then names_in (slice_split (λ b. b == 32) line) else None

-- `-` names no file
abbrev pub is_none_named : List ℕ → Bool
is_none_named name = bytes_eq name (codes "-")

-- the files that a name names
abbrev pub files_named : List ℕ → List (List ℕ)
files_named name = if is_none_named name then [] else name ∷ []

-- the files of a line, in the order in which they are read
abbrev pub files_of : List ℕ × List ℕ → List (List ℕ)
files_of names = files_named names.0 ++ files_named names.1

-- what is told of the bytes that a name stands for: those of its file, and none where it names no file
abbrev pub told_named : (List ℕ → FileTold) → List ℕ → FileTold
told_named content name = if is_none_named name then Some (Some []) else content name

-- the bytes are those that the name stands for; a file that is told to be missing stands for none
abbrev pub StandsFor : (List ℕ → FileTold) → List ℕ → List ℕ → Type 0
StandsFor content name bytes = IsFileContent (told_named content name) bytes

-- the file of this name is one of the line's, and these are the reads up to it
abbrev pub IsUpTo : List ℕ × List ℕ → List ℕ → List (List ℕ) → Type 0
IsUpTo names name reads =
    ((files_named names.0 ≡ name ∷ []) × (reads ≡ name ∷ []))
    ⊎ ((files_named names.1 ≡ name ∷ []) × (reads ≡ files_named names.0 ++ name ∷ []))
