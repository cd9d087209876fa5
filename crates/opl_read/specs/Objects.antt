-- The objects of a text in OPL, "object per line" (osmcode.org/opl-file-format).
use Rattle.std.specs.Prelude.{◌≡◌, ℕ, ◌+◌, ◌==◌, Bool, false, List, [], ◌∷◌, ◌++◌, AllPairs, Option, Some, None, Result, Ok, Err, if◌then◌else◌}
use Rattle.std.specs.List.{list_any, onto_first}
use Rattle.std.specs.Ordering.{int_eq}
use Rattle.road_base.specs.declared.osm_objects.Object.{Object}
use Rattle.road_base.specs.declared.osm_objects.Object.TheVariants as object
use Rattle.opl_read.specs.declared.line_faults.FaultKind.{FaultKind}
use Rattle.opl_read.specs.declared.line_faults.FaultKind.TheVariants.{Duplicate}
use Rattle.opl_read.specs.declared.line_faults.LineFault.{LineFault}
use Rattle.opl_read.specs.LineText.{line_of}

-- the lines of a text, each with the newline that ends it, which the last may lack
abbrev pub lines_of : List ℕ → List (List ℕ)
lines_of [] = []
lines_of (b ∷ bytes) = if b == 10 then (b ∷ []) ∷ lines_of bytes else onto_first b (lines_of bytes)

-- the two objects are of one kind and id
abbrev pub is_same : Object → Object → Bool
is_same (object.Node a) (object.Node b) = int_eq a.id b.id
is_same (object.Way a) (object.Way b) = int_eq a.id b.id
is_same (object.Relation a) (object.Relation b) = int_eq a.id b.id
is_same _ _ = false

-- no two of the objects are
abbrev pub AreDistinct : List Object → Type 0
AreDistinct objects = AllPairs (λ a b. is_same a b ≡ false) objects

abbrev pub at_line : ℕ → FaultKind → Result (List Object) LineFault
at_line number kind = Err (record { line = number; kind = kind })

-- what follows from one line, behind `before` lines with these objects: its fault, or what the next
-- lines make of the objects with its own
abbrev pub after_line : ℕ → List Object → Result (Option Object) FaultKind → (List Object → Result (List Object) LineFault) → Result (List Object) LineFault
after_line before objects (Err kind) next = at_line (before + 1) kind
after_line before objects (Ok None) next = next objects
after_line before objects (Ok (Some object)) next =
    if list_any (λ earlier. is_same earlier object) objects then at_line (before + 1) Duplicate else next (objects ++ object ∷ [])

-- the objects of the lines behind `before` lines with these objects, or the first faulty line
abbrev pub objects_after : ℕ → List Object → List (List ℕ) → Result (List Object) LineFault
objects_after before objects [] = Ok objects
objects_after before objects (line ∷ more) = after_line before objects (line_of line) (λ kept. objects_after (before + 1) kept more)

-- the objects of a text in file order, or its first faulty line, counted from 1, and that line's fault
unfoldable pub opl_objects : List ℕ → Result (List Object) LineFault
opl_objects text = objects_after 0 [] (lines_of text)
