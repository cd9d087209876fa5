-- What one line of OPL, "object per line" (osmcode.org/opl-file-format), stands for: an object, nothing,
-- or a fault. Changesets are passed over.
use Rattle.std.specs.Prelude.{ℕ, ℤ, ◌-◌, ◌==◌, List, [], ◌∷◌, length, take, slice_index, Option, Some, None, Result, Ok, Err, if◌then◌else◌}
use Rattle.std.specs.Str.{byte, is_utf8}
use Rattle.decimal_text.specs.ObjectId.{id_of}
use Rattle.road_base.specs.declared.osm_objects.Kind.{Kind}
use Rattle.road_base.specs.declared.osm_objects.Kind.TheVariants as kind
use Rattle.road_base.specs.declared.osm_objects.Object.{Object}
use Rattle.opl_read.specs.Cutting.{fields_of}
use Rattle.opl_read.specs.Faults.{mapped}
use Rattle.opl_read.specs.LineParts.{no_parts, with_fields, kept_object}
use Rattle.opl_read.specs.declared.line_faults.FaultKind.{FaultKind}
use Rattle.opl_read.specs.declared.line_faults.FaultKind.TheVariants.{NotUtf8, BadKind, BadNumber}

-- the text without this byte at its end
abbrev pub without_last : ℕ → List ℕ → List ℕ
without_last last text = if slice_index text (length text - 1) == last then take (length text - 1) text else text

-- a line without the newline that ends it and a carriage return before that
abbrev pub without_ending : List ℕ → List ℕ
without_ending line = without_last 13 (without_last 10 line)

-- the object of a kind, the text of its id, and the fields behind
abbrev pub with_id : Kind → Option ℤ → List (List ℕ) → Result (Option Object) FaultKind
with_id kind None fields = Err BadNumber
with_id kind (Some id) fields = mapped (kept_object kind id) (with_fields kind no_parts fields)

-- the first field names the kind and the id
abbrev pub with_first_field : List ℕ → List (List ℕ) → Result (Option Object) FaultKind
with_first_field [] fields = Ok None
with_first_field (letter ∷ id) fields =
    if letter == byte "n" then with_id kind.Node (id_of id) fields
    else (if letter == byte "w" then with_id kind.Way (id_of id) fields
    else (if letter == byte "r" then with_id kind.Relation (id_of id) fields
    else (if letter == byte "c" then Ok None
    else Err BadKind)))

abbrev pub of_fields : List (List ℕ) → Result (Option Object) FaultKind
of_fields [] = Ok None
of_fields (first ∷ fields) = with_first_field first fields

-- a line's text: a comment, or fields
abbrev pub of_text : List ℕ → Result (Option Object) FaultKind
of_text text = if slice_index text 0 == byte "#" then Ok None else of_fields (fields_of text)

-- the object of a line, None where it has none, or its fault
unfoldable pub line_of : List ℕ → Result (Option Object) FaultKind
line_of line = if is_utf8 (without_ending line) then of_text (without_ending line) else Err NotUtf8
