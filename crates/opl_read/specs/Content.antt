-- What the content of a field of OPL stands for (osmcode.org/opl-file-format), or its fault.
use Rattle.std.specs.Prelude.{ℕ, ℤ, Bool, true, false, ◌==◌, nat_le, nat_eq, List, length, drop, map, codes, unsigned_abs, bytes_eq, Option, Some, None, Result, Ok, Err, if◌then◌else◌}
use Rattle.std.specs.List.{before_first, after_first, starts_with}
use Rattle.std.specs.Str.{byte}
use Rattle.decimal_text.specs.Decimal.{microdegrees_of}
use Rattle.decimal_text.specs.ObjectId.{id_of}
use Rattle.opl_read.specs.Cutting.{has, entries_of}
use Rattle.opl_read.specs.Escapes.{unescaped}
use Rattle.opl_read.specs.Faults.{mapped_both, all_of}
use Rattle.opl_read.specs.declared.line_faults.FaultKind.{FaultKind}
use Rattle.opl_read.specs.declared.line_faults.FaultKind.TheVariants.{BadNumber, BadField}

-- a key and a value round the first `=`
abbrev pub tag_of : List ℕ → Result (List ℕ × List ℕ) FaultKind
tag_of entry =
    if has (byte "=") entry
    then mapped_both (λ key value. (key, value)) (unescaped (before_first (λ b. b == byte "=") entry)) (unescaped (after_first (λ b. b == byte "=") entry))
    else Err BadField

abbrev pub tags_of : List ℕ → Result (List (List ℕ × List ℕ)) FaultKind
tags_of content = all_of (map tag_of (entries_of content))

abbrev pub or_bad_number : Option ℤ → Result ℤ FaultKind
or_bad_number None = Err BadNumber
or_bad_number (Some number) = Ok number

-- the id of a node: `n`, the id, and perhaps `x` and any text
abbrev pub ref_of : List ℕ → Result ℤ FaultKind
ref_of entry =
    if starts_with nat_eq entry (codes "n") then or_bad_number (id_of (before_first (λ b. b == byte "x") (drop 1 entry))) else Err BadField

abbrev pub refs_of : List ℕ → Result (List ℤ) FaultKind
refs_of content = all_of (map ref_of (entries_of content))

-- a value within a greatest one either way
abbrev pub in_range : ℕ → Option ℤ → Result (Option ℤ) FaultKind
in_range greatest None = Err BadField
in_range greatest (Some value) = if nat_le (unsigned_abs value) greatest then Ok (Some value) else Err BadNumber

-- a coordinate in whole microdegrees; no content is none
abbrev pub coordinate_of : ℕ → List ℕ → Result (Option ℤ) FaultKind
coordinate_of greatest content = if length content == 0 then Ok None else in_range greatest (microdegrees_of content)

-- whether the object is deleted: `D`, or `V` where it is not
abbrev pub deleted_of : List ℕ → Result Bool FaultKind
deleted_of content = if bytes_eq content (codes "D") then Ok true else (if bytes_eq content (codes "V") then Ok false else Err BadField)
