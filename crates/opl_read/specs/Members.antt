-- The members of a relation in OPL (osmcode.org/opl-file-format).
use Rattle.std.specs.Prelude.{ℕ, ℤ, ◌==◌, List, [], ◌∷◌, map, Option, Some, None, Result, Err, if◌then◌else◌}
use Rattle.std.specs.List.{before_first, after_first}
use Rattle.std.specs.Str.{byte}
use Rattle.decimal_text.specs.ObjectId.{id_of}
use Rattle.road_base.specs.declared.osm_objects.Kind.{Kind}
use Rattle.road_base.specs.declared.osm_objects.Kind.TheVariants as kind
use Rattle.road_base.specs.declared.osm_objects.Member.{Member}
use Rattle.opl_read.specs.Content.{or_bad_number}
use Rattle.opl_read.specs.Cutting.{has, entries_of}
use Rattle.opl_read.specs.Escapes.{unescaped}
use Rattle.opl_read.specs.Faults.{mapped_both, all_of}
use Rattle.opl_read.specs.declared.line_faults.FaultKind.{FaultKind}
use Rattle.opl_read.specs.declared.line_faults.FaultKind.TheVariants.{BadField}

-- the kind of object that a letter names
abbrev pub kind_of : ℕ → Option Kind
kind_of letter =
    if letter == byte "n" then Some kind.Node
    else (if letter == byte "w" then Some kind.Way
    else (if letter == byte "r" then Some kind.Relation
    else None))

abbrev pub as_member : Kind → ℤ → List ℕ → Member
as_member kind id role = record { kind = kind; id = id; role = role }

-- the member of a kind, the text of its id, and its role as it is written
abbrev pub member_with : Option Kind → List ℕ → List ℕ → Result Member FaultKind
member_with None id role = Err BadField
member_with (Some kind) id role = mapped_both (as_member kind) (or_bad_number (id_of id)) (unescaped role)

-- the letter of a kind and an id, and the role
abbrev pub named_member : List ℕ → List ℕ → Result Member FaultKind
named_member [] role = Err BadField
named_member (letter ∷ id) role = member_with (kind_of letter) id role

-- a member: the letter of a kind and an id before the first `@`, and behind it the role
abbrev pub member_of : List ℕ → Result Member FaultKind
member_of entry =
    if has (byte "@") entry
    then named_member (before_first (λ b. b == byte "@") entry) (after_first (λ b. b == byte "@") entry)
    else Err BadField

abbrev pub members_of : List ℕ → Result (List Member) FaultKind
members_of content = all_of (map member_of (entries_of content))
