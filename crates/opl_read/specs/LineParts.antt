-- What the fields of a line of OPL behind the first say of its object (osmcode.org/opl-file-format).
use Rattle.std.specs.Prelude.{◌≡◌, ◌≤◌, ◌⊎◌, length, slice_index, ℕ, ℤ, Bool, false, not, ◌&&◌, ◌==◌, List, [], ◌∷◌, ◌++◌, codes, Option, Some, None, Result, Ok, Err, if◌then◌else◌}
use Rattle.std.specs.Str.{byte}
use Rattle.road_base.specs.declared.coordinates.Point.{Point}
use Rattle.road_base.specs.declared.osm_objects.Kind.{Kind}
use Rattle.road_base.specs.declared.osm_objects.Kind.TheVariants as kind
use Rattle.road_base.specs.declared.osm_objects.Member.{Member}
use Rattle.road_base.specs.declared.osm_objects.Object.{Object}
use Rattle.road_base.specs.declared.osm_objects.Object.TheVariants as object
use Rattle.opl_read.specs.Content.{tags_of, refs_of, coordinate_of, deleted_of}
use Rattle.opl_read.specs.Cutting.{has}
use Rattle.opl_read.specs.Faults.{mapped}
use Rattle.opl_read.specs.Members.{members_of}
use Rattle.road_base.specs.Points.{point_at}
use Rattle.opl_read.specs.declared.line_faults.FaultKind.{FaultKind}
use Rattle.opl_read.specs.declared.line_faults.FaultKind.TheVariants.{BadField}

-- the letters of the fields so far, and what they say
pub record LineParts : Type 0 where
  pub letters : List ℕ
  pub tags : List (List ℕ × List ℕ)
  pub nodes : List ℤ
  pub members : List Member
  pub lon : Option ℤ
  pub lat : Option ℤ
  pub deleted : Bool

abbrev pub no_parts : LineParts
no_parts = record { letters = []; tags = []; nodes = []; members = []; lon = None; lat = None; deleted = false }

-- the letters of the fields that an object of this kind may have
abbrev pub letters_of : Kind → List ℕ
letters_of kind.Node = codes "vdctiuTxy"
letters_of kind.Way = codes "vdctiuTN"
letters_of kind.Relation = codes "vdctiuTM"

-- the parts with a field's content; what stands in other fields is not looked at
abbrev pub with_content : ℕ → List ℕ → LineParts → Result LineParts FaultKind
with_content letter content parts =
    if letter == byte "T" then mapped (λ tags. record parts { tags = tags }) (tags_of content)
    else (if letter == byte "N" then mapped (λ nodes. record parts { nodes = nodes }) (refs_of content)
    else (if letter == byte "M" then mapped (λ members. record parts { members = members }) (members_of content)
    else (if letter == byte "x" then mapped (λ lon. record parts { lon = lon }) (coordinate_of 180000000 content)
    else (if letter == byte "y" then mapped (λ lat. record parts { lat = lat }) (coordinate_of 90000000 content)
    else (if letter == byte "d" then mapped (λ deleted. record parts { deleted = deleted }) (deleted_of content)
    else Ok parts)))))

abbrev pub with_letter : ℕ → LineParts → LineParts
with_letter letter parts = record parts { letters = parts.letters ++ letter ∷ [] }

-- the parts with one more field, which stands once in a line and belongs to this kind of object
abbrev pub with_field : Kind → LineParts → List ℕ → Result LineParts FaultKind
with_field kind parts [] = Err BadField
with_field kind parts (letter ∷ content) =
    if has letter (letters_of kind) && not (has letter parts.letters)
    then mapped (with_letter letter) (with_content letter content parts)
    else Err BadField

abbrev pub and_then : Result LineParts FaultKind → (LineParts → Result LineParts FaultKind) → Result LineParts FaultKind
and_then (Ok parts) next = next parts
and_then (Err kind) next = Err kind

-- the parts with these fields, from the left
abbrev pub with_fields : Kind → LineParts → List (List ℕ) → Result LineParts FaultKind
with_fields kind parts [] = Ok parts
with_fields kind parts (field ∷ more) = and_then (with_field kind parts field) (λ next. with_fields kind next more)

-- a location where both coordinates are there
abbrev pub location_of : Option ℤ → Option ℤ → Option Point
location_of (Some lon) (Some lat) = point_at lon lat
location_of _ _ = None

-- the object of a kind and an id
abbrev pub object_of : Kind → ℤ → LineParts → Option Object
object_of kind.Node id parts = Some (object.Node (record { id = id; point = location_of parts.lon parts.lat; tags = parts.tags }))
object_of kind.Way id parts = Some (object.Way (record { id = id; tags = parts.tags; nodes = parts.nodes }))
object_of kind.Relation id parts = Some (object.Relation (record { id = id; tags = parts.tags; members = parts.members }))

-- the same, none where it is deleted
abbrev pub kept_object : Kind → ℤ → LineParts → Option Object
kept_object kind id parts = if parts.deleted then None else object_of kind id parts

-- a field that is empty or begins with no ASCII character
abbrev pub HasNoLetter : List ℕ → Type 0
HasNoLetter field = (length field ≡ 0) ⊎ (128 ≤ slice_index field 0)
