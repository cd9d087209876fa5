-- The encoded polyline as a relation between texts and lists of points (Google's Encoded Polyline
-- Algorithm Format, developers.google.com/maps/documentation/utilities/polylinealgorithm; 6 digits
-- are OSRM's `polyline6`). Where the first fault of another text is is this project's rule.
use Rattle.std.specs.Prelude.{◌≡◌, ◌⊎◌, ℕ, ℤ, pos, negsuc, ◌+◌, ◌*◌, ◌/◌, ◌%◌, ◌^◌, ◌<◌, ◌≤◌, ◌+ℤ◌, ◌*ℤ◌, Bool, false, IsTrue, List, [], ◌∷◌, ◌++◌, length, map, nat_lt, ◌==◌, if◌then◌else◌, ⊤}

-- a list of points, each its longitude and its latitude in microdegrees
abbrev pub Path : Type 0
Path = List (ℤ × ℤ)

-- five bits each
abbrev pub AreGroups : List ℕ → Type 0
AreGroups [] = ⊤
AreGroups (bits ∷ groups) = (bits < 32) × AreGroups groups

-- the bytes of groups that another one follows
abbrev pub continued : List ℕ → List ℕ
continued groups = map (λ bits. 95 + bits) groups

-- the number of groups of five bits, the lowest first
abbrev pub number_of : List ℕ → ℕ → ℕ
number_of [] last = last
number_of (bits ∷ groups) last = bits + 32 * number_of groups last

-- the text of a number: at most so many groups, of which the last is plus 63
pub record IsValue (most : ℕ) (text : List ℕ) (number : ℕ) : Type 0 where
  pub groups : List ℕ
  pub last : ℕ
  pub are_groups : AreGroups groups
  pub is_group : last < 32
  pub few : length groups < most
  pub text_is : text ≡ continued groups ++ (63 + last) ∷ []
  pub number_is : number ≡ number_of groups last

-- 0, 1, 2, 3, .. stand for 0, -1, 1, -2, ..
abbrev pub unfolded : ℕ → ℤ
unfolded n = if n % 2 == 0 then pos (n / 2) else negsuc (n / 2)

-- how many microdegrees the last digit stands for
abbrev pub unit_of : ℕ → ℕ
unit_of digits = if digits == 5 then 10 else 1

-- a coordinate, in microdegrees, behind the one before it
abbrev pub moved : ℕ → ℤ → ℕ → ℤ
moved digits from number = from +ℤ pos (unit_of digits) *ℤ unfolded number

-- the number is one of 32 bits with a sign
abbrev pub fits_32 : ℤ → Bool
fits_32 (pos n) = nat_lt n (2 ^ 31)
fits_32 (negsuc n) = nat_lt n (2 ^ 31)

-- the text of a step from one coordinate to the next: a value of at most seven groups
pub record IsStep (digits : ℕ) (from : ℤ) (text : List ℕ) (to : ℤ) : Type 0 where
  pub number : ℕ
  pub value : IsValue 7 text number
  pub to_is : to ≡ moved digits from number
  pub fits : IsTrue (fits_32 to)

-- the text of a point behind another one: the step of its latitude, and then of its longitude
pub record IsPoint (digits : ℕ) (lon lat : ℤ) (text : List ℕ) (point : ℤ × ℤ) : Type 0 where
  pub north : List ℕ
  pub east : List ℕ
  pub text_is : text ≡ north ++ east
  pub northward : IsStep digits lat north point.1
  pub eastward : IsStep digits lon east point.0

-- the text of these points, behind another one
abbrev pub IsPathBehind : ℕ → ℤ → ℤ → List ℕ → Path → Type 0
IsPathBehind digits lon lat text [] = text ≡ []
IsPathBehind digits lon lat text (point ∷ points) =
    (first : List ℕ) × (rest : List ℕ) × (text ≡ first ++ rest) × IsPoint digits lon lat first point
    × IsPathBehind digits point.0 point.1 rest points

-- the text of these points, which begins at 0, 0
abbrev pub IsPath : ℕ → List ℕ → Path → Type 0
IsPath digits text points = IsPathBehind digits (pos 0) (pos 0) text points

-- no group stands here, behind so many of one value: the text ends, or it is one too many, or the
-- byte is none of 63 to 126
abbrev pub IsNoGroup : ℕ → ℕ → List ℕ → Type 0
IsNoGroup most count [] = ⊤
IsNoGroup most count (byte ∷ bytes) = (count ≡ most) ⊎ ((byte < 63) ⊎ (127 ≤ byte))

-- the value at the front of the text breaks off behind so many groups, each with another to follow
pub record BreaksOff (most : ℕ) (text : List ℕ) (offset : ℕ) : Type 0 where
  pub groups : List ℕ
  pub rest : List ℕ
  pub are_groups : AreGroups groups
  pub few : length groups ≤ most
  pub text_is : text ≡ continued groups ++ rest
  pub none : IsNoGroup most (length groups) rest
  pub offset_is : offset ≡ length groups

-- with the step at the front of the text, whose last byte is there, the coordinate leaves 32 bits
pub record Leaves (digits : ℕ) (from : ℤ) (text : List ℕ) (offset : ℕ) : Type 0 where
  pub step : List ℕ
  pub rest : List ℕ
  pub number : ℕ
  pub text_is : text ≡ step ++ rest
  pub value : IsValue 7 step number
  pub leaves : fits_32 (moved digits from number) ≡ false
  pub offset_is : offset + 1 ≡ length step

-- a fault of the step at the front of the text
abbrev pub IsStepFault : ℕ → ℤ → List ℕ → ℕ → Type 0
IsStepFault digits from text offset = BreaksOff 7 text offset ⊎ Leaves digits from text offset

-- a fault of the step of the longitude, behind that of the latitude
pub record IsEastFault (digits : ℕ) (lon lat : ℤ) (text : List ℕ) (offset : ℕ) : Type 0 where
  pub north : List ℕ
  pub rest : List ℕ
  pub next : ℤ
  pub later : ℕ
  pub text_is : text ≡ north ++ rest
  pub northward : IsStep digits lat north next
  pub fault : IsStepFault digits lon rest later
  pub offset_is : offset ≡ length north + later

-- a fault of the point at the front of the text
abbrev pub IsPointFault : ℕ → ℤ → ℤ → List ℕ → ℕ → Type 0
IsPointFault digits lon lat text offset = IsStepFault digits lat text offset ⊎ IsEastFault digits lon lat text offset

-- the last of these points, or the one that they are behind
abbrev pub end_of : ℤ → ℤ → Path → ℤ × ℤ
end_of lon lat [] = (lon, lat)
end_of lon lat (point ∷ points) = end_of point.0 point.1 points

-- the first fault of a text, behind a point: a whole path stands in front, and what follows it isn't
-- empty and begins with no point
pub record IsFaultBehind (digits : ℕ) (lon lat : ℤ) (text : List ℕ) (offset : ℕ) : Type 0 where
  pub points : Path
  pub front : List ℕ
  pub rest : List ℕ
  pub later : ℕ
  pub some : 0 < length rest
  pub text_is : text ≡ front ++ rest
  pub path : IsPathBehind digits lon lat front points
  pub fault : IsPointFault digits (end_of lon lat points).0 (end_of lon lat points).1 rest later
  pub offset_is : offset ≡ length front + later

-- the first fault of a text
abbrev pub IsFirstFault : ℕ → List ℕ → ℕ → Type 0
IsFirstFault digits text offset = IsFaultBehind digits (pos 0) (pos 0) text offset
