-- How a target is parted into a path and a query, and the path into pieces (RFC 3986; that parentheses
-- keep a `?` from ending the path is this project's rule, since polylines are written between them).
use Rattle.std.specs.Prelude.{ℕ, ◌+◌, ◌-◌, Bool, ◌==◌, ◌&&◌, ◌||◌, not, List, [], ◌∷◌, length, take, drop, codes, nat_eq, slice_index, Option, Some, None, if◌then◌else◌}
use Rattle.std.specs.List.{count_by, ends_with, find, range_with_len, slice_split}
use Rattle.std.specs.Str.{byte}

-- how often a byte stands in a text
abbrev pub count_of : ℕ → List ℕ → ℕ
count_of wanted text = count_by (λ b. b == wanted) text

-- at this place of the target stands a `?` that has as many `(` as `)` before it
abbrev pub is_mark : List ℕ → ℕ → Bool
is_mark target at = (slice_index target at == byte "?") && (count_of (byte "(") (take at target) == count_of (byte ")") (take at target))

-- the first such place
abbrev pub mark_of : List ℕ → Option ℕ
mark_of target = find (is_mark target) (range_with_len 0 (length target))

-- what stands before the mark; without one the target is all path
abbrev pub path_at : Option ℕ → List ℕ → List ℕ
path_at None target = target
path_at (Some mark) target = take mark target

-- what stands behind the mark
abbrev pub query_at : Option ℕ → List ℕ → List ℕ
query_at None target = []
query_at (Some mark) target = drop (mark + 1) target

-- coordinates without the `.json` at their end, if there is one
abbrev pub without_json : List ℕ → List ℕ
without_json coordinates = if ends_with nat_eq coordinates (codes ".json") then take (length coordinates - 5) coordinates else coordinates

-- the pieces of a path that the request is read from
pub record Pieces : Type 0 where
  pub service : List ℕ
  pub version : List ℕ
  pub coordinates : List ℕ

abbrev pub is_empty : List ℕ → Bool
is_empty text = length text == 0

-- `/service/version/profile/coordinates`, of which none is empty, and nothing before the first slash; the
-- profile may be any text
abbrev pub four_pieces : List (List ℕ) → Option Pieces
four_pieces (front ∷ service ∷ version ∷ profile ∷ coordinates ∷ []) =
    if is_empty front && not (is_empty service || is_empty version || is_empty profile || is_empty coordinates)
    then Some (record { service = service; version = version; coordinates = coordinates })
    else None
four_pieces _ = None

-- the pieces of a path between its slashes
abbrev pub pieces_of : List ℕ → Option Pieces
pieces_of path = four_pieces (slice_split (λ b. b == byte "/") path)
