-- What the network tells of a place is what its waypoint says.
use Rattle.std.proofs.Common.{◌≡◌, ℕ, ℤ, ◌+◌, ◌*◌, ◌/◌, ◌<◌, ◌≤◌, Bool, true, false, cond, nat_lt, not, List, [], ◌∷◌, length, refl, sym, ap, ap₂, ◌∙◌, arith, get_or}
use Rattle.std.specs.Prelude.{Option, Some, None, codes, option_map}
use Rattle.std.specs.List.{enumerate_from, position, position_or_len, slice_get, zip}
use Rattle.std.specs.Option.{unwrap_or}
use Rattle.std.proofs.lemmas.Bool.Decides.{nat_tests}
use Rattle.std.proofs.lemmas.List.FromFn.{get_or-enumerate_from}
use Rattle.std.proofs.lemmas.List.Sums.{prefix_len-le-length}
use Rattle.std.proofs.lemmas.Option.{same_Some, slice_get-get_or}
use Rattle.std.proofs.lemmas.Slice.Zip.{get_or-zip}
use Rattle.road_base.specs.declared.coordinates.Point.{Point}
use Rattle.road_base.specs.declared.segments.Place.{Place}
use Rattle.geo_integer.specs.Position.{Position, position_of}
use Rattle.geo_integer.specs.Plane.{distance_of}
use Rattle.geo_integer.specs.Project.{position_at}
use Rattle.road_segments.specs.Laws.{vertices-even}
use Rattle.road_segments.specs.Segment.{Segment}
use Rattle.road_segments.specs.Vertex.{Vertex, vertices}
use Rattle.json_text.specs.Values.{JsonValue, whole}
use Rattle.json_text.specs.Wholes.{array_of}
use Rattle.reply_texts.specs.Waypoints.{members_on, nodes_on, place_members}

-- the name of a segment is that of its first direction
name-of : (segments : List Segment) (k : ℕ) (x : Segment) (name : List ℕ) → slice_get segments k ≡ Some x → option_map {U = List ℕ} (λ s. s.street.name) (slice_get segments (2 * k / 2)) ≡ Some name → x.street.name ≡ name
name-of segments k x name is e =
    let half : 2 * k / 2 ≡ k = omega arith in
    same_Some x.street.name name (sym (ap (option_map {U = List ℕ} (λ (s : Segment). s.street.name)) (ap (slice_get segments) half ∙ is)) ∙ e)

members-at : (coordinate : Point) (at : ℕ) (spot : Position) (name : List ℕ) (distance : ℕ) (x : Segment)
    → position_at (position_of x.from) (position_of x.to) at ≡ spot → x.street.name ≡ name → distance ≡ distance_of (position_of coordinate) spot
    → members_on (Some x) (position_of coordinate) at ≡ place_members distance name spot
members-at coordinate at spot name distance x is named far =
    ap (λ (p : Position). place_members (distance_of (position_of coordinate) p) x.street.name p) is
    ∙ ap₂ (λ (d : ℕ) (n : List ℕ). place_members d n spot) (sym far) named

-- how far, which name and where
pub members-is : (segments : List Segment) (coordinate : Point) (place : Place) (spot : Position) (name : List ℕ) (distance : ℕ) (o : Option Segment)
    → slice_get segments place.segment ≡ o → option_map {U = Position} (λ x. position_at (position_of x.from) (position_of x.to) place.at) o ≡ Some spot
    → option_map {U = List ℕ} (λ s. s.street.name) (slice_get segments (2 * place.segment / 2)) ≡ Some name
    → distance ≡ distance_of (position_of coordinate) spot → place_members distance name spot ≡ members_on (slice_get segments place.segment) (position_of coordinate) place.at
members-is segments coordinate place spot name distance None is at named far = cc
members-is segments coordinate place spot name distance (Some x) is at named far =
    sym (members-at coordinate place.at spot name distance x (same_Some _ _ at) (name-of segments place.segment x name is named) far)
    ∙ sym (ap (λ (o : Option Segment). members_on o (position_of coordinate) place.at) is)

-- there is a segment of each number below their count
some-there : (segments : List Segment) (k : ℕ) → k < length segments → slice_get segments k ≡ None → ⊥
some-there [] k lt e = omega arith
some-there (s ∷ more) k lt e = let there = slice_get-get_or (s ∷ more) k s lt in cc

-- the two nodes
pub nodes-is : (segments : List Segment) (k : ℕ) (tail head : ℤ) (o : Option Segment) → slice_get segments k ≡ o
    → option_map {U = ℤ} (λ x. x.tail) (slice_get (vertices segments) (2 * k)) ≡ Some tail → option_map {U = ℤ} (λ x. x.head) (slice_get (vertices segments) (2 * k)) ≡ Some head
    → k < length segments → (codes "nodes", array_of (whole tail ∷ whole head ∷ [])) ∷ [] ≡ nodes_on (slice_get segments k)
nodes-is segments k tail head None is t h lt = absurd (some-there segments k lt is)
nodes-is segments k tail head (Some x) is t h lt =
    let here = vertices-even segments k x (2 * k) is refl in
    let first : x.tail ≡ tail = same_Some x.tail tail (sym (ap (option_map {U = ℤ} (λ (v : Vertex). v.tail)) here) ∙ t) in
    let last : x.head ≡ head = same_Some x.head head (sym (ap (option_map {U = ℤ} (λ (v : Vertex). v.head)) here) ∙ h) in
    ap₂ {C = List (List ℕ × JsonValue)} (λ (a b : ℤ). (codes "nodes", array_of (whole a ∷ whole b ∷ [])) ∷ []) (sym first) (sym last)
    ∙ sym (ap nodes_on is)

-- the pair of a number
pub pair-at : {A B : Type 0} (xs : List A) (ys : List B) (k : ℕ) (x : A) (y : B) → x ≡ get_or xs k x → y ≡ get_or ys k y → k < length xs → k < length ys → get_or (zip xs ys) k (x, y) ≡ (x, y)
pair-at xs ys k x y left right lx ly = get_or-zip xs ys k (x, y) lx ly ∙ sym (ap₂ (λ a b. (a, b)) left right)

-- the same with its number in front
pub numbered-at : {A : Type 0} (xs : List A) (k : ℕ) (x : A) → get_or xs k x ≡ x → k < length xs → get_or (enumerate_from 0 xs) k (k, x) ≡ (k, x)
numbered-at xs k x is lt =
    let first : 0 + k ≡ k = omega arith in
    get_or-enumerate_from 0 xs k (k, x) lt ∙ ap₂ (λ n y. (n, y)) first is

-- where none passes, the length stands for the first that does
or-length : (b : Bool) (q n : ℕ) → nat_lt q n ≡ b → q ≤ n → unwrap_or (cond b (Some q) None) n ≡ q
or-length true q n lt most = refl
or-length false q n lt most = let more : n ≤ q = grind (arith, nat_tests) in omega arith

pub position-or-length : {X : Type 0} (p : X → Bool) (xs : List X) → unwrap_or (position p xs) (length xs) ≡ position_or_len p xs
position-or-length p xs = or-length (nat_lt (position_or_len p xs) (length xs)) (position_or_len p xs) (length xs) refl (prefix_len-le-length (λ x. not (p x)) xs)
