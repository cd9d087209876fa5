-- For private functions, and for those who hand what is found from one call to the next: how the turns of a network are found: the permitted vertices that leave each node stand side by side, and each node has a number.
use Rattle.std.specs.Prelude.{◌≡◌, ◌+◌, ◌-◌, ◌≤◌, ℕ, ℤ, Bool, false, ◌&&◌, List, [], Some, drop, filter, length, map, take}
use Rattle.std.specs.List.{enumerate_from, slice_get}
use Rattle.std.specs.Option.{option_map_or}
use Rattle.std.specs.Ordering.{int_eq}
use Rattle.turn_rules.specs.Rules.{Rule}
use Rattle.road_turns.specs.RestrictionParts.{has_via}
use Rattle.road_turns.specs.Turn.{turns_from, exits}
use Rattle.road_segments.specs.Vertex.{Vertex}

-- the permitted vertices from number v on that leave the node, in ascending order
abbrev pub leavers : List Vertex → ℤ → ℕ → List (ℕ × Vertex)
leavers vs node v = filter (λ e. e.1.permitted && int_eq e.1.tail node) (enumerate_from v (drop v vs))

-- the numbers of all permitted vertices that leave the node
abbrev pub fan : List Vertex → ℤ → List ℕ
fan vs node = map (λ e. e.0) (leavers vs node 0)

-- vertex v is permitted
abbrev pub is_permitted : List Vertex → ℕ → Bool
is_permitted vs v = option_map_or (λ x. x.permitted) (slice_get vs v) false

-- the vertices that leave the node of number g begin and end at these places
pub record IsFan (vs : List Vertex) (leaving begins : List ℕ) (node : ℤ) (g : ℕ) : Type 0 where
  pub begin : ℕ
  pub end : ℕ
  pub from : slice_get begins g ≡ Some begin
  pub to : slice_get begins (g + 1) ≡ Some end
  pub ordered : begin ≤ end
  pub within : end ≤ length leaving
  pub between : take (end - begin) (drop begin leaving) ≡ fan vs node

-- each vertex has the number of the node that it leaves
pub record AreFans (vs : List Vertex) (leaving begins : List ℕ) (restricted : List Bool) (nodes : List ℕ) : Type 0 where
  pub as_many : length nodes ≡ length vs
  pub flags : length begins ≡ length restricted + 1
  pub each : (v g : ℕ) (x : Vertex) → slice_get vs v ≡ Some x → slice_get nodes v ≡ Some g → IsFan vs leaving begins x.tail g

-- each node is marked where a rule is there
pub record AreRestricted (vs : List Vertex) (rules : List Rule) (restricted : List Bool) (nodes : List ℕ) : Type 0 where
  pub each : (v g : ℕ) (x : Vertex) → slice_get vs v ≡ Some x → slice_get nodes v ≡ Some g → slice_get restricted g ≡ Some (has_via rules x.tail)

-- the turns from vertex v
abbrev pub turns_at : List Vertex → List Rule → ℕ → List (ℕ × ℕ)
turns_at vs rules v = option_map_or (λ x. turns_from vs rules (v, x)) (slice_get vs v) []

-- the number of exits of each vertex
pub record AreExits (vs : List Vertex) (counts : List ℕ) : Type 0 where
  pub as_many : length counts ≡ length vs
  pub each : (v n : ℕ) → slice_get counts v ≡ Some n → n ≡ exits vs v
