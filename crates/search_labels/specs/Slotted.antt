-- Private to this crate: slots by vertex. They stand one behind the other in one list, and a table has the place of each vertex's slot.
use Rattle.std.specs.Prelude.{◌≡◌, ◌⊎◌, ℕ, ◌-◌, ◌^◌, ◌<◌, ◌≤◌, Some, List, length, map, nat_lt, if◌then◌else◌, slice_index_or}
use Rattle.std.specs.List.{slice_get, All}
use Rattle.search_labels.specs.declared.labels.Slot.{Slot}
use Rattle.search_labels.specs.declared.labels.Slot.TheVariants.{Untouched, Labelled, Settled}
use Rattle.search_labels.specs.declared.slots.Made.{Made}

-- the slot of the vertex v
abbrev pub slot_at : {C : Type 0} → List (Slot C) → ℕ → Slot C
slot_at slots v = slice_index_or slots v Untouched

-- in place of the place of a slot that isn't made
abbrev pub unmade : ℕ
unmade = 4294967295

-- the place of the slot of the vertex v among those that are made
abbrev pub place_of : List ℕ → ℕ → ℕ
place_of table v = slice_index_or table v unmade

-- what a slot that is made says of its vertex: where the vertex is settled 2^31 is added to the node
abbrev pub slot_in : {C : Type 0} → Made C → Slot C
slot_in made = if nat_lt made.node (2 ^ 31) then Labelled made.node made.cost else Settled (made.node - 2 ^ 31) made.cost

-- what those that are made say
abbrev pub slots_in : {C : Type 0} → List (Made C) → List (Slot C)
slots_in made = map slot_in made

-- and of which vertices
abbrev pub vertices_in : {C : Type 0} → List (Made C) → List ℕ
vertices_in made = map (λ slot. slot.vertex) made

-- the slots by vertex
abbrev pub slots_of : {C : Type 0} → List ℕ → List (Slot C) → List (Slot C)
slots_of table slots = map (slot_at slots) table

-- each vertex that has a slot is that of the one at its place, so no two have one place
pub record ArePlaced (table : List ℕ) (vertices : List ℕ) : Type 0 where
  pub each : (v : ℕ) → (place_of table v ≡ unmade) ⊎ (slice_get vertices (place_of table v) ≡ Some v)

-- and the table reaches each vertex that has one
pub record IsSlotted {C : Type 0} (table : List ℕ) (made : List (Made C)) : Type 0 where
  pub places : ArePlaced table (vertices_in made)
  pub reached : All (λ slot. slot.vertex < length table) made
  pub few : length made ≤ unmade
