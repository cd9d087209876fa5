-- Private to this crate: labels whose costs stand in words of 64 bits, most by their ranks, the others by their places.
use Rattle.std.specs.Prelude.{◌≡◌, ℕ, ◌-◌, ◌+◌, ◌^◌, ◌<◌, List, Some, map, length, nat_lt, if◌then◌else◌, slice_index_or}
use Rattle.search_labels.specs.Labelled.{label_in}
use Rattle.search_labels.specs.Slotted.{slot_at}
use Rattle.search_labels.specs.declared.labels.Label.{Label}
use Rattle.search_labels.specs.declared.labels.Slot.{Slot}
use Rattle.search_labels.specs.declared.labels.Slot.TheVariants.{Untouched, Labelled, Settled}

-- what a word stands for: below 2^63 the cost of that rank, from there on the cost at a place among the others
abbrev pub cost_at : {C : Type 0} → (ℕ → C) → List C → ℕ → C
cost_at unranked others word = if nat_lt word (2 ^ 63) then unranked word else slice_index_or others (word - 2 ^ 63) (unranked word)

-- the label with this node and this word
abbrev pub read_label : {C : Type 0} → (ℕ → C) → List C → ℕ → ℕ → Label C
read_label unranked others node word = record { cost = cost_at unranked others word; node = node }

-- the slot of that label
abbrev pub read_slot : {C : Type 0} → (ℕ → C) → List C → Slot ℕ → Slot C
read_slot unranked others Untouched = Untouched
read_slot unranked others (Labelled node word) = Labelled node (cost_at unranked others word)
read_slot unranked others (Settled node word) = Settled node (cost_at unranked others word)

-- those slots by vertex
abbrev pub read_slots : {C : Type 0} → (ℕ → C) → List C → List (Slot ℕ) → List (Slot C)
read_slots unranked others slots = map (read_slot unranked others) slots

-- each word names a cost, which it does still when others grow, and there are fewer others than places
pub record AreWorded {C : Type 0} (others : List C) (slots : List (Slot ℕ)) : Type 0 where
  pub few : length others < 2 ^ 63
  pub each : (v : ℕ) (l : Label ℕ) → label_in (slot_at slots v) ≡ Some l → l.cost < 2 ^ 63 + length others
