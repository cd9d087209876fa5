-- What is known of each vertex, as two functions of it: its label, if it has one, and whether it is settled. They are read of the slots that the labels are.
use Rattle.std.specs.Prelude.{◌≡◌, ℕ, Bool, true, false, cond, nat_eq, List, Option, Some, None}
use Rattle.std.specs.declared.cmp.Ordering.TheVariants.{Less}
use Rattle.search_graph.specs.Costs.{CostOps, NoDearer}
use Rattle.search_labels.specs.Slotted.{slot_at}
use Rattle.search_labels.specs.declared.labels.Label.{Label}
use Rattle.search_labels.specs.declared.labels.Slot.{Slot}
use Rattle.search_labels.specs.declared.labels.Slot.TheVariants.{Untouched, Labelled, Settled}

-- the label in a slot, if there is one
abbrev pub label_in : {C : Type 0} → Slot C → Option (Label C)
label_in Untouched = None
label_in (Labelled node cost) = Some (record { cost = cost; node = node })
label_in (Settled node cost) = Some (record { cost = cost; node = node })

-- whether a slot is settled
abbrev pub settled_in : {C : Type 0} → Slot C → Bool
settled_in Untouched = false
settled_in (Labelled node cost) = false
settled_in (Settled node cost) = true

-- the label of the vertex v
abbrev pub label_of : {C : Type 0} → List (Slot C) → ℕ → Option (Label C)
label_of s v = label_in (slot_at s v)

-- whether the vertex v is settled
abbrev pub settled_of : {C : Type 0} → List (Slot C) → ℕ → Bool
settled_of s v = settled_in (slot_at s v)

-- f, but y at v
abbrev pub changed : {Y : Type 0} → (ℕ → Y) → ℕ → Y → ℕ → Y
changed f v y u = cond (nat_eq v u) y (f u)

-- v has a label that costs no more than c
abbrev pub LabelWithin : {C : Type 0} → CostOps C → (ℕ → Option (Label C)) → ℕ → C → Type 0
LabelWithin {C} ops label v c = (l : Label C) × (label v ≡ Some l) × NoDearer ops l.cost c

-- c is less than what the label of v costs, if it has one
abbrev pub Improves : {C : Type 0} → CostOps C → (ℕ → Option (Label C)) → ℕ → C → Type 0
Improves {C} ops label v c = (l : Label C) → label v ≡ Some l → ops.cmp c l.cost ≡ Less
