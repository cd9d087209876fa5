-- How the labels change where one slot is written.
use Rattle.std.proofs.Common.{◌≡◌, ◌⊎◌, ℕ, inl, inr, Bool, true, false, cond, nat_eq, List, Option, Some, None, IfSome, IfNone, refl, sym, ◌∙◌, ap}
use Rattle.search_labels.specs.Labelled.{label_in, settled_in, label_of, settled_of, changed}
use Rattle.search_labels.specs.ChangedLaws.{same_place, changed-here, changed-there}
use Rattle.search_labels.specs.Slotted.{slot_at}
use Rattle.search_labels.specs.declared.labels.Label.{Label}
use Rattle.search_labels.specs.declared.labels.Slot.{Slot}
use Rattle.search_labels.specs.declared.labels.Slot.TheVariants.{Labelled, Settled}

-- what is read of a function that changed at a place, changed there
module _ {Y Z : Type 0} (h : Y → Z) where
  read_choice : (b : Bool) (x y : Y) → h (cond b x y) ≡ cond b (h x) (h y)
  read_choice true x y = refl
  read_choice false x y = refl

  pub read_changed : (f g : ℕ → Y) (v : ℕ) (y : Y) → g ≡ changed f v y → (u : ℕ) → h (g u) ≡ changed (λ w. h (f w)) v (h y) u
  read_changed f g v y e u = ap (λ (k : ℕ → Y). h (k u)) e ∙ read_choice (nat_eq v u) y (f u)

-- a change to what was there is none
changed_same : {Y : Type 0} (f : ℕ → Y) (v : ℕ) (y : Y) → f v ≡ y → (u : ℕ) → changed f v y u ≡ f u
changed_same f v y e u = elim (same_place v u) [
  | inl k ↦ changed-here f v y u k ∙ sym e ∙ ap f k
  | inr k ↦ changed-there f v y u k
]

-- the slot of v is written
module _ {C : Type 0} (old new : List (Slot C)) (v : ℕ) (slot : Slot C) (change : slot_at new ≡ changed (slot_at old) v slot) where
  pub label_written : label_of new ≡ changed (label_of old) v (label_in slot)
  label_written = λ i u. read_changed label_in (slot_at old) (slot_at new) v slot change u i

  pub settled_written : settled_of new ≡ changed (settled_of old) v (settled_in slot)
  settled_written = λ i u. read_changed settled_in (slot_at old) (slot_at new) v slot change u i

  pub label_stays : label_of old v ≡ label_in slot → label_of new ≡ label_of old
  label_stays e = label_written ∙ (λ i u. changed_same (label_of old) v (label_in slot) e u i)

  pub settled_stays : settled_of old v ≡ settled_in slot → settled_of new ≡ settled_of old
  settled_stays e = settled_written ∙ (λ i u. changed_same (settled_of old) v (settled_in slot) e u i)

-- the slot of v is settled where it has a label and isn't settled
module _ {C : Type 0} (old new : List (Slot C)) (v : ℕ) where
  abbrev pub IsSettled : Option (Label C) → Type 0
  IsSettled o = IfSome o (λ l. (slot_at old v ≡ Labelled l.node l.cost) × (slot_at new ≡ changed (slot_at old) v (Settled l.node l.cost)))

  abbrev pub IsLeft : Option (Label C) → Type 0
  IsLeft o = IfNone o ((slot_at new ≡ slot_at old) × ((settled_in (slot_at old v) ≡ true) ⊎ (label_in (slot_at old v) ≡ None)))

  pub settling_label : (o : Option (Label C)) → IsSettled o → IsLeft o → label_of new ≡ label_of old
  settling_label (Some l) s n = label_stays old new v (Settled l.node l.cost) s.1 (ap label_in s.0)
  settling_label None s n = ap (λ (f : ℕ → Slot C). λ (u : ℕ). label_in (f u)) n.0

  pub settling_some : (o : Option (Label C)) → IsSettled o → IfSome o (λ l. (label_of old v ≡ Some l) × (settled_of old v ≡ false) × (settled_of new ≡ changed (settled_of old) v true))
  settling_some (Some l) s = (ap label_in s.0, ap settled_in s.0, settled_written old new v (Settled l.node l.cost) s.1)
  settling_some None s = s

  pub settling_none : (o : Option (Label C)) → IsLeft o → IfNone o ((settled_of new ≡ settled_of old) × ((settled_of old v ≡ true) ⊎ (label_of old v ≡ None)))
  settling_none (Some l) n = n
  settling_none None n = (ap (λ (f : ℕ → Slot C). λ (u : ℕ). settled_in (f u)) n.0, n.1)
