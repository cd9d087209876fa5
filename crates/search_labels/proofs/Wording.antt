-- What slots with words stand for, where one is written and costs are put behind the others.
use Rattle.std.proofs.Common.{◌≡◌, ◌⊎◌, ℕ, ◌+◌, ◌-◌, ◌<◌, ◌≤◌, ◌^◌, inl, inr, Bool, true, false, not, true≢false, List, ◌++◌, length, length-append, Option, Some, None, IfSome, IfNone, arith, refl, sym, ◌∙◌, ap, subst, get_or}
use Rattle.std.specs.Bool.{OnTrue, OnFalse}
use Rattle.std.specs.Ordering.{is_lt}
use Rattle.std.specs.declared.cmp.Ordering.{Ordering}
use Rattle.std.specs.declared.cmp.Ordering.TheVariants.{Less, Equal, Greater}
use Rattle.std.proofs.lemmas.Bool.Decides.{nat_tests}
use Rattle.std.proofs.lemmas.Bool.{cases_lt}
use Rattle.std.proofs.lemmas.Option.{same_Some}
use Rattle.std.proofs.Math.ListN.{get_or-append, get_or-map}
use Rattle.search_graph.specs.Costs.{CostOps, CostLaws, NoDearer}
use Rattle.search_graph.specs.OrderLaws.{le_from_not_less}
use Rattle.search_labels.specs.Labelled.{label_in, settled_in, label_of, changed, LabelWithin}
use Rattle.search_labels.specs.ChangedLaws.{same_place, changed-here, changed-there}
use Rattle.search_labels.specs.Slotted.{slot_at}
use Rattle.search_labels.specs.Worded.{cost_at, read_slot, read_slots, AreWorded}
use Rattle.search_labels.specs.declared.labels.Label.{Label}
use Rattle.search_labels.specs.declared.labels.Slot.{Slot}
use Rattle.search_labels.specs.declared.labels.Slot.TheVariants.{Untouched, Labelled, Settled}
use Rattle.search_labels.proofs.Rewritten.{read_changed}

module _ {C : Type 0} (f : ℕ → C) where
  -- the slot of v is read of its words
  slot_at-read : (others : List C) (slots : List (Slot ℕ)) (v : ℕ) → slot_at (read_slots f others slots) v ≡ read_slot f others (slot_at slots v)
  slot_at-read others slots v = get_or-map (read_slot f others) slots v Untouched

  -- a blank slot reads as one
  pub blank_read : (others : List C) (slots : List (Slot ℕ)) (v : ℕ) → slot_at slots v ≡ Untouched → slot_at (read_slots f others slots) v ≡ Untouched
  blank_read others slots v e = slot_at-read others slots v ∙ ap (read_slot f others) e

  cost_at-short : (others : List C) (w : ℕ) → w < 2 ^ 63 → cost_at f others w ≡ f w
  cost_at-short others w h = grind (arith, nat_tests)

  cost_at-other : (others : List C) (w : ℕ) → 2 ^ 63 ≤ w → cost_at f others w ≡ get_or others (w - 2 ^ 63) (f w)
  cost_at-other others w h = grind (arith, nat_tests)

  -- a word names the same cost when others grow
  cost_at-grown : (others more : List C) (w : ℕ) → w < 2 ^ 63 + length others → cost_at f (others ++ more) w ≡ cost_at f others w
  cost_at-grown others more w lt = elim (cases_lt w (2 ^ 63)) [
    | inl h ↦ cost_at-short (others ++ more) w h ∙ sym (cost_at-short others w h)
    | inr h ↦
        let at : w - 2 ^ 63 < length others = omega arith in
        cost_at-other (others ++ more) w h ∙ get_or-append others more (f w) (w - 2 ^ 63) at ∙ sym (cost_at-other others w h)
  ]

  -- so each slot is what it was
  read_slot-grown : (others more : List C) (slot : Slot ℕ) → ((l : Label ℕ) → label_in slot ≡ Some l → l.cost < 2 ^ 63 + length others) → read_slot f (others ++ more) slot ≡ read_slot f others slot
  read_slot-grown others more Untouched h = refl
  read_slot-grown others more (Labelled node word) h = ap (λ c. Labelled node c) (cost_at-grown others more word (h _ refl))
  read_slot-grown others more (Settled node word) h = ap (λ c. Settled node c) (cost_at-grown others more word (h _ refl))

  -- what is known of v by its words
  label_in-read : (others : List C) (slot : Slot ℕ) → label_in slot ≡ None → label_in (read_slot f others slot) ≡ None
  label_in-read others Untouched e = refl
  label_in-read others (Labelled node word) e = cc
  label_in-read others (Settled node word) e = cc

  settled_in-read : (others : List C) (slot : Slot ℕ) → settled_in slot ≡ true → settled_in (read_slot f others slot) ≡ true
  settled_in-read others Untouched e = e
  settled_in-read others (Labelled node word) e = e
  settled_in-read others (Settled node word) e = refl

-- what holds anyhow holds where there is none
pub IfNone-always : {X P : Type 0} (o : Option X) → P → IfNone o P
IfNone-always (Some x) p = tt
IfNone-always None p = p

-- slots that stand for these
module _ {C : Type 0} (f : ℕ → C) (others : List C) (old : List (Slot ℕ)) (now : List (Slot C)) (is : read_slots f others old ≡ now) where
  slots_same : (u : ℕ) → read_slot f others (slot_at old u) ≡ slot_at now u
  slots_same u = sym (slot_at-read f others old u) ∙ ap (λ slots. slot_at slots u) is

  -- the label of v is read of the words of its slot
  pub label_read : (v : ℕ) (slot : Slot ℕ) → slot_at old v ≡ slot → label_of now v ≡ label_in (read_slot f others slot)
  label_read v slot e = ap label_in (sym (slots_same v) ∙ ap (read_slot f others) e)

  -- they do so still where others have grown
  slots_stay : (more grown : List C) → AreWorded others old → grown ≡ others ++ more → (u : ℕ) → read_slot f grown (slot_at old u) ≡ slot_at now u
  slots_stay more grown are g u =
      ap (λ (xs : List C). read_slot f xs (slot_at old u)) g ∙ read_slot-grown f others more (slot_at old u) (λ l e. (are.each u l e)) ∙ slots_same u

  -- one slot is written among these others
  slot_written : (grown : List C) (written : List (Slot ℕ)) (v : ℕ) (slot : Slot ℕ) → ((u : ℕ) → read_slot f grown (slot_at old u) ≡ slot_at now u) → slot_at written ≡ changed (slot_at old) v slot →
      slot_at (read_slots f grown written) ≡ changed (slot_at now) v (read_slot f grown slot)
  slot_written grown written v slot stays change =
      let all : (λ u. read_slot f grown (slot_at old u)) ≡ slot_at now = λ i u. stays u i in
      (λ i u. (slot_at-read f grown written u ∙ read_changed (read_slot f grown) (slot_at old) (slot_at written) v slot change u) i)
      ∙ ap (λ (h : ℕ → Slot C). changed h v (read_slot f grown slot)) all

  -- a slot is settled, or none
  pub label_settled : (written : List (Slot ℕ)) (v : ℕ) (l : Label ℕ) → (slot_at old v ≡ Labelled l.node l.cost) × (slot_at written ≡ changed (slot_at old) v (Settled l.node l.cost)) →
      (slot_at now v ≡ Labelled l.node (cost_at f others l.cost)) × (slot_at (read_slots f others written) ≡ changed (slot_at now) v (Settled l.node (cost_at f others l.cost)))
  label_settled written v l h = (
    sym (slots_same v) ∙ ap (read_slot f others) h.0,
    slot_written others written v (Settled l.node l.cost) slots_same h.1,
  )

  pub none_settled : (written : List (Slot ℕ)) (v : ℕ) → (slot_at written ≡ slot_at old) × ((settled_in (slot_at old v) ≡ true) ⊎ (label_in (slot_at old v) ≡ None)) →
      (slot_at (read_slots f others written) ≡ slot_at now) × ((settled_in (slot_at now v) ≡ true) ⊎ (label_in (slot_at now v) ≡ None))
  none_settled written v h = (
    (λ i u. (slot_at-read f others written u ∙ ap (λ (k : ℕ → Slot ℕ). read_slot f others (k u)) h.0 ∙ slots_same u) i),
    elim h.1 [
      | inl e ↦ inl (ap settled_in (sym (slots_same v)) ∙ settled_in-read f others (slot_at old v) e)
      | inr e ↦ inr (ap label_in (sym (slots_same v)) ∙ label_in-read f others (slot_at old v) e)
    ],
  )

  -- a label is put
  pub label_put : (more grown : List C) (written : List (Slot ℕ)) (v word node : ℕ) (label : Label C) → AreWorded others old → grown ≡ others ++ more →
      slot_at written ≡ changed (slot_at old) v (Labelled node word) → cost_at f grown word ≡ label.cost → node ≡ label.node →
      slot_at (read_slots f grown written) ≡ changed (slot_at now) v (Labelled label.node label.cost)
  label_put more grown written v word node label are g change cost same_node =
      slot_written grown written v (Labelled node word) (slots_stay more grown are g) change
      ∙ ap (λ c. changed (slot_at now) v (Labelled node c)) cost ∙ ap (λ n. changed (slot_at now) v (Labelled n label.cost)) same_node

-- words name costs still
module _ {C : Type 0} (others : List C) (old : List (Slot ℕ)) (are : AreWorded others old) where
  pub AreWorded-same : (new : List (Slot ℕ)) → slot_at new ≡ slot_at old → AreWorded others new
  AreWorded-same new same = record {
    few = are.few;
    each = λ v l e. are.each v l (ap (λ (k : ℕ → Slot ℕ). label_in (k v)) (sym same) ∙ e);
  }

  pub AreWorded-grown : (more grown : List C) → grown ≡ others ++ more → length grown < 2 ^ 63 → AreWorded grown old
  AreWorded-grown more grown g few = record {
    few = few;
    each = λ v l e.
        let lt = are.each v l e in
        let size : length grown ≡ length others + length more = ap length g ∙ length-append others more in
        omega arith;
  }

  pub AreWorded-written : (new : List (Slot ℕ)) (v : ℕ) (slot : Slot ℕ) → slot_at new ≡ changed (slot_at old) v slot → ((l : Label ℕ) → label_in slot ≡ Some l → (l.cost < 2 ^ 63 + length others)) → AreWorded others new
  AreWorded-written new v slot change names = record {
    few = are.few;
    each = λ u l e.
        let is : label_in (changed (slot_at old) v slot u) ≡ Some l = ap (λ (k : ℕ → Slot ℕ). label_in (k u)) (sym change) ∙ e in
        elim (same_place v u) [
          | inl k ↦ names l (ap label_in (sym (changed-here (slot_at old) v slot u k)) ∙ is)
          | inr k ↦ are.each u l (ap label_in (sym (changed-there (slot_at old) v slot u k)) ∙ is)
        ];
  }

  pub AreWorded-settled : (new : List (Slot ℕ)) (v : ℕ) (o : Option (Label ℕ)) → IfSome o (λ l. (slot_at old v ≡ Labelled l.node l.cost) × (slot_at new ≡ changed (slot_at old) v (Settled l.node l.cost))) →
      IfNone o ((slot_at new ≡ slot_at old) × ((settled_in (slot_at old v) ≡ true) ⊎ (label_in (slot_at old v) ≡ None))) → AreWorded others new
  AreWorded-settled new v (Some l) s n = AreWorded-written new v (Settled l.node l.cost) s.1 (λ m e. are.each v m (ap label_in s.0 ∙ e))
  AreWorded-settled new v None s n = AreWorded-same new n.0

  -- a label is put whose word names a cost among those that have grown
  pub AreWorded-put : (more grown : List C) (written : List (Slot ℕ)) (v word node : ℕ) → grown ≡ others ++ more → length grown < 2 ^ 63 →
      slot_at written ≡ changed (slot_at old) v (Labelled node word) → word < 2 ^ 63 + length grown → AreWorded grown written
  AreWorded-put more grown written v word node g few change named =
      let before = AreWorded-grown more grown g few in
      record {
        few = few;
        each = λ u l e.
            let is : label_in (changed (slot_at old) v (Labelled node word) u) ≡ Some l = ap (λ (k : ℕ → Slot ℕ). label_in (k u)) (sym change) ∙ e in
            elim (same_place v u) [
              | inl k ↦ subst (λ (m : Label ℕ). m.cost < 2 ^ 63 + length grown) (same_Some _ l (ap label_in (sym (changed-here (slot_at old) v (Labelled node word) u k)) ∙ is)) named
              | inr k ↦ before.each u l (ap label_in (sym (changed-there (slot_at old) v (Labelled node word) u k)) ∙ is)
            ];
      }

Less_from : (r : Ordering) → is_lt r ≡ true → r ≡ Less
Less_from Less h = refl
Less_from Equal h = absurd (true≢false (sym h))
Less_from Greater h = absurd (true≢false (sym h))

-- of two costs that are compared b is less than a, or a is no dearer
module _ {C : Type 0} {ops : CostOps C} (laws : CostLaws ops) (cmp : C → C → Ordering) (same : ops.cmp ≡ cmp) (a b : C) (less : Bool) (is : less ≡ is_lt (cmp b a)) where
  is_lt-cmp : is_lt (ops.cmp b a) ≡ less
  is_lt-cmp = ap (λ (f : C → C → Ordering). is_lt (f b a)) same ∙ sym is

  by_less : (x : Bool) → less ≡ x → OnTrue (not x) (NoDearer ops a b) × OnFalse (not x) (ops.cmp b a ≡ Less)
  by_less true e = (tt, Less_from (ops.cmp b a) (is_lt-cmp ∙ e))
  by_less false e = (le_from_not_less laws b a (is_lt-cmp ∙ e), tt)

  pub OnTrue-NoDearer : OnTrue (not less) (NoDearer ops a b)
  OnTrue-NoDearer = (by_less less refl).0

  pub OnFalse-Less : OnFalse (not less) (ops.cmp b a ≡ Less)
  OnFalse-Less = (by_less less refl).1

-- v has a label within c where the cost of its label is
module _ {C : Type 0} (ops : CostOps C) (label : ℕ → Option (Label C)) (v : ℕ) (c : C) (l : Label C) (is : label v ≡ Some l) where
  pub OnTrue-LabelWithin : (b : Bool) → OnTrue b (NoDearer ops l.cost c) → OnTrue b (LabelWithin ops label v c)
  OnTrue-LabelWithin true h = (l, is, h)
  OnTrue-LabelWithin false h = tt
