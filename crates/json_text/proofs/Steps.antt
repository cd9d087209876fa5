-- Each call in a legal order makes a part of a JSON value of a part of one.
use Rattle.std.proofs.Common.{◌≡◌, ℕ, List, [], ◌∷◌, ◌++◌, refl, sym, ap, subst, append_assoc, append-nil}
use Rattle.json.specs.Print.{quoted}
use Rattle.json_text.specs.declared.draft.Container.{Container}
use Rattle.json_text.specs.declared.draft.Container.TheVariants as container
use Rattle.json_text.specs.declared.draft.Last.{Last}
use Rattle.json_text.specs.declared.draft.Last.TheVariants as last
use Rattle.json_text.specs.Values.{JsonValue, array, object, Items, no_items, item, Members, no_members, member, compact_text, items_text, later_items_text, members_text, later_members_text}
use Rattle.json_text.specs.Drafts.{Draft, TakesValue, TakesKey, TakesEnd, comma_text, opening_bracket, closing_bracket, outer_of, begun, ended, with_key, with_value}
use Rattle.json_text.specs.Parts.{Frame, in_array, in_object, Part, nothing, finished, items, members, key, last_of_items, last_of_members, frames_text, containers_of, draft_of, IsPart}

-- the items, and one more behind them
abbrev pub add_item : Items → JsonValue → Items
add_item no_items v = item v no_items
add_item (item w vs) v = item w (add_item vs v)

-- the members, and one more behind them
abbrev pub add_member : Members → List ℕ → JsonValue → Members
add_member no_members k v = member k v no_members
add_member (member l w ms) k v = member l w (add_member ms k v)

-- regroupings of lists that are joined
front_in : (a b c d : List ℕ) → a ++ (b ++ c ++ d) ≡ a ++ b ++ c ++ d
front_in a b c d = simp append_assoc

comma_out : (a b q v : List ℕ) → a ++ (b ++ 44 ∷ q ++ v) ≡ a ++ b ++ (44 ∷ []) ++ q ++ v
comma_out a b q v = simp append_assoc

frames_out : (f m c q v : List ℕ) → f ++ (123 ∷ m ++ c ++ q ++ 58 ∷ []) ++ v ≡ f ++ 123 ∷ (m ++ c ++ q ++ 58 ∷ v)
frames_out f m c q v = simp append_assoc

frames_in : (f m c q : List ℕ) → f ++ 123 ∷ m ++ c ++ q ++ 58 ∷ [] ≡ f ++ (123 ∷ m ++ c ++ q ++ 58 ∷ [])
frames_in f m c q = simp append_assoc

later_items_text-add_item : (vs : Items) (v : JsonValue) → later_items_text (add_item vs v) ≡ later_items_text vs ++ 44 ∷ compact_text v
later_items_text-add_item no_items v = append-nil (44 ∷ compact_text v)
later_items_text-add_item (item w vs) v = rw (later_items_text-add_item vs v) (simp append_assoc)

items_text-add_item : (vs : Items) (v : JsonValue) → items_text (add_item vs v) ≡ items_text vs ++ comma_text (last_of_items vs) ++ compact_text v
items_text-add_item no_items v = append-nil (compact_text v)
items_text-add_item (item w vs) v = rw (later_items_text-add_item vs v) (simp append_assoc)

later_members_text-add_member : (ms : Members) (k : List ℕ) (v : JsonValue)
    → later_members_text (add_member ms k v) ≡ later_members_text ms ++ 44 ∷ quoted k ++ 58 ∷ compact_text v
later_members_text-add_member no_members k v = append-nil (44 ∷ quoted k ++ 58 ∷ compact_text v)
later_members_text-add_member (member l w ms) k v =
    rw (later_members_text-add_member ms k v) (front_in (44 ∷ quoted l ++ 58 ∷ compact_text w) (later_members_text ms) (44 ∷ quoted k) (58 ∷ compact_text v))

members_text-add_member : (ms : Members) (k : List ℕ) (v : JsonValue)
    → members_text (add_member ms k v) ≡ members_text ms ++ comma_text (last_of_members ms) ++ quoted k ++ 58 ∷ compact_text v
members_text-add_member no_members k v = append-nil (quoted k ++ 58 ∷ compact_text v)
members_text-add_member (member l w ms) k v =
    rw (later_members_text-add_member ms k v) (comma_out (quoted l ++ 58 ∷ compact_text w) (later_members_text ms) (quoted k) (58 ∷ compact_text v))

last_of_items-add_item : (vs : Items) (v : JsonValue) → last_of_items (add_item vs v) ≡ last.Value
last_of_items-add_item no_items v = refl
last_of_items-add_item (item w vs) v = refl

last_of_members-add_member : (ms : Members) (k : List ℕ) (v : JsonValue) → last_of_members (add_member ms k v) ≡ last.Value
last_of_members-add_member no_members k v = refl
last_of_members-add_member (member l w ms) k v = refl

-- drafts with equal parts are equal
same_draft : (a b : List ℕ) (c e : List Container) (l m : Last) → a ≡ b → c ≡ e → l ≡ m
    → let x : Draft = record { bytes = a; containers = c; latest = l } in let y : Draft = record { bytes = b; containers = e; latest = m } in x ≡ y
same_draft a b c e l m p q r = cc

-- a value that stands whole inside the frames is a part
value_inside : (outer : List Frame) (v : JsonValue)
    → IsPart (record { bytes = frames_text outer ++ compact_text v; containers = containers_of outer; latest = last.Value })
value_inside [] v = (finished v, refl)
value_inside (in_array vs ∷ outer) v =
    (items (add_item vs v) outer, same_draft _ _ _ _ _ _ (rw items_text-add_item (simp append_assoc)) refl (sym (last_of_items-add_item vs v)))
value_inside (in_object ms k ∷ outer) v =
    (members (add_member ms k v) outer, same_draft _ _ _ _ _ _ (rw members_text-add_member (frames_out (frames_text outer) (members_text ms) (comma_text (last_of_members ms)) (quoted k) (compact_text v))) refl (sym (last_of_members-add_member ms k v)))

-- the frames in which the next value stands
record Hole (d : Draft) : Type 0 where
  outer : List Frame
  text : d.bytes ++ comma_text d.latest ≡ frames_text outer
  around : d.containers ≡ containers_of outer

hole : (p : Part) → TakesValue (draft_of p) → Hole (draft_of p)
hole nothing may = record { outer = []; text = refl; around = refl }
hole (finished v) may = absurd (cc)
hole (items vs outer) may = record { outer = in_array vs ∷ outer; text = simp append_assoc; around = refl }
hole (members no_members outer) may = absurd (cc)
hole (members (member k v ms) outer) may = absurd (cc)
hole (key k ms outer) may = record { outer = in_object ms k ∷ outer; text = append-nil _; around = refl }

hole_of : (d : Draft) → IsPart d → TakesValue d → Hole d
hole_of d (p, is) may = subst Hole (sym is) (hole p (subst TakesValue is may))

pub IsPart-with_value : (d : Draft) → IsPart d → TakesValue d → (v : JsonValue) → IsPart (with_value v d)
IsPart-with_value d part may v =
    let h = hole_of d part may in
    subst IsPart (same_draft _ _ _ _ _ _ (ap (λ (t : List ℕ). t ++ compact_text v) (sym h.text)) (sym h.around) refl) (value_inside h.outer v)

pub IsPart-begun : (c : Container) (d : Draft) → IsPart d → TakesValue d → IsPart (begun c d)
IsPart-begun container.Array d part may =
    let h = hole_of d part may in
    (items no_items h.outer, same_draft _ _ _ _ _ _ (ap (λ (t : List ℕ). t ++ 91 ∷ []) h.text) (ap (λ (c : List Container). container.Array ∷ c) h.around) refl)
IsPart-begun container.Object d part may =
    let h = hole_of d part may in
    (members no_members h.outer, same_draft _ _ _ _ _ _ (ap (λ (t : List ℕ). t ++ 123 ∷ []) h.text) (ap (λ (c : List Container). container.Object ∷ c) h.around) refl)

with_key_part : (p : Part) → TakesKey (draft_of p) → (k : List ℕ) → IsPart (with_key k (draft_of p))
with_key_part nothing may k = absurd (cc)
with_key_part (finished v) may k = absurd (cc)
with_key_part (items vs outer) may k = absurd (cc)
with_key_part (members ms outer) may k =
    (key k ms outer, same_draft _ _ _ _ _ _ (frames_in (frames_text outer) (members_text ms) (comma_text (last_of_members ms)) (quoted k)) refl refl)
with_key_part (key l ms outer) may k = absurd (cc)

pub IsPart-with_key : (d : Draft) → IsPart d → TakesKey d → (k : List ℕ) → IsPart (with_key k d)
IsPart-with_key d (p, is) may k = subst (λ (x : Draft). IsPart (with_key k x)) (sym is) (with_key_part p (subst TakesKey is may) k)

ended_part : (c : Container) (p : Part) → TakesEnd c (draft_of p) → IsPart (ended c (draft_of p))
ended_part container.Array nothing may = absurd (cc)
ended_part container.Array (finished v) may = absurd (cc)
ended_part container.Array (items vs outer) may =
    subst IsPart (same_draft _ _ _ _ _ _ (sym (append_assoc (frames_text outer) (91 ∷ items_text vs) (93 ∷ []))) refl refl) (value_inside outer (array vs))
ended_part container.Array (members ms outer) may = absurd (cc)
ended_part container.Array (key k ms outer) may = absurd (cc)
ended_part container.Object nothing may = absurd (cc)
ended_part container.Object (finished v) may = absurd (cc)
ended_part container.Object (items vs outer) may = absurd (cc)
ended_part container.Object (members ms outer) may =
    subst IsPart (same_draft _ _ _ _ _ _ (sym (append_assoc (frames_text outer) (123 ∷ members_text ms) (125 ∷ []))) refl refl) (value_inside outer (object ms))
ended_part container.Object (key k ms outer) may = absurd (cc)

pub IsPart-ended : (c : Container) (d : Draft) → IsPart d → TakesEnd c d → IsPart (ended c d)
IsPart-ended c d (p, is) may = subst (λ (x : Draft). IsPart (ended c x)) (sym is) (ended_part c p (subst (TakesEnd c) is may))

-- the same over the fields of a `Json`, whose containers stand the other way round
pub value_kept : (old : Draft) (bytes value : List ℕ) (v : JsonValue) → IsPart old → TakesValue old → value ≡ compact_text v
    → bytes ≡ old.bytes ++ comma_text old.latest ++ value
    → IsPart (record { bytes = bytes; containers = old.containers; latest = last.Value })
value_kept old bytes value v part may is same =
    subst IsPart (same_draft _ _ _ _ _ _ (sym (rw (← is) same)) refl refl) (IsPart-with_value old part may v)

pub key_kept : (old : Draft) (bytes name : List ℕ) → IsPart old → TakesKey old
    → bytes ≡ old.bytes ++ comma_text old.latest ++ quoted name ++ 58 ∷ []
    → IsPart (record { bytes = bytes; containers = old.containers; latest = last.Key })
key_kept old bytes name part may same = subst IsPart (same_draft _ _ _ _ _ _ (sym same) refl refl) (IsPart-with_key old part may name)

pub begin_kept : (c : Container) (old : Draft) (bytes : List ℕ) (containers : List Container) → IsPart old → TakesValue old
    → bytes ≡ old.bytes ++ comma_text old.latest ++ opening_bracket c → containers ≡ c ∷ old.containers
    → IsPart (record { bytes = bytes; containers = containers; latest = last.Opening })
begin_kept c old bytes containers part may same around = subst IsPart (same_draft _ _ _ _ _ _ (sym same) (sym around) refl) (IsPart-begun c old part may)

pub end_kept : (c : Container) (old : Draft) (bytes : List ℕ) (containers : List Container) → IsPart old → TakesEnd c old
    → bytes ≡ old.bytes ++ closing_bracket c → containers ≡ outer_of old.containers
    → IsPart (record { bytes = bytes; containers = containers; latest = last.Value })
end_kept c old bytes containers part may same around = subst IsPart (same_draft _ _ _ _ _ _ (sym same) (sym around) refl) (IsPart-ended c old part may)
