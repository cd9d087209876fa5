-- Where the slot of a vertex stands, and what a slot that is written, or put behind the others, changes.
use Rattle.std.proofs.Common.{◌≡◌, ◌≢◌, ◌⊎◌, ℕ, ◌+◌, ◌-◌, ◌^◌, ◌<◌, ◌≤◌, inl, inr, Some, List, [], ◌∷◌, ◌++◌, length, get_or, Result, Ok, Err, OnErr, refl, sym, ◌∙◌, ap, subst, false, nat_eq, true≢false, eq-eqb, arith, length-append, get_or-set_same, get_or-set_other}
use Rattle.std.proofs.Math.ListN.{set, length-set}
use Rattle.std.proofs.Math.Seq.{map-set_same}
use Rattle.std.proofs.lemmas.Bool.{cases_lt}
use Rattle.std.proofs.lemmas.Bool.Decides.{nat_tests}
use Rattle.std.proofs.lemmas.Option.{same_Some, slice_get_within, slice_get-map, slice_get-get_or}
use Rattle.std.proofs.lemmas.List.{get_or_append_left, get_or-append_right, get_or_past, get_or-map, length-map, map-set, map_push}
use Rattle.std.proofs.lemmas.List.Elements.{All-set, All-push, All-weaker, All-get_or}
use Rattle.std.specs.List.{slice_get}
use Rattle.std.specs.Option.{option_map}
use Rattle.list_lemmas.proofs.Gets.{get_append, get_pushed}
use Rattle.search_labels.specs.Labelled.{changed}
use Rattle.search_labels.specs.ChangedLaws.{same_place, changed-here, changed-there}
use Rattle.search_labels.specs.Slotted.{unmade, place_of, slots_of, slot_at, slot_in, slots_in, vertices_in, ArePlaced, IsSlotted}
use Rattle.search_labels.specs.declared.labels.Slot.{Slot}
use Rattle.search_labels.specs.declared.labels.Slot.TheVariants.{Untouched, Labelled, Settled}
use Rattle.search_labels.specs.declared.slots.Made.{Made}

-- the place of v, as it is computed from the table that was borrowed
pub place_is : (table borrowed : List ℕ) (i v : ℕ) → borrowed ≡ table → i ≡ place_of borrowed v → i ≡ place_of table v
place_is table borrowed i v e is = is ∙ ap (λ (t : List ℕ). place_of t v) e

-- a slot says that its vertex has a label, where nothing is added to the node
module _ {C : Type 0} (slot : Made C) where
  pub slot_in-labelled : slot.node < 2 ^ 31 → slot_in slot ≡ Labelled slot.node slot.cost
  slot_in-labelled lt = grind (arith, nat_tests)

  -- and that it is settled, where 2^31 is
  pub slot_in-settling : slot.node < 2 ^ 31 → slot_in (record { vertex = slot.vertex; node = slot.node + 2147483648; cost = slot.cost }) ≡ Settled slot.node slot.cost
  slot_in-settling lt = grind (arith, nat_tests)

module _ {C : Type 0} (table : List ℕ) (made : List (Made C)) (few : length made ≤ unmade) where
  -- the slot of v is where the table says
  slot_at-place : (v : ℕ) → slot_at (slots_of table (slots_in made)) v ≡ slot_at (slots_in made) (place_of table v)
  slot_at-place v = elim (cases_lt v (length table)) [
    | inl lt ↦ get_or-map (slot_at (slots_in made)) table v unmade Untouched lt
    | inr le ↦
        let size : length (slots_of table (slots_in made)) ≡ length table = length-map table (slot_at (slots_in made)) in
        let count : length (slots_in made) ≡ length made = length-map made slot_in in
        get_or_past (slots_of table (slots_in made)) v Untouched (omega arith)
        ∙ sym (ap (slot_at (slots_in made)) (get_or_past table v unmade le) ∙ get_or_past (slots_in made) unmade Untouched (omega arith))
  ]

  -- so it is what the one that is made there says
  pub slot_at-made : (i v : ℕ) (slot : Made C) → i ≡ place_of table v → i < length made → slot ≡ get_or made i slot → slot_at (slots_of table (slots_in made)) v ≡ slot_in slot
  slot_at-made i v slot at lt is = slot_at-place v ∙ ap (slot_at (slots_in made)) (sym at) ∙ get_or-map slot_in made i slot Untouched lt ∙ ap slot_in (sym is)

  -- and there is none past those that are made
  slot_at-past : (i v : ℕ) → i ≡ place_of table v → length made ≤ i → slot_at (slots_of table (slots_in made)) v ≡ Untouched
  slot_at-past i v at le =
      let count : length (slots_in made) ≡ length made = length-map made slot_in in
      slot_at-place v ∙ ap (slot_at (slots_in made)) (sym at) ∙ get_or_past (slots_in made) i Untouched (omega arith)

-- no two vertices that have slots have one place
apart : (table vertices : List ℕ) → ArePlaced table vertices → (u v : ℕ) → place_of table u ≡ place_of table v → place_of table u < unmade → u ≡ v
apart table vertices h u v e lt = elim (h.each u) [
  | inl none ↦ absurd (omega arith)
  | inr a ↦ elim (h.each v) [
    | inl none ↦ absurd (omega arith)
    | inr b ↦ same_Some u v (sym a ∙ ap (slice_get vertices) e ∙ b)
  ]
]

-- where places stay so do the slots
module _ {C : Type 0} (table : List ℕ) (made : List (Made C)) (h : IsSlotted table made) (new : List ℕ) (same : (u : ℕ) → place_of new u ≡ place_of table u) (more : List (Made C)) (e : more ≡ made) where
  pub slot_at-kept : slot_at (slots_of new (slots_in more)) ≡ slot_at (slots_of table (slots_in made))
  slot_at-kept =
      let at : (u : ℕ) → slot_at (slots_of new (slots_in made)) u ≡ slot_at (slots_of table (slots_in made)) u = λ u. slot_at-place new made h.few u ∙ ap (slot_at (slots_in made)) (same u) ∙ sym (slot_at-place table made h.few u) in
      ap (λ (s : List (Made C)). slot_at (slots_of new (slots_in s))) e ∙ (λ i u. at u i)

-- the one at the place of v is that of v
module _ {C : Type 0} (table : List ℕ) (made : List (Made C)) (h : IsSlotted table made) (i v : ℕ) (at : i ≡ place_of table v) (lt : i < length made) where
  vertex_is : (d : Made C) → (get_or made i d).vertex ≡ v
  vertex_is d = elim (h.places.each v) [
    | inl none ↦ let few = h.few in absurd (omega arith)
    | inr c ↦
        let got : slice_get (vertices_in made) i ≡ Some ((get_or made i d).vertex) = slice_get-map (λ (s : Made C). s.vertex) made i ∙ ap (option_map (λ (s : Made C). s.vertex)) (slice_get-get_or made i d lt) in
        same_Some _ v (sym got ∙ ap (slice_get (vertices_in made)) at ∙ c)
  ]

  pub vertex_read : (slot : Made C) → slot ≡ get_or made i slot → slot.vertex ≡ v
  vertex_read slot e = ap (λ (s : Made C). s.vertex) e ∙ vertex_is slot

-- one slot is written
module _ {C : Type 0} (table : List ℕ) (made : List (Made C)) (h : IsSlotted table made) (slot : Made C) where
  -- in place of that of its vertex
  module _ (i v : ℕ) (at : i ≡ place_of table v) (its : slot.vertex ≡ v) (lt : i < length made) where
    abbrev written : List (Made C)
    written = set made i slot

    few_written : length written ≤ unmade
    few_written = let few = h.few in omega (arith, length-set made i slot)

    other_place : (u : ℕ) → v ≢ u → place_of table u ≢ i
    other_place u ne e =
        let few = h.few in
        let below : place_of table v < unmade = omega arith in
        ne (apart table (vertices_in made) h.places v u (sym at ∙ sym e) below)

    written_at : (u : ℕ) → slot_at (slots_in written) (place_of table u) ≡ changed (λ w. slot_at (slots_in made) (place_of table w)) v (slot_in slot) u
    written_at u =
        let count : length (slots_in made) ≡ length made = length-map made slot_in in
        ap (λ (s : List (Slot C)). slot_at s (place_of table u)) (map-set slot_in made i slot) ∙ elim (same_place v u) [
          | inl e ↦
              let here : place_of table u ≡ i = ap (place_of table) (sym e) ∙ sym at in
              ap (slot_at (set (slots_in made) i (slot_in slot))) here ∙ get_or-set_same (slots_in made) i (slot_in slot) Untouched (omega arith)
              ∙ sym (changed-here (λ w. slot_at (slots_in made) (place_of table w)) v (slot_in slot) u e)
          | inr ne ↦
              get_or-set_other (slots_in made) i (place_of table u) (slot_in slot) Untouched (other_place u (λ e. true≢false (sym (eq-eqb v u e) ∙ ne)))
              ∙ sym (changed-there (λ w. slot_at (slots_in made) (place_of table w)) v (slot_in slot) u ne)
        ]

    pub slot_at-written : (now : List (Slot C)) (said : Slot C) → slots_of table (slots_in made) ≡ now → slot_in slot ≡ said → slot_at (slots_of table (slots_in written)) ≡ changed (slot_at now) v said
    slot_at-written now said is says =
        let old : slot_at (slots_of table (slots_in made)) ≡ (λ w. slot_at (slots_in made) (place_of table w)) = λ k u. slot_at-place table made h.few u k in
        (λ k u. (slot_at-place table written few_written u ∙ written_at u) k) ∙ ap (λ (f : ℕ → Slot C). changed f v (slot_in slot)) (sym old)
        ∙ ap (λ (s : List (Slot C)). changed (slot_at s) v (slot_in slot)) is ∙ ap (changed (slot_at now) v) says

    pub IsSlotted-written : IsSlotted table written
    IsSlotted-written =
        let same : vertices_in written ≡ vertices_in made = map-set_same (λ (s : Made C). s.vertex) made i slot slot (its ∙ sym (vertex_is table made h i v at lt slot)) in
        let reach : (get_or made i slot).vertex < length table = All-get_or (λ (s : Made C). s.vertex < length table) made i slot lt h.reached in
        record {
          places = subst (λ (t : List ℕ). ArePlaced table t) (sym same) h.places;
          reached = All-set (λ (s : Made C). s.vertex < length table) made i slot (subst (λ (w : ℕ). w < length table) (vertex_is table made h i v at lt slot ∙ sym its) reach) h.reached;
          few = few_written;
        }

  -- behind the others, at a place that is put into a table that reaches so far
  module _ (place : ℕ) (last : place ≡ length made) (room : place < unmade) (wide : List ℕ) (reaches : slot.vertex < length wide) (longer : length table ≤ length wide) (same : (u : ℕ) → place_of wide u ≡ place_of table u) where
    abbrev v : ℕ
    v = slot.vertex

    abbrev placed : List ℕ
    placed = set wide v place

    abbrev more : List (Made C)
    more = made ++ slot ∷ []

    placed_here : (u : ℕ) → v ≡ u → place_of placed u ≡ length made
    placed_here u e = ap (place_of placed) (sym e) ∙ get_or-set_same wide v place unmade reaches ∙ last

    placed_there : (u : ℕ) → nat_eq v u ≡ false → place_of placed u ≡ place_of table u
    placed_there u ne = get_or-set_other wide v u place unmade (λ e. true≢false (sym (eq-eqb v u (sym e)) ∙ ne)) ∙ same u

    few_more : length more ≤ unmade
    few_more = let size : length more ≡ length made + 1 = length-append made (slot ∷ []) in omega arith

    -- the slots of the others stand where they stood
    stays : (u : ℕ) → slot_at (slots_in made ++ slot_in slot ∷ []) (place_of table u) ≡ slot_at (slots_in made) (place_of table u)
    stays u =
        let count : length (slots_in made) ≡ length made = length-map made slot_in in
        elim (cases_lt (place_of table u) (length (slots_in made))) [
          | inl lt ↦ get_or_append_left (slots_in made) (slot_in slot ∷ []) Untouched (place_of table u) lt
          | inr le ↦
              let past : length (slots_in made ++ slot_in slot ∷ []) ≤ place_of table u = elim (h.places.each u) [
                | inl none ↦ let size : length (slots_in made ++ slot_in slot ∷ []) ≡ length (slots_in made) + 1 = length-append (slots_in made) (slot_in slot ∷ []) in omega arith
                | inr c ↦
                    let lt : place_of table u < length (vertices_in made) = slice_get_within (vertices_in made) (place_of table u) u c in
                    let paired : length (vertices_in made) ≡ length made = length-map made (λ (s : Made C). s.vertex) in
                    absurd (omega arith)
              ] in
              get_or_past (slots_in made ++ slot_in slot ∷ []) (place_of table u) Untouched past ∙ sym (get_or_past (slots_in made) (place_of table u) Untouched le)
        ]

    appended_at : (u : ℕ) → slot_at (slots_in made ++ slot_in slot ∷ []) (place_of placed u) ≡ changed (λ w. slot_at (slots_in made) (place_of table w)) v (slot_in slot) u
    appended_at u = elim (same_place v u) [
      | inl e ↦
          let count : length (slots_in made) ≡ length made = length-map made slot_in in
          let first : length made - length made ≡ 0 = omega arith in
          ap (slot_at (slots_in made ++ slot_in slot ∷ [])) (placed_here u e) ∙ get_or-append_right (slots_in made) (slot_in slot ∷ []) (length made) (length made) Untouched count (omega arith)
          ∙ ap (slot_at (slot_in slot ∷ [])) first ∙ sym (changed-here (λ w. slot_at (slots_in made) (place_of table w)) v (slot_in slot) u e)
      | inr ne ↦ ap (slot_at (slots_in made ++ slot_in slot ∷ [])) (placed_there u ne) ∙ stays u ∙ sym (changed-there (λ w. slot_at (slots_in made) (place_of table w)) v (slot_in slot) u ne)
    ]

    pub slot_at-appended : (items : List (Made C)) (now : List (Slot C)) → items ≡ more → slots_of table (slots_in made) ≡ now → slot_at (slots_of placed (slots_in items)) ≡ changed (slot_at now) v (slot_in slot)
    slot_at-appended items now e is =
        let old : slot_at (slots_of table (slots_in made)) ≡ (λ w. slot_at (slots_in made) (place_of table w)) = λ k u. slot_at-place table made h.few u k in
        let new : (u : ℕ) → slot_at (slots_in more) (place_of placed u) ≡ slot_at (slots_in made ++ slot_in slot ∷ []) (place_of placed u) = λ u. ap (λ (s : List (Slot C)). slot_at s (place_of placed u)) (map_push slot_in made slot) in
        ap (λ (s : List (Made C)). slot_at (slots_of placed (slots_in s))) e ∙ (λ k u. (slot_at-place placed more few_more u ∙ new u ∙ appended_at u) k) ∙ ap (λ (f : ℕ → Slot C). changed f v (slot_in slot)) (sym old)
        ∙ ap (λ (s : List (Slot C)). changed (slot_at s) v (slot_in slot)) is

    ArePlaced-appended : ArePlaced placed (vertices_in made ++ v ∷ [])
    ArePlaced-appended = record {
      each = λ u. elim (same_place v u) [
        | inl e ↦
            let paired : length (vertices_in made) ≡ length made = length-map made (λ (s : Made C). s.vertex) in
            inr (ap (slice_get (vertices_in made ++ v ∷ [])) (placed_here u e ∙ sym paired) ∙ get_pushed (vertices_in made) v ∙ ap Some e)
        | inr ne ↦ elim (h.places.each u) [
          | inl none ↦ inl (placed_there u ne ∙ none)
          | inr c ↦ inr (ap (slice_get (vertices_in made ++ v ∷ [])) (placed_there u ne) ∙ get_append (vertices_in made) (v ∷ []) (place_of table u) u c)
        ]
      ];
    }

    pub IsSlotted-appended : (items : List (Made C)) → items ≡ more → IsSlotted placed items
    IsSlotted-appended items e =
        let size : length placed ≡ length wide = length-set wide v place in
        subst (λ (s : List (Made C)). IsSlotted placed s) (sym e) (record {
          places = subst (λ (t : List ℕ). ArePlaced placed t) (sym (map_push (λ (s : Made C). s.vertex) made slot)) ArePlaced-appended;
          reached = All-push (λ (s : Made C). s.vertex < length placed) made slot (All-weaker (λ (s : Made C). s.vertex < length table) (λ (s : Made C). s.vertex < length placed) (λ s lt. omega arith) made h.reached) (omega arith);
          few = few_more;
        })

-- what holds anyhow holds of an error
pub OnErr-always : {T E P : Type 0} (r : Result T E) → P → OnErr r P
OnErr-always (Ok x) p = tt
OnErr-always (Err e) p = p

-- with no slots all are blank
pub blank_at : {C : Type 0} (table : List ℕ) (made : List (Made C)) → made ≡ [] → (v : ℕ) → slot_at (slots_of table (slots_in made)) v ≡ Untouched
blank_at table made e v =
    let none : length made ≡ 0 = ap length e in
    slot_at-past table made (omega arith) (place_of table v) v refl (omega arith)

-- the places of the first k slots are forgotten, in a table of this size
abbrev pub AreLeft : {C : Type 0} → ℕ → List ℕ → List (Made C) → ℕ → Type 0
AreLeft size table made k = (length table ≡ size) × ((v : ℕ) → (place_of table v ≡ unmade) ⊎ ((slice_get (vertices_in made) (place_of table v) ≡ Some v) × (k ≤ place_of table v)))

module _ {C : Type 0} (made : List (Made C)) where
  pub AreLeft-start : (table : List ℕ) → IsSlotted table made → AreLeft (length table) table made 0
  AreLeft-start table h = (
    refl,
    λ v. elim (h.places.each v) [
      | inl none ↦ inl none
      | inr c ↦ inr (c, omega arith)
    ],
  )

  pub AreLeft-end : (size : ℕ) (table : List ℕ) (k : ℕ) → length made ≤ k → AreLeft size table made k → (v : ℕ) → place_of table v ≡ unmade
  AreLeft-end size table k le h v = elim (h.1 v) [
    | inl none ↦ none
    | inr c ↦
        let count : length (vertices_in made) ≡ length made = length-map made (λ (s : Made C). s.vertex) in
        let lt : place_of table v < length (vertices_in made) = slice_get_within (vertices_in made) (place_of table v) v c.0 in
        let from = c.1 in
        absurd (omega arith)
  ]

  module _ (size : ℕ) (table : List ℕ) (k : ℕ) (h : AreLeft size table made k) (slot : Made C) (lt : k < length made) (is : slot ≡ get_or made k slot) (within : slot.vertex < length table) where
    -- another vertex has another place
    further : (u : ℕ) → nat_eq slot.vertex u ≡ false → slice_get (vertices_in made) (place_of table u) ≡ Some u → place_of table u ≢ k
    further u ne c e =
        let got : slice_get (vertices_in made) k ≡ Some slot.vertex = slice_get-map (λ (s : Made C). s.vertex) made k ∙ ap (option_map (λ (s : Made C). s.vertex)) (slice_get-get_or made k slot lt ∙ ap Some (sym is)) in
        true≢false (sym (eq-eqb slot.vertex u (same_Some _ u (sym got ∙ ap (slice_get (vertices_in made)) (sym e) ∙ c))) ∙ ne)

    pub AreLeft-next : AreLeft size (set table slot.vertex unmade) made (k + 1)
    AreLeft-next = (
      length-set table slot.vertex unmade ∙ h.0,
      λ u. elim (same_place slot.vertex u) [
        | inl e ↦ inl (ap (place_of (set table slot.vertex unmade)) (sym e) ∙ get_or-set_same table slot.vertex unmade unmade within)
        | inr ne ↦
            let kept : place_of (set table slot.vertex unmade) u ≡ place_of table u = get_or-set_other table slot.vertex u unmade unmade (λ e. true≢false (sym (eq-eqb slot.vertex u (sym e)) ∙ ne)) in
            elim (h.1 u) [
              | inl none ↦ inl (kept ∙ none)
              | inr c ↦
                  let other : place_of table u ≢ k = further u ne c.0 in
                  let from = c.1 in
                  inr (ap (slice_get (vertices_in made)) kept ∙ c.0, omega arith)
            ]
      ],
    )
