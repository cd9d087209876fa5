-- How the lists of a level's cells come from an index of the cells of vertices.
use Rattle.std.proofs.Common.{◌≡◌, ℕ, ◌+◌, ◌-◌, ◌<◌, ◌≤◌, ◌↔◌, ◌^◌, inl, inr, List, [], ◌∷◌, ◌++◌, length, length-append, get_or, Some, All, sym, ◌∙◌, ap, subst, arith}
use Rattle.std.specs.List.{slice_get, Contains}
use Rattle.std.proofs.lemmas.Option.{slice_get_within, same_Some, slice_get-get_or}
use Rattle.list_lemmas.proofs.Gets.{get_some, get_push, get_part, part_get, get_Contains, Contains_get}
use Rattle.search_graph.specs.Indexed.{IsRow, IsIndexed}
use Rattle.cell_partition.specs.Partition.{Partition, level_at, number_of}
use Rattle.cell_frame.specs.Borders.{Listed, list_at, HasList}
use Rattle.cell_frame.specs.Listing.{AreEach, IsCellOf, IsAt, AreListed}

-- one element more
pub AreEach-push : {A B : Type 0} (P : A → B → Type 0) (xs : List A) (ys : List B) (n : ℕ) (x : A) (y : B) → slice_get xs n ≡ Some x → P x y → AreEach P xs ys n → AreEach P xs (ys ++ y ∷ []) (n + 1)
AreEach-push {A} {B} P xs ys n x y at here h = record {
  size = omega (arith, length-append ys (y ∷ []), h.size);
  each = λ k a b e f. elim (get_push ys y k b f) [
    | inl q ↦ h.each k a b e q
    | inr q ↦
        let same : x ≡ a = same_Some x a (sym at ∙ ap (slice_get xs) (sym (q.0 ∙ h.size)) ∙ e) in
        subst (λ (z : A). P z b) same (subst (λ (z : B). P x z) (sym q.1) here)
  ];
}

-- a cell's number is one of the level's
pub numbers_below : (p : Partition) (level : ℕ) (vertices numbers : List ℕ) → AreEach (IsCellOf p level) vertices numbers (length vertices) → All (λ n. n < length (level_at p level)) numbers
numbers_below p level vertices numbers h k d lt =
    let size : length numbers ≡ length vertices = h.size in
    let x = get_some vertices k (omega arith) in
    (h.each k x.0 (get_or numbers k d) x.1 (slice_get-get_or numbers k d lt)).1

module _ (p : Partition) (level : ℕ) (vertices numbers first order taken : List ℕ) (few : length vertices < 2 ^ 32)
    (numbered : AreEach (IsCellOf p level) vertices numbers (length vertices)) (x : IsIndexed (length (level_at p level)) numbers first order) where
  -- what an index of the numbers names is a place of a vertex
  pub places_within : All (λ place. place < length vertices) order
  places_within k d lt =
      let size : length numbers ≡ length vertices = numbered.size in
      let within : get_or order k d < length numbers = x.no_more k _ (slice_get-get_or order k d lt) in
      omega arith

  module _ (are : AreEach (IsAt vertices) order taken (length order)) where
    abbrev border : Listed
    border = record { first = first; vertex = taken }

    -- as `slice_index` reads it
    first_at : (n : ℕ) → n ≤ length (level_at p level) → slice_get first n ≡ Some (get_or first n 0)
    first_at n le = let size : length first ≡ length (level_at p level) + 1 = x.firsts in slice_get-get_or first n 0 (omega arith)

    -- the number of a vertex's cell stands at its place
    number_at : (i v : ℕ) → slice_get vertices i ≡ Some v → slice_get numbers i ≡ Some (number_of (level_at p level) v)
    number_at i v e =
        let lt : i < length vertices = slice_get_within vertices i v e in
        let size : length numbers ≡ length vertices = numbered.size in
        let k = get_some numbers i (omega arith) in
        k.1 ∙ ap Some (numbered.each i v k.0 e k.1).0

    -- what stands at a place among those taken
    taken_from : (k v : ℕ) → slice_get taken k ≡ Some v → (i : ℕ) × (slice_get order k ≡ Some i) × (slice_get vertices i ≡ Some v)
    taken_from k v e =
        let lt : k < length taken = slice_get_within taken k v e in
        let size : length taken ≡ length order = are.size in
        let o = get_some order k (omega arith) in
        (o.0, o.1, are.each k o.0 v o.1 e)

    taken_at : (k i v : ℕ) → slice_get order k ≡ Some i → slice_get vertices i ≡ Some v → slice_get taken k ≡ Some v
    taken_at k i v e f =
        let lt : k < length order = slice_get_within order k i e in
        let size : length taken ≡ length order = are.size in
        let t = get_some taken k (omega arith) in
        t.1 ∙ sym (are.each k i t.0 e t.1) ∙ f

    module _ (n : ℕ) (lt : n < length (level_at p level)) where
      abbrev from : ℕ
      from = get_or first n 0

      abbrev to : ℕ
      to = get_or first (n + 1) 0

      row : IsRow first n from to
      row = (first_at n (omega arith), first_at (n + 1) (omega arith))

      within : to ≤ length taken
      within = let size : length taken ≡ length order = are.size in let le : to ≤ length order = x.within (n + 1) to row.1 in omega arith

      has : HasList border n
      has = record {
        inside = let size : length first ≡ length (level_at p level) + 1 = x.firsts in omega arith;
        rises = x.rises n from to row;
        within = within;
        few = let size : length taken ≡ length order = are.size in let same : length order ≤ length numbers = x.no_longer in let each : length numbers ≡ length vertices = numbered.size in omega arith;
      }

      -- an element of the list of a cell, with its place among the vertices
      listed_from : (k v : ℕ) → slice_get (list_at border n) k ≡ Some v → (i : ℕ) × (from + k < to) × (slice_get order (from + k) ≡ Some i) × (slice_get vertices i ≡ Some v)
      listed_from k v e =
          let g = get_part taken from to k v within e in
          let t = taken_from (from + k) v g.1 in
          (t.0, g.0, t.1, t.2)

      holds : (v : ℕ) → Contains (list_at border n) v ↔ (Contains vertices v × (number_of (level_at p level) v ≡ n))
      holds v = (
        λ h.
            let c = get_Contains (list_at border n) v h in
            let t = listed_from c.0 v c.1 in
            let key : slice_get numbers t.0 ≡ Some n = x.keys_of_row n from to (from + c.0) t.0 row (omega arith) t.1 t.2 in
            (Contains_get vertices t.0 v t.3, same_Some (number_of (level_at p level) v) n (sym (number_at t.0 v t.3) ∙ key)),
        λ h.
            let c = get_Contains vertices v h.0 in
            let o = x.place_of_key n from to c.0 row (number_at c.0 v c.1 ∙ ap Some h.1) in
            let there : from + (o.0 - from) ≡ o.0 = omega (arith, o.1) in
            let at : slice_get taken (from + (o.0 - from)) ≡ Some v = ap (slice_get taken) there ∙ taken_at o.0 c.0 v o.3 c.1 in
            Contains_get (list_at border n) (o.0 - from) v (part_get taken from to (o.0 - from) v within (omega (arith, there, o.2)) at),
      )

      in_order : (k l v w : ℕ) → k < l → slice_get (list_at border n) k ≡ Some v → slice_get (list_at border n) l ≡ Some w → (i : ℕ) × (j : ℕ) × (i < j) × (slice_get vertices i ≡ Some v) × (slice_get vertices j ≡ Some w)
      in_order k l v w less e f =
          let s = listed_from k v e in
          let t = listed_from l w f in
          (s.0, t.0, x.ascends n from to (from + k) (from + l) s.0 t.0 row (omega arith) (omega arith) t.1 s.2 t.2, s.3, t.3)

    pub AreListed-indexed : AreListed p level vertices (record { first = first; vertex = taken })
    AreListed-indexed = record {
      has = λ n lt. has n lt;
      holds = λ n v lt. holds n lt v;
      order = λ n k l v w lt less e f. in_order n lt k l v w less e f;
    }
