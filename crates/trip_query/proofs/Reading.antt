-- A table of rows, read by its lists.
use Rattle.std.proofs.Common.{◌≡◌, ℕ, ◌+◌, ◌<◌, ◌≤◌, List, [], ◌∷◌, ◌++◌, Option, Some, None, Vec, length, slice_index_or, get_or, inl, inr, refl, sym, subst, ap, ◌∙◌, arith, map, All, length-append}
use Rattle.std.specs.Global.{Global}
use Rattle.std.specs.List.{slice_get}
use Rattle.std.specs.Option.{ForSome, option_map}
use Rattle.std.proofs.lemmas.Bool.{cases_lt}
use Rattle.std.proofs.lemmas.List.{get_or_past}
use Rattle.std.proofs.Math.Nat.{eq-or-lt_of_le}
use Rattle.std.proofs.lemmas.Option.{get_or_from_slice_get, slice_get-map, slice_get_read}
use Rattle.list_lemmas.proofs.Gets.{All_get, get_append, get_pushed, get_some}
use Rattle.search_graph.specs.Costs.{CostOps}
use Rattle.trip_query.specs.Tails.{AreWide, AreWithin, IsListOf, IsWithin}
use Rattle.trip_query.specs.Trips.{leg, lists_of}

-- an element that was read, by any other value past the end
pub read_or : {X : Type 0} (xs : List X) (k : ℕ) (x d : X) → k < length xs → x ≡ get_or xs k x → get_or xs k d ≡ x
read_or xs k x d lt e = get_or_from_slice_get xs k x d (slice_get_read xs (length xs) k x refl lt e)

-- a row that was read, with its width
pub row_read : {A : Type 0} (n : ℕ) (rows : List (Vec A Global)) (i : ℕ) (row : Vec A Global) → AreWide n rows → i < length rows → row ≡ get_or rows i row → (slice_get rows i ≡ Some row) × (length row.items ≡ n)
row_read n rows i row wide lt e = let at = slice_get_read rows (length rows) i row refl lt e in (at, wide i row at)

-- the slice of a row that was read
pub items_read : {X : Type 0} {slice : List X} {row read : Vec X Global} → slice ≡ read.items → row ≡ read → slice ≡ row.items
items_read {X} e is = e ∙ ap (λ (v : Vec X Global). v.items) (sym is)

pub row_at : {A : Type 0} (rows : List (Vec A Global)) (i : ℕ) (row : Vec A Global) → slice_get rows i ≡ Some row → slice_index_or (lists_of rows) i [] ≡ row.items
row_at {A} rows i row h =
    let f : Vec A Global → List A = λ v. v.items in
    get_or_from_slice_get (lists_of rows) i row.items [] (slice_get-map f rows i ∙ ap (option_map f) h)

pub leg_at : {C : Type 0} (rows : List (Vec (Option C) Global)) (i j : ℕ) (row : Vec (Option C) Global) (v : Option C) → slice_get rows i ≡ Some row → slice_index_or row.items j None ≡ v → leg (lists_of rows) i j ≡ v
leg_at rows i j row v h e = ap (λ l. slice_index_or l j None) (row_at rows i row h) ∙ e

pub lists-length : {A : Type 0} (rows : List (Vec A Global)) → length (lists_of rows) ≡ length rows
lists-length [] = refl
lists-length (x ∷ rows) = let e = lists-length rows in omega (arith, e)

pub some_within : {C : Type 0} (row : List (Option C)) (j : ℕ) (c : C) → slice_index_or row j None ≡ Some c → j < length row
some_within row j c e = elim (cases_lt j (length row)) [
  | inl lt ↦ lt
  | inr ge ↦ let z : slice_index_or row j None ≡ None = get_or_past row j None ge in absurd (let f : None ≡ Some c = sym z ∙ e in cc)
]

none_at : {C : Type 0} (nothing : List (Option C)) (j : ℕ) → nothing ≡ [] → slice_index_or nothing j None ≡ None
none_at nothing j e = let z : length nothing ≡ 0 = ap length e in get_or_past nothing j None (omega (arith, z))

-- a leg that has a cost is in the table
pub leg_within : {C : Type 0} (n : ℕ) (rows : List (Vec (Option C) Global)) (i j : ℕ) (c : C) → AreWide n rows → leg (lists_of rows) i j ≡ Some c → (i < length rows) × (j < n)
leg_within {C} n rows i j c wide e = elim (cases_lt i (length rows)) [
  | inl lt ↦
      let r = get_some rows i lt in
      let row : slice_index_or (lists_of rows) i [] ≡ r.0.items = row_at rows i r.0 r.1 in
      let far : j < length r.0.items = some_within r.0.items j c (ap (λ l. slice_index_or l j None) (sym row) ∙ e) in
      (lt, subst (λ (m : ℕ). j < m) (wide i r.0 r.1) far)
  | inr ge ↦
      let len = lists-length rows in
      let past : slice_index_or (lists_of rows) i [] ≡ [] = get_or_past (lists_of rows) i [] (omega (arith, ge, len)) in
      absurd (let f : None ≡ Some c = sym (none_at (slice_index_or (lists_of rows) i []) j past) ∙ e in cc)
]

-- a row of a table is within its bound
pub row_within : {C : Type 0} (ops : CostOps C) (most : ℕ) (rows : List (Vec (Option C) Global)) (i : ℕ) (row : Vec (Option C) Global) → AreWithin ops most (lists_of rows) → slice_get rows i ≡ Some row → IsWithin ops most row.items
row_within ops most rows i row within h k c e = within i k c (leg_at rows i k row (Some c) h e)

-- what holds at each place holds with one value more
pub each_more : {A : Type 0} (P : ℕ → Option A → Type 0) (list : List (Option A)) (v : Option A) (n : ℕ) → length list ≡ n → ((k : ℕ) → k < n → P k (slice_index_or list k None)) → P n v
    → (k : ℕ) → k < n + 1 → P k (slice_index_or (list ++ v ∷ []) k None)
each_more {A} P list v n size each last k lt =
    let le : k ≤ n = omega arith in
    elim (eq-or-lt_of_le le) [
      | inl same ↦
          let at : slice_get (list ++ v ∷ []) k ≡ Some v = subst (λ i. slice_get (list ++ v ∷ []) i ≡ Some v) (size ∙ sym same) (get_pushed list v) in
          subst (P k) (sym (get_or_from_slice_get (list ++ v ∷ []) k v None at)) (subst (λ i. P i v) (sym same) last)
      | inr less ↦
          let inside : k < length list = omega (arith, less, size) in
          let g = get_some list k inside in
          subst (P k) (get_or_from_slice_get list k g.0 None g.1 ∙ sym (get_or_from_slice_get (list ++ v ∷ []) k g.0 None (get_append list (v ∷ []) k g.0 g.1))) (each k less)
    ]

-- a list of what f says, with one value more
pub list_more : {A : Type 0} {f : ℕ → Option A} {n : ℕ} {list longer : List (Option A)} {v : Option A} → IsListOf f n list → v ≡ f n → longer ≡ list ++ v ∷ [] → IsListOf f (n + 1) longer
list_more {A} {f} {n} {list} {longer} {v} h is e = record {
  size = let size = h.size in omega (arith, size, ap length e, length-append list (v ∷ []));
  each = λ k lt. subst (λ l. slice_index_or l k None ≡ f k) (sym e) (each_more (λ i w. w ≡ f i) list v n h.size h.each is k lt);
}

pub list_none : {A : Type 0} (f : ℕ → Option A) {list : List (Option A)} → list ≡ [] → IsListOf f 0 list
list_none f e = record { size = ap length e; each = λ k lt. absurd (omega (arith, lt)) }

-- what is said of each row and of each leg, by their places
pub wide_from_all : {A : Type 0} (n : ℕ) (rows : List (Vec A Global)) → All (λ row. length row.items ≡ n) rows → AreWide n rows
wide_from_all n rows all i row e = All_get (λ r. length r.items ≡ n) rows i row all e

pub within_from_all : {C : Type 0} (ops : CostOps C) (most n : ℕ) (rows : List (Vec (Option C) Global)) → AreWide n rows → All (λ row. All (λ leg. ForSome leg (λ cost. ops.units cost most)) row.items) rows → AreWithin ops most (lists_of rows)
within_from_all ops most n rows wide all i j c e =
    let w = leg_within n rows i j c wide e in
    let r = get_some rows i w.0 in
    let at : slice_index_or r.0.items j None ≡ Some c = sym (leg_at rows i j r.0 (slice_index_or r.0.items j None) r.1 refl) ∙ e in
    let inside : j < length r.0.items = omega (arith, w.1, wide i r.0 r.1) in
    All_get (λ row. All (λ leg. ForSome leg (λ cost. ops.units cost most)) row.items) rows i r.0 all r.1 j None inside c at
