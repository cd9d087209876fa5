-- Lists of cells, each once, and how many entries these have.
use Rattle.std.proofs.Common.{◌≡◌, ℕ, ◌+◌, ◌-◌, ◌^◌, ◌<◌, ◌≤◌, ◌⊎◌, inl, inr, Bool, true, false, true≢false, Option, Some, None, List, [], ◌∷◌, ◌++◌, length, length-append, length-drop, take, drop, get_or, add-zero, refl, sym, ◌∙◌, ap, subst, arith}
use Rattle.std.specs.Prelude.{slice_index}
use Rattle.std.specs.List.{Contains, slice_get}
use Rattle.std.proofs.lemmas.Bool.{cases_eq, cases_lt}
use Rattle.std.proofs.lemmas.List.{get_or-append-add, length-take-le}
use Rattle.std.proofs.lemmas.List.Elements.{Contains-append_cases, Contains-append_left, Contains-append_right}
use Rattle.std.proofs.lemmas.List.Sums.{sum_by-append, sum_by-cons}
use Rattle.std.proofs.lemmas.Option.{slice_get_within, same_Some, get_or_from_slice_get}
use Rattle.std.proofs.Math.ListN.{get_or-append}
use Rattle.list_lemmas.proofs.Gets.{get_is, get_Contains, Contains_get}
use Rattle.list_lemmas.proofs.Singles.{Contains_one, only_one}
use Rattle.cell_partition.specs.Partition.{level_at}
use Rattle.cell_frame.specs.declared.cells.Cell.{Cell}
use Rattle.cell_frame.specs.Borders.{Listed, HasList, Framed, IsFramed, IsCell, list_of, at_cell}
use Rattle.cell_recustomize.specs.Touched.{IsTouched, IsEntryCount, IsTouchedCount}
use Rattle.cell_recustomize.specs.Making.{AreMarked, IsMarked}

-- an element of two lists, one behind the other, by its place
get_append_cases : {X : Type 0} (xs ys : List X) (k : ℕ) (x : X) → slice_get (xs ++ ys) k ≡ Some x → (slice_get xs k ≡ Some x) ⊎ ((length xs ≤ k) × (slice_get ys (k - length xs) ≡ Some x))
get_append_cases xs ys k x e =
    let within : k < length (xs ++ ys) = slice_get_within (xs ++ ys) k x e in
    let value : get_or (xs ++ ys) k x ≡ x = get_or_from_slice_get (xs ++ ys) k x x e in
    elim (cases_lt k (length xs)) [
      | inl lt ↦ inl (get_is xs k x lt (sym (get_or-append xs ys x k lt) ∙ value))
      | inr le ↦
          let lt : k - length xs < length ys = omega (arith, length-append xs ys) in
          let at : length xs + (k - length xs) ≡ k = omega arith in
          inr (le, get_is ys (k - length xs) x lt (sym (get_or-append-add xs ys (k - length xs) x) ∙ ap (λ (n : ℕ). get_or (xs ++ ys) n x) at ∙ value))
    ]

-- cells of one level and number are one
cells_same : {a b c d : ℕ} → a ≡ b → c ≡ d → ◌≡◌ {A = Cell} (record { level = a; number = c }) (record { level = b; number = d })
cells_same e g = cc

cell_same : (k : Cell) (level number : ℕ) → k.level ≡ level → k.number ≡ number → k ≡ record { level = level; number = number }
cell_same k level number e g = cells_same e g

-- of the cells of a level, a marked one below number n
abbrev pub IsMarkedBelow : ℕ → List Bool → ℕ → Cell → Type 0
IsMarkedBelow level marks n k = (k.level ≡ level) × (k.number < n) × (slice_get marks k.number ≡ Some true)

-- a touched cell of a level up to `top`
abbrev pub IsTouchedUpTo : Framed → List ℕ → List ℕ → ℕ → Cell → Type 0
IsTouchedUpTo f vertices arcs top k = IsCell f.cells k × (k.level ≤ top) × IsTouched f vertices arcs k

module _ (f : Framed) where
  -- where no cell is meant
  pub IsEntryCount-none : (P : Cell → Type 0) → ((k : Cell) → ¬ P k) → IsEntryCount f P 0
  IsEntryCount-none P none = (
    [],
    record {
      each = λ k. (
        λ h. let g = get_Contains [] k h in let lt : g.0 < length {A = Cell} [] = slice_get_within [] g.0 k g.1 in absurd (omega arith),
        λ p. absurd (none k p),
      );
      once = λ i j k e g. let lt : i < length {A = Cell} [] = slice_get_within [] i k e in absurd (omega arith);
    },
    refl,
  )

  -- the same cells in other words
  pub IsEntryCount-same : (P Q : Cell → Type 0) → ((k : Cell) → P k → Q k) → ((k : Cell) → Q k → P k) → (n : ℕ) → IsEntryCount f P n → IsEntryCount f Q n
  IsEntryCount-same P Q to from n count = (
    count.0,
    record { each = λ k. (λ h. to k ((count.1.each k).0 h), λ q. (count.1.each k).1 (from k q)); once = count.1.once },
    count.2,
  )

  -- one cell
  IsEntryCount-one : (k : Cell) → IsEntryCount f (λ x. x ≡ k) (length (at_cell f.entries k))
  IsEntryCount-one k = (
    k ∷ [],
    record {
      each = λ x. (λ h. only_one k x h, λ e. subst (λ (y : Cell). Contains (k ∷ []) y) (sym e) (Contains_one k));
      once = λ i j x e g.
          let one : length (k ∷ []) ≡ 1 = refl in
          let first : i < length (k ∷ []) = slice_get_within (k ∷ []) i x e in
          let second : j < length (k ∷ []) = slice_get_within (k ∷ []) j x g in
          omega (arith, one, first, second);
    },
    sym (sum_by-cons (λ x. length (at_cell f.entries x)) k [] ∙ add-zero (length (at_cell f.entries k))),
  )

  -- cells of two kinds, of which none is of both
  pub IsEntryCount-join : (P Q : Cell → Type 0) → ((k : Cell) → P k → ¬ Q k) → (n m : ℕ) → IsEntryCount f P n → IsEntryCount f Q m → IsEntryCount f (λ k. P k ⊎ Q k) (n + m)
  IsEntryCount-join P Q apart n m a b =
      let p_of : (i : ℕ) (k : Cell) → slice_get a.0 i ≡ Some k → P k = λ i k e. (a.1.each k).0 (Contains_get a.0 i k e) in
      let q_of : (i : ℕ) (k : Cell) → slice_get b.0 i ≡ Some k → Q k = λ i k e. (b.1.each k).0 (Contains_get b.0 i k e) in (
        a.0 ++ b.0,
        record {
          each = λ k. (
            λ h. elim (Contains-append_cases a.0 b.0 k h) [ inl x ↦ inl ((a.1.each k).0 x) | inr x ↦ inr ((b.1.each k).0 x) ],
            λ h. elim h [ inl p ↦ Contains-append_left a.0 b.0 k ((a.1.each k).1 p) | inr q ↦ Contains-append_right a.0 b.0 k ((b.1.each k).1 q) ],
          );
          once = λ i j k e g. elim (get_append_cases a.0 b.0 i k e) [
            | inl x ↦ elim (get_append_cases a.0 b.0 j k g) [
              | inl y ↦ a.1.once i j k x y
              | inr y ↦ absurd (apart k (p_of i k x) (q_of (j - length a.0) k y.1))
            ]
            | inr x ↦ elim (get_append_cases a.0 b.0 j k g) [
              | inl y ↦ absurd (apart k (p_of j k y) (q_of (i - length a.0) k x.1))
              | inr y ↦ let same : i - length a.0 ≡ j - length a.0 = b.1.once (i - length a.0) (j - length a.0) k x.1 y.1 in omega (arith, same, x.0, y.0)
            ]
          ];
        },
        omega (arith, a.2, b.2, sum_by-append (λ k. length (at_cell f.entries k)) a.0 b.0),
      )

  module _ (level : ℕ) (marks : List Bool) where
    pub count_none : IsEntryCount f (IsMarkedBelow level marks 0) 0
    count_none = IsEntryCount-none (IsMarkedBelow level marks 0) (λ k h. let lt : k.number < 0 = h.1 in absurd (omega arith))

    -- a marked cell more
    pub count_marked : (n count : ℕ) → slice_get marks n ≡ Some true → IsEntryCount f (IsMarkedBelow level marks n) count →
        IsEntryCount f (IsMarkedBelow level marks (n + 1)) (count + length (at_cell f.entries (record { level = level; number = n })))
    count_marked n count mark h =
        let here : Cell = record { level = level; number = n } in
        IsEntryCount-same (λ k. IsMarkedBelow level marks n k ⊎ (k ≡ here)) (IsMarkedBelow level marks (n + 1))
        (λ k which. elim which [
          | inl below ↦ let lt : k.number < n = below.1 in (below.0, omega arith, below.2)
          | inr same ↦ subst (λ (x : Cell). IsMarkedBelow level marks (n + 1) x) (sym same) (refl, omega arith, mark)
        ])
        (λ k below. elim (cases_eq k.number n) [
          | inl same ↦ inr (cell_same k level n below.0 same)
          | inr other ↦ let lt : k.number < n + 1 = below.1 in inl (below.0, omega arith, below.2)
        ])
        (count + length (at_cell f.entries here))
        (IsEntryCount-join (IsMarkedBelow level marks n) (λ k. k ≡ here)
        (λ k below same. let lt : k.number < n = below.1 in let number : k.number ≡ n = ap (λ (x : Cell). x.number) same in absurd (omega arith))
        count (length (at_cell f.entries here)) h (IsEntryCount-one here))

    -- a cell more that isn't marked
    pub count_unmarked : (n count : ℕ) → slice_get marks n ≡ Some false → IsEntryCount f (IsMarkedBelow level marks n) count → IsEntryCount f (IsMarkedBelow level marks (n + 1)) count
    count_unmarked n count mark h =
        IsEntryCount-same (IsMarkedBelow level marks n) (IsMarkedBelow level marks (n + 1))
        (λ k below. let lt : k.number < n = below.1 in (below.0, omega arith, below.2))
        (λ k below. elim (cases_eq k.number n) [
          | inl same ↦ absurd (true≢false (same_Some true false (sym below.2 ∙ ap (slice_get marks) same ∙ mark)))
          | inr other ↦ let lt : k.number < n + 1 = below.1 in (below.0, omega arith, below.2)
        ])
        count h

    -- all of them
    pub count_all : (n count : ℕ) → n ≡ length marks → IsEntryCount f (IsMarkedBelow level marks n) count → IsEntryCount f (IsMarked level marks) count
    count_all n count all h =
        IsEntryCount-same (IsMarkedBelow level marks n) (IsMarked level marks)
        (λ k below. (below.0, below.2))
        (λ k marked. let lt : k.number < length marks = slice_get_within marks k.number true marked.1 in (marked.0, omega (arith, all), marked.1))
        count h

  module _ (vertices arcs : List ℕ) where
    pub touched_none : IsEntryCount f (IsTouchedUpTo f vertices arcs 0) 0
    touched_none = IsEntryCount-none (IsTouchedUpTo f vertices arcs 0) (λ k h. let low : k.level ≤ 0 = h.1 in let some : 1 ≤ k.level = h.0.0 in absurd (omega arith))

    -- the touched cells of a level more
    pub touched_more : (below : ℕ) (marks : List Bool) (n m : ℕ) → below + 1 ≤ length f.cells.levels → AreMarked f vertices arcs (below + 1) marks → IsEntryCount f (IsTouchedUpTo f vertices arcs below) n →
        IsEntryCount f (IsMarked (below + 1) marks) m → IsEntryCount f (IsTouchedUpTo f vertices arcs (below + 1)) (n + m)
    touched_more below marks n m within marked a b =
        IsEntryCount-same (λ k. IsTouchedUpTo f vertices arcs below k ⊎ IsMarked (below + 1) marks k) (IsTouchedUpTo f vertices arcs (below + 1))
        (λ k which. elim which [
          | inl h ↦ let low : k.level ≤ below = h.1 in (h.0, omega arith, h.2)
          | inr h ↦
              let at : record { level = below + 1; number = k.number } ≡ k = sym (cell_same k (below + 1) k.number h.0 refl) in
              let low : k.number < length (level_at f.cells (below + 1)) = subst (λ (l : ℕ). k.number < l) marked.size (slice_get_within marks k.number true h.1) in
              let is_cell : IsCell f.cells (record { level = below + 1; number = k.number }) = (omega arith, within, low) in
              (subst (λ (x : Cell). IsCell f.cells x) at is_cell, omega (arith, h.0), subst (λ (x : Cell). IsTouched f vertices arcs x) at (marked.marked k.number h.1))
        ])
        (λ k h. elim (cases_eq k.level (below + 1)) [
          | inl same ↦
              let at : k ≡ record { level = below + 1; number = k.number } = cell_same k (below + 1) k.number same refl in
              let low : k.number < length (level_at f.cells (below + 1)) = subst (λ (l : ℕ). k.number < length (level_at f.cells l)) same h.0.2 in
              inr (same, marked.found k.number low (subst (λ (x : Cell). IsTouched f vertices arcs x) at h.2))
          | inr other ↦ let low : k.level ≤ below + 1 = h.1 in inl (h.0, omega arith, h.2)
        ])
        (n + m)
        (IsEntryCount-join (IsTouchedUpTo f vertices arcs below) (IsMarked (below + 1) marks)
        (λ k h g. let low : k.level ≤ below = h.1 in let level : k.level ≡ below + 1 = g.0 in absurd (omega arith))
        n m a b)

    pub touched_all : (n count : ℕ) → n ≡ length f.cells.levels → IsEntryCount f (IsTouchedUpTo f vertices arcs n) count → IsTouchedCount f vertices arcs count
    touched_all n count all h =
        IsEntryCount-same (IsTouchedUpTo f vertices arcs n) (λ k. IsCell f.cells k × IsTouched f vertices arcs k)
        (λ k g. (g.0, g.2))
        (λ k g. let low : k.level ≤ length f.cells.levels = g.0.1 in (g.0, omega (arith, all), g.1))
        count h

-- where the lists of the entries of a level begin
abbrev pub first_of : Option Listed → List ℕ
first_of None = []
first_of (Some b) = b.first

abbrev pub first_at : Framed → ℕ → List ℕ
first_at f level = first_of (slice_get f.entries (level - 1))

-- the entries of a cell stand where its list begins and before the next list
pub entries_within : (f : Framed) → IsFramed f → (k : Cell) → IsCell f.cells k →
    (slice_index (first_at f k.level) k.number + length (at_cell f.entries k) ≤ slice_index (first_at f k.level) (k.number + 1)) × (slice_index (first_at f k.level) (k.number + 1) < 2 ^ 32)
entries_within f framed k is_cell =
    let has = framed.has_entries k is_cell in
    let b : Listed = has.0 in
    let listed : HasList b k.number = has.2 in
    let from : ℕ = slice_index b.first k.number in
    let to : ℕ = slice_index b.first (k.number + 1) in
    let rises : from ≤ to = listed.rises in
    let within : to ≤ length b.vertex = listed.within in
    let few : length b.vertex < 2 ^ 32 = listed.few in
    let rest : length (drop from b.vertex) ≡ length b.vertex - from = length-drop from b.vertex in
    let size : length (take (to - from) (drop from b.vertex)) ≡ to - from = length-take-le (to - from) (drop from b.vertex) (omega arith) in
    subst (λ (o : Option Listed). (slice_index (first_of o) k.number + length (list_of o k.number) ≤ slice_index (first_of o) (k.number + 1)) × (slice_index (first_of o) (k.number + 1) < 2 ^ 32)) (sym has.1)
    (omega (arith, size, rises), omega (arith, within, few))
