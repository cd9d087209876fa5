-- Rows behind rows make a clique, cliques behind cliques a level, and levels on levels exact cliques.
use Rattle.std.proofs.Common.{◌≡◌, ℕ, ◌+◌, ◌*◌, ◌-◌, ◌<◌, ◌≤◌, inl, inr, Option, Some, List, [], ◌∷◌, ◌++◌, length, map, get_or, length-append, refl, sym, ◌∙◌, ap, subst, arith}
use Rattle.std.specs.List.{slice_get, slice_range}
use Rattle.std.proofs.lemmas.Bool.{cases_lt}
use Rattle.std.specs.Option.{option_map}
use Rattle.std.proofs.lemmas.Option.{slice_get_within, slice_get-map, get_or_from_slice_get, same_Some}
use Rattle.std.proofs.lemmas.List.{length-map, drop_at, get_or-drop}
use Rattle.std.proofs.lemmas.List.Elements.{All-append, All-cons, All-map, All-nil}
use Rattle.list_lemmas.proofs.Gets.{get_is, get_append, get_push, get_pushed}
use Rattle.search_graph.specs.Costs.{CostOps}
use Rattle.search_graph.specs.Digraph.{Weighting}
use Rattle.cell_partition.specs.Partition.{level_at}
use Rattle.cell_frame.specs.declared.cells.Cell.{Cell}
use Rattle.cell_frame.specs.Borders.{Framed, Holds, at_cell}
use Rattle.cell_frame.specs.Cliqued.{AreExact, CliqueLists, HasRow, IsRow, Rows, with_level}
use Rattle.cell_frame.specs.Inside.{IsInsideValue}
use Rattle.cell_customize.specs.Levels.{AreRows, IsClique, IsRowOf, AreMade, IsExactLevel, behind}
use Rattle.cell_customize.specs.Slices.{range_in_front, range_behind, range_of_range}

pub more_times : (m n : ℕ) → m * n + n ≡ (m + 1) * n
more_times m n = grind arith

pub times_within : (i m n : ℕ) → i < m → i * n + n ≤ m * n
times_within i m n lt = grind arith

-- cells of one level and number are one
cells_same : {a b c d : ℕ} → a ≡ b → c ≡ d → ◌≡◌ {A = Cell} (record { level = a; number = c }) (record { level = b; number = d })
cells_same e f = cc

cell_same : (k : Cell) (level number : ℕ) → k.level ≡ level → k.number ≡ number → record { level = level; number = number } ≡ k
cell_same k level number e f = cells_same (sym e) (sym f)

-- what stands behind a list
get_behind : {A : Type 0} (xs ys : List A) (n : ℕ) (x : A) → slice_get ys n ≡ Some x → slice_get (xs ++ ys) (length xs + n) ≡ Some x
get_behind {A} xs ys n x e =
    let lt : n < length ys = slice_get_within ys n x e in
    let lt2 : length xs + n < length (xs ++ ys) = omega (arith, length-append xs ys) in
    get_is (xs ++ ys) (length xs + n) x lt2 (sym (get_or-drop (length xs) (xs ++ ys) n x) ∙ ap (λ (zs : List A). get_or zs n x) (drop_at xs ys (length xs) refl) ∙ get_or_from_slice_get ys n x x e)

pub get_nothing : {A : Type 0} (xs : List A) (j : ℕ) (x : A) → xs ≡ [] → ¬ (slice_get xs j ≡ Some x)
get_nothing {A} xs j x e h = let lt : j < length {A = A} [] = slice_get_within [] j x (ap (λ (ys : List A). slice_get ys j) (sym e) ∙ h) in omega arith

-- one value more, at the place of an exit
pub one_more : {F : Type 0} (P : ℕ → F → Type 0) (exits : List ℕ) (row : List F) (i exit : ℕ) (new : F) → length row ≡ i → slice_get exits i ≡ Some exit → P exit new →
    ((k t : ℕ) (o : F) → slice_get exits k ≡ Some t → slice_get row k ≡ Some o → P t o) →
    (k t : ℕ) (o : F) → slice_get exits k ≡ Some t → slice_get (row ++ new ∷ []) k ≡ Some o → P t o
one_more {F} P exits row i exit new n at here before k t o e f = elim (get_push row new k o f) [
  | inl g ↦ before k t o e g
  | inr g ↦
      let same : exit ≡ t = same_Some exit t (sym at ∙ ap (slice_get exits) (sym (g.0 ∙ n)) ∙ e) in
      subst (λ (x : ℕ). P x o) same (subst (λ (y : F). P exit y) (sym g.1) here)
]

module _ {C : Type 0} (ops : CostOps C) (f : Framed) (w : Weighting C) where
  -- a row, by the list of the exits
  pub row_from : (k : Cell) (u : ℕ) (row : List (Option C)) (exits : List ℕ) → exits ≡ at_cell f.exits k → length row ≡ length exits →
      ((j v : ℕ) (o : Option C) → slice_get exits j ≡ Some v → slice_get row j ≡ Some o → IsInsideValue ops f.graph w (Holds f.cells k) u v o) → IsRow ops f w k u row
  row_from k u row exits e n each = record {
    size = n ∙ ap length e;
    each = λ j v o ex er. each j v o (subst (λ (xs : List ℕ). slice_get xs j ≡ Some v) (sym e) ex) er;
  }

  pub AreRows-none : (k : Cell) → AreRows ops f w k [] 0
  AreRows-none k = record { size = grind arith; each = λ i u lt e. absurd (omega arith) }

  -- the row of one entry more
  pub AreRows-push : (k : Cell) (values row : List (Option C)) (m u : ℕ) → slice_get (at_cell f.entries k) m ≡ Some u → IsRow ops f w k u row → AreRows ops f w k values m → AreRows ops f w k (values ++ row) (m + 1)
  AreRows-push k values row m u at r h =
      let width : ℕ = length (at_cell f.exits k) in
      let long : length row ≡ length (at_cell f.exits k) = r.size in
      let before : length values ≡ m * length (at_cell f.exits k) = h.size in record {
        size = length-append values row ∙ ap (λ (n : ℕ). n + length row) before ∙ ap (λ (n : ℕ). m * width + n) long ∙ more_times m width;
        each = λ i a lt e. elim (cases_lt i m) [
          | inl less ↦
              let within : i * width + width ≤ m * width = times_within i m width less in
              subst (IsRow ops f w k a) (sym (range_in_front values row (i * width) width (subst (λ (n : ℕ). i * width + width ≤ n) (sym before) within))) (h.each i a less e)
          | inr le ↦
              let same : m ≡ i = omega arith in
              let here : u ≡ a = same_Some u a (sym at ∙ ap (slice_get (at_cell f.entries k)) same ∙ e) in
              let from : length values ≡ i * width = before ∙ ap (λ (n : ℕ). n * width) same in
              let part : slice_range (values ++ row) (i * width) (i * width + width) ≡ row = subst (λ (n : ℕ). slice_range (values ++ row) n (n + width) ≡ row) from (subst (λ (n : ℕ). slice_range (values ++ row) (length values) (length values + n) ≡ row) long (range_behind values row)) in
              subst (λ (v : ℕ). IsRow ops f w k v (slice_range (values ++ row) (i * width) (i * width + width))) here (subst (IsRow ops f w k u) (sym part) r)
        ];
      }

  -- the clique of one cell
  one_row : (k : Cell) (clique : List (Option C)) → IsClique ops f w k clique → IsRowOf ops f w k (record { first = 0 ∷ []; values = clique }) 0
  one_row k clique h i u e =
      let width : ℕ = length (at_cell f.exits k) in
      let lt : i < length (at_cell f.entries k) = slice_get_within (at_cell f.entries k) i u e in
      let le : i * width + width ≤ length clique = subst (λ (l : ℕ). i * width + width ≤ l) (sym h.size) (times_within i (length (at_cell f.entries k)) width lt) in
      let at : i * width ≡ 0 + i * width = omega arith in
      (_, record { first = 0; begins = refl; within = omega (arith, le); row_is = ap (λ (n : ℕ). slice_range clique n (n + width)) at }, h.each i u lt e)

  one_each : (level number : ℕ) (clique : List (Option C)) → IsClique ops f w (record { level = level; number = number }) clique →
      (n : ℕ) → n < 1 → IsRowOf ops f w (record { level = level; number = number + n }) (record { first = 0 ∷ []; values = clique }) n
  one_each level number clique h n lt =
      let none : 0 ≡ n = omega arith in
      let same : number ≡ number + 0 = omega arith in
      subst (λ (m : ℕ). IsRowOf ops f w (record { level = level; number = number + m }) (record { first = 0 ∷ []; values = clique }) m) none
      (subst (λ (m : ℕ). IsRowOf ops f w (record { level = level; number = m }) (record { first = 0 ∷ []; values = clique }) 0) same (one_row (record { level = level; number = number }) clique h))

  AreMade-one : (level number : ℕ) (clique : List (Option C)) → IsClique ops f w (record { level = level; number = number }) clique → AreMade ops f w level number (number + 1) (record { first = 0 ∷ []; values = clique })
  AreMade-one level number clique h = record {
    size = refl;
    within = All-cons (λ first. first ≤ length clique) 0 [] (omega arith) (All-nil (λ first. first ≤ length clique));
    each = λ n lt. one_each level number clique h n lt;
  }

  pub AreMade-none : (level from : ℕ) → AreMade ops f w level from from (record { first = []; values = [] })
  AreMade-none level from = record { size = omega arith; within = All-nil (λ first. first ≤ 0); each = λ n lt. absurd (omega (arith, lt)) }

  -- what stands behind cliques changes none of their rows
  HasRow-in_front : (rows more : Rows C) (n i width : ℕ) (row : List (Option C)) → HasRow rows n i width row → HasRow (behind rows more) n i width row
  HasRow-in_front rows more n i width row h = record {
    first = h.first;
    begins = get_append rows.first (map (λ first. length rows.values + first) more.first) n h.first h.begins;
    within = omega (arith, length-append rows.values more.values, h.within);
    row_is = h.row_is ∙ sym (range_in_front rows.values more.values (h.first + i * width) width h.within);
  }

  -- and what stands behind them has its rows there
  HasRow-behind : (rows more : Rows C) (n i width : ℕ) (row : List (Option C)) → HasRow more n i width row → HasRow (behind rows more) (length rows.first + n) i width row
  HasRow-behind rows more n i width row h =
      let up : ℕ → ℕ = λ first. length rows.values + first in
      let place : slice_get (map up more.first) n ≡ Some (length rows.values + h.first) = slice_get-map up more.first n ∙ ap (option_map up) h.begins in
      let all : more.values ≡ slice_range (rows.values ++ more.values) (length rows.values) (length rows.values + length more.values) = sym (range_behind rows.values more.values) in
      let same : length rows.values + (h.first + i * width) ≡ length rows.values + h.first + i * width = omega arith in
      record {
        first = length rows.values + h.first;
        begins = get_behind rows.first (map up more.first) n (length rows.values + h.first) place;
        within = omega (arith, length-append rows.values more.values, h.within);
        row_is = h.row_is ∙ range_of_range (rows.values ++ more.values) more.values (length rows.values) (length more.values) (h.first + i * width) width all h.within ∙ ap (λ (a : ℕ). slice_range (rows.values ++ more.values) a (a + width)) same;
      }

  -- the cliques of cells, and behind them those of the next cells
  pub AreMade-behind : (level from between to : ℕ) (rows more : Rows C) → AreMade ops f w level from between rows → AreMade ops f w level between to more → AreMade ops f w level from to (behind rows more)
  AreMade-behind level from between to rows more a b =
      let up : ℕ → ℕ = λ first. length rows.values + first in
      let long : length (map up more.first) ≡ length more.first = length-map more.first up in
      let ends : length (rows.values ++ more.values) ≡ length rows.values + length more.values = length-append rows.values more.values in
      let count : length (rows.first ++ map up more.first) ≡ length rows.first + length more.first = length-append rows.first (map up more.first) ∙ ap (λ (n : ℕ). length rows.first + n) long in
      record {
        size = omega (arith, count, a.size, b.size);
        within = All-append (λ first. first ≤ length (rows.values ++ more.values)) rows.first (map up more.first)
            (λ k d lt. let le = a.within k d lt in omega (arith, le, ends))
            (All-map (λ first. first ≤ length (rows.values ++ more.values)) up more.first (λ k d lt. let le = b.within k d lt in omega (arith, le, ends)));
        each = λ n lt i u e. elim (cases_lt n (length rows.first)) [
          | inl less ↦ let r = a.each n less i u e in (r.0, HasRow-in_front rows more n i (length (at_cell f.exits (record { level = level; number = from + n }))) r.0 r.1, r.2)
          | inr le ↦
              let number : from + n ≡ between + (n - length rows.first) = omega (arith, le, a.size) in
              let at : length rows.first + (n - length rows.first) ≡ n = omega (arith, le) in
              let few : n - length rows.first < length more.first = omega (arith, le, lt, count) in
              let r : IsRowOf ops f w (record { level = level; number = from + n }) more (n - length rows.first) = subst (λ (x : ℕ). IsRowOf ops f w (record { level = level; number = x }) more (n - length rows.first)) (sym number) (b.each (n - length rows.first) few) in
              let q = r i u e in
              (q.0, subst (λ (x : ℕ). HasRow (behind rows more) x i (length (at_cell f.exits (record { level = level; number = from + n }))) q.0) at (HasRow-behind rows more (n - length rows.first) i (length (at_cell f.exits (record { level = level; number = from + n }))) q.0 q.1), q.2)
        ];
      }

  -- the clique of one cell more
  pub AreMade-push : (level from m : ℕ) (first : List ℕ) (values clique : List (Option C)) → IsClique ops f w (record { level = level; number = m }) clique →
      AreMade ops f w level from m (record { first = first; values = values }) → AreMade ops f w level from (m + 1) (record { first = first ++ length values ∷ []; values = values ++ clique })
  AreMade-push level from m first values clique here h =
      let none : length values + 0 ≡ length values = omega arith in
      subst (λ (n : ℕ). AreMade ops f w level from (m + 1) (record { first = first ++ n ∷ []; values = values ++ clique })) none
      (AreMade-behind level from m (m + 1) (record { first = first; values = values }) (record { first = 0 ∷ []; values = clique }) h (AreMade-one level m clique here))

  -- the cliques of all cells of a level are an exact level
  pub IsExactLevel-made : (level : ℕ) (rows : Rows C) → AreMade ops f w level 0 (length (level_at f.cells level)) rows → IsExactLevel ops f w rows level
  IsExactLevel-made level rows all k i u is_cell e entry =
      let low : k.number < length (level_at f.cells level) = subst (λ (l : ℕ). k.number < length (level_at f.cells l)) e is_cell.2 in
      let few : k.number < length rows.first = omega (arith, low, all.size) in
      let number : 0 + k.number ≡ k.number = omega arith in
      let r : IsRowOf ops f w k rows k.number = subst (λ (z : Cell). IsRowOf ops f w z rows k.number) (cell_same k level (0 + k.number) e (sym number)) (all.each k.number few) in
      r i u entry

  -- with one level more they are exact up to it
  pub AreExact-push : (cliques : CliqueLists C) (top : ℕ) (new : Rows C) → length cliques.rows ≡ top → AreExact ops f w cliques top → IsExactLevel ops f w new (top + 1) → AreExact ops f w (with_level cliques new) (top + 1)
  AreExact-push cliques top new count exact level = record {
    rows = λ k i u is_cell low e. elim (cases_lt top k.level) [
      | inl lt ↦
          let r = level k i u is_cell (omega arith) e in
          let place : length cliques.rows ≡ k.level - 1 = omega arith in
          (r.0, record { rows = new; level = subst (λ (n : ℕ). slice_get (cliques.rows ++ new ∷ []) n ≡ Some new) place (get_pushed cliques.rows new); has = r.1 }, r.2)
      | inr le ↦
          let r = exact.rows k i u is_cell le e in
          (r.0, record { rows = r.1.rows; level = get_append cliques.rows (new ∷ []) (k.level - 1) r.1.rows r.1.level; has = r.1.has }, r.2)
    ];
    crossing = exact.crossing;
  }
