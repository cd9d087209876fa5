-- Two ways to choose the level of each vertex's part: the highest cell without a terminal, and the cells below one cell.
use Rattle.std.proofs.Common.{◌≡◌, ℕ, zero, suc, ◌+◌, ◌-◌, ◌<◌, ◌≤◌, ◌⊎◌, inl, inr, Bool, true, false, cond, List, [], ◌∷◌, length, nat_eq, Some, refl, sym, ◌∙◌, ap, subst, arith, add-one}
use Rattle.std.specs.List.{list_any, Contains}
use Rattle.std.proofs.Math.Nat.{eq-or-lt_of_le}
use Rattle.std.proofs.lemmas.Bool.Decides.{eqb_tells}
use Rattle.std.proofs.lemmas.Option.{slice_get_within, same_Some}
use Rattle.std.specs.List.{slice_get}
use Rattle.list_lemmas.proofs.Gets.{get_Contains}
use Rattle.search_graph.specs.Digraph.{Digraph}
use Rattle.cell_partition.specs.Partition.{Partition, level_at, number_of, IsKept, IsNested}
use Rattle.cell_frame.specs.declared.cells.Cell.{Cell}
use Rattle.cell_frame.specs.Borders.{cell_of, Holds, IsCell}
use Rattle.cell_frame.specs.Free.{has_terminal, free_up_to, free_level}
use Rattle.cell_frame.specs.Parts.{AreParts, AreBordersBelow}

pub same_level : (n : ℕ) → n ≤ n
same_level n = omega arith

by_truth : {G : Type 0} (b : Bool) → (b ≡ true → G) → (b ≡ false → G) → G
by_truth true f g = f refl
by_truth false f g = g refl

nat_eq-same : (n : ℕ) → nat_eq n n ≡ true
nat_eq-same n = elim (eqb_tells n n) [ inl p ↦ p.0 | inr p ↦ absurd (p.1 refl) ]

-- what passes a test at one place passes it somewhere
any_at : (f : ℕ → Bool) (ts : List ℕ) (k t : ℕ) → slice_get ts k ≡ Some t → f t ≡ true → list_any f ts ≡ true
any_at f [] k t h e = let lt : k < length {A = ℕ} [] = slice_get_within [] k t h in absurd (omega arith)
any_at f (x ∷ ts) zero t h e = let same : x ≡ t = same_Some x t h in let here : f x ≡ true = ap f same ∙ e in rw here
any_at f (x ∷ ts) (suc k) t h e = by_truth (f x) (λ q. rw q) (λ q. rw q (any_at f ts k t h e))

module _ (p : Partition) (kept : IsKept p) where
  -- vertices that share a cell share all above it
  pub same_above : (u v level m : ℕ) → u < p.vertices → v < p.vertices → 1 ≤ level → number_of (level_at p level) u ≡ number_of (level_at p level) v → level ≤ m → m ≤ length p.levels →
      number_of (level_at p m) u ≡ number_of (level_at p m) v
  same_above u v level zero lu lv some e low high = absurd (omega arith)
  same_above u v level (suc m) lu lv some e low high = elim (eq-or-lt_of_le low) [
    | inl same ↦ subst (λ (l : ℕ). number_of (level_at p l) u ≡ number_of (level_at p l) v) same e
    | inr lt ↦
        let le : level ≤ m = omega arith in
        let below : number_of (level_at p m) u ≡ number_of (level_at p m) v = same_above u v level m lu lv some e le (omega arith) in
        let nested : IsNested p.vertices (level_at p m) (level_at p (m + 1)) = kept.nested m (omega arith) (omega arith) in
        let up : number_of (level_at p (m + 1)) u ≡ number_of (level_at p (m + 1)) v = nested u v lu lv below in
        subst (λ (l : ℕ). number_of (level_at p l) u ≡ number_of (level_at p l) v) (add-one m) up
  ]

  -- a cell of a vertex is one
  pub IsCell-of : (v level : ℕ) → v < p.vertices → 1 ≤ level → level ≤ length p.levels → IsCell p (cell_of p level v)
  IsCell-of v level lv some high = (some, high, (kept.level level some high).placed v lv)

  module _ (terminals : List ℕ) where
    free_le : (v m : ℕ) → free_up_to p terminals v m ≤ m
    free_le v zero = omega arith
    free_le v (suc m) = by_truth (has_terminal p terminals (suc m) v)
        (λ t. let rest : free_up_to p terminals v m ≤ m = free_le v m in let e : free_up_to p terminals v (suc m) ≡ free_up_to p terminals v m = ap (λ b. cond b (free_up_to p terminals v m) (suc m)) t in omega arith)
        (λ f. let e : free_up_to p terminals v (suc m) ≡ suc m = ap (λ b. cond b (free_up_to p terminals v m) (suc m)) f in omega arith)

    test_same : (u v m : ℕ) → number_of (level_at p m) u ≡ number_of (level_at p m) v → has_terminal p terminals m u ≡ has_terminal p terminals m v
    test_same u v m e = ap (λ (n : ℕ). list_any (λ t. nat_eq n (number_of (level_at p m) t)) terminals) e

    free_same : (u v level m : ℕ) → u < p.vertices → v < p.vertices → 1 ≤ level → number_of (level_at p level) u ≡ number_of (level_at p level) v → m ≤ length p.levels →
        free_up_to p terminals u m ≡ level → free_up_to p terminals v m ≡ level
    free_same u v level zero lu lv some e high is = is
    free_same u v level (suc m) lu lv some e high is = by_truth (has_terminal p terminals (suc m) u)
        (λ t.
        let down : free_up_to p terminals u m ≡ level = sym (ap (λ b. cond b (free_up_to p terminals u m) (suc m)) t) ∙ is in
        let le : free_up_to p terminals u m ≤ m = free_le u m in
        let same : number_of (level_at p (suc m)) u ≡ number_of (level_at p (suc m)) v = same_above u v level (suc m) lu lv some e (omega arith) high in
        let t2 : has_terminal p terminals (suc m) v ≡ true = sym (test_same u v (suc m) same) ∙ t in
        ap (λ b. cond b (free_up_to p terminals v m) (suc m)) t2 ∙ free_same u v level m lu lv some e (omega arith) down)
        (λ f.
        let here : suc m ≡ level = sym (ap (λ b. cond b (free_up_to p terminals u m) (suc m)) f) ∙ is in
        let same : number_of (level_at p (suc m)) u ≡ number_of (level_at p (suc m)) v = same_above u v level (suc m) lu lv some e (omega arith) high in
        let f2 : has_terminal p terminals (suc m) v ≡ false = sym (test_same u v (suc m) same) ∙ f in
        ap (λ b. cond b (free_up_to p terminals v m) (suc m)) f2 ∙ here)

    -- the highest cells without a terminal are parts
    pub AreParts-free : AreParts p (λ v. Unit {0}) (free_level p terminals)
    AreParts-free = record {
      steady = λ u v h. free_same u v (free_level p terminals u) (length p.levels) h.1.0 h.2.0 h.0 (sym h.2.1) (omega arith) refl;
      inner = λ u v h k. tt;
    }

    pub free_level_le : (v : ℕ) → free_level p terminals v ≤ length p.levels
    free_level_le v = free_le v (length p.levels)

    terminal_up_to : (t m : ℕ) → Contains terminals t → free_up_to p terminals t m ≡ 0
    terminal_up_to t zero h = refl
    terminal_up_to t (suc m) h =
        let g = get_Contains terminals t h in
        let e : has_terminal p terminals (suc m) t ≡ true = any_at (λ x. nat_eq (number_of (level_at p (suc m)) t) (number_of (level_at p (suc m)) x)) terminals g.0 t g.1 (nat_eq-same (number_of (level_at p (suc m)) t)) in
        ap (λ b. cond b (free_up_to p terminals t m) (suc m)) e ∙ terminal_up_to t m h

    -- a terminal is alone
    pub free_level-terminal : (t : ℕ) → Contains terminals t → free_level p terminals t ≡ 0
    free_level-terminal t h = terminal_up_to t (length p.levels) h

module _ (p : Partition) (kept : IsKept p) (k : Cell) (is_cell : IsCell p k) where
  -- the cells below a cell are parts of it
  pub AreParts-below : AreParts p (Holds p k) (λ v. k.level - 1)
  AreParts-below = record {
    steady = λ u v h. refl;
    inner = λ u v h hu.
        let below : ℕ = k.level - 1 in
        let some : 1 ≤ below = h.0 in
        let up : number_of (level_at p k.level) u ≡ number_of (level_at p k.level) v = same_above p kept u v below k.level h.1.0 h.2.0 h.0 (sym h.2.1) (omega arith) is_cell.1 in
        (h.2.0, sym up ∙ hu.1);
  }

  pub level_below : k.level - 1 ≤ length p.levels
  level_below = omega (arith, is_cell.1)

  none_or_below : (k.level - 1 ≡ 0) ⊎ (1 ≤ k.level - 1)
  none_or_below = elim (eqb_tells (k.level - 1) 0) [ inl z ↦ inl z.1 | inr n ↦ inr (omega (arith, n.1)) ]

  -- where a cell below holds v, what isn't in the cell isn't in that one
  apart_below : (u v : ℕ) → 1 ≤ k.level - 1 → Holds p k v → (¬ Holds p k u) → ¬ Holds p (cell_of p (k.level - 1) v) u
  apart_below u v some held not q = not (AreParts-below.inner v u (some, (held.0, refl), q) held)

  -- what borders the cell borders the cell below it
  pub AreBordersBelow-cell : (g : Digraph) → AreBordersBelow g p k
  AreBordersBelow-cell g = record {
    entries = λ v h. elim none_or_below [ inl z ↦ inl z | inr some ↦ inr ((h.0.0, refl), h.1, h.2, h.3, apart_below h.2 v some h.0 h.4) ];
    exits = λ v h. elim none_or_below [ inl z ↦ inl z | inr some ↦ inr ((h.0.0, refl), h.1, h.2, h.3, apart_below h.2 v some h.0 h.4) ];
  }
