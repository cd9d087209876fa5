-- The cells below a cell that don't hold a vertex of it are parts.
use Rattle.std.proofs.Common.{◌≡◌, ℕ, zero, suc, ◌+◌, ◌-◌, ◌<◌, ◌≤◌, ◌⊎◌, inl, inr, Bool, true, false, cond, length, nat_eq, refl, sym, ◌∙◌, ap, subst, arith, add-one}
use Rattle.std.proofs.Math.Nat.{eq-or-lt_of_le}
use Rattle.std.proofs.lemmas.Bool.Decides.{eqb_tells}
use Rattle.cell_partition.specs.Partition.{Partition, level_at, number_of, IsKept, IsNested}
use Rattle.cell_frame.specs.declared.cells.Cell.{Cell}
use Rattle.cell_frame.specs.Borders.{Framed, IsFramed, cell_of, Holds, IsCell}
use Rattle.cell_frame.specs.Parts.{AreParts}
use Rattle.column_search.specs.Toward.{apart_up_to, level_toward, AreToward}

-- a level is 0, or that of a cell
pub some_or_none : (n : ℕ) → (n ≡ 0) ⊎ (1 ≤ n)
some_or_none zero = inl refl
some_or_none (suc n) = inr (omega arith)

by_truth : {G : Type 0} (b : Bool) → (b ≡ true → G) → (b ≡ false → G) → G
by_truth true f g = f refl
by_truth false f g = g refl

module _ (p : Partition) (kept : IsKept p) where
  -- vertices that share a cell share all above it
  pub same_above : (u v level m : ℕ) → u < p.vertices → v < p.vertices → 1 ≤ level → number_of (level_at p level) u ≡ number_of (level_at p level) v → level ≤ m → m ≤ length p.levels →
      number_of (level_at p m) u ≡ number_of (level_at p m) v
  same_above u v level zero lu lv some e low high = absurd (omega arith)
  same_above u v level (suc m) lu lv some e low high = elim (eq-or-lt_of_le low) [
    | inl same ↦ subst (λ (l : ℕ). number_of (level_at p l) u ≡ number_of (level_at p l) v) same e
    | inr lt ↦
        let le : level ≤ m = omega arith in
        let below : number_of (level_at p m) u ≡ number_of (level_at p m) v = same_above u v level m lu lv some e le (omega arith) in
        let nested : IsNested p.vertices (level_at p m) (level_at p (m + 1)) = kept.nested m (omega arith) (omega arith) in
        let up : number_of (level_at p (m + 1)) u ≡ number_of (level_at p (m + 1)) v = nested u v lu lv below in
        subst (λ (l : ℕ). number_of (level_at p l) u ≡ number_of (level_at p l) v) (add-one m) up
  ]

  -- a cell of a vertex is one
  pub IsCell-of : (v level : ℕ) → v < p.vertices → 1 ≤ level → level ≤ length p.levels → IsCell p (cell_of p level v)
  IsCell-of v level lv some high = (some, high, (kept.level level some high).placed v lv)

  module _ (t : ℕ) where
    -- whether the cell of v at a level holds t
    abbrev meets : ℕ → ℕ → Bool
    meets m v = nat_eq (number_of (level_at p m) v) (number_of (level_at p m) t)

    apart_le : (v m : ℕ) → apart_up_to p t v m ≤ m
    apart_le v zero = omega arith
    apart_le v (suc m) = by_truth (meets (suc m) v)
        (λ q. let rest : apart_up_to p t v m ≤ m = apart_le v m in let e : apart_up_to p t v (suc m) ≡ apart_up_to p t v m = ap (λ b. cond b (apart_up_to p t v m) (suc m)) q in omega arith)
        (λ q. let e : apart_up_to p t v (suc m) ≡ suc m = ap (λ b. cond b (apart_up_to p t v m) (suc m)) q in omega arith)

    meets_same : (u v m : ℕ) → number_of (level_at p m) u ≡ number_of (level_at p m) v → meets m u ≡ meets m v
    meets_same u v m e = ap (λ (n : ℕ). nat_eq n (number_of (level_at p m) t)) e

    apart_same : (u v level m : ℕ) → u < p.vertices → v < p.vertices → 1 ≤ level → number_of (level_at p level) u ≡ number_of (level_at p level) v → m ≤ length p.levels →
        apart_up_to p t u m ≡ level → apart_up_to p t v m ≡ level
    apart_same u v level zero lu lv some e high is = is
    apart_same u v level (suc m) lu lv some e high is = by_truth (meets (suc m) u)
        (λ q.
        let down : apart_up_to p t u m ≡ level = sym (ap (λ b. cond b (apart_up_to p t u m) (suc m)) q) ∙ is in
        let le : apart_up_to p t u m ≤ m = apart_le u m in
        let same : number_of (level_at p (suc m)) u ≡ number_of (level_at p (suc m)) v = same_above u v level (suc m) lu lv some e (omega arith) high in
        let q2 : meets (suc m) v ≡ true = sym (meets_same u v (suc m) same) ∙ q in
        ap (λ b. cond b (apart_up_to p t v m) (suc m)) q2 ∙ apart_same u v level m lu lv some e (omega arith) down)
        (λ q.
        let here : suc m ≡ level = sym (ap (λ b. cond b (apart_up_to p t u m) (suc m)) q) ∙ is in
        let same : number_of (level_at p (suc m)) u ≡ number_of (level_at p (suc m)) v = same_above u v level (suc m) lu lv some e (omega arith) high in
        let q2 : meets (suc m) v ≡ false = sym (meets_same u v (suc m) same) ∙ q in
        ap (λ b. cond b (apart_up_to p t v m) (suc m)) q2 ∙ here)

    nat_eq-same : (n : ℕ) → nat_eq n n ≡ true
    nat_eq-same n = elim (eqb_tells n n) [ inl q ↦ q.0 | inr q ↦ absurd (q.1 refl) ]

    apart_itself : (m : ℕ) → apart_up_to p t t m ≡ 0
    apart_itself zero = refl
    apart_itself (suc m) = ap (λ b. cond b (apart_up_to p t t m) (suc m)) (nat_eq-same (number_of (level_at p (suc m)) t)) ∙ apart_itself m

-- one level down from where the cell of v holds t
pub apart_down : (p : Partition) (t v m : ℕ) → 1 ≤ m → number_of (level_at p m) v ≡ number_of (level_at p m) t → apart_up_to p t v m ≡ apart_up_to p t v (m - 1)
apart_down p t v zero some e = absurd (omega arith)
apart_down p t v (suc m) some e =
    let down : suc m - 1 ≡ m = omega arith in
    let q : nat_eq (number_of (level_at p (suc m)) v) (number_of (level_at p (suc m)) t) ≡ true = elim (eqb_tells (number_of (level_at p (suc m)) v) (number_of (level_at p (suc m)) t)) [ inl h ↦ h.0 | inr h ↦ absurd (h.1 e) ] in
    ap (λ b. cond b (apart_up_to p t v m) (suc m)) q ∙ ap (apart_up_to p t v) (sym down)

-- and where it doesn't
pub apart_here : (p : Partition) (t v m : ℕ) → 1 ≤ m → (¬ (number_of (level_at p m) v ≡ number_of (level_at p m) t)) → apart_up_to p t v m ≡ m
apart_here p t v zero some n = absurd (omega arith)
apart_here p t v (suc m) some n =
    let q : nat_eq (number_of (level_at p (suc m)) v) (number_of (level_at p (suc m)) t) ≡ false = elim (eqb_tells (number_of (level_at p (suc m)) v) (number_of (level_at p (suc m)) t)) [ inl h ↦ absurd (n h.1) | inr h ↦ h.0 ] in
    ap (λ b. cond b (apart_up_to p t v m) (suc m)) q

module _ (f : Framed) (framed : IsFramed f) (k : Cell) (is_cell : IsCell f.cells k) (t : ℕ) where
  abbrev level : ℕ → ℕ
  level v = level_toward f.cells k t v

  high : (v : ℕ) → level v ≤ k.level - 1
  high v = apart_le f.cells framed.kept t v (k.level - 1)

  are_parts : AreParts f.cells (Holds f.cells k) (level_toward f.cells k t)
  are_parts = record {
    steady = λ u v h. apart_same f.cells framed.kept t u v (level u) (k.level - 1) h.1.0 h.2.0 h.0 (sym h.2.1) (omega (arith, is_cell.1)) refl;
    inner = λ u v h hu.
        let le : level u ≤ k.level - 1 = high u in
        let up : number_of (level_at f.cells k.level) u ≡ number_of (level_at f.cells k.level) v = same_above f.cells framed.kept u v (level u) k.level h.1.0 h.2.0 h.0 (sym h.2.1) (omega arith) is_cell.1 in
        (h.2.0, sym up ∙ hu.1);
  }

  pub AreToward-cell : AreToward f k t
  AreToward-cell = record {
    parts = are_parts;
    high = high;
    alone = apart_itself f.cells framed.kept t (k.level - 1);
    enters = λ v h. elim (some_or_none (level v)) [
      | inl none ↦ inl none
      | inr some ↦ inr ((h.0.0, refl), h.1, h.2, h.3, λ q. h.4 (are_parts.inner v h.2 (some, (h.0.0, refl), q) h.0))
    ];
  }
