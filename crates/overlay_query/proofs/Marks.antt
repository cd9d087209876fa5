-- Marks of the cells that hold a terminal: one terminal more, and one level more.
use Rattle.std.proofs.Common.{◌≡◌, ◌≢◌, ℕ, zero, suc, ◌+◌, ◌-◌, ◌<◌, ◌≤◌, inl, inr, Bool, true, false, nat_eq, List, [], ◌∷◌, ◌++◌, take, length, Some, arith, refl, sym, ◌∙◌, ap, subst}
use Rattle.std.specs.List.{slice_get, list_any}
use Rattle.std.proofs.Math.ListN.{set, length-set, replicate}
use Rattle.std.proofs.lemmas.Bool.Decides.{eqb_tells}
use Rattle.std.proofs.lemmas.List.{length-replicate}
use Rattle.std.proofs.lemmas.Option.{same_Some, slice_get_within}
use Rattle.list_lemmas.proofs.Fronts.{take-get}
use Rattle.list_lemmas.proofs.Gets.{get_push, get_set, get_some}
use Rattle.cell_partition.specs.Partition.{IsKept, Partition, level_at, number_of}
use Rattle.cell_frame.specs.Free.{has_terminal}
use Rattle.overlay_query.specs.TerminalCells.{AreMarksAt, AreMarksUpTo}

by_truth : {G : Type 0} (b : Bool) → (b ≡ true → G) → (b ≡ false → G) → G
by_truth true f g = f refl
by_truth false f g = g refl

-- whether one of a list or one more passes a test
any_hit : (f : ℕ → Bool) (xs : List ℕ) (x : ℕ) → f x ≡ true → list_any f (xs ++ x ∷ []) ≡ true
any_hit f [] x e = rw e
any_hit f (y ∷ ys) x e = by_truth (f y) (λ q. rw q) (λ q. rw q (any_hit f ys x e))

any_miss : (f : ℕ → Bool) (xs : List ℕ) (x : ℕ) → f x ≡ false → list_any f (xs ++ x ∷ []) ≡ list_any f xs
any_miss f [] x e = rw e
any_miss f (y ∷ ys) x e = by_truth (f y) (λ q. rw q) (λ q. rw q (any_miss f ys x e))

eq_true : (n m : ℕ) → n ≡ m → nat_eq n m ≡ true
eq_true n m e = elim (eqb_tells n m) [ inl p ↦ p.0 | inr p ↦ absurd (p.1 e) ]

eq_false : (n m : ℕ) → n ≢ m → nat_eq n m ≡ false
eq_false n m e = elim (eqb_tells n m) [ inl p ↦ absurd (e p.1) | inr p ↦ p.0 ]

none_at : (n k : ℕ) (mark : Bool) → slice_get (replicate n false) k ≡ Some mark → mark ≡ false
none_at zero k mark e = let lt : k < length {A = Bool} [] = slice_get_within [] k mark e in absurd (omega arith)
none_at (suc n) zero mark e = sym (same_Some false mark e)
none_at (suc n) (suc k) mark e = none_at n k mark e

-- none is marked where there is no terminal
pub AreMarksAt-none : (p : Partition) (level n : ℕ) (marks : List Bool) → marks ≡ replicate n false → n ≡ length (level_at p level) → AreMarksAt p [] level marks
AreMarksAt-none p level n marks e size = record {
  size = ap length e ∙ length-replicate n false ∙ size;
  each = λ k mark at. none_at n k mark (subst (λ (ms : List Bool). slice_get ms k ≡ Some mark) e at);
}

-- one terminal more
pub AreMarksAt-more : (p : Partition) (level : ℕ) (vertices : List ℕ) (i v n : ℕ) (marks : List Bool) → slice_get vertices i ≡ Some v → n ≡ number_of (level_at p level) v → AreMarksAt p (take i vertices) level marks →
    AreMarksAt p (take (i + 1) vertices) level (set marks n true)
AreMarksAt-more p level vertices i v n marks at is before = record {
  size = length-set marks n true ∙ before.size;
  each = λ k mark e.
      let f : ℕ → Bool = λ t. nat_eq k (number_of (level_at p level) t) in
      let all : list_any f (take (i + 1) vertices) ≡ list_any f (take i vertices ++ v ∷ []) = ap (list_any f) (take-get vertices i v at) in
      elim (get_set marks n k true mark e) [
        | inl q ↦ q.1 ∙ sym (all ∙ any_hit f (take i vertices) v (eq_true k (number_of (level_at p level) v) (q.0 ∙ is)))
        | inr q ↦ before.each k mark q.1 ∙ sym (all ∙ any_miss f (take i vertices) v (eq_false k (number_of (level_at p level) v) (λ same. q.0 (same ∙ sym is))))
      ];
}

take_all : (xs : List ℕ) (n : ℕ) → length xs ≤ n → take n xs ≡ xs
take_all [] zero le = refl
take_all [] (suc n) le = refl
take_all (x ∷ xs) zero le = absurd (omega arith)
take_all (x ∷ xs) (suc n) le = ap (λ (ys : List ℕ). x ∷ ys) (take_all xs n (omega arith))

-- and all of them
pub AreMarksAt-all : (p : Partition) (level : ℕ) (vertices : List ℕ) (i : ℕ) (marks : List Bool) → length vertices ≤ i → AreMarksAt p (take i vertices) level marks → AreMarksAt p vertices level marks
AreMarksAt-all p level vertices i marks all h = subst (λ (ts : List ℕ). AreMarksAt p ts level marks) (take_all vertices i all) h

-- the marks of one level more
pub AreMarksUpTo-push : (p : Partition) (terminals : List ℕ) (levels : List (List Bool)) (m : ℕ) (marks : List Bool) → AreMarksUpTo p terminals levels m → AreMarksAt p terminals (m + 1) marks → length (levels ++ marks ∷ []) ≡ m + 1 →
    AreMarksUpTo p terminals (levels ++ marks ∷ []) (m + 1)
AreMarksUpTo-push p terminals levels m marks before new size = record {
  size = size;
  each = λ k ms e. elim (get_push levels marks k ms e) [
    | inl g ↦ before.each k ms g
    | inr g ↦ subst (λ (xs : List Bool). AreMarksAt p terminals (k + 1) xs) (sym g.1) (subst (λ (n : ℕ). AreMarksAt p terminals (n + 1) marks) (sym (g.0 ∙ before.size)) new)
  ];
}

-- the mark of a vertex's cell tells whether that holds a terminal
pub mark_tells : (p : Partition) (terminals : List ℕ) (levels : List (List Bool)) (level n v : ℕ) (marks : List Bool) (told : Bool) → IsKept p → AreMarksUpTo p terminals levels (length p.levels) → 1 ≤ level → level ≤ length p.levels → v < p.vertices →
    n ≡ number_of (level_at p level) v → slice_get levels (level - 1) ≡ Some marks → ((mark : Bool) → slice_get marks n ≡ Some mark → told ≡ mark) → told ≡ has_terminal p terminals level v
mark_tells p terminals levels level n v marks told kept are low high lv is at tells =
    let up : level - 1 + 1 ≡ level = omega (arith, low) in
    let here : AreMarksAt p terminals level marks = subst (λ (l : ℕ). AreMarksAt p terminals l marks) up (are.each (level - 1) marks at) in
    let placed : number_of (level_at p level) v < length (level_at p level) = (kept.level level low high).placed v lv in
    let mark = get_some marks n (omega (arith, here.size, placed, is)) in
    tells mark.0 mark.1 ∙ here.each n mark.0 mark.1 ∙ ap (λ (k : ℕ). list_any (λ t. nat_eq k (number_of (level_at p level) t)) terminals) is
