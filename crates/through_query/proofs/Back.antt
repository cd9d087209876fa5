-- One leg back.
use Rattle.std.proofs.Common.{◌≡◌, ℕ, zero, suc, ◌-◌, ◌<◌, ◌≤◌, List, [], ◌∷◌, ◌++◌, Vec, length, slice_index_or, refl, sym, subst, ap, ◌∙◌, arith, length-append}
use Rattle.std.specs.Global.{Global}
use Rattle.list_lemmas.proofs.Gets.{get_append, get_pushed, get_some}
use Rattle.through_query.specs.Layers.{GoesBack, back, befores_at}
use Rattle.through_query.proofs.Reading.{befores_read}

module _ (befores : List (Vec ℕ Global)) where
  pub back_once : (k y : ℕ) (more : List ℕ) → 0 < k → back k befores (y ∷ more) ≡ back (k - 1) befores (slice_index_or (befores_at befores (k - 1)) y 0 ∷ y ∷ more)
  back_once zero y more some = absurd (omega arith)
  back_once (suc k) y more some =
      let same : suc k - 1 ≡ k = omega arith in
      subst (λ m. back (suc k) befores (y ∷ more) ≡ back m befores (slice_index_or (befores_at befores m) y 0 ∷ y ∷ more)) (sym same) refl

  pub goes_once : (k y : ℕ) → 0 < k → GoesBack k befores y → (y < length (befores_at befores (k - 1))) × GoesBack (k - 1) befores (slice_index_or (befores_at befores (k - 1)) y 0)
  goes_once zero y some h = absurd (omega arith)
  goes_once (suc k) y some h =
      let same : suc k - 1 ≡ k = omega arith in
      subst (λ m. (y < length (befores_at befores m)) × GoesBack m befores (slice_index_or (befores_at befores m) y 0)) (sym same) h

  module _ (row : Vec ℕ Global) where
    -- what was there stays with one row more
    front_at : (k : ℕ) → k < length befores → befores_at (befores ++ row ∷ []) k ≡ befores_at befores k
    front_at k lt = let g = get_some befores k lt in befores_read (befores ++ row ∷ []) k g.0 (get_append befores (row ∷ []) k g.0 g.1) ∙ sym (befores_read befores k g.0 g.1)

    size : length (befores ++ row ∷ []) ≡ suc (length befores)
    size = let l = length-append befores (row ∷ []) in omega (arith, l)

    pub last_at : befores_at (befores ++ row ∷ []) (length befores) ≡ row.items
    last_at = befores_read (befores ++ row ∷ []) (length befores) row (get_pushed befores row)

    pub back_kept : (k : ℕ) (states : List ℕ) → k ≤ length befores → back k (befores ++ row ∷ []) states ≡ back k befores states
    back_kept zero states le = refl
    back_kept (suc k) [] le = refl
    back_kept (suc k) (y ∷ more) le =
        let lt : k < length befores = omega (arith, le) in
        let before : k ≤ length befores = omega (arith, le) in
        ap (λ l. back k (befores ++ row ∷ []) (slice_index_or l y 0 ∷ y ∷ more)) (front_at k lt) ∙ back_kept k (slice_index_or (befores_at befores k) y 0 ∷ y ∷ more) before

    pub goes_kept : (k y : ℕ) → k ≤ length befores → GoesBack k befores y → GoesBack k (befores ++ row ∷ []) y
    goes_kept zero y le h = tt
    goes_kept (suc k) y le h =
        let lt : k < length befores = omega (arith, le) in
        let before : k ≤ length befores = omega (arith, le) in
        subst (λ l. (y < length l) × GoesBack k (befores ++ row ∷ []) (slice_index_or l y 0)) (sym (front_at k lt)) (h.0, goes_kept k (slice_index_or (befores_at befores k) y 0) before h.1)

    -- with one row more there is one state more before
    pub back_more : (y : ℕ) (more : List ℕ) → back (length (befores ++ row ∷ [])) (befores ++ row ∷ []) (y ∷ more) ≡ back (length befores) befores (slice_index_or row.items y 0 ∷ y ∷ more)
    back_more y more =
        let le : length befores ≤ length befores = omega arith in
        ap (λ n. back n (befores ++ row ∷ []) (y ∷ more)) size
        ∙ ap (λ l. back (length befores) (befores ++ row ∷ []) (slice_index_or l y 0 ∷ y ∷ more)) last_at
        ∙ back_kept (length befores) (slice_index_or row.items y 0 ∷ y ∷ more) le

    pub goes_more : (y : ℕ) → y < length row.items → GoesBack (length befores) befores (slice_index_or row.items y 0) → GoesBack (length (befores ++ row ∷ [])) (befores ++ row ∷ []) y
    goes_more y lt h =
        let le : length befores ≤ length befores = omega arith in
        subst (λ n. GoesBack n (befores ++ row ∷ []) y) (sym size)
        (subst (λ l. (y < length l) × GoesBack (length befores) (befores ++ row ∷ []) (slice_index_or l y 0)) (sym last_at) (lt, goes_kept (length befores) (slice_index_or row.items y 0) le h))
