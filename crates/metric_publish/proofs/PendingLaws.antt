-- The last of the pending publications counts.
use Rattle.std.proofs.Common.{◌≡◌, List, [], ◌∷◌, ◌++◌, fold, refl, ap, sym, ◌∙◌, subst}
use mathlib.Core.List.{IsPrefix}

module _ {T A : Type 0} (list : T → List A) where
  pub fold_last : (xs : List A) (ops : List T) (p : T) → fold (λ _ x. list x) xs (ops ++ p ∷ []) ≡ list p
  fold_last xs [] p = refl
  fold_last xs (o ∷ ops) p = fold_last (list o) ops p

  -- what is shown next begins with what is shown
  pub goes_on : (x next p : T) (ops before : List T) → ops ≡ before ++ p ∷ [] → IsPrefix (list x) (list p) → list next ≡ fold (λ _ y. list y) (list x) ops → IsPrefix (list x) (list next)
  goes_on x next p ops before pending more is =
      let all : list next ≡ list p = is ∙ ap (fold (λ _ (y : T). list y) (list x)) pending ∙ fold_last (list x) before p in
      subst (λ (l : List A). IsPrefix (list x) l) (sym all) more
