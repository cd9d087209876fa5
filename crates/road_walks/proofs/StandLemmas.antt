-- A list of which the vertices are put one by one in place of those that stand for them.
use Rattle.std.proofs.Common.{◌≡◌, ℕ, suc, ◌+◌, ◌<◌, ◌≤◌, List, [], ◌∷◌, ◌++◌, length, map, get_or, take, drop, drop-cons, ap, sym, ◌∙◌, arith, append_assoc, length-append, length-drop}
use Rattle.std.proofs.Math.ListN.{set}
use Rattle.std.proofs.lemmas.List.{get_or_at, length-map, length-take-le, map_push, set_at}
use Rattle.std.proofs.lemmas.Option.{slice_get-get_or}
use Rattle.list_lemmas.proofs.Fronts.{take-get}

module _ (f : ℕ → ℕ) (xs : List ℕ) (k : ℕ) where
  length-front : k ≤ length xs → length (map f (take k xs)) ≡ k
  length-front le = length-map (take k xs) f ∙ length-take-le k xs le

  -- as long as it was
  pub mapped-length : k ≤ length xs → length (map f (take k xs) ++ drop k xs) ≡ length xs
  mapped-length le = omega (arith, length-append (map f (take k xs)) (drop k xs), length-front le, length-drop k xs, le)

  module _ (d : ℕ) (lt : k < length xs) where
    next : drop k xs ≡ get_or xs k d ∷ drop (k + 1) xs
    next = let one : suc k ≡ k + 1 = omega arith in drop-cons xs k d lt ∙ ap (λ (m : ℕ). get_or xs k d ∷ drop m xs) one

    -- the next one is still there
    pub mapped-next : get_or (map f (take k xs) ++ drop k xs) k d ≡ get_or xs k d
    mapped-next =
        let front = length-front (omega (arith, lt)) in
        ap (λ (l : List ℕ). get_or (map f (take k xs) ++ l) k d) next ∙ get_or_at (map f (take k xs)) (get_or xs k d) (drop (k + 1) xs) d k front

    -- and then it is put in place
    pub mapped-more : set (map f (take k xs) ++ drop k xs) k (f (get_or xs k d)) ≡ map f (take (k + 1) xs) ++ drop (k + 1) xs
    mapped-more =
        let front = length-front (omega (arith, lt)) in
        let x : ℕ = get_or xs k d in
        ap (λ (l : List ℕ). set (map f (take k xs) ++ l) k (f x)) next
        ∙ set_at (map f (take k xs)) x (drop (k + 1) xs) (f x) k front
        ∙ sym (append_assoc (map f (take k xs)) (f x ∷ []) (drop (k + 1) xs))
        ∙ ap (λ (l : List ℕ). l ++ drop (k + 1) xs) (sym (map_push f (take k xs) x))
        ∙ ap (λ (l : List ℕ). map f l ++ drop (k + 1) xs) (sym (take-get xs k x (slice_get-get_or xs k d lt)))
