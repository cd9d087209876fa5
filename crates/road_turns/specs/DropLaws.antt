-- Lists without their first elements.
use Rattle.std.proofs.Common.{◌≡◌, ℕ, zero, suc, ◌+◌, List, [], ◌∷◌, drop, Some, Bool, ◌&&◌, ◌||◌, sym, ap, ◌∙◌, add-one}
use Rattle.std.specs.List.{list_all, list_any, slice_get}
use Rattle.std.proofs.lemmas.Option.{same_Some}

-- an element, and what stands behind it
pub drop-get : {X : Type 0} (xs : List X) (k : ℕ) (x : X) → slice_get xs k ≡ Some x → drop k xs ≡ x ∷ drop (suc k) xs
drop-get [] k x e = cc
drop-get {X} (y ∷ xs) zero x e = let same : y ≡ x = same_Some y x e in ap (λ (z : X). z ∷ xs) same
drop-get (y ∷ xs) (suc k) x e = drop-get xs k x e

-- a test of an element, and of those behind it
pub list_any-drop : {X : Type 0} (p : X → Bool) (xs : List X) (k : ℕ) (x : X) → slice_get xs k ≡ Some x → list_any p (drop k xs) ≡ (p x || list_any p (drop (k + 1) xs))
list_any-drop {X} p xs k x at = ap (list_any p) (drop-get xs k x at) ∙ ap (λ (n : ℕ). p x || list_any p (drop n xs)) (sym (add-one k))

pub list_all-drop : {X : Type 0} (p : X → Bool) (xs : List X) (k : ℕ) (x : X) → slice_get xs k ≡ Some x → list_all p (drop k xs) ≡ (p x && list_all p (drop (k + 1) xs))
list_all-drop {X} p xs k x at = ap (list_all p) (drop-get xs k x at) ∙ ap (λ (n : ℕ). p x && list_all p (drop n xs)) (sym (add-one k))
