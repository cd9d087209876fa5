-- Lists of one element.
use Rattle.std.proofs.Common.{◌≡◌, ℕ, zero, suc, ◌<◌, [], ◌∷◌, length, Some, arith, refl, sym}
use Rattle.std.specs.List.{Contains, slice_get}
use Rattle.std.proofs.lemmas.Option.{slice_get_within, same_Some}
use Rattle.list_lemmas.proofs.Gets.{Contains_get, get_Contains}

module _ {X : Type 0} where
  pub Contains_one : (x : X) → Contains (x ∷ []) x
  Contains_one x = Contains_get (x ∷ []) 0 x refl

  get_one : (x y : X) (k : ℕ) → slice_get (x ∷ []) k ≡ Some y → y ≡ x
  get_one x y zero e = sym (same_Some x y e)
  get_one x y (suc k) e = let lt : k < length {A = X} [] = slice_get_within [] k y e in absurd (omega arith)

  -- what such a list contains is that element
  pub only_one : (x y : X) → Contains (x ∷ []) y → y ≡ x
  only_one x y h = let g = get_Contains (x ∷ []) y h in get_one x y g.0 g.1
