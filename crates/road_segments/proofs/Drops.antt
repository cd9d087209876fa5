-- Lists without their first elements.
use Rattle.std.proofs.Common.{◌≡◌, ℕ, suc, List, ◌∷◌, drop, Some, ap, ◌∙◌}
use Rattle.std.specs.List.{slice_get}
use Rattle.std.proofs.Math.Seq.{drop-cons}
use Rattle.std.proofs.lemmas.Option.{get_or_from_slice_get, slice_get_within}

-- an element, and what stands behind it
pub drop-get : {X : Type 0} (xs : List X) (k : ℕ) (x : X) → slice_get xs k ≡ Some x → drop k xs ≡ x ∷ drop (suc k) xs
drop-get {X} xs k x e = drop-cons xs k x (slice_get_within xs k x e) ∙ ap (λ (y : X). y ∷ drop (suc k) xs) (get_or_from_slice_get xs k x x e)
