-- A loop that values one vertex more at each turn.
use Rattle.std.proofs.Common.{◌≡◌, ℕ, ◌<◌, ◌++◌, ◌∷◌, [], List, Some, get_or, length, inl, inr, sym, ◌∙◌, ap, subst}
use Rattle.std.specs.List.{slice_get}
use Rattle.std.proofs.lemmas.Option.{same_Some, slice_get-get_or}
use Rattle.list_lemmas.proofs.Gets.{get_push}

-- one value more, of the vertex at its place
pub one_more : {F : Type 0} (P : ℕ → F → Type 0) (vertices : List ℕ) (found : List F) (i : ℕ) (new : F) →
    length found ≡ i → i < length vertices → P (get_or vertices i 0) new →
    ((k v : ℕ) (o : F) → slice_get vertices k ≡ Some v → slice_get found k ≡ Some o → P v o) →
    (k v : ℕ) (o : F) → slice_get vertices k ≡ Some v → slice_get (found ++ new ∷ []) k ≡ Some o → P v o
one_more {F} P vertices found i new n lt here before k v o e h = elim (get_push found new k o h) [
  | inl g ↦ before k v o e g
  | inr g ↦
      let same : get_or vertices i 0 ≡ v = same_Some (get_or vertices i 0) v (sym (slice_get-get_or vertices i 0 lt) ∙ ap (slice_get vertices) (sym (g.0 ∙ n)) ∙ e) in
      subst (λ (x : ℕ). P x o) same (subst (λ (y : F). P (get_or vertices i 0) y) (sym g.1) here)
]
