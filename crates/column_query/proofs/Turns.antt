-- A loop over targets that answers one more at each turn.
use Rattle.std.proofs.Common.{◌≡◌, ℕ, ◌<◌, ◌++◌, ◌∷◌, [], List, Some, get_or, length, inl, inr, sym, ◌∙◌, ap, subst}
use Rattle.std.specs.List.{slice_get}
use Rattle.std.proofs.lemmas.Option.{same_Some}
use Rattle.list_lemmas.proofs.Gets.{get_is, get_push}

-- one answer more, to the target at its place
pub one_more : {T F : Type 0} (P : T → F → Type 0) (targets : List T) (found : List F) (i : ℕ) (item : T) (new : F) →
    length found ≡ i → i < length targets → item ≡ get_or targets i item → P item new →
    ((k : ℕ) (t : T) (answer : F) → slice_get targets k ≡ Some t → slice_get found k ≡ Some answer → P t answer) →
    (k : ℕ) (t : T) (answer : F) → slice_get targets k ≡ Some t → slice_get (found ++ new ∷ []) k ≡ Some answer → P t answer
one_more {T} {F} P targets found i item new n lt is here before k t answer e f = elim (get_push found new k answer f) [
  | inl g ↦ before k t answer e g
  | inr g ↦
      let at : slice_get targets i ≡ Some item = get_is targets i item lt (sym is) in
      let same : item ≡ t = same_Some item t (sym at ∙ ap (slice_get targets) (sym (g.0 ∙ n)) ∙ e) in
      subst (λ (x : T). P x answer) same (subst (λ (y : F). P item y) (sym g.1) here)
]
