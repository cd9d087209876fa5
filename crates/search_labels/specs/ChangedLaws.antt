-- Laws of a function changed at one place: there it has the new value, and elsewhere what it had.
use Rattle.std.proofs.Common.{◌≡◌, ℕ, ◌⊎◌, inl, inr, false, cond, nat_eq, ap, eq-eqb}
use Rattle.std.proofs.lemmas.Bool.Decides.{eqb_tells}
use Rattle.search_labels.specs.Labelled.{changed}

-- u is the place v, or another
pub same_place : (v u : ℕ) → (v ≡ u) ⊎ (nat_eq v u ≡ false)
same_place v u = elim (eqb_tells v u) [ inl h ↦ inl h.1 | inr h ↦ inr h.0 ]

module _ {Y : Type 0} (f : ℕ → Y) (v : ℕ) (y : Y) where
  pub changed-here : (u : ℕ) → v ≡ u → changed f v y u ≡ y
  changed-here u e = ap (λ b. cond b y (f u)) (eq-eqb v u e)

  pub changed-there : (u : ℕ) → nat_eq v u ≡ false → changed f v y u ≡ f u
  changed-there u h = ap (λ b. cond b y (f u)) h
