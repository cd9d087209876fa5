-- A law of the turns: none stands twice, since they rise by the first vertex and then the second.
use Rattle.std.proofs.Common.{◌≡◌, ◌<◌, ◌≤◌, ◌⊎◌, inl, inr, ℕ, zero, suc, ◌+◌, List, [], ◌∷◌, ◌++◌, Bool, true, false, cond, map, filter, Some, arith, ap, refl, subst}
use Rattle.std.specs.List.{enumerate_from, flat_map, slice_get}
use Rattle.std.proofs.lemmas.Option.{same_Some}
use Rattle.turn_rules.specs.Rules.{Rule}
use Rattle.road_turns.specs.Turn.{IsSimple, is_turn, turns, turns_from}
use Rattle.road_segments.specs.Vertex.{Vertex}

-- the pair is (d, e) or behind it, by the first number and then the second
abbrev IsFrom : ℕ → ℕ → ℕ × ℕ → Type 0
IsFrom d e t = (d < t.0) ⊎ ((d ≡ t.0) × (e ≤ t.1))

-- the pairs are from (d, e) on, each behind the one before
abbrev Rises : ℕ → ℕ → List (ℕ × ℕ) → Type 0
Rises d e [] = Unit {0}
Rises d e (t ∷ ts) = IsFrom d e t × Rises t.0 (t.1 + 1) ts

from-from : (d e : ℕ) (t u : ℕ × ℕ) → IsFrom d e t → IsFrom t.0 t.1 u → IsFrom d e u
from-from d e t u (inl lt) (inl lt2) = inl (omega (arith, lt, lt2))
from-from d e t u (inl lt) (inr same) = inl (omega (arith, lt, same.0))
from-from d e t u (inr at) (inl lt2) = inl (omega (arith, at.0, lt2))
from-from d e t u (inr at) (inr same) = inr (omega (arith, at.0, same.0), omega (arith, at.1, same.1))

rises-from : (d e : ℕ) (t : ℕ × ℕ) (ts : List (ℕ × ℕ)) → IsFrom d e t → Rises t.0 t.1 ts → Rises d e ts
rises-from d e t [] from rises = tt
rises-from d e t (u ∷ ts) from rises = (from-from d e t u from rises.0, rises.1)

rises-get : (d e : ℕ) (ts : List (ℕ × ℕ)) (k : ℕ) (t : ℕ × ℕ) → Rises d e ts → slice_get ts k ≡ Some t → IsFrom d e t
rises-get d e [] k t rises at = cc
rises-get d e (u ∷ ts) zero t rises at = subst (λ (w : ℕ × ℕ). IsFrom d e w) (same_Some u t at) rises.0
rises-get d e (u ∷ ts) (suc k) t rises at =
    rises-get d e ts k t (rises-from d e u ts rises.0 (rises-from u.0 u.1 (u.0, u.1 + 1) ts (inr (refl, omega arith)) rises.1)) at

-- the first of such pairs isn't among the others
rises-apart : (t u : ℕ × ℕ) → u ≡ t → IsFrom u.0 (u.1 + 1) t → ⊥
rises-apart t u is (inl lt) = omega (arith, ap (λ (w : ℕ × ℕ). w.0) is, lt)
rises-apart t u is (inr at) = omega (arith, ap (λ (w : ℕ × ℕ). w.1) is, at.1)

rises-same : (d e : ℕ) (ts : List (ℕ × ℕ)) (i j : ℕ) (t : ℕ × ℕ) → Rises d e ts → slice_get ts i ≡ Some t → slice_get ts j ≡ Some t → i ≡ j
rises-same d e [] i j t rises at at2 = cc
rises-same d e (u ∷ ts) zero zero t rises at at2 = refl
rises-same d e (u ∷ ts) zero (suc j) t rises at at2 = absurd (rises-apart t u (same_Some u t at) (rises-get u.0 (u.1 + 1) ts j t rises.1 at2))
rises-same d e (u ∷ ts) (suc i) zero t rises at at2 = absurd (rises-apart t u (same_Some u t at2) (rises-get u.0 (u.1 + 1) ts i t rises.1 at))
rises-same d e (u ∷ ts) (suc i) (suc j) t rises at at2 = ap suc (rises-same u.0 (u.1 + 1) ts i j t rises.1 at at2)

-- the turns from d onto vertices from number e on, before turns from later vertices
rises-row : (d e : ℕ) (p : ℕ × Vertex → Bool) (vs : List Vertex) (rest : List (ℕ × ℕ)) → Rises (d + 1) 0 rest
    → Rises d e (map {A = ℕ × Vertex} {B = ℕ × ℕ} (λ y. (d, y.0)) (filter p (enumerate_from e vs)) ++ rest)
rises-row d e p [] rest rises = rises-from d e (d + 1, 0) rest (inl (omega arith)) rises
rises-row d e p (x ∷ vs) rest rises =
    let others : List (ℕ × Vertex) = filter p (enumerate_from (e + 1) vs) in
    let behind : Rises d (e + 1) (map {A = ℕ × Vertex} {B = ℕ × ℕ} (λ y. (d, y.0)) others ++ rest) = rises-row d (e + 1) p vs rest rises in
    elim (p (e, x)) as (λ b. Rises d e (map {A = ℕ × Vertex} {B = ℕ × ℕ} (λ y. (d, y.0)) (cond b ((e, x) ∷ others) others) ++ rest)) [
      | true ↦ (inr (refl, omega arith), behind)
      | false ↦ rises-from d e (d, e + 1) (map {A = ℕ × Vertex} {B = ℕ × ℕ} (λ y. (d, y.0)) others ++ rest) (inr (refl, omega arith)) behind
    ]

rises-all : (all : List Vertex) (rules : List Rule) (d : ℕ) (vs : List Vertex) → Rises d 0 (flat_map (turns_from all rules) (enumerate_from d vs))
rises-all all rules d [] = tt
rises-all all rules d (x ∷ vs) = rises-row d 0 (is_turn all rules (d, x)) all (flat_map (turns_from all rules) (enumerate_from (d + 1) vs)) (rises-all all rules (d + 1) vs)

-- from one vertex onto another there is at most one turn, whatever the vertices and the rules
pub turns-simple : (vs : List Vertex) (rules : List Rule) → IsSimple (turns vs rules)
unfolding turns
turns-simple vs rules = record { same = λ i j d e at at2. rises-same 0 0 (turns vs rules) i j (d, e) (rises-all vs rules 0 vs) at at2 }
