-- The arcs of the turns in their places.
use Rattle.std.proofs.Common.{◌≡◌, ℕ, zero, suc, ◌+◌, ◌<◌, List, [], ◌∷◌, ◌++◌, Some, take, drop, set, length, arith, refl, sym, ◌∙◌, ap, add-one}
use Rattle.std.specs.List.{slice_get}
use Rattle.std.proofs.lemmas.List.{map_push, take_more_set}
use Rattle.list_lemmas.proofs.Fronts.{take-get}
use Rattle.via_paths.specs.Expansion.{word_of, onward}
use Rattle.via_paths.specs.Tries.{first_arcs}
use Rattle.via_paths.specs.ArcLaws.{word-ordinary}

-- where the same stands from i on, the same stands at i and behind it
pub same-at : {X : Type 0} (xs ys : List X) (i : ℕ) (x : X) → length xs ≡ length ys → drop i xs ≡ drop i ys → slice_get xs i ≡ Some x →
    (slice_get ys i ≡ Some x) × (drop (i + 1) xs ≡ drop (i + 1) ys)
same-at {X} xs ys i x len same at = let r = by xs ys i len same at in (r.0, ap (λ (k : ℕ). drop k xs) (add-one i) ∙ r.1 ∙ sym (ap (λ (k : ℕ). drop k ys) (add-one i)))
  where
    by : (xs ys : List X) (i : ℕ) → length xs ≡ length ys → drop i xs ≡ drop i ys → slice_get xs i ≡ Some x → (slice_get ys i ≡ Some x) × (drop (suc i) xs ≡ drop (suc i) ys)
    by [] ys i len same at = absurd (cc)
    by (z ∷ xs) [] i len same at = absurd (omega (arith, len))
    by (z ∷ xs) (y ∷ ys) zero len same at = (ap (λ (l : List X). slice_get l 0) (sym same) ∙ at, ap (drop 1) same)
    by (z ∷ xs) (y ∷ ys) (suc i) len same at = by xs ys i (omega (arith, len)) same at

-- a write at i leaves what is behind
pub put-rest : {X : Type 0} (xs : List X) (i : ℕ) (x : X) → i < length xs → drop (i + 1) (set xs i x) ≡ drop (i + 1) xs
put-rest {X} xs i x lt = ap (λ (k : ℕ). drop k (set xs i x)) (add-one i) ∙ by xs i lt ∙ sym (ap (λ (k : ℕ). drop k xs) (add-one i))
  where
    by : (xs : List X) (i : ℕ) → i < length xs → drop (suc i) (set xs i x) ≡ drop (suc i) xs
    by [] i lt = absurd (omega arith)
    by (y ∷ xs) zero lt = refl
    by (y ∷ xs) (suc i) lt = by xs i (omega arith)

-- one arc more
pub put-done : (n : ℕ) (copies : List (List ℕ)) (turns old : List (ℕ × ℕ)) (i head : ℕ) (t : ℕ × ℕ) → i < length turns → slice_get old i ≡ Some t → t.0 < n →
    head ≡ onward n copies (word_of n copies t.0) t.1 → take i turns ≡ first_arcs n copies (take i old) → take (i + 1) (set turns i (t.0, head)) ≡ first_arcs n copies (take (i + 1) old)
put-done n copies turns old i head t lt at below is done =
    take_more_set turns i (t.0, head) lt
    ∙ ap (λ (l : List (ℕ × ℕ)). l ++ (t.0, head) ∷ []) done
    ∙ ap (λ (k : ℕ). first_arcs n copies (take i old) ++ (t.0, k) ∷ []) (is ∙ ap (λ (w : List ℕ). onward n copies w t.1) (word-ordinary n copies t.0 below))
    ∙ sym (ap (first_arcs n copies) (take-get old i t at) ∙ map_push {X = ℕ × ℕ} {Y = ℕ × ℕ} (λ turn. (turn.0, onward n copies (turn.0 ∷ []) turn.1)) (take i old) t)
