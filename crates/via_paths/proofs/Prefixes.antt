-- Layer by layer: how many words there are, and where the layers begin.
use Rattle.std.proofs.Common.{◌≡◌, ℕ, zero, suc, ◌+◌, ◌<◌, ◌≤◌, inl, inr, max, List, [], ◌∷◌, ◌++◌, Some, map, take, length, All, arith, refl, sym, ◌∙◌, ap, subst, add-one}
use Rattle.std.specs.List.{slice_get}
use Rattle.std.specs.Option.{option_map}
use Rattle.std.proofs.lemmas.List.Elements.{All-map}
use Rattle.std.proofs.lemmas.Option.{slice_get-map}
use Rattle.std.proofs.Math.Nat.{eq-or-lt_of_le}
use Rattle.list_lemmas.proofs.Fronts.{take-get}
use Rattle.list_lemmas.proofs.Gets.{All_get}
use Rattle.via_paths.specs.declared.copied.Copied.{Copied}
use Rattle.via_paths.specs.Copies.{layer, layers, longest}
use Rattle.via_paths.specs.Tries.{NextMap, IsTrie, IsLaid, first_of}
use Rattle.via_paths.specs.ArcLaws.{word-ordinary}
use Rattle.via_paths.proofs.Laying.{layer-more}

-- the longest of one more
longest-push : (sequences : List (List ℕ)) (s : List ℕ) → longest (sequences ++ s ∷ []) ≡ max (longest sequences) (length s)
longest-push [] s = omega arith
longest-push (x ∷ sequences) s = let rest : longest (sequences ++ s ∷ []) ≡ max (longest sequences) (length s) = longest-push sequences s in omega arith

pub longest-more : (sequences : List (List ℕ)) (i : ℕ) (s : List ℕ) → slice_get sequences i ≡ Some s → longest (take (i + 1) sequences) ≡ max (longest (take i sequences)) (length s)
longest-more sequences i s e = ap longest (take-get sequences i s e) ∙ longest-push (take i sequences) s

pub layers-more : (m : ℕ) (sequences : List (List ℕ)) → layers (m + 1) sequences ≡ layer (m + 2) (layers m sequences) sequences
layers-more m sequences = ap (λ (k : ℕ). layers k sequences) (add-one m)

pub layers-grow : (m k : ℕ) (sequences : List (List ℕ)) → m ≤ k → length (layers m sequences) ≤ length (layers k sequences)
layers-grow m zero sequences le = let is : m ≡ 0 = omega arith in subst (λ (j : ℕ). length (layers j sequences) ≤ length (layers 0 sequences)) (sym is) (omega arith)
layers-grow m (suc k) sequences le = elim (eq-or-lt_of_le le) [
  | inl same ↦ subst (λ (j : ℕ). length (layers j sequences) ≤ length (layers (suc k) sequences)) (sym same) (omega arith)
  | inr lt ↦
      let lower : m ≤ k = omega arith in
      let up : length (layers m sequences) ≤ length (layers k sequences) = layers-grow m k sequences lower in
      let one : length (layers k sequences) ≤ length (layer (k + 2) (layers k sequences) sequences) = layer-more (k + 2) (layers k sequences) sequences in
      omega arith
]

-- before the first layer
pub laid-none : (n : ℕ) (sequences : List (List ℕ)) (next : NextMap) (copied : List Copied) → All (λ s. All (λ v. v < n) s) sequences → IsTrie n [] next copied →
    IsLaid n [] sequences 1 next copied (map first_of sequences)
laid-none n sequences next copied ordinary t = record {
  trie = t;
  upto = λ p found. absurd (cc);
  at = λ j s e long.
      let within : 0 < length s = omega arith in
      let below : first_of s < n = All_get (λ z. All (λ v. v < n) z) sequences j s ordinary e 0 0 within in
      (first_of s, slice_get-map first_of sequences j ∙ ap (option_map first_of) e, word-ordinary n [] (first_of s) below ∙ first s within);
}
  where
    first : (s : List ℕ) → 0 < length s → first_of s ∷ [] ≡ take 1 s
    first [] lt = absurd (omega arith)
    first (v ∷ s) lt = refl

-- the first vertices are ordinary
pub starts-below : (n : ℕ) (sequences : List (List ℕ)) → All (λ s. 1 ≤ length s) sequences → All (λ s. All (λ v. v < n) s) sequences → All (λ q. q < n) (map first_of sequences)
starts-below n sequences some ordinary = All-map (λ q. q < n) first_of sequences (λ k d lt. ordinary k d lt 0 0 (some k d lt))
