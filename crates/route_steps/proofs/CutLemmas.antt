-- The begins of steps, one after another, and the pieces between them.
use Rattle.std.proofs.Common.{◌≡◌, ℕ, zero, suc, ◌+◌, ◌-◌, ◌≤◌, List, [], ◌∷◌, ◌++◌, Option, None, Some, append-nil, arith, ap, ap₂, length, refl, sym, ◌∙◌}
use Rattle.std.specs.List.{cons_option, filter_map, range_with_len, slice_get}
use Rattle.std.proofs.lemmas.List.Elements.{filter_map-append}
use Rattle.std.proofs.lemmas.Option.{same_Some}
use Rattle.route_steps.specs.Steps.{pieces}
use Rattle.route_steps.specs.declared.begins.Begin.{Begin}

-- one place more
range-more : (a n : ℕ) → range_with_len a (suc n) ≡ range_with_len a n ++ (a + n) ∷ []
range-more a zero = ap (λ k. k ∷ []) (omega arith)
range-more a (suc n) = ap (λ l. a ∷ l) (range-more (a + 1) n ∙ ap (λ k. range_with_len (a + 1) n ++ k ∷ []) (omega arith))

module _ (h : ℕ → Option Begin) (first : Begin) (place : ℕ) (some : 1 ≤ place) where
  begins-at : (o : Option Begin) → h place ≡ o → first ∷ filter_map h (range_with_len 1 (place + 1 - 1)) ≡ (first ∷ filter_map h (range_with_len 1 (place - 1))) ++ cons_option o []
  begins-at o e =
      let count : place + 1 - 1 ≡ suc (place - 1) = omega arith in
      let at : 1 + (place - 1) ≡ place = omega arith in
      ap (λ l. first ∷ l) (ap (λ n. filter_map h (range_with_len 1 n)) count ∙ ap (filter_map h) (range-more 1 (place - 1) ∙ ap (λ k. range_with_len 1 (place - 1) ++ k ∷ []) at)
      ∙ filter_map-append h (range_with_len 1 (place - 1)) (place ∷ []) ∙ ap (λ (x : Option Begin). filter_map h (range_with_len 1 (place - 1)) ++ cons_option x []) e)

  -- where a step begins at a place, that is added
  pub begins-more : (begin : Begin) (old new : List Begin) → h place ≡ Some begin → old ≡ first ∷ filter_map h (range_with_len 1 (place - 1)) → new ≡ old ++ begin ∷ []
      → new ≡ first ∷ filter_map h (range_with_len 1 (place + 1 - 1))
  begins-more begin old new e before pushed = pushed ∙ ap (λ l. l ++ begin ∷ []) before ∙ sym (begins-at (Some begin) e)

  -- where none does, nothing
  pub begins-same : (old : List Begin) → h place ≡ None → old ≡ first ∷ filter_map h (range_with_len 1 (place - 1)) → old ≡ first ∷ filter_map h (range_with_len 1 (place + 1 - 1))
  begins-same old e before = before ∙ sym (append-nil (first ∷ filter_map h (range_with_len 1 (place - 1)))) ∙ sym (begins-at None e)

-- the piece from each begin ends where the next one lies, and from the last one at the end
pub pieces-next : (begins : List Begin) (n k : ℕ) (begin next : Begin) → slice_get begins k ≡ Some begin → slice_get begins (suc k) ≡ Some next → slice_get (pieces begins n) k ≡ Some (begin, next.place)
pieces-next [] n k begin next e f = cc
pieces-next (b ∷ []) n zero begin next e f = cc
pieces-next (b ∷ []) n (suc k) begin next e f = cc
pieces-next (b ∷ c ∷ more) n zero begin next e f = ap₂ {C = Option (Begin × ℕ)} (λ (x y : Begin). Some (x, y.place)) (same_Some b begin e) (same_Some c next f)
pieces-next (b ∷ c ∷ more) n (suc k) begin next e f = pieces-next (c ∷ more) n k begin next e f

pub pieces-last : (begins : List Begin) (n k : ℕ) (begin : Begin) → slice_get begins k ≡ Some begin → length begins ≡ k + 1 → slice_get (pieces begins n) k ≡ Some (begin, n)
pieces-last [] n k begin e count = cc
pieces-last (b ∷ []) n zero begin e count = ap (λ (x : Begin). Some (x, n)) (same_Some b begin e)
pieces-last (b ∷ []) n (suc k) begin e count = cc
pieces-last (b ∷ c ∷ more) n zero begin e count = absurd (omega arith)
pieces-last (b ∷ c ∷ more) n (suc k) begin e count = pieces-last (c ∷ more) n k begin e (omega arith)

-- as many pieces as begins
pub length-pieces : (begins : List Begin) (n : ℕ) → length (pieces begins n) ≡ length begins
length-pieces [] n = refl
length-pieces (b ∷ []) n = refl
length-pieces (b ∷ c ∷ more) n = ap suc (length-pieces (c ∷ more) n)
