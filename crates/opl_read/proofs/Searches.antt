-- What a search of memory for a byte tells is the position of the first one that passes its test.
use Rattle.std.proofs.Common.{◌≡◌, ℕ, ◌+◌, ◌-◌, ◌<◌, ◌≤◌, Bool, true, false, cond, List, length, get_or, take, drop, Option, Some, None, inl, inr, sym, ◌∙◌, ap, arith, position, length-take, length-drop, ⊎_elim}
use Rattle.std.proofs.lemmas.List.{get_or-take, get_or-drop}
use Rattle.std.specs.List.{position_or_len}
use Rattle.std.proofs.lemmas.Bool.{lt-ltb, le-ltb, cases_Bool, cases_lt}
use Rattle.std.proofs.lemmas.List.Sums.{position_or_len_is}
use Rattle.memchr.specs.Find.{IsFirstByte}

fails : (t : Bool) → (t ≡ true → ⊥) → t ≡ false
fails t never = ⊎_elim (λ yes. absurd (never yes)) (λ is. is) (cases_Bool t)

module _ (p : ℕ → Bool) (text : List ℕ) where
  pub position-IsFirstByte : (r : Option ℕ) → IsFirstByte p text r → r ≡ position p text
  position-IsFirstByte None nowhere =
      let is : position_or_len p text ≡ length text = position_or_len_is p text (length text) 0 (omega arith) (λ k lt. fails (p (get_or text k 0)) (nowhere k (omega arith) lt)) (λ lt. absurd (omega arith)) in
      sym (ap (λ t. cond t (Some (position_or_len p text)) None) (le-ltb (position_or_len p text) (length text) (omega arith)))
  position-IsFirstByte (Some at) found =
      let within : at < length text = found.0.high in
      let is : position_or_len p text ≡ at = position_or_len_is p text at 0 (omega arith) (λ k lt. fails (p (get_or text k 0)) (found.0.before k (omega arith) lt)) (λ _. found.1) in
      sym (ap (λ t. cond t (Some (position_or_len p text)) None) (lt-ltb (position_or_len p text) (length text) (omega arith)) ∙ ap Some is)

  -- where none stands before a place that passes, that is the first
  pub position_is : (at : ℕ) → at < length text → ((k : ℕ) → k < at → p (get_or text k 0) ≡ false) → p (get_or text at 0) ≡ true → Some at ≡ position p text
  position_is at within before passes =
      let is : position_or_len p text ≡ at = position_or_len_is p text at 0 (omega arith) before (λ _. passes) in
      sym (ap (λ t. cond t (Some (position_or_len p text)) None) (lt-ltb (position_or_len p text) (length text) (omega arith)) ∙ ap Some is)

  pub position_nowhere : ((k : ℕ) → k < length text → p (get_or text k 0) ≡ false) → None ≡ position p text
  position_nowhere before =
      let is : position_or_len p text ≡ length text = position_or_len_is p text (length text) 0 (omega arith) before (λ lt. absurd (omega arith)) in
      sym (ap (λ t. cond t (Some (position_or_len p text)) None) (le-ltb (position_or_len p text) (length text) (omega arith)))

  -- where none stands in a front nor in the group of bytes behind it, none stands in both
  pub none_with_group : (from size : ℕ) → from + size ≤ length text → ((k : ℕ) → k < from → p (get_or text k 0) ≡ false)
      → ((k : ℕ) → k < length (take (from + size - from) (drop from text)) → p (get_or (take (from + size - from) (drop from text)) k 0) ≡ false)
      → (k : ℕ) → k < from + size → p (get_or text k 0) ≡ false
  none_with_group from size within before group k lt = elim (cases_lt k from) [
    | inl near ↦ before k near
    | inr far ↦
        let count = from + size - from in
        let place : from + (k - from) ≡ k = omega arith in
        let same : get_or (take count (drop from text)) (k - from) 0 ≡ get_or text k 0 =
        get_or-take count (drop from text) (k - from) 0 (omega arith) ∙ get_or-drop from text (k - from) 0 ∙ ap (λ n. get_or text n 0) place in
        ap p (sym same) ∙ group (k - from) (omega (arith, length-take count (drop from text), length-drop from text))
  ]
