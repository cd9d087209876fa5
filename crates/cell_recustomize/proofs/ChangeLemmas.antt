-- The places before one where two lists differ.
use Rattle.std.proofs.Common.{◌≡◌, ◌≢◌, ℕ, ◌+◌, ◌<◌, inl, inr, List, [], ◌∷◌, ◌++◌, length, get_or, All, Some, arith, sym, subst, ap, ◌∙◌}
use Rattle.std.specs.Prelude.{Contains}
use Rattle.std.specs.List.{slice_get}
use Rattle.std.specs.List.Sorted.{IsStrictlyIncreasing}
use Rattle.std.proofs.lemmas.Bool.{cases_eq, cases_lt}
use Rattle.std.proofs.lemmas.List.{get_or_append_left, get_or_push, length_push}
use Rattle.std.proofs.lemmas.List.Elements.{All-nil, All-push, All-weaker}
use Rattle.std.proofs.lemmas.Option.{same_Some, slice_get_past}
use Rattle.list_lemmas.proofs.Gets.{Contains_get, Contains_push, get_pushed}
use Rattle.cell_recustomize.specs.Changes.{AreChanges}

-- the places below n where two lists differ, rising
pub record AreChangesBelow {A : Type 0} (old new : List A) (places : List ℕ) (n : ℕ) : Type 0 where
  pub rising : IsStrictlyIncreasing places
  pub below : All (λ i. i < n) places
  pub differ : All (λ i. slice_get old i ≢ slice_get new i) places
  pub others : (i : ℕ) → i < n → ¬ Contains places i → slice_get old i ≡ slice_get new i

-- one place more behind lower ones
rising-push : (xs : List ℕ) (y : ℕ) → IsStrictlyIncreasing xs → All (λ x. x < y) xs → IsStrictlyIncreasing (xs ++ y ∷ [])
rising-push xs y rising below k lt = elim (cases_lt (k + 1) (length xs)) [
  | inl within ↦
      let first : get_or (xs ++ y ∷ []) k 0 ≡ get_or xs k 0 = get_or_append_left xs (y ∷ []) 0 k (omega arith) in
      let second : get_or (xs ++ y ∷ []) (k + 1) 0 ≡ get_or xs (k + 1) 0 = get_or_append_left xs (y ∷ []) 0 (k + 1) within in
      omega (arith, first, second, rising k within)
  | inr past ↦
      let end : length xs ≡ k + 1 = omega (arith, length_push xs y) in
      let first : get_or (xs ++ y ∷ []) k 0 ≡ get_or xs k 0 = get_or_append_left xs (y ∷ []) 0 k (omega arith) in
      let second : get_or (xs ++ y ∷ []) (k + 1) 0 ≡ y = get_or_push xs y 0 (k + 1) end in
      omega (arith, first, second, below k 0 (omega arith))
]

module _ {A : Type 0} (old new : List A) where
  pub changes-none : AreChangesBelow old new [] 0
  changes-none = record {
    rising = λ k lt. absurd (omega arith);
    below = All-nil (λ i. i < 0);
    differ = All-nil (λ i. slice_get old i ≢ slice_get new i);
    others = λ i lt _. absurd (omega arith);
  }

  module _ (places : List ℕ) (n : ℕ) (so_far : AreChangesBelow old new places n) where
    below-more : All (λ i. i < n + 1) places
    below-more = All-weaker (λ i. i < n) (λ i. i < n + 1) (λ i lt. omega arith) places so_far.below

    -- a place where they do not differ
    pub changes-kept : slice_get old n ≡ slice_get new n → AreChangesBelow old new places (n + 1)
    changes-kept same = record {
      rising = so_far.rising;
      below = below-more;
      differ = so_far.differ;
      others = λ i lt no. elim (cases_eq i n) [
        | inl here ↦ subst (λ (k : ℕ). slice_get old k ≡ slice_get new k) (sym here) same
        | inr apart ↦ so_far.others i (omega arith) no
      ];
    }

    -- a place where they do
    pub changes-push : slice_get old n ≢ slice_get new n → AreChangesBelow old new (places ++ n ∷ []) (n + 1)
    changes-push apart_here = record {
      rising = rising-push places n so_far.rising so_far.below;
      below = All-push (λ i. i < n + 1) places n below-more (omega arith);
      differ = All-push (λ i. slice_get old i ≢ slice_get new i) places n so_far.differ apart_here;
      others = λ i lt no. elim (cases_eq i n) [
        | inl here ↦ absurd (no (subst (λ (k : ℕ). Contains (places ++ n ∷ []) k) (sym here) (Contains_get (places ++ n ∷ []) (length places) n (get_pushed places n))))
        | inr apart ↦ so_far.others i (omega arith) (λ has. no (Contains_push places n i has))
      ];
    }

    -- past the ends they do not differ
    pub changes-all : n ≡ length old → n ≡ length new → AreChanges old new places
    changes-all old_end new_end = record {
      rising = so_far.rising;
      in_range = subst (λ (k : ℕ). All (λ i. i < k) places) old_end so_far.below;
      differ = so_far.differ;
      others = λ i no. elim (cases_lt i n) [
        | inl lt ↦ so_far.others i lt no
        | inr past ↦ slice_get_past old i (omega arith) ∙ sym (slice_get_past new i (omega arith))
      ];
    }

  -- one place more, where the two lists have these elements
  pub changes-same : (places : List ℕ) (n : ℕ) (a b : A) → slice_get old n ≡ Some a → slice_get new n ≡ Some b → a ≡ b → AreChangesBelow old new places n → AreChangesBelow old new places (n + 1)
  changes-same places n a b at_old at_new same so_far = changes-kept places n so_far (at_old ∙ ap (λ (x : A). Some x) same ∙ sym at_new)

  pub changes-apart : (places : List ℕ) (n : ℕ) (a b : A) → slice_get old n ≡ Some a → slice_get new n ≡ Some b → a ≢ b → AreChangesBelow old new places n → AreChangesBelow old new (places ++ n ∷ []) (n + 1)
  changes-apart places n a b at_old at_new apart so_far = changes-push places n so_far (λ e. apart (same_Some a b (sym at_old ∙ e ∙ at_new)))
