-- Where a list is parted at the first element that passes a test: `position`, and the parts of `slice_split`.
use Rattle.std.proofs.Common.{◌≡◌, ℕ, ◌+◌, ◌-◌, ◌<◌, ◌≤◌, Bool, true, false, cond, List, [], ◌∷◌, length, take, drop, get_or, refl, sym, ap, ◌∙◌, subst, Some, None, arith, position, take_all, length-drop}
use Rattle.std.specs.List.{position_or_len, slice_split, before_first, after_first, list_any}
use Rattle.std.proofs.lemmas.Bool.{ltb-true, ltb-false}
use Rattle.std.proofs.lemmas.Option.{cond_some}
use Rattle.std.proofs.lemmas.List.Splits.{slice_split_first, slice_split_none}
use Rattle.std.proofs.lemmas.List.Sums.{fails_before_first, passes_at_first}
use Rattle.std.proofs.lemmas.List.Recursion.{or_at, or_from_places}

-- all from i on, as the code's slices are written
pub to_the_end : (text : List ℕ) (i : ℕ) → take (length text - i) (drop i text) ≡ drop i text
to_the_end text i = take_all (length text - i) (drop i text) (omega (arith, length-drop i text))

cond-None : (b : Bool) (n : ℕ) → cond b (Some n) None ≡ None → b ≡ false
cond-None true n h = cc
cond-None false n h = refl

module _ (p : ℕ → Bool) where
  pub found_at : (text : List ℕ) (at : ℕ) → position p text ≡ Some at → position_or_len p text ≡ at
  found_at text at h = (cond_some _ _ at h).1

  pub found_within : (text : List ℕ) (at : ℕ) → position p text ≡ Some at → at < length text
  found_within text at h = subst (λ (n : ℕ). n < length text) (found_at text at h) (ltb-true _ _ ((cond_some _ _ at h).0))

  at_first : (text : List ℕ) (at : ℕ) → position p text ≡ Some at → position_or_len p text < length text
  at_first text at h = ltb-true _ _ ((cond_some _ _ at h).0)

  pub not_found : (text : List ℕ) → position p text ≡ None → length text ≤ position_or_len p text
  not_found text h = ltb-false _ _ (cond-None _ _ h)

  -- the separator passes the test
  pub found_passes : (text : List ℕ) (at : ℕ) → position p text ≡ Some at → p (get_or text at 0) ≡ true
  found_passes text at h = ap (λ n. p (get_or text n 0)) (sym (found_at text at h)) ∙ passes_at_first p text 0 (at_first text at h)

  pub has_found : (text : List ℕ) (at : ℕ) → position p text ≡ Some at → list_any p text ≡ true
  has_found text at h = or_at (list_any p) p refl (λ _ _. refl) text at 0 (found_within text at h) (found_passes text at h)

  pub has_not_found : (text : List ℕ) → position p text ≡ None → list_any p text ≡ false
  has_not_found text h =
      let far = not_found text h in
      or_from_places (list_any p) p refl (λ _ _. refl) text 0 (λ k lt. fails_before_first p text k 0 (omega arith))

  -- the text before the first separator, and the parts of the text behind it
  pub split_first : (text : List ℕ) (at : ℕ) → position p text ≡ Some at → slice_split p text ≡ before_first p text ∷ slice_split p (after_first p text)
  split_first text at h = slice_split_first p text 0 (at_first text at h)

  pub split_at_found : (text : List ℕ) (at : ℕ) → position p text ≡ Some at → slice_split p text ≡ take at text ∷ slice_split p (drop (at + 1) text)
  split_at_found text at h = split_first text at h ∙ ap (λ n. take n text ∷ slice_split p (drop (n + 1) text)) (found_at text at h)

  pub split_not_found : (text : List ℕ) → position p text ≡ None → slice_split p text ≡ text ∷ []
  split_not_found text h =
      let far = not_found text h in
      slice_split_none p text (λ k d lt. fails_before_first p text k d (omega arith))
