-- What words stand for when others are put behind the others, and one word or more is written.
use Rattle.std.proofs.Common.{◌≡◌, ℕ, zero, suc, ◌+◌, ◌-◌, ◌<◌, ◌≤◌, ◌^◌, ◌⊎◌, inl, inr, List, [], ◌∷◌, ◌++◌, length, replicate, take, take_all, Option, Some, None, All, Result, Ok, Err, is_ok, OnOk, if◌then◌else◌, arith, refl, sym, ◌∙◌, ap, subst, length-append, set}
use Rattle.std.specs.List.{slice_get}
use Rattle.std.proofs.lemmas.Bool.Decides.{nat_tests}
use Rattle.std.proofs.lemmas.Bool.{cases_lt}
use Rattle.std.proofs.lemmas.Option.{slice_get_past}
use Rattle.std.proofs.lemmas.List.{map-append, map-set}
use Rattle.std.proofs.lemmas.List.Elements.{All-head, All-tail}
use Rattle.list_lemmas.proofs.Gets.{get_some, get_append}
use Rattle.row_labels.specs.Worded.{value_at, values_of, IsPlaced}

module _ {C : Type 0} (f : ℕ → C) where
  pub value_at-rank : (others : List C) (w : ℕ) → w < 2 ^ 63 → value_at f others w ≡ Some (f w)
  value_at-rank others w h = grind (arith, nat_tests)

  value_at-other : (others : List C) (w : ℕ) → 2 ^ 63 ≤ w → value_at f others w ≡ slice_get others (w - 2 ^ 63)
  value_at-other others w h = grind (arith, nat_tests)

  -- the last word of all is that of no cost
  value_at-none : (others : List C) → length others < 2 ^ 63 → value_at f others (2 ^ 64 - 1) ≡ None
  value_at-none others h = slice_get_past others _ (omega arith)

  -- a word beyond the ranks that is placed keeps its meaning
  other-grown : (others more : List C) (w : ℕ) → length (others ++ more) < 2 ^ 63 → 2 ^ 63 ≤ w → IsPlaced others w →
      slice_get (others ++ more) (w - 2 ^ 63) ≡ slice_get others (w - 2 ^ 63)
  other-grown others more w few above (inl h) =
      let at : w - 2 ^ 63 < length others = omega arith in
      let g = get_some others (w - 2 ^ 63) at in
      get_append others more (w - 2 ^ 63) g.0 g.1 ∙ sym g.1
  other-grown others more w few above (inr e) =
      let past : length (others ++ more) ≤ w - 2 ^ 63 = omega arith in
      let past2 : length others ≤ w - 2 ^ 63 = omega (arith, length-append others more) in
      slice_get_past (others ++ more) (w - 2 ^ 63) past ∙ sym (slice_get_past others (w - 2 ^ 63) past2)

  value_at-by : (others more : List C) (w : ℕ) → length (others ++ more) < 2 ^ 63 → IsPlaced others w →
      (w < 2 ^ 63) ⊎ (2 ^ 63 ≤ w) → value_at f (others ++ more) w ≡ value_at f others w
  value_at-by others more w few p (inl h) = value_at-rank (others ++ more) w h ∙ sym (value_at-rank others w h)
  value_at-by others more w few p (inr h) =
      value_at-other (others ++ more) w h ∙ other-grown others more w few h p ∙ sym (value_at-other others w h)

  values_of-grown : (others more : List C) (words : List ℕ) → length (others ++ more) < 2 ^ 63 → All (IsPlaced others) words →
      values_of f (others ++ more) words ≡ values_of f others words
  values_of-grown others more [] few p = refl
  values_of-grown others more (w ∷ words) few p =
      let e = value_at-by others more w few (All-head (IsPlaced others) w words p) (cases_lt w (2 ^ 63)) in
      let r = values_of-grown others more words few (All-tail (IsPlaced others) w words p) in
      cc

  -- with another word in place of one, the list is with what that stands for there
  pub list-set : (others more grown : List C) (words : List ℕ) (i word : ℕ) (now : List (Option C)) (cost : Option C) →
      grown ≡ others ++ more → length grown < 2 ^ 63 → All (IsPlaced others) words → values_of f others words ≡ now →
      value_at f grown word ≡ cost → values_of f grown (set words i word) ≡ set now i cost
  list-set others more grown words i word now cost g few p e v =
      let few2 : length (others ++ more) < 2 ^ 63 = subst (λ xs. length xs < 2 ^ 63) g few in
      let k : values_of f grown words ≡ now = rw g (values_of-grown others more words few2 p ∙ e) in
      map-set (value_at f grown) words i word ∙ (rw (k, v) refl)

  -- with a rank in place of one, the list is with the cost of that rank there
  pub list-ranked : (others : List C) (words : List ℕ) (i rank : ℕ) (now : List (Option C)) → rank < 2 ^ 63 → values_of f others words ≡ now → values_of f others (set words i rank) ≡ set now i (Some (f rank))
  list-ranked others words i rank now short e = let v = value_at-rank others rank short in map-set (value_at f others) words i rank ∙ (rw (e, v) refl)

  values_of-none : (others : List C) (n : ℕ) → length others < 2 ^ 63 → values_of f others (replicate n (2 ^ 64 - 1)) ≡ replicate n None
  values_of-none others zero few = refl
  values_of-none others (suc n) few =
      let e = value_at-none others few in
      let r = values_of-none others n few in
      ap (λ (x : Option C). x ∷ values_of f others (replicate n (2 ^ 64 - 1))) e ∙ ap (λ (xs : List (Option C)). None ∷ xs) r

  -- with words of no cost behind, it has so many places more
  pub list-extended : {U E : Type 0} (r : Result U E) (others : List C) (words grown : List ℕ) (now : List (Option C)) (n len count : ℕ) → len ≡ length words → n ≡ len + count →
      grown ≡ (if is_ok r then take n words ++ replicate (n - len) (2 ^ 64 - 1) else words) → length others < 2 ^ 63 → values_of f others words ≡ now → OnOk r (values_of f others grown ≡ now ++ replicate count None)
  list-extended (Ok u) others words grown now n len count size long g few e =
      let all : take n words ≡ words = take_all n words (omega (arith, size, long)) in
      let rest : n - len ≡ count = omega (arith, long) in
      ap (values_of f others) (g ∙ ap (λ (xs : List ℕ). xs ++ replicate (n - len) (2 ^ 64 - 1)) all ∙ ap (λ (k : ℕ). words ++ replicate k (2 ^ 64 - 1)) rest)
      ∙ map-append (value_at f others) words (replicate count (2 ^ 64 - 1))
      ∙ ap (λ (xs : List (Option C)). xs ++ values_of f others (replicate count (2 ^ 64 - 1))) e
      ∙ ap (λ (xs : List (Option C)). now ++ xs) (values_of-none others count few)
  list-extended (Err x) others words grown now n len count size long g few e = tt
