-- Lists with the same words, and the first of these.
use Rattle.std.proofs.Common.{◌≡◌, ℕ, zero, suc, ◌<◌, ◌≤◌, inl, inr, Bool, true, false, ◌&&◌, ◌||◌, Option, Some, None, List, [], ◌∷◌, length, get_or, All, arith, refl, sym, ◌∙◌, subst, bytes_eq, true≢false}
use Rattle.std.specs.List.{Contains, list_all, position, position_or_len, slice_get}
use Rattle.std.proofs.lemmas.Bool.{cases_lt}
use Rattle.std.proofs.lemmas.Grind.{common_steps}
use Rattle.std.proofs.lemmas.List.Quantifiers.{position-Some}
use Rattle.std.proofs.lemmas.List.Sums.{AllPass-from_list_all, list_all-from_AllPass, position_or_len_is, fails_before_first, passes_at_first}
use Rattle.std.proofs.lemmas.Map.Views.{Contains-from_any}
use Rattle.std.proofs.lemmas.Option.{same_Some, slice_get_within, slice_get-get_or, get_or_from_slice_get}
use Rattle.std.proofs.lemmas.Slice.Eq.{bytes_eq-Decides}
use Rattle.list_lemmas.proofs.Gets.{get_Contains, Contains_get}
use Rattle.road_base.specs.Words.{is_among}
use Rattle.class_sets.specs.Sets.{HaveSameWords, IsFirstEqual, is_same_set, set_among}

-- a conjunction is true where both are
both_true : (a b : Bool) → a ≡ true → b ≡ true → (a && b) ≡ true
both_true true b e f = f
both_true false b e f = e

first_true : (a b : Bool) → (a && b) ≡ true → a ≡ true
first_true true b e = refl
first_true false b e = e

second_true : (a b : Bool) → (a && b) ≡ true → b ≡ true
second_true true b e = e
second_true false b e = absurd (true≢false (sym e))

or_first : (a b : Bool) → a ≡ true → (a || b) ≡ true
or_first true b e = refl
or_first false b e = absurd (true≢false (sym e))

or_second : (a b : Bool) → b ≡ true → (a || b) ≡ true
or_second true b e = refl
or_second false b e = e

not_true : (b : Bool) → (b ≡ true → ⊥) → b ≡ false
not_true true h = absurd (h refl)
not_true false h = refl

-- a word that stands in a list is found there
among_at : (words : List (List ℕ)) (word : List ℕ) (k : ℕ) → slice_get words k ≡ Some word → is_among words word ≡ true
among_at [] word k e = let lt : k < length {A = List ℕ} [] = slice_get_within [] k word e in absurd (omega arith)
among_at (w ∷ words) word zero e = or_first (bytes_eq word w) (is_among words word) ((bytes_eq-Decides word w).1 (sym (same_Some w word e)))
among_at (w ∷ words) word (suc k) e = or_second (bytes_eq word w) (is_among words word) (among_at words word k e)

among-Contains : (words : List (List ℕ)) (word : List ℕ) → is_among words word ≡ true → Contains words word
among-Contains words word h = Contains-from_any {eq = bytes_eq} (λ x y e. (bytes_eq-Decides x y).0 e) word words h

-- all words of one list stand in the other
all-from : (a b : List (List ℕ)) → list_all (is_among b) a ≡ true → (word : List ℕ) → Contains a word → Contains b word
all-from a b h word c =
    let g = get_Contains a word c in
    let lt : g.0 < length a = slice_get_within a g.0 word g.1 in
    let value : get_or a g.0 word ≡ word = get_or_from_slice_get a g.0 word word g.1 in
    among-Contains b word (subst (λ (w : List ℕ). is_among b w ≡ true) value (AllPass-from_list_all (is_among b) a h g.0 word lt))

from-all : (a b : List (List ℕ)) → ((word : List ℕ) → Contains a word → Contains b word) → list_all (is_among b) a ≡ true
from-all a b h = list_all-from_AllPass (is_among b) a (λ k d lt.
    let word : List ℕ = get_or a k d in
    let c = get_Contains b word (h word (Contains_get a k word (slice_get-get_or a k d lt))) in
    among_at b word c.0 c.1)

-- the test tells whether two lists have the same words
same_words : (a b : List (List ℕ)) → is_same_set a b ≡ true → HaveSameWords a b
same_words a b h word = (
  all-from a b (first_true (list_all (is_among b) a) (list_all (is_among a) b) h) word,
  all-from b a (second_true (list_all (is_among b) a) (list_all (is_among a) b) h) word,
)

words_same : (a b : List (List ℕ)) → HaveSameWords a b → is_same_set a b ≡ true
words_same a b h = both_true (list_all (is_among b) a) (list_all (is_among a) b) (from-all a b (λ word. (h word).0)) (from-all b a (λ word. (h word).1))

module _ (sets : List (List (List ℕ))) (names : List (List ℕ)) where
  abbrev test : List (List ℕ) → Bool
  test set = is_same_set set names

  pub found-first : (k : ℕ) → set_among sets names ≡ Some k → IsFirstEqual sets names k
  found-first k e =
      let p = position-Some test sets k [] e in
      let at : slice_get sets k ≡ Some (get_or sets k []) = slice_get-get_or sets k [] p.0 in
      record {
        equal = (get_or sets k [], at, same_words (get_or sets k []) names p.1);
        first = λ i set lt f same.
            let value : get_or sets i [] ≡ set = get_or_from_slice_get sets i set [] f in
            let fails : test set ≡ false = subst (λ (s : List (List ℕ)). test s ≡ false) value (p.2 i lt) in
            true≢false (sym (words_same set names same) ∙ fails);
      }

  -- the first place at which the test passes is told
  position_at : (n : ℕ) → position_or_len test sets ≡ n → n < length sets → position test sets ≡ Some n
  position_at n e lt = grind (arith, common_steps)

  -- and nothing where it passes nowhere
  position_none : length sets ≤ position_or_len test sets → position test sets ≡ None
  position_none le = grind (arith, common_steps)

  pub first-found : (k : ℕ) → IsFirstEqual sets names k → set_among sets names ≡ Some k
  first-found k h =
      let lt : k < length sets = slice_get_within sets k h.equal.0 h.equal.1 in
      let value : get_or sets k [] ≡ h.equal.0 = get_or_from_slice_get sets k h.equal.0 [] h.equal.1 in
      let passes : test (get_or sets k []) ≡ true = subst (λ (s : List (List ℕ)). test s ≡ true) (sym value) (words_same h.equal.0 names h.equal.2) in
      let fails : (i : ℕ) → i < k → test (get_or sets i []) ≡ false = λ i less.
      let within : i < length sets = omega arith in
      not_true (test (get_or sets i [])) (λ e. h.first i (get_or sets i []) less (slice_get-get_or sets i [] within) (same_words (get_or sets i []) names e)) in
      position_at k (position_or_len_is test sets k [] (omega arith) fails (λ l. passes)) lt

  pub none-found : set_among sets names ≡ None → All (λ set. ¬ HaveSameWords set names) sets
  none-found e k d lt same = elim (cases_lt (position_or_len test sets) (length sets)) [
    | inl before ↦ let some : ◌≡◌ {A = Option ℕ} None (Some (position_or_len test sets)) = sym e ∙ position_at (position_or_len test sets) refl before in cc
    | inr le ↦
        let value : get_or sets k [] ≡ get_or sets k d = get_or_from_slice_get sets k (get_or sets k d) [] (slice_get-get_or sets k d lt) in
        let fails : test (get_or sets k []) ≡ false = fails_before_first test sets k [] (omega arith) in
        true≢false (sym (words_same (get_or sets k []) names (subst (λ (s : List (List ℕ)). HaveSameWords s names) (sym value) same)) ∙ fails)
  ]

  pub found-none : All (λ set. ¬ HaveSameWords set names) sets → set_among sets names ≡ None
  found-none h = elim (cases_lt (position_or_len test sets) (length sets)) [
    | inl before ↦ absurd (h (position_or_len test sets) [] before (same_words (get_or sets (position_or_len test sets) []) names (passes_at_first test sets [] before)))
    | inr le ↦ position_none le
  ]
