-- The lists that go through a set once, as arrangements.
use Rattle.std.proofs.Common.{◌≡◌, ◌≢◌, ℕ, zero, suc, ◌-◌, ◌^◌, ◌<◌, ◌≤◌, List, [], ◌∷◌, length, true, false, inl, inr, refl, sym, subst, ap, ◌∙◌, arith, slice_index_or}
use Rattle.std.specs.Int.{bit_at}
use Rattle.std.specs.List.{AllByRecursion, Contains, IsDistinct, list_any}
use Rattle.std.proofs.Math.Dec.{eqb}
use Rattle.std.proofs.lemmas.Bool.{cases_lt}
use Rattle.std.proofs.lemmas.Bool.Decides.{eqb_tells}
use Rattle.std.proofs.lemmas.Map.Keys.{IsDistinct-cons, IsDistinct-head, IsDistinct-tail}
use Rattle.std.proofs.lemmas.Map.Steps.{le-length_from_below, length-le_from_distinct_below}
use Rattle.std.proofs.lemmas.Nat.Bits.{bit_at-lt, bit_at-zero, bit_at_above, bit_at_ones, bit_at_ones_above, same_from_bits}
use Rattle.list_lemmas.proofs.Distinct.{any-nil, first_or_rest, none_or_any}
use Rattle.trip_query.specs.Tails.{Goes}
use Rattle.trip_query.specs.Trips.{IsArrangement}
use Rattle.trip_query.proofs.Bits.{without_other, without_same}

zero_is_not_one : (n : ℕ) → n ≡ 0 → n ≡ 1 → ⊥
zero_is_not_one n h k = omega (arith, h, k)

-- ---- membership by a test
pub contains_any : (xs : List ℕ) (q k : ℕ) → k < length xs → slice_index_or xs k q ≡ q → list_any (eqb q) xs ≡ true
contains_any [] q k lt e = absurd (omega (arith, lt))
contains_any (x ∷ xs) q zero lt e = elim (eqb_tells q x) [
  | inl p ↦ rw p.0 refl
  | inr p ↦ absurd (p.1 (sym e))
]
contains_any (x ∷ xs) q (suc k) lt e = elim (eqb_tells q x) [
  | inl p ↦ rw p.0 refl
  | inr p ↦ let less : k < length xs = omega arith in rw p.0 (contains_any xs q k less e)
]

pub any_contains : (xs : List ℕ) (q : ℕ) → list_any (eqb q) xs ≡ true → Contains xs q
any_contains [] q h = absurd (any-nil q h)
any_contains (x ∷ xs) q h = elim (first_or_rest q x xs h) [
  | inl e ↦ (0, omega arith, sym e)
  | inr r ↦ let c = any_contains xs q r in let lt = c.1 in (suc c.0, omega (arith, lt), c.2)
]

any_first : (k : ℕ) (rest : List ℕ) → list_any (eqb k) (k ∷ rest) ≡ true
any_first k rest = contains_any (k ∷ rest) k 0 (omega arith) refl

any_rest : (q k : ℕ) (rest : List ℕ) → list_any (eqb q) rest ≡ true → list_any (eqb q) (k ∷ rest) ≡ true
any_rest q k rest h = elim (eqb_tells q k) [
  | inl p ↦ rw p.0 refl
  | inr p ↦ rw p.0 h
]

not_among : (k : ℕ) (rest : List ℕ) → AllByRecursion (λ y. eqb k y ≡ false) rest → list_any (eqb k) rest ≡ true → ⊥
not_among k [] h e = any-nil k e
not_among k (x ∷ rest) h e = not_among k rest h.1 (rw h.0 at e)

-- ---- what goes through a set
-- has the places of the set
pub members_in : (set : ℕ) (order : List ℕ) → Goes set order → (q : ℕ) → list_any (eqb q) order ≡ true → bit_at set q ≡ 1
members_in set [] goes q h = absurd (any-nil q h)
members_in set (k ∷ rest) goes q h = elim (first_or_rest q k rest h) [
  | inl e ↦ subst (λ j. bit_at set j ≡ 1) (sym e) goes.0
  | inr r ↦
      let there = members_in (set - 2 ^ k) rest goes.1 q r in
      let apart : q ≢ k = λ e. zero_is_not_one (bit_at (set - 2 ^ k) k) (without_same k set goes.0) (subst (λ j. bit_at (set - 2 ^ k) j ≡ 1) e there) in
      sym (without_other k q set goes.0 apart) ∙ there
]

-- all of them
pub all_in : (set : ℕ) (order : List ℕ) → Goes set order → (q : ℕ) → bit_at set q ≡ 1 → list_any (eqb q) order ≡ true
all_in set [] goes q h = absurd (zero_is_not_one (bit_at 0 q) (bit_at-zero q) (subst (λ n. bit_at n q ≡ 1) goes h))
all_in set (k ∷ rest) goes q h = elim (eqb_tells q k) [
  | inl p ↦ rw p.0 refl
  | inr p ↦ rw p.0 (all_in (set - 2 ^ k) rest goes.1 q (without_other k q set goes.0 p.1 ∙ h))
]

nil_distinct : IsDistinct eqb []
unfolding IsDistinct
nil_distinct = tt

-- each once
pub goes_once : (set : ℕ) (order : List ℕ) → Goes set order → IsDistinct eqb order
goes_once set [] goes = nil_distinct
goes_once set (k ∷ rest) goes = IsDistinct-cons eqb k rest
    (elim (none_or_any k rest) [
      | inl none ↦ none
      | inr r ↦ absurd (zero_is_not_one (bit_at (set - 2 ^ k) k) (without_same k set goes.0) (members_in (set - 2 ^ k) rest goes.1 k r))
    ])
    (goes_once (set - 2 ^ k) rest goes.1)

bit_zero : (set i : ℕ) → (bit_at set i ≡ 1 → ⊥) → bit_at set i ≡ 0
bit_zero set i h = let two = bit_at-lt set i in elim (cases_lt (bit_at set i) 1) [
  | inl lt ↦ omega (arith, lt)
  | inr ge ↦ let one : bit_at set i ≡ 1 = omega (arith, two, ge) in absurd (h one)
]

-- and a list that has each of them once goes through the set
pub goes_from : (set : ℕ) (order : List ℕ) → IsDistinct eqb order → ((q : ℕ) → list_any (eqb q) order ≡ true → bit_at set q ≡ 1) → ((q : ℕ) → bit_at set q ≡ 1 → list_any (eqb q) order ≡ true) → Goes set order
goes_from set [] apart only every = same_from_bits set 0 (λ i. bit_zero set i (λ h. any-nil i (every i h)) ∙ sym (bit_at-zero i))
goes_from set (k ∷ rest) apart only every =
    let here : bit_at set k ≡ 1 = only k (any_first k rest) in
    let none = IsDistinct-head eqb k rest apart in
    let only_rest : (q : ℕ) → list_any (eqb q) rest ≡ true → bit_at (set - 2 ^ k) q ≡ 1 = λ q r.
    let other : q ≢ k = λ e. not_among k rest none (subst (λ j. list_any (eqb j) rest ≡ true) e r) in
    without_other k q set here other ∙ only q (any_rest q k rest r) in
    let every_rest : (q : ℕ) → bit_at (set - 2 ^ k) q ≡ 1 → list_any (eqb q) rest ≡ true = λ q b.
    let other : q ≢ k = λ e. zero_is_not_one (bit_at (set - 2 ^ k) k) (without_same k set here) (subst (λ j. bit_at (set - 2 ^ k) j ≡ 1) e b) in
    elim (first_or_rest q k rest (every q (sym (without_other k q set here other) ∙ b))) [
      | inl e ↦ absurd (other e)
      | inr r ↦ r
    ] in
    (here, goes_from (set - 2 ^ k) rest (IsDistinct-tail eqb k rest apart) only_rest every_rest)

-- ---- the set of all places below n
all_below : (n q : ℕ) → bit_at (2 ^ n - 1) q ≡ 1 → q < n
all_below n q h = elim (cases_lt q n) [
  | inl lt ↦ lt
  | inr ge ↦ absurd (zero_is_not_one (bit_at (2 ^ n - 1) q) (bit_at_ones_above n q ge) h)
]

pub arrangement_goes : (n : ℕ) (order : List ℕ) → IsArrangement n order → Goes (2 ^ n - 1) order
arrangement_goes n order h = goes_from (2 ^ n - 1) order h.once
    (λ q a. bit_at_ones n q (h.only q (any_contains order q a)))
    (λ q b. let c = h.every q (all_below n q b) in contains_any order q c.0 c.1 c.2)

pub goes_arrangement : (n : ℕ) (order : List ℕ) → Goes (2 ^ n - 1) order → IsArrangement n order
goes_arrangement n order goes = record {
  once = goes_once (2 ^ n - 1) order goes;
  every = λ k lt. any_contains order k (all_in (2 ^ n - 1) order goes k (bit_at_ones n k lt));
  only = λ k c. all_below n k (members_in (2 ^ n - 1) order goes k (contains_any order k c.0 c.1 c.2));
}

-- an arrangement of n places has n
pub length-arrangement : (n : ℕ) (order : List ℕ) → IsArrangement n order → length order ≡ n
length-arrangement n order h =
    let most = length-le_from_distinct_below order n h.once (λ q a. h.only q (any_contains order q a)) in
    let least = le-length_from_below order n (λ q lt. let c = h.every q lt in contains_any order q c.0 c.1 c.2) in
    omega (arith, most, least)
