-- The slots of a search: how a candidate is put into them, and what stands in them.
use Rattle.std.proofs.Common.{◌≡◌, ℕ, ◌+◌, ◌-◌, ◌<◌, ◌≤◌, inl, inr, true, false, List, [], ◌∷◌, ◌++◌, length, take, drop, get_or, zero, suc, refl, sym, ap, subst, arith, ◌∙◌, add-one}
use Rattle.std.specs.Prelude.{IfSome, Option, Some, None, nat_lt, ◌||◌, ◌&&◌, ◌==◌}
use Rattle.std.specs.List.{AllByRecursion, slice_get}
use Rattle.std.proofs.Math.ListN.{set}
use Rattle.std.proofs.lemmas.Bool.{cases_lt}
use Rattle.std.proofs.lemmas.Bool.Decides.{nat_tests}
use Rattle.std.proofs.lemmas.Option.{get_or_from_slice_get, slice_get_within}
use Rattle.std.proofs.lemmas.List.{append_assoc, drop-set-lt, take-set, drop-set, take_all, take_more_set}
use Rattle.list_lemmas.proofs.Fronts.{take-get}
use Rattle.list_lemmas.proofs.Gets.{get_some}
use Rattle.geo_integer.specs.Position.{Position}
use Rattle.search_graph.specs.declared.costs.WeightDurLen.{WeightDurLen}
use Rattle.search_graph.specs.Digraph.{Weighting}
use Rattle.snap_index.specs.Candidates.{AreSlots, Ascend, IsCandidate, IsEmptySlot, IsSlot, LastIs, Precedes, PrecedesSlot, Stands, is_before, is_same, with_candidate}
use Rattle.snap_index.specs.Firsts.{ComesBefore}
use Rattle.snap_index.specs.Index.{IsFarther}
use Rattle.snap_index.specs.declared.candidates.Candidate.{Candidate}
use Rattle.snap_index.specs.declared.filters.Heading.{Heading}
use Rattle.snap_index.specs.declared.grids.SegmentEnds.{SegmentEnds}

-- of three, where the first comes before the second and that before the third
pub before_trans : (a i b j c k : ℕ) → ComesBefore a i b j → ComesBefore b j c k → ComesBefore a i c k
before_trans a i b j c k h g = elim h as (λ _. ComesBefore a i c k) [
  | inl lt ↦ elim g as (λ _. ComesBefore a i c k) [ inl lt2 ↦ inl (omega (arith, lt, lt2)) | inr e ↦ inl (let q = e.0 in omega (arith, lt, q)) ]
  | inr e ↦ elim g as (λ _. ComesBefore a i c k) [ inl lt ↦ inl (let q = e.0 in omega (arith, lt, q)) | inr f ↦ inr (e.0 ∙ f.0, let p = e.1 in let q = f.1 in omega (arith, p, q)) ]
]

-- what the tests of two candidates say of their numbers
numbers-before : (r i q j : ℕ) → (nat_lt r q || ((r == q) && nat_lt i j)) ≡ true → ComesBefore r i q j
numbers-before r i q j h = elim (cases_lt r q) as (λ _. ComesBefore r i q j) [
  | inl lt ↦ inl lt
  | inr ge ↦ inr (grind (arith, nat_tests), grind (arith, nat_tests))
]

numbers-same : (r i q j : ℕ) → ((r == q) && (i == j)) ≡ true → (r ≡ q) × (i ≡ j)
numbers-same r i q j h = (grind (arith, nat_tests), grind (arith, nat_tests))

numbers-behind : (r i q j : ℕ) → (nat_lt r q || ((r == q) && nat_lt i j)) ≡ false → ((r == q) && (i == j)) ≡ false → ComesBefore q j r i
numbers-behind r i q j h g = elim (cases_lt q r) as (λ _. ComesBefore q j r i) [
  | inl lt ↦ inl lt
  | inr ge ↦ inr (grind (arith, nat_tests), grind (arith, nat_tests))
]

is-before : (c d : Candidate) → is_before c d ≡ true → Precedes c d
is-before c d h = numbers-before c.remoteness c.place.segment d.remoteness d.place.segment h

is-one : (c d : Candidate) → is_same c d ≡ true → (c.remoteness ≡ d.remoteness) × (c.place.segment ≡ d.place.segment)
is-one c d h = numbers-same c.remoteness c.place.segment d.remoteness d.place.segment h

is-behind : (c d : Candidate) → is_before c d ≡ false → is_same c d ≡ false → Precedes d c
is-behind c d h g = numbers-behind c.remoteness c.place.segment d.remoteness d.place.segment h g

-- which of the three it is
data Which (c d : Candidate) : Type 0 where
  before : is_before c d ≡ true → Which c d
  same : is_before c d ≡ false → is_same c d ≡ true → Which c d
  behind : is_before c d ≡ false → is_same c d ≡ false → Which c d

which : (c d : Candidate) → Which c d
which c d = elim (is_before c d) as (λ b. is_before c d ≡ b → Which c d) [
  | true ↦ λ e. before e
  | false ↦ λ e. (elim (is_same c d) as (λ b. is_same c d ≡ b → Which c d) [ true ↦ λ f. same e f | false ↦ λ f. behind e f ]) refl
] refl

-- the slots with a candidate put into them
put-empty : (c : Candidate) (rest : List (Option Candidate)) → with_candidate c (None ∷ rest) ≡ Some c ∷ rest
unfolding with_candidate
put-empty c rest = refl

put-before : (c d : Candidate) (rest : List (Option Candidate)) → is_before c d ≡ true → with_candidate c (Some d ∷ rest) ≡ Some c ∷ with_candidate d rest
unfolding with_candidate
put-before c d rest h = rw h refl

put-same : (c d : Candidate) (rest : List (Option Candidate)) → is_before c d ≡ false → is_same c d ≡ true → with_candidate c (Some d ∷ rest) ≡ Some d ∷ rest
unfolding with_candidate
put-same c d rest h g = rw (h, g) refl

put-behind : (c d : Candidate) (rest : List (Option Candidate)) → is_before c d ≡ false → is_same c d ≡ false → with_candidate c (Some d ∷ rest) ≡ Some d ∷ with_candidate c rest
unfolding with_candidate
put-behind c d rest h g = rw (h, g) refl

put-none : (c : Candidate) → with_candidate c [] ≡ []
unfolding with_candidate
put-none c = refl

-- the rest of a list from an element on
drop-suc : {X : Type 0} (xs : List X) (i : ℕ) (x : X) → slice_get xs i ≡ Some x → drop i xs ≡ x ∷ drop (suc i) xs
drop-suc [] i x e = cc
drop-suc (y ∷ ys) zero x e = let q : y ≡ x = cc in ap (λ z. z ∷ ys) q
drop-suc (y ∷ ys) (suc i) x e = drop-suc ys i x e

pub drop-get : {X : Type 0} (xs : List X) (i : ℕ) (x : X) → slice_get xs i ≡ Some x → drop i xs ≡ x ∷ drop (i + 1) xs
drop-get xs i x e = rw add-one (drop-suc xs i x e)

-- a list is its front and its back
take-drop : {X : Type 0} (i : ℕ) (xs : List X) → take i xs ++ drop i xs ≡ xs
take-drop zero xs = refl
take-drop (suc i) [] = refl
take-drop (suc i) (x ∷ xs) = ap (λ ys. x ∷ ys) (take-drop i xs)

pub drop-all : {X : Type 0} (xs : List X) (i : ℕ) → length xs ≤ i → drop i xs ≡ []
drop-all [] zero h = refl
drop-all [] (suc i) h = refl
drop-all (x ∷ xs) zero h = absurd (omega arith)
drop-all (x ∷ xs) (suc i) h = drop-all xs i (omega arith)

module _ (slots : List (Option Candidate)) (i : ℕ) (c : Candidate) where
  at-slot : (slot : Option Candidate) → slice_get slots i ≡ Some slot → with_candidate c (drop i slots) ≡ with_candidate c (slot ∷ drop (i + 1) slots)
  at-slot slot e = ap (with_candidate c) (drop-get slots i slot e)

  set-slot : (v : Option Candidate) (rest : List (Option Candidate)) → i < length slots → take (i + 1) (set slots i v) ++ rest ≡ take i slots ++ v ∷ rest
  set-slot v rest lt = ap (λ (front : List (Option Candidate)). front ++ rest) (take_more_set slots i v lt) ∙ append_assoc (take i slots) (v ∷ []) rest

  -- an empty slot takes it
  pub step-empty : slice_get slots i ≡ Some None → set slots i (Some c) ≡ take i slots ++ with_candidate c (drop i slots)
  step-empty e =
      let lt : i < length slots = slice_get_within slots i None e in
      sym (take-drop i (set slots i (Some c)))
      ∙ ap (λ (front : List (Option Candidate)). front ++ drop i (set slots i (Some c))) (take-set slots i (Some c))
      ∙ ap (λ (back : List (Option Candidate)). take i slots ++ back) (drop-set slots i (Some c) lt ∙ sym (put-empty c (drop (i + 1) slots)) ∙ sym (at-slot None e))

  -- it takes the slot of another, which moves on
  pub step-before : (d : Candidate) → slice_get slots i ≡ Some (Some d) → is_before c d ≡ true
      → take (i + 1) (set slots i (Some c)) ++ with_candidate d (drop (i + 1) (set slots i (Some c))) ≡ take i slots ++ with_candidate c (drop i slots)
  step-before d e h =
      let lt : i < length slots = slice_get_within slots i (Some d) e in
      let less : i < i + 1 = omega arith in
      ap (λ (back : List (Option Candidate)). take (i + 1) (set slots i (Some c)) ++ with_candidate d back) (drop-set-lt (i + 1) slots i (Some c) less)
      ∙ set-slot (Some c) (with_candidate d (drop (i + 1) slots)) lt
      ∙ ap (λ (back : List (Option Candidate)). take i slots ++ back) (sym (put-before c d (drop (i + 1) slots) h) ∙ sym (at-slot (Some d) e))

  -- it is there already
  pub step-same : (d : Candidate) → slice_get slots i ≡ Some (Some d) → is_before c d ≡ false → is_same c d ≡ true → slots ≡ take i slots ++ with_candidate c (drop i slots)
  step-same d e h g =
      sym (take-drop i slots) ∙ ap (λ (back : List (Option Candidate)). take i slots ++ back) (drop-get slots i (Some d) e ∙ sym (put-same c d (drop (i + 1) slots) h g) ∙ sym (at-slot (Some d) e))

  -- it passes by one that comes before it
  pub step-behind : (d : Candidate) → slice_get slots i ≡ Some (Some d) → is_before c d ≡ false → is_same c d ≡ false
      → take (i + 1) slots ++ with_candidate c (drop (i + 1) slots) ≡ take i slots ++ with_candidate c (drop i slots)
  step-behind d e h g =
      ap (λ (front : List (Option Candidate)). front ++ with_candidate c (drop (i + 1) slots)) (take-get slots i (Some d) e)
      ∙ append_assoc (take i slots) (Some d ∷ []) (with_candidate c (drop (i + 1) slots))
      ∙ ap (λ (back : List (Option Candidate)). take i slots ++ back) (sym (put-behind c d (drop (i + 1) slots) h g) ∙ sym (at-slot (Some d) e))

  -- there is no slot left
  pub put-end : length slots ≤ i → slots ≡ take i slots ++ with_candidate c (drop i slots)
  put-end h = sym (take-drop i slots) ∙ ap (λ (back : List (Option Candidate)). take i slots ++ back) (drop-all slots i h ∙ sym (put-none c) ∙ sym (ap (with_candidate c) (drop-all slots i h)))

-- the same for the slots and the candidate of the next step
pub same-step : (s t : List (Option Candidate)) (m n : Candidate) (i : ℕ) (all : List (Option Candidate)) → t ≡ s → n ≡ m → take (i + 1) s ++ with_candidate m (drop (i + 1) s) ≡ all → take (i + 1) t ++ with_candidate n (drop (i + 1) t) ≡ all
same-step s t m n i all e f h = cc

-- a list that was lent as a whole, and given back
append-none : {X : Type 0} (xs : List X) → xs ++ [] ≡ xs
append-none [] = refl
append-none (x ∷ xs) = ap (λ ys. x ∷ ys) (append-none xs)

pub given-back : {X : Type 0} (n : ℕ) (xs ys : List X) → length ys ≡ length xs → n ≡ length xs → take n (xs ++ drop (length xs) ys) ≡ xs
given-back n xs ys e f =
    ap (λ back. take n (xs ++ back)) (drop-all ys (length xs) (omega (arith, e))) ∙ ap (take n) (append-none xs) ∙ take_all n xs (omega (arith, f))

-- what is read of a list is its element
pub read-is : {X : Type 0} (xs : List X) (i : ℕ) (d x : X) → i < length xs → get_or xs i d ≡ x → slice_get xs i ≡ Some x
read-is xs i d x lt e = let there = get_some xs i lt in there.1 ∙ ap (λ y. Some y) (sym (get_or_from_slice_get xs i there.0 d there.1) ∙ e)

-- what holds of a candidate and of each slot holds of each slot after it was put there
pub put-all : (P : Option Candidate → Type 0) (c : Candidate) (slots : List (Option Candidate)) → P (Some c) → AllByRecursion P slots → AllByRecursion P (with_candidate c slots)
put-all P c [] p all = subst (λ (l : List (Option Candidate)). AllByRecursion P l) (sym (put-none c)) tt
put-all P c (None ∷ rest) p all = subst (λ (l : List (Option Candidate)). AllByRecursion P l) (sym (put-empty c rest)) (p, all.1)
put-all P c (Some d ∷ rest) p all = elim (which c d) as (λ _. AllByRecursion P (with_candidate c (Some d ∷ rest))) [
  | before h ↦ subst (λ (l : List (Option Candidate)). AllByRecursion P l) (sym (put-before c d rest h)) (p, put-all P d rest all.0 all.1)
  | same h g ↦ subst (λ (l : List (Option Candidate)). AllByRecursion P l) (sym (put-same c d rest h g)) all
  | behind h g ↦ subst (λ (l : List (Option Candidate)). AllByRecursion P l) (sym (put-behind c d rest h g)) (all.0, put-all P c rest p all.1)
]

all-each : (P Q : Option Candidate → Type 0) → ((slot : Option Candidate) → P slot → Q slot) → (slots : List (Option Candidate)) → AllByRecursion P slots → AllByRecursion Q slots
all-each P Q f [] all = tt
all-each P Q f (slot ∷ rest) all = (f slot all.0, all-each P Q f rest all.1)

pub all-push : (P : Option Candidate → Type 0) (slots : List (Option Candidate)) (slot : Option Candidate) → AllByRecursion P slots → P slot → AllByRecursion P (slots ++ slot ∷ [])
all-push P [] slot all p = (p, tt)
all-push P (first ∷ rest) slot all p = (all.0, all-push P rest slot all.1 p)

precedes-empty : (c : Candidate) (slot : Option Candidate) → IsEmptySlot slot → PrecedesSlot c slot
precedes-empty c None e = tt
precedes-empty c (Some d) e = cc

precedes-on : (c d : Candidate) → Precedes c d → (slot : Option Candidate) → PrecedesSlot d slot → PrecedesSlot c slot
precedes-on c d h None p = tt
precedes-on c d h (Some e) p = before_trans c.remoteness c.place.segment d.remoteness d.place.segment e.remoteness e.place.segment h p

empty-ascends : (slots : List (Option Candidate)) → AllByRecursion IsEmptySlot slots → Ascend slots
empty-ascends [] h = tt
empty-ascends (None ∷ rest) h = h.1
empty-ascends (Some d ∷ rest) h = absurd (let q = h.0 in cc)

-- the slots stay in their order
pub put-ascends : (c : Candidate) (slots : List (Option Candidate)) → Ascend slots → Ascend (with_candidate c slots)
put-ascends c [] h = subst (λ (l : List (Option Candidate)). Ascend l) (sym (put-none c)) tt
put-ascends c (None ∷ rest) h = subst (λ (l : List (Option Candidate)). Ascend l) (sym (put-empty c rest)) (all-each IsEmptySlot (PrecedesSlot c) (precedes-empty c) rest h, empty-ascends rest h)
put-ascends c (Some d ∷ rest) h = elim (which c d) as (λ _. Ascend (with_candidate c (Some d ∷ rest))) [
  | before b ↦ subst (λ (l : List (Option Candidate)). Ascend l) (sym (put-before c d rest b))
      (put-all (PrecedesSlot c) d rest (is-before c d b) (all-each (PrecedesSlot d) (PrecedesSlot c) (precedes-on c d (is-before c d b)) rest h.0), put-ascends d rest h.1)
  | same b g ↦ subst (λ (l : List (Option Candidate)). Ascend l) (sym (put-same c d rest b g)) h
  | behind b g ↦ subst (λ (l : List (Option Candidate)). Ascend l) (sym (put-behind c d rest b g)) (put-all (PrecedesSlot d) c rest (is-behind c d b g) h.0, put-ascends c rest h.1)
]

-- a candidate that was put into the slots stands there
pub put-stands : (c : Candidate) (slots : List (Option Candidate)) → Stands c.remoteness c.place.segment (with_candidate c slots)
put-stands c [] = subst (λ (l : List (Option Candidate)). Stands c.remoteness c.place.segment l) (sym (put-none c)) tt
put-stands c (None ∷ rest) = subst (λ (l : List (Option Candidate)). Stands c.remoteness c.place.segment l) (sym (put-empty c rest)) (inl (refl, refl))
put-stands c (Some d ∷ rest) = elim (which c d) as (λ _. Stands c.remoteness c.place.segment (with_candidate c (Some d ∷ rest))) [
  | before b ↦ subst (λ (l : List (Option Candidate)). Stands c.remoteness c.place.segment l) (sym (put-before c d rest b)) (inl (refl, refl))
  | same b g ↦ subst (λ (l : List (Option Candidate)). Stands c.remoteness c.place.segment l) (sym (put-same c d rest b g)) (let e = is-one c d g in inl (sym e.0, sym e.1))
  | behind b g ↦ subst (λ (l : List (Option Candidate)). Stands c.remoteness c.place.segment l) (sym (put-behind c d rest b g)) (inr (is-behind c d b g, put-stands c rest))
]

-- and what stood there before still does
pub put-stay : (remote s : ℕ) (c : Candidate) (slots : List (Option Candidate)) → Stands remote s slots → Stands remote s (with_candidate c slots)
put-stay remote s c [] h = subst (λ (l : List (Option Candidate)). Stands remote s l) (sym (put-none c)) tt
put-stay remote s c (None ∷ rest) h = absurd h
put-stay remote s c (Some d ∷ rest) h = elim (which c d) as (λ _. Stands remote s (with_candidate c (Some d ∷ rest))) [
  | before b ↦ subst (λ (l : List (Option Candidate)). Stands remote s l) (sym (put-before c d rest b)) (elim h as (λ _. Stands remote s (Some c ∷ with_candidate d rest)) [
    | inl e ↦ inr (
      subst (λ r. ComesBefore c.remoteness c.place.segment r s) e.0 (subst (λ k. ComesBefore c.remoteness c.place.segment d.remoteness k) e.1 (is-before c d b)),
      subst (λ r. Stands r s (with_candidate d rest)) e.0 (subst (λ k. Stands d.remoteness k (with_candidate d rest)) e.1 (put-stands d rest)),
    )
    | inr p ↦ inr (before_trans c.remoteness c.place.segment d.remoteness d.place.segment remote s (is-before c d b) p.0, put-stay remote s d rest p.1)
  ])
  | same b g ↦ subst (λ (l : List (Option Candidate)). Stands remote s l) (sym (put-same c d rest b g)) h
  | behind b g ↦ subst (λ (l : List (Option Candidate)). Stands remote s l) (sym (put-behind c d rest b g)) (elim h as (λ _. Stands remote s (Some d ∷ with_candidate c rest)) [
    | inl e ↦ inl e
    | inr p ↦ inr (p.0, put-stay remote s c rest p.1)
  ])
]

-- the slots after a candidate was put there are slots
pub put-slots : (lines : List SegmentEnds) (w : Weighting WeightDurLen) (heading : Option Heading) (from : Position) (c : Candidate) (slots : List (Option Candidate))
    → AreSlots lines w heading from slots → IsCandidate lines w heading from c → AreSlots lines w heading from (with_candidate c slots)
put-slots lines w heading from c slots h k = record { each = put-all (IsSlot lines w heading from) c slots k h.each; order = put-ascends c slots h.order }

-- what is more remote than the last one of all slots stands behind them
empty-last : (slots : List (Option Candidate)) (n : ℕ) (c : Candidate) → AllByRecursion IsEmptySlot slots → slice_get slots n ≡ Some (Some c) → {G : Type 0} → G
empty-last [] n c all e = absurd cc
empty-last (slot ∷ rest) zero c all e = absurd (let q = all.0 in cc)
empty-last (slot ∷ rest) (suc n) c all e = empty-last rest n c all.1 e

slot-at : (P : Option Candidate → Type 0) (slots : List (Option Candidate)) (n : ℕ) (slot : Option Candidate) → AllByRecursion P slots → slice_get slots n ≡ Some slot → P slot
slot-at P [] n slot all e = absurd cc
slot-at P (first ∷ rest) zero slot all e = subst P (let q : first ≡ slot = cc in q) all.0
slot-at P (first ∷ rest) (suc n) slot all e = slot-at P rest n slot all.1 e

behind-at : (remote s : ℕ) (slots : List (Option Candidate)) (n : ℕ) (c : Candidate) → Ascend slots → slice_get slots n ≡ Some (Some c) → length slots ≡ suc n → c.remoteness < remote → Stands remote s slots
behind-at remote s [] n c h e all lt = tt
behind-at remote s (None ∷ rest) zero c h e all lt = absurd cc
behind-at remote s (None ∷ rest) (suc n) c h e all lt = empty-last rest n c h e
behind-at remote s (Some d ∷ []) zero c h e all lt = let q : d ≡ c = cc in (inr (inl (subst (λ (x : Candidate). x.remoteness < remote) (sym q) lt), tt))
behind-at remote s (Some d ∷ next ∷ rest) zero c h e all lt = absurd (omega (arith, all))
behind-at remote s (Some d ∷ rest) (suc n) c h e all lt =
    let first : Precedes d c = slot-at (PrecedesSlot d) rest n (Some c) h.0 e in
    let less : length rest ≡ suc n = omega (arith, all) in
    inr (before_trans d.remoteness d.place.segment c.remoteness c.place.segment remote s first (inl lt), behind-at remote s rest n c h.1 e less lt)

pub behind-stands : (remote s last : ℕ) (slots : List (Option Candidate)) → Ascend slots → LastIs last slots → last < remote → Stands remote s slots
behind-stands remote s last [] h l lt = tt
behind-stands remote s last (slot ∷ rest) h l lt =
    let q : length (slot ∷ rest) - 1 ≡ length rest = omega arith in
    behind-at remote s (slot ∷ rest) (length rest) l.0 h (subst (λ n. slice_get (slot ∷ rest) n ≡ Some (Some l.0)) q l.1) refl (subst (λ n. n < remote) (sym l.2) lt)

pub behind-last : (remote s : ℕ) (last : Option ℕ) (slots : List (Option Candidate)) → Ascend slots → IfSome last (λ n. LastIs n slots) → IsFarther last remote → Stands remote s slots
behind-last remote s None slots h l far = absurd far
behind-last remote s (Some n) slots h l far = behind-stands remote s n slots h l far

slot-empty : (lines : List SegmentEnds) (w : Weighting WeightDurLen) (heading : Option Heading) (from : Position) (slot : Option Candidate) → IsEmptySlot slot → IsSlot lines w heading from slot
slot-empty lines w heading from None e = tt
slot-empty lines w heading from (Some c) e = cc

-- empty slots are slots
pub empty-slots : (lines : List SegmentEnds) (w : Weighting WeightDurLen) (heading : Option Heading) (from : Position) (slots : List (Option Candidate)) → AllByRecursion IsEmptySlot slots → AreSlots lines w heading from slots
empty-slots lines w heading from slots all = record { each = all-each IsEmptySlot (IsSlot lines w heading from) (slot-empty lines w heading from) slots all; order = empty-ascends slots all }
