-- `WeightDurLen` in a word: a duration below 2^30 in front of a length below 2^31 with a free bit between them, and before both a
-- bit that says whether the weight is the length. And as a rank, where the weight is the duration: the same two numbers, the
-- duration below 2^31. The sum of two lengths may take the bit between them.
use Rattle.std.specs.Prelude.{◌≡◌, ℕ, ◌+◌, ◌*◌, ◌/◌, ◌%◌, ◌^◌, ◌<◌, ◌&&◌, ◌==◌, ◌⊎◌, Bool, Option, None, Some, nat_lt, refl, if◌then◌else◌}
use Rattle.std.proofs.Common.{◌≤◌, inl, inr, ◌∙◌, arith, sym, ap}
use Rattle.std.proofs.lemmas.Bool.Decides.{nat_tests}
use Rattle.std.specs.Ordering.{ordering_then, nat_cmp}
use Rattle.std.specs.declared.cmp.Ordering.{Ordering}
use Rattle.std.specs.declared.cmp.Ordering.TheVariants.{Less, Equal, Greater}
use Rattle.search_graph.specs.declared.costs.WeightDurLen.{WeightDurLen}
use Rattle.search_graph.specs.Ranks.{AreRanks, AreOwnRanks}
use Rattle.search_graph.specs.RoadCosts.{parts-same, road_cost_ops}
use Rattle.cost_lists.specs.Words.{IsLossless}

-- duration and length fit into a word
abbrev pub is_narrow_cost : WeightDurLen → Bool
is_narrow_cost a = nat_lt a.duration (2 ^ 30) && nat_lt a.length (2 ^ 31)

-- they fit into a rank
abbrev pub is_short_cost : WeightDurLen → Bool
is_short_cost a = nat_lt a.duration (2 ^ 31) && nat_lt a.length (2 ^ 31)

abbrev pub road_cost_narrowed : WeightDurLen → Option ℕ
road_cost_narrowed a = if is_narrow_cost a then
    (if a.weight == a.duration then Some (a.duration * 2 ^ 32 + a.length)
    else (if a.weight == a.length then Some (2 ^ 62 + (a.duration * 2 ^ 32 + a.length)) else None))
    else None

abbrev pub road_cost_widened : ℕ → WeightDurLen
road_cost_widened word = record {
  weight = if nat_lt word (2 ^ 62) then word / 2 ^ 32 % 2 ^ 30 else word % 2 ^ 31;
  duration = word / 2 ^ 32 % 2 ^ 30;
  length = word % 2 ^ 31;
}

-- the number of a cost whose weight is its duration
abbrev pub road_cost_ranked : WeightDurLen → Option ℕ
road_cost_ranked a = if (a.weight == a.duration) && is_short_cost a then Some (a.duration * 2 ^ 32 + a.length) else None

abbrev pub road_cost_unranked : ℕ → WeightDurLen
road_cost_unranked rank = record {
  weight = rank / 2 ^ 32;
  duration = rank / 2 ^ 32;
  length = rank % 2 ^ 32;
}

-- a number below 2^30 and one below 2^31 make a word below 2^62, and come back from it
word-below : (d l : ℕ) → d < 2 ^ 30 → l < 2 ^ 31 → d * 2 ^ 32 + l < 2 ^ 62
word-below d l h k = omega arith

word-front : (d l : ℕ) → d < 2 ^ 30 → l < 2 ^ 31 → (d * 2 ^ 32 + l) / 2 ^ 32 % 2 ^ 30 ≡ d
word-front d l h k = omega arith

word-back : (d l : ℕ) → l < 2 ^ 31 → (d * 2 ^ 32 + l) % 2 ^ 31 ≡ l
word-back d l k = omega arith

-- so they do from one that has the bit before them
word-front-far : (d l : ℕ) → d < 2 ^ 30 → l < 2 ^ 31 → (2 ^ 62 + (d * 2 ^ 32 + l)) / 2 ^ 32 % 2 ^ 30 ≡ d
word-front-far d l h k = omega arith

word-back-far : (d l : ℕ) → l < 2 ^ 31 → (2 ^ 62 + (d * 2 ^ 32 + l)) % 2 ^ 31 ≡ l
word-back-far d l k = omega arith

far-enough : (n : ℕ) → 2 ^ 62 ≤ 2 ^ 62 + n
far-enough n = omega arith

-- what makes a word
record IsWordOf (w d l word : ℕ) : Type 0 where
  duration : d < 2 ^ 30
  length : l < 2 ^ 31
  weight : ((w ≡ d) × (word ≡ d * 2 ^ 32 + l)) ⊎ ((w ≡ l) × (word ≡ 2 ^ 62 + (d * 2 ^ 32 + l)))

word-parts : (w d l word : ℕ) → (if nat_lt d (2 ^ 30) && nat_lt l (2 ^ 31) then (if w == d then Some (d * 2 ^ 32 + l) else (if w == l then Some (2 ^ 62 + (d * 2 ^ 32 + l)) else None)) else None) ≡ Some word → IsWordOf w d l word
word-parts w d l word e = grind (arith, nat_tests, IsWordOf)

rank-parts : (w d l r : ℕ) → (if (w == d) && (nat_lt d (2 ^ 31) && nat_lt l (2 ^ 31)) then Some (d * 2 ^ 32 + l) else None) ≡ Some r → (w ≡ d) × (d < 2 ^ 31) × (l < 2 ^ 31) × (d * 2 ^ 32 + l ≡ r)
rank-parts w d l r e = grind (arith, nat_tests)

-- the part that a word's bit chooses
chosen-near : (word x y : ℕ) → word < 2 ^ 62 → (if nat_lt word (2 ^ 62) then x else y) ≡ x
chosen-near word x y h = grind (arith, nat_tests)

chosen-far : (word x y : ℕ) → 2 ^ 62 ≤ word → (if nat_lt word (2 ^ 62) then x else y) ≡ y
chosen-far word x y h = grind (arith, nat_tests)

widened-near : (a : WeightDurLen) → a.duration < 2 ^ 30 → a.length < 2 ^ 31 → a.weight ≡ a.duration → road_cost_widened (a.duration * 2 ^ 32 + a.length) ≡ a
widened-near a h k e =
    let d = word-front a.duration a.length h k in
    parts-same (chosen-near _ _ _ (word-below a.duration a.length h k) ∙ d ∙ sym e) d (word-back a.duration a.length k)

widened-far : (a : WeightDurLen) → a.duration < 2 ^ 30 → a.length < 2 ^ 31 → a.weight ≡ a.length → road_cost_widened (2 ^ 62 + (a.duration * 2 ^ 32 + a.length)) ≡ a
widened-far a h k e =
    let l = word-back-far a.duration a.length k in
    parts-same (chosen-far _ _ _ (far-enough (a.duration * 2 ^ 32 + a.length)) ∙ l ∙ sym e) (word-front-far a.duration a.length h k) l

widened-from : (a : WeightDurLen) (word : ℕ) → IsWordOf a.weight a.duration a.length word → road_cost_widened word ≡ a
widened-from a word p = elim p.weight [
  | inl e ↦ ap road_cost_widened e.1 ∙ widened-near a p.duration p.length e.0
  | inr e ↦ ap road_cost_widened e.1 ∙ widened-far a p.duration p.length e.0
]

short-of : (w d l word : ℕ) → IsWordOf w d l word → word < 2 ^ 63
short-of w d l word p = let h = p.duration in let k = p.length in elim p.weight [
  | inl e ↦ let b = e.1 in omega (arith, h, k, b)
  | inr e ↦ let b = e.1 in omega (arith, h, k, b)
]

pub road_cost_lossless : IsLossless road_cost_narrowed road_cost_widened
road_cost_lossless = record {
  short = λ a word e. short-of a.weight a.duration a.length word (word-parts a.weight a.duration a.length word e);
  back = λ a word e. widened-from a word (word-parts a.weight a.duration a.length word e);
}

-- two numbers, the second below 2^32, come back from a rank
rank-below : (d l : ℕ) → d < 2 ^ 31 → l < 2 ^ 31 → d * 2 ^ 32 + l < 2 ^ 63
rank-below d l h k = omega arith

rank-front : (d l : ℕ) → l < 2 ^ 31 → (d * 2 ^ 32 + l) / 2 ^ 32 ≡ d
rank-front d l k = omega arith

rank-back : (d l : ℕ) → l < 2 ^ 31 → (d * 2 ^ 32 + l) % 2 ^ 32 ≡ l
rank-back d l k = omega arith

rank-plus : (d l e m : ℕ) → (d + e) * 2 ^ 32 + (l + m) ≡ (d * 2 ^ 32 + l) + (e * 2 ^ 32 + m)
rank-plus d l e m = omega arith

twice-below : (l m : ℕ) → l < 2 ^ 31 → m < 2 ^ 31 → l + m < 2 ^ 32
twice-below l m h k = omega arith

one-below : (l : ℕ) → l < 2 ^ 31 → l < 2 ^ 32
one-below l h = omega arith

-- ranks are in the order of their two parts
parts-ordered : (d l e m : ℕ) → l < 2 ^ 32 → m < 2 ^ 32 → ordering_then (nat_cmp d e) (nat_cmp l m) ≡ nat_cmp (d * 2 ^ 32 + l) (e * 2 ^ 32 + m)
parts-ordered d l e m h k = grind (arith, nat_tests)

twice-then : (p q : Ordering) → ordering_then p (ordering_then p q) ≡ ordering_then p q
twice-then Less q = refl
twice-then Equal q = refl
twice-then Greater q = refl

-- what makes a rank
abbrev IsRankOf : WeightDurLen → ℕ → Type 0
IsRankOf a r = (a.weight ≡ a.duration) × (a.duration < 2 ^ 31) × (a.length < 2 ^ 31) × (a.duration * 2 ^ 32 + a.length ≡ r)

rank-of : (a : WeightDurLen) (r : ℕ) → road_cost_ranked a ≡ Some r → IsRankOf a r
rank-of a r e = rank-parts a.weight a.duration a.length r e

unranked-from : (a : WeightDurLen) (r : ℕ) → IsRankOf a r → road_cost_unranked r ≡ a
unranked-from a r p =
    let front = rank-front a.duration a.length p.2 in
    ap road_cost_unranked (sym p.3) ∙ parts-same (front ∙ sym p.0) front (rank-back a.duration a.length p.2)

ranks-ordered : (a b : WeightDurLen) (r s : ℕ) → IsRankOf a r → IsRankOf b s → road_cost_ops.cmp a b ≡ nat_cmp r s
ranks-ordered a b r s p q =
    rw (p.0, q.0, twice-then (nat_cmp a.duration b.duration) (nat_cmp a.length b.length), ← p.3, ← q.3)
    (parts-ordered a.duration a.length b.duration b.length (one-below a.length p.2) (one-below b.length q.2))

ranks-summed : (a b c : WeightDurLen) (r s t : ℕ) → IsRankOf a r → IsRankOf b s → IsRankOf c t → road_cost_ops.cmp (road_cost_ops.plus a b) c ≡ nat_cmp (r + s) t
ranks-summed a b c r s t p q o =
    rw (p.0, q.0, o.0, twice-then (nat_cmp (a.duration + b.duration) c.duration) (nat_cmp (a.length + b.length) c.length), ← p.3, ← q.3, ← o.3, ← rank-plus a.duration a.length b.duration b.length)
    (parts-ordered (a.duration + b.duration) (a.length + b.length) c.duration c.length (twice-below a.length b.length p.2 q.2) (one-below c.length o.2))

rank-short : (a : WeightDurLen) (r : ℕ) → IsRankOf a r → r < 2 ^ 63
rank-short a r p = let below = rank-below a.duration a.length p.1 p.2 in let is = p.3 in omega (arith, below, is)

pub road_cost_ranks : AreRanks road_cost_ops road_cost_ranked road_cost_unranked
road_cost_ranks = record {
  short = λ a r e. rank-short a r (rank-of a r e);
  back = λ a r e. unranked-from a r (rank-of a r e);
  ordered = λ a b r s e f. ranks-ordered a b r s (rank-of a r e) (rank-of b s f);
  sums = λ a b c r s t e f g. ranks-summed a b c r s t (rank-of a r e) (rank-of b s f) (rank-of c t g);
}

-- a word below 2^62 is one of a cost whose weight is the duration, and so its rank
near-parts : (w d l word : ℕ) → IsWordOf w d l word → word < 2 ^ 62 → (w ≡ d) × (word ≡ d * 2 ^ 32 + l)
near-parts w d l word p h = elim p.weight [
  | inl e ↦ e
  | inr e ↦ let far = e.1 in omega (arith, h, far)
]

near-rank : (w d l word : ℕ) → d < 2 ^ 30 → l < 2 ^ 31 → w ≡ d → word ≡ d * 2 ^ 32 + l → (if (w == d) && (nat_lt d (2 ^ 31) && nat_lt l (2 ^ 31)) then Some (d * 2 ^ 32 + l) else None) ≡ Some word
near-rank w d l word h k e is = grind (arith, nat_tests)

own-rank : (w d l word : ℕ) → IsWordOf w d l word → word < 2 ^ 62 → (if (w == d) && (nat_lt d (2 ^ 31) && nat_lt l (2 ^ 31)) then Some (d * 2 ^ 32 + l) else None) ≡ Some word
own-rank w d l word p h = let near = near-parts w d l word p h in near-rank w d l word p.duration p.length near.0 near.1

pub road_cost_own_ranks : AreOwnRanks road_cost_narrowed road_cost_ranked (2 ^ 62)
road_cost_own_ranks = λ a word e h. own-rank a.weight a.duration a.length word (word-parts a.weight a.duration a.length word e) h
