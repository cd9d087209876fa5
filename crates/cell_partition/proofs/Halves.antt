-- What halving keeps: the spots, and that no part is empty.
use Rattle.std.proofs.Common.{◌≡◌, ℕ, ◌+◌, ◌-◌, ◌/◌, ◌<◌, ◌≤◌, List, [], ◌∷◌, ◌++◌, length, take, drop, All, refl, sym, ap, ◌∙◌, subst, arith, length-append, ⊎_elim}
use Rattle.std.proofs.lemmas.Bool.{cases_lt}
use Rattle.std.proofs.lemmas.List.{append-nil, append_assoc, length-drop, take_all}
use Rattle.std.proofs.lemmas.List.Elements.{All-append, All-cons, All-nil, All-head, All-tail}
use Rattle.std.specs.List.Sorted.{IsPermutation}
use Rattle.std.proofs.lemmas.List.Sorted.{IsPermutation-refl, IsPermutation-trans, IsPermutation-append, length_permutation}
use Rattle.cell_partition.specs.declared.spot.Spot.{Spot}
use Rattle.cell_partition.specs.Bounds.{joined}
use Rattle.cell_partition.specs.Halving.{AreHalves, IsHalved, small, large, AreHalved, parts_above, AreLevels}
use Rattle.cell_partition.proofs.Bounds.{joined-append, length-le-joined}

abbrev pub IsFull : List Spot → Type 0
IsFull part = 0 < length part

pub halved_same : (limit : ℕ) (part : List Spot) (parts : List (List Spot)) → IsHalved limit part parts → IsPermutation part (joined parts)
halved_same limit part parts (small p h) = subst (λ (xs : List Spot). IsPermutation p xs) (sym (append-nil p)) (IsPermutation-refl p)
halved_same limit part parts (large p first second firsts seconds h halves a b) =
    let both : IsPermutation (first ++ second) (joined firsts ++ joined seconds) =
    IsPermutation-append first (joined firsts) second (joined seconds) (halved_same limit first firsts a) (halved_same limit second seconds b) in
    subst (λ (xs : List Spot). IsPermutation p xs) (sym (joined-append firsts seconds)) (IsPermutation-trans p (first ++ second) (joined firsts ++ joined seconds) halves.same both)

-- both halves of two spots or more hold some
halves_full : (part first second : List Spot) → AreHalves part first second → 2 ≤ length part → IsFull first × IsFull second
halves_full part first second halves h =
    let all : length first + length second ≡ length part = sym (length-append first second) ∙ length_permutation part (first ++ second) halves.same in
    let half : length first ≡ (length part + 1) / 2 = halves.half in
    (omega arith, omega arith)

pub halved_full : (limit : ℕ) (part : List Spot) (parts : List (List Spot)) → 1 ≤ limit → IsHalved limit part parts → IsFull part → All IsFull parts
halved_full limit part parts some (small p h) full = All-cons IsFull p [] full (All-nil IsFull)
halved_full limit part parts some (large p first second firsts seconds h halves a b) full =
    let two = halves_full p first second halves (omega arith) in
    All-append IsFull firsts seconds (halved_full limit first firsts some a two.0) (halved_full limit second seconds some b two.1)

halved_one : (limit : ℕ) (part : List Spot) (parts : List (List Spot)) → IsHalved limit part parts → length part ≡ 0 → length parts ≡ 1
halved_one limit part parts (small p h) none = refl
halved_one limit part parts (large p first second firsts seconds h halves a b) none = absurd (omega arith)

pub each_same : (limit : ℕ) (parts next : List (List Spot)) → AreHalved limit parts next → IsPermutation (joined parts) (joined next)
each_same limit [] next h = rw h (IsPermutation-refl [])
each_same limit (part ∷ parts) next (first, rest, is, one, others) =
    let both : IsPermutation (part ++ joined parts) (joined first ++ joined rest) = IsPermutation-append part (joined first) (joined parts) (joined rest) (halved_same limit part first one) (each_same limit parts rest others) in
    subst (λ (xs : List Spot). IsPermutation (part ++ joined parts) xs) (sym (ap joined is ∙ joined-append first rest)) both

each_full : (limit : ℕ) (parts next : List (List Spot)) → 1 ≤ limit → AreHalved limit parts next → All IsFull parts → All IsFull next
each_full limit [] next some h all = rw h (All-nil IsFull)
each_full limit (part ∷ parts) next some (first, rest, is, one, others) all =
    rw is (All-append IsFull first rest (halved_full limit part first some one (All-head IsFull part parts all)) (each_full limit parts rest some others (All-tail IsFull part parts all)))

each_one : (limit : ℕ) (parts next : List (List Spot)) → AreHalved limit parts next → length parts ≡ 1 → length (joined parts) ≡ 0 → length next ≡ 1
each_one limit [] next h e none = absurd (omega arith)
each_one limit (part ∷ []) next (first, rest, is, one, others) e none =
    let empty : length part ≡ 0 = omega (arith, length-append part []) in
    ap length is ∙ length-append first rest ∙ (let n : length rest ≡ 0 = ap length others in omega (arith, halved_one limit part first one empty))
each_one limit (part ∷ (other ∷ parts)) next h e none = absurd (omega arith)

-- the parts hold all the spots, and are empty only where there are none
pub record AreSpread (whole : List Spot) (parts : List (List Spot)) : Type 0 where
  pub same : IsPermutation whole (joined parts)
  pub full : 0 < length whole → All IsFull parts
  pub one : length whole ≡ 0 → length parts ≡ 1

pub spread_more : (limit : ℕ) (whole : List Spot) (parts next : List (List Spot)) → 1 ≤ limit → AreSpread whole parts → AreHalved limit parts next → AreSpread whole next
spread_more limit whole parts next some s h = record {
  same = IsPermutation-trans whole (joined parts) (joined next) s.same (each_same limit parts next h);
  full = λ k. each_full limit parts next some h (s.full k);
  one = λ none. each_one limit parts next h (s.one none) (length_permutation whole (joined parts) s.same ∙ none);
}

spread_whole : (whole : List Spot) → AreSpread whole (whole ∷ [])
spread_whole whole = record {
  same = subst (λ (xs : List Spot). IsPermutation whole xs) (sym (append-nil whole)) (IsPermutation-refl whole);
  full = λ k. All-cons IsFull whole [] k (All-nil IsFull);
  one = λ none. refl;
}

pub spread_above : (whole : List Spot) (limits : List ℕ) (levels : List (List (List Spot))) → All (λ limit. 1 ≤ limit) limits → AreLevels whole limits levels → AreSpread whole (parts_above whole levels)
spread_above whole [] [] some h = spread_whole whole
spread_above whole [] (parts ∷ above) some h = absurd h
spread_above whole (limit ∷ limits) [] some h = absurd h
spread_above whole (limit ∷ limits) (parts ∷ above) some h =
    spread_more limit whole (parts_above whole above) parts (All-head (λ limit. 1 ≤ limit) limit limits some)
    (spread_above whole limits above (All-tail (λ limit. 1 ≤ limit) limit limits some) h.1) h.0

pub spread_few : (whole : List Spot) (parts : List (List Spot)) → AreSpread whole parts → length whole < 4294967296 → length parts < 4294967296
spread_few whole parts s h =
    ⊎_elim
    (λ (some : 0 < length whole). let few : length parts ≤ length (joined parts) = length-le-joined parts (s.full some) in omega (arith, length_permutation whole (joined parts) s.same))
    (λ (none : length whole ≤ 0). let e : length whole ≡ 0 = omega arith in omega (arith, s.one e))
    (cases_lt 0 (length whole))

-- what a list holds from there on
pub rest_whole : (half : ℕ) (xs : List Spot) → take (length xs - half) (drop half xs) ≡ drop half xs
rest_whole half xs = let size : length (drop half xs) ≡ length xs - half = length-drop half xs in take_all (length xs - half) (drop half xs) (omega (arith, size))

pub each_push : (limit : ℕ) (parts : List (List Spot)) (part : List Spot) (next more : List (List Spot)) → AreHalved limit parts next → IsHalved limit part more → AreHalved limit (parts ++ part ∷ []) (next ++ more)
each_push limit [] part next more h one = (more, [], ap (λ xs. xs ++ more) h ∙ sym (append-nil more), one, refl)
each_push limit (other ∷ parts) part next more (first, rest, is, this, others) one =
    (first, rest ++ more, ap (λ xs. xs ++ more) is ∙ append_assoc first rest more, this, each_push limit parts part rest more others one)
