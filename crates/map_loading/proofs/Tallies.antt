-- Counts that go on by one value at a time.
use Rattle.std.proofs.Common.{◌≡◌, ◌∙◌, ◌+◌, ◌*◌, ℕ, zero, suc, Bool, true, false, List, [], ◌∷◌, Option, Some, option_map, slice_get, take, length, count_by, refl, sym, ap, arith, add-one}
use Rattle.std.specs.Prelude.{if◌then◌else◌}
use mir.Val.{bool_byte}
use Rattle.std.proofs.lemmas.List.Sums.{sum_by-cons}
use Rattle.std.proofs.lemmas.Option.{same_Some}
use Rattle.road_segments.specs.Segment.{Segment}
use Rattle.road_segments.specs.Vertex.{vertices}

bool_byte-is : (b : Bool) → bool_byte b ≡ (if b then 1 else 0)
bool_byte-is true = refl
bool_byte-is false = refl

module _ {X : Type 0} (p : X → Bool) where
  count_by-cons : (x : X) (xs : List X) → count_by p (x ∷ xs) ≡ (if p x then 1 else 0) + count_by p xs
  count_by-cons x xs = sum_by-cons (λ y. if p y then 1 else 0) x xs

  count_by-suc : (xs : List X) (i : ℕ) (b : Bool) → option_map p (slice_get xs i) ≡ Some b → count_by p (take (suc i) xs) ≡ count_by p (take i xs) + (if b then 1 else 0)
  count_by-suc [] i b at = absurd (cc)
  count_by-suc (x ∷ xs) zero b at = let same : p x ≡ b = same_Some _ _ at in count_by-cons x [] ∙ ap (λ (c : Bool). (if c then 1 else 0) + 0) same ∙ omega arith
  count_by-suc (x ∷ xs) (suc i) b at =
      let rest = count_by-suc xs i b at in
      let long = count_by-cons x (take (suc i) xs) in
      let short = count_by-cons x (take i xs) in
      omega (arith, rest, long, short)

  -- the count of one value more
  pub count_by-step : (xs : List X) (i n one : ℕ) (b : Bool) → option_map p (slice_get xs i) ≡ Some b → n ≡ count_by p (take i xs) → one ≡ bool_byte b → n + one ≡ count_by p (take (i + 1) xs)
  count_by-step xs i n one b at so_far more =
      let step : count_by p (take (i + 1) xs) ≡ count_by p (take i xs) + (if b then 1 else 0) = ap (λ (k : ℕ). count_by p (take k xs)) (add-one i) ∙ count_by-suc xs i b at in
      let is : one ≡ (if b then 1 else 0) = more ∙ bool_byte-is b in
      omega (arith, step, so_far, is)

-- each segment makes two vertices
pub length-vertices : (segments : List Segment) → length (vertices segments) ≡ 2 * length segments
length-vertices [] = refl
length-vertices (s ∷ segments) = let rest = length-vertices segments in omega (arith, rest)
