-- Parts of lists that stand one behind another, and parts of parts.
use Rattle.std.proofs.Common.{◌≡◌, ℕ, ◌+◌, ◌-◌, ◌≤◌, List, ◌++◌, length, take, drop, length-drop, refl, sym, ◌∙◌, ap, arith}
use Rattle.std.specs.List.{slice_range}
use Rattle.std.proofs.lemmas.List.{take-append-le, drop-append-le, drop_at, take_all, take-take, drop-take, drop-drop}

module _ {X : Type 0} where
  range_from : (xs : List X) (a n : ℕ) → slice_range xs a (a + n) ≡ take n (drop a xs)
  range_from xs a n = let same : a + n - a ≡ n = omega arith in ap (λ (m : ℕ). take m (drop a xs)) same

  -- what stands behind changes no part in front
  pub range_in_front : (xs ys : List X) (a n : ℕ) → a + n ≤ length xs → slice_range (xs ++ ys) a (a + n) ≡ slice_range xs a (a + n)
  range_in_front xs ys a n le =
      let long : length (drop a xs) ≡ length xs - a = length-drop a xs in
      let split : drop a (xs ++ ys) ≡ drop a xs ++ ys = drop-append-le a xs ys (omega arith) in
      range_from (xs ++ ys) a n ∙ ap (take n) split ∙ take-append-le n (drop a xs) ys (omega arith) ∙ sym (range_from xs a n)

  -- what stands behind is a part
  pub range_behind : (xs ys : List X) → slice_range (xs ++ ys) (length xs) (length xs + length ys) ≡ ys
  range_behind xs ys =
      let le : length ys ≤ length ys = omega arith in
      range_from (xs ++ ys) (length xs) (length ys) ∙ ap (take (length ys)) (drop_at xs ys (length xs) refl) ∙ take_all (length ys) ys le

  -- a part of a part
  pub range_of_range : (xs part : List X) (a m c n : ℕ) → part ≡ slice_range xs a (a + m) → c + n ≤ m → slice_range part c (c + n) ≡ slice_range xs (a + c) (a + c + n)
  range_of_range xs part a m c n is le =
      let split : c + (m - c) ≡ m = omega arith in
      let whole : part ≡ take (c + (m - c)) (drop a xs) = is ∙ range_from xs a m ∙ ap (λ (l : ℕ). take l (drop a xs)) (sym split) in
      range_from part c n ∙ ap (λ (l : List X). take n (drop c l)) whole ∙ ap (take n) (drop-take c (m - c) (drop a xs)) ∙ take-take n (m - c) (drop c (drop a xs)) (omega arith) ∙ ap (take n) (drop-drop c a xs) ∙ sym (range_from xs (a + c) n)
