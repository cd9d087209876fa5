-- The rule is met by exactly one list, and `kept_between` is that list.
use Rattle.std.proofs.Common.{◌≡◌, ℕ, zero, suc, ◌+◌, ◌<◌, ◌≤◌, Bool, true, false, cond, List, [], ◌∷◌, ◌++◌, length, take, drop, get_or, Option, Some, None, All, refl, sym, ap, ◌∙◌, subst, arith, length-append}
use Rattle.std.specs.Prelude.{◌==◌, nat_le, max}
use Rattle.std.specs.List.{position_or_len, before_first, after_first}
use Rattle.std.proofs.lemmas.Bool.{eq-eqb, le-leb, lt-leb, ne_eqb}
use Rattle.std.proofs.lemmas.List.{drop-drop, drop_at, get_or_append_left, get_or_at, take_at}
use Rattle.std.proofs.lemmas.List.Elements.{All-head, All-tail, All-weaker}
use Rattle.std.proofs.lemmas.List.Sums.{position_or_len_is}
use Rattle.road_base.specs.declared.coordinates.Point.{Point}
use Rattle.line_simplify.specs.Simplified.{IsFarthest, IsKept, far, kept_between, kept_within, most_of, near, offset_of}
use Rattle.line_simplify.proofs.Farthest.{IsFarthestSoFar, some-farthest}

cond-no : (b : Bool) (xs ys : List Point) → b ≡ false → cond b xs ys ≡ ys
cond-no true xs ys e = cc
cond-no false xs ys e = refl

cond-yes : (b : Bool) (xs ys : List Point) → b ≡ true → cond b xs ys ≡ xs
cond-yes true xs ys e = refl
cond-yes false xs ys e = cc

-- a list that is parted at an element
pub drop-behind : (before : List Point) (p : Point) (after : List Point) → drop (length before + 1) (before ++ p ∷ after) ≡ after
drop-behind before p after = sym (drop-drop 1 (length before) (before ++ p ∷ after)) ∙ ap (drop 1) (drop_at before (p ∷ after) (length before) refl)

-- the first element that passes a test
module _ (f : Point → Bool) (before : List Point) (p : Point) (after : List Point) (fails : All (λ q. f q ≡ false) before) (passes : f p ≡ true) where
  first-position : position_or_len f (before ++ p ∷ after) ≡ length before
  first-position =
      position_or_len_is f (before ++ p ∷ after) (length before) p
      (omega (arith, length-append before (p ∷ after)))
      (λ k lt. ap f (get_or_append_left before (p ∷ after) p k lt) ∙ fails k p lt)
      (λ lt. ap f (get_or_at before p after p (length before) refl) ∙ passes)

  first-before : before_first f (before ++ p ∷ after) ≡ before
  first-before = ap (λ n. take n (before ++ p ∷ after)) first-position ∙ take_at before (p ∷ after) (length before) refl

  first-after : after_first f (before ++ p ∷ after) ≡ after
  first-after = ap (λ n. drop (n + 1) (before ++ p ∷ after)) first-position ∙ drop-behind before p after

  first-point : (d : Point) → get_or (before ++ p ∷ after) (position_or_len f (before ++ p ∷ after)) d ≡ p
  first-point d = ap (λ n. get_or (before ++ p ∷ after) n d) first-position ∙ get_or_at before p after d (length before) refl

-- how far off the farthest lies
module _ (a b : Point) where
  most-le : (m : ℕ) (xs : List Point) → All (λ q. offset_of a b q ≤ m) xs → most_of a b xs ≤ m
  unfolding most_of
  most-le m [] h = omega arith
  most-le m (x ∷ xs) h =
      let first : offset_of a b x ≤ m = All-head (λ q. offset_of a b q ≤ m) x xs h in
      let rest : most_of a b xs ≤ m = most-le m xs (All-tail (λ q. offset_of a b q ≤ m) x xs h) in
      omega (arith, first, rest)

  most-append : (xs ys : List Point) → most_of a b (xs ++ ys) ≡ max (most_of a b xs) (most_of a b ys)
  unfolding most_of
  most-append [] ys = omega arith
  most-append (x ∷ xs) ys = let e = most-append xs ys in omega (arith, e)

  most-at : (limit : ℕ) (before : List Point) (p : Point) (after : List Point) → IsFarthest limit a b before p after → most_of a b (before ++ p ∷ after) ≡ offset_of a b p
  unfolding most_of
  most-at limit before p after h =
      let e = most-append before (p ∷ after) in
      let front : most_of a b before ≤ offset_of a b p =
      most-le (offset_of a b p) before (All-weaker (λ q. offset_of a b q < offset_of a b p) (λ q. offset_of a b q ≤ offset_of a b p) (λ q lt. omega (arith, lt)) before h.first) in
      let back : most_of a b after ≤ offset_of a b p = most-le (offset_of a b p) after h.greatest in
      omega (arith, e, front, back)

-- what the function does where all lie near, and where one doesn't
within-near : (depth limit : ℕ) (a : Point) (between : List Point) (b : Point) → All (λ q. offset_of a b q ≤ limit) between → kept_within depth limit a between b ≡ []
unfolding kept_within
within-near zero limit a between b h = refl
within-near (suc depth) limit a between b h = cond-yes (nat_le (most_of a b between) limit) _ _ (le-leb (most_of a b between) limit (most-le a b limit between h))

within-far : (depth limit : ℕ) (a : Point) (b : Point) (before : List Point) (p : Point) (after : List Point) → IsFarthest limit a b before p after
    → kept_within (suc depth) limit a (before ++ p ∷ after) b ≡ kept_within depth limit a before p ++ p ∷ kept_within depth limit p after b
unfolding kept_within
within-far depth limit a b before p after h =
    let xs : List Point = before ++ p ∷ after in
    let most : most_of a b xs ≡ offset_of a b p = most-at a b limit before p after h in
    let beyond = h.beyond in
    let test : nat_le (most_of a b xs) limit ≡ false = lt-leb (most_of a b xs) limit (omega (arith, most, beyond)) in
    let f : Point → Bool = λ q. offset_of a b q == most_of a b xs in
    let fails : All (λ q. f q ≡ false) before =
    All-weaker (λ q. offset_of a b q < offset_of a b p) (λ q. f q ≡ false) (λ q lt. ne_eqb (offset_of a b q) (most_of a b xs) (λ e. omega (arith, e, lt, most))) before h.first in
    let passes : f p ≡ true = eq-eqb (offset_of a b p) (most_of a b xs) (sym most) in
    let q : Point = get_or xs (position_or_len f xs) a in
    cond-no (nat_le (most_of a b xs) limit) [] (kept_within depth limit a (before_first f xs) q ++ q ∷ kept_within depth limit q (after_first f xs) b) test
    ∙ ap (λ (l : List Point). kept_within depth limit a l q ++ q ∷ kept_within depth limit q (after_first f xs) b) (first-before f before p after fails passes)
    ∙ ap (λ (r : Point). kept_within depth limit a before r ++ r ∷ kept_within depth limit r (after_first f xs) b) (first-point f before p after fails passes a)
    ∙ ap (λ (l : List Point). kept_within depth limit a before p ++ p ∷ kept_within depth limit p l b) (first-after f before p after fails passes)

-- a list that meets the rule is the function's
kept-is : (limit depth : ℕ) (a : Point) (between : List Point) (b : Point) (kept : List Point) → length between ≤ depth → IsKept limit a between b kept → kept ≡ kept_within depth limit a between b
kept-is limit depth a between b kept le (near x l y all) = sym (within-near depth limit x l y all)
kept-is limit zero a between b kept le (far x l y before p after left right e h one two) =
    absurd (let n : length l ≡ length before + length (p ∷ after) = ap length e ∙ length-append before (p ∷ after) in omega (arith, n, le))
kept-is limit (suc depth) a between b kept le (far x l y before p after left right e h one two) =
    let n : length l ≡ length before + length (p ∷ after) = ap length e ∙ length-append before (p ∷ after) in
    let first : left ≡ kept_within depth limit x before p = kept-is limit depth x before p left (omega (arith, n, le)) one in
    let second : right ≡ kept_within depth limit p after y = kept-is limit depth p after y right (omega (arith, n, le)) two in
    ap (λ (xs : List Point). xs ++ p ∷ right) first
    ∙ ap (λ (xs : List Point). kept_within depth limit x before p ++ p ∷ xs) second
    ∙ sym (within-far depth limit x y before p after h)
    ∙ ap (λ (xs : List Point). kept_within (suc depth) limit x xs y) (sym e)

abbrev SomeKept : ℕ → Point → List Point → Point → Type 0
SomeKept limit a between b = (kept : List Point) × IsKept limit a between b kept

-- there is one
kept-found : (depth limit : ℕ) (a : Point) (between : List Point) (b : Point) → length between ≤ suc depth → ((x : Point) (l : List Point) (y : Point) → length l ≤ depth → SomeKept limit x l y) → (o : Option ℕ) (most : ℕ) → IsFarthestSoFar limit a b between most o → SomeKept limit a between b
kept-found depth limit a between b le shorter None most h = ([], near a between b h.1)
kept-found depth limit a between b le shorter (Some at) most h =
    let f = h.0 in
    let n : length between ≡ length f.before + length (f.point ∷ f.after) = ap length f.parts ∙ length-append f.before (f.point ∷ f.after) in
    let one = shorter a f.before f.point (omega (arith, n, le)) in
    let two = shorter f.point f.after b (omega (arith, n, le)) in
    (one.0 ++ f.point ∷ two.0, far a between b f.before f.point f.after one.0 two.0 f.parts f.farthest one.1 two.1)

kept-exists : (depth limit : ℕ) (a : Point) (between : List Point) (b : Point) → length between ≤ depth → SomeKept limit a between b
kept-exists zero limit a between b le = ([], near a between b (λ k d lt. absurd (omega (arith, le, lt))))
kept-exists (suc depth) limit a between b le =
    let f = some-farthest limit a b between in
    kept-found depth limit a between b le (λ x l y short. kept-exists depth limit x l y short) f.0 f.1 f.2

module _ (limit : ℕ) (a : Point) (between : List Point) (b : Point) where
  pub between-is : (kept : List Point) → IsKept limit a between b kept → kept ≡ kept_between limit a between b
  unfolding kept_between
  between-is kept h = kept-is limit (length between) a between b kept (omega arith) h

  pub between-kept : IsKept limit a between b (kept_between limit a between b)
  between-kept =
      let k = kept-exists (length between) limit a between b (omega arith) in
      subst (λ (xs : List Point). IsKept limit a between b xs) (between-is k.0 k.1) k.1

  -- none stays where all lie near
  pub between-near : All (λ q. offset_of a b q ≤ limit) between → kept_between limit a between b ≡ []
  between-near h = sym (between-is [] (near a between b h))

-- the farthest stays where it doesn't, and what stays on either side of it
pub between-far : (limit : ℕ) (a : Point) (between : List Point) (b : Point) (before : List Point) (p : Point) (after : List Point) → between ≡ before ++ p ∷ after → IsFarthest limit a b before p after
    → kept_between limit a between b ≡ kept_between limit a before p ++ p ∷ kept_between limit p after b
between-far limit a between b before p after e h =
    sym (between-is limit a between b (kept_between limit a before p ++ p ∷ kept_between limit p after b)
    (far a between b before p after (kept_between limit a before p) (kept_between limit p after b) e h (between-kept limit a before p) (between-kept limit p after b)))
