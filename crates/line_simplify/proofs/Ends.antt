-- The loop over the ends: what stays so far, and the ends of what isn't looked at yet.
use Rattle.std.proofs.Common.{◌≡◌, ℕ, suc, ◌+◌, ◌-◌, ◌*◌, ◌<◌, ◌≤◌, List, [], ◌∷◌, ◌++◌, length, take, drop, get_or, All, refl, sym, ap, ◌∙◌, subst, arith, append_assoc, length-append, length-drop}
use Rattle.std.specs.Prelude.{MatchOption, Some, None, Option, reverse}
use Rattle.std.proofs.lemmas.List.{append-nil, drop-drop, get_or-drop, get_or_at, get_or_default, length-reverse, length-take-le, reverse-append, take-append-drop, take_at}
use Rattle.road_base.specs.declared.coordinates.Point.{Point}
use Rattle.line_simplify.specs.Splits.{between}
use Rattle.line_simplify.specs.Steps.{IsFarthestAt, IsStep}
use Rattle.line_simplify.specs.Simplified.{kept_between, limit_of, offset_of, simplified}
use Rattle.line_simplify.proofs.Kept.{between-far, between-near, drop-behind}

-- the points behind the one at `from` and before the one at `to`
abbrev pub part : List Point → ℕ → ℕ → List Point
part points from to = between points from to

-- what stays of the points behind the one at `from`, where those at the ends stay, the nearest end first
pub rest_of : ℕ → List Point → Point → ℕ → List ℕ → List Point
rest_of limit points d from [] = []
rest_of limit points d from (to ∷ ends) = kept_between limit (get_or points from d) (part points from to) (get_or points to d) ++ get_or points to d ∷ rest_of limit points d to ends

-- each end lies behind the one before, and among the n points
abbrev pub AreRising : ℕ → ℕ → List ℕ → Type 0
AreRising n from [] = Unit {0}
AreRising n from (to ∷ ends) = (from < to) × (to < n) × AreRising n to ends

pub rising-length : (n from : ℕ) (ends : List ℕ) → from < n → AreRising n from ends → from + length ends < n
rising-length n from [] lt h = omega (arith, lt)
rising-length n from (to ∷ ends) lt h = let less = h.0 in let rest = rising-length n to ends h.1 h.2 in omega (arith, less, rest)

-- where the loop stands: the ends are a stack, the nearest on top
pub record Stands (tolerance : ℕ) (points kept : List Point) (from : ℕ) (ends : List ℕ) : Type 0 where
  pub inside : from < length points
  pub rising : AreRising (length points) from (reverse ends)
  pub whole : (d : Point) → kept ++ rest_of (limit_of tolerance) points d from (reverse ends) ≡ simplified tolerance points

-- the top of a stack
top-first : (lower : List ℕ) (to : ℕ) → reverse (lower ++ to ∷ []) ≡ to ∷ reverse lower
top-first lower to = reverse-append lower (to ∷ [])

module _ (tolerance : ℕ) (points kept : List Point) (from : ℕ) (ends lower : List ℕ) (to : ℕ) (h : Stands tolerance points kept from ends) (e : ends ≡ lower ++ to ∷ []) where
  top : reverse ends ≡ to ∷ reverse lower
  top = ap reverse e ∙ top-first lower to

  popped : AreRising (length points) from (to ∷ reverse lower)
  popped = subst (λ (xs : List ℕ). AreRising (length points) from xs) top h.rising

  -- the next end lies behind the last point that stays
  pub next-end : (from < to) × (to < length points)
  next-end = let r = popped in (r.0, r.1)

  few-ends : from + length ends < length points
  few-ends =
      let n = rising-length (length points) from (reverse ends) h.inside h.rising in
      let m : length (reverse ends) ≡ length ends = length-reverse ends in
      omega (arith, n, m)

  count : length ends ≡ length lower + 1
  count = let n : length ends ≡ length lower + length (to ∷ []) = ap length e ∙ length-append lower (to ∷ []) in omega (arith, n)

  -- what is left to do, after either step
  split-smaller : (more : List ℕ) (s : ℕ) → more ≡ (lower ++ to ∷ []) ++ s ∷ [] → 2 * (length points - from) - length more < 2 * (length points - from) - length ends
  split-smaller more s i =
      let n = few-ends in
      let m : length more ≡ length (lower ++ to ∷ []) + length (s ∷ []) = ap length i ∙ length-append (lower ++ to ∷ []) (s ∷ []) in
      let l : length ends ≡ length (lower ++ to ∷ []) = ap length e in
      omega (arith, n, m, l)

  near-smaller : 2 * (length points - to) - length lower < 2 * (length points - from) - length ends
  near-smaller =
      let n = few-ends in
      let m = count in
      let lt = next-end.0 in
      let inside = next-end.1 in
      omega (arith, n, m, lt, inside)

  whole-popped : (d : Point) → kept ++ rest_of (limit_of tolerance) points d from (to ∷ reverse lower) ≡ simplified tolerance points
  whole-popped d = subst (λ (xs : List ℕ). kept ++ rest_of (limit_of tolerance) points d from xs ≡ simplified tolerance points) top (h.whole d)

  -- all points up to the next end lie near
  stands-near : (x y : Point) → ((d : Point) → x ≡ get_or points from d) → ((d : Point) → y ≡ get_or points to d) → All (λ q. offset_of x y q ≤ limit_of tolerance) (part points from to) → Stands tolerance points (kept ++ y ∷ []) to lower
  unfolding rest_of
  stands-near x y at_x at_y all = record {
    inside = next-end.1;
    rising = popped.2;
    whole = λ d.
        let none : kept_between (limit_of tolerance) (get_or points from d) (part points from to) (get_or points to d) ≡ [] =
        ap (λ (q : Point). kept_between (limit_of tolerance) q (part points from to) (get_or points to d)) (sym (at_x d))
        ∙ ap (λ (q : Point). kept_between (limit_of tolerance) x (part points from to) q) (sym (at_y d))
        ∙ between-near (limit_of tolerance) x (part points from to) y all in
        append_assoc kept (y ∷ []) (rest_of (limit_of tolerance) points d to (reverse lower))
        ∙ ap (λ (q : Point). kept ++ (q ∷ rest_of (limit_of tolerance) points d to (reverse lower))) (at_y d)
        ∙ ap (λ (l : List Point). kept ++ (l ++ get_or points to d ∷ rest_of (limit_of tolerance) points d to (reverse lower))) (sym none)
        ∙ whole-popped d;
  }

  -- the parts of what lies between, by their indices
  module _ (before : List Point) (p : Point) (after : List Point) (parts : part points from to ≡ before ++ p ∷ after) where
    behind : List Point
    behind = drop (from + 1) points

    tail : List Point
    tail = drop (to - (from + 1)) behind

    parted : behind ≡ before ++ (p ∷ (after ++ tail))
    unfolding behind tail
    parted = sym (take-append-drop (to - (from + 1)) behind) ∙ ap (λ (xs : List Point). xs ++ tail) parts ∙ append_assoc before (p ∷ after) tail

    size : length before + (length after + 1) ≡ to - (from + 1)
    size =
        let lt = next-end.0 in
        let inside = next-end.1 in
        let room : to - (from + 1) ≤ length (drop (from + 1) points) = omega (arith, lt, inside, length-drop (from + 1) points) in
        let n : length (part points from to) ≡ to - (from + 1) = length-take-le (to - (from + 1)) (drop (from + 1) points) room in
        let m : length (part points from to) ≡ length before + length (p ∷ after) = ap length parts ∙ length-append before (p ∷ after) in
        omega (arith, n, m)

    pub split-between : (from < from + 1 + length before) × (from + 1 + length before < to)
    split-between = let n = size in (omega arith, omega (arith, n))

    pub part-before : part points from (from + 1 + length before) ≡ before
    unfolding behind tail
    part-before =
        let n : from + 1 + length before - (from + 1) ≡ length before = omega arith in
        ap (λ k. take k behind) n ∙ ap (λ (xs : List Point). take (length before) xs) parted ∙ take_at before (p ∷ (after ++ tail)) (length before) refl

    pub point-split : (d : Point) → get_or points (from + 1 + length before) d ≡ p
    unfolding behind tail
    point-split d =
        sym (get_or-drop (from + 1) points (length before) d) ∙ ap (λ (xs : List Point). get_or xs (length before) d) parted ∙ get_or_at before p (after ++ tail) d (length before) refl

    pub part-after : part points (from + 1 + length before) to ≡ after
    unfolding behind tail
    part-after =
        let n : to - (from + 1 + length before + 1) ≡ length after = let s = size in omega (arith, s) in
        let m : from + 1 + length before + 1 ≡ (from + 1) + (length before + 1) = omega arith in
        ap (λ k. take k (drop (from + 1 + length before + 1) points)) n
        ∙ ap (λ k. take (length after) (drop k points)) m
        ∙ ap (λ (xs : List Point). take (length after) xs) (sym (drop-drop (length before + 1) (from + 1) points) ∙ ap (drop (length before + 1)) parted ∙ drop-behind before p (after ++ tail))
        ∙ take_at after tail (length after) refl

  -- the farthest point before the next end lies far off
  stands-split : (x y : Point) (at s : ℕ) (more : List ℕ) → ((d : Point) → x ≡ get_or points from d) → ((d : Point) → y ≡ get_or points to d) → IsFarthestAt (limit_of tolerance) x y (part points from to) at
      → s ≡ from + 1 + at → more ≡ (lower ++ to ∷ []) ++ s ∷ [] → Stands tolerance points kept from more
  unfolding rest_of
  stands-split x y at s more at_x at_y f is pushed =
      let split : s ≡ from + 1 + length f.before = is ∙ ap (λ k. from + 1 + k) f.index in
      let bounds = split-between f.before f.point f.after f.parts in
      let first = bounds.0 in
      let second = bounds.1 in
      let inside = next-end.1 in
      let stack : reverse more ≡ s ∷ (to ∷ reverse lower) = ap reverse pushed ∙ top-first (lower ++ to ∷ []) s ∙ ap (λ (xs : List ℕ). s ∷ xs) (top-first lower to) in
      let limit : ℕ = limit_of tolerance in
      record {
        inside = h.inside;
        rising = subst (λ (xs : List ℕ). AreRising (length points) from xs) (sym stack) (omega (arith, split, first), omega (arith, split, second, inside), (omega (arith, split, second), popped.1, popped.2));
        whole = λ d.
            let rest : List Point = rest_of limit points d to (reverse lower) in
            let z : Point = get_or points to d in
            let point_is : get_or points s d ≡ f.point = ap (λ k. get_or points k d) split ∙ point-split f.before f.point f.after f.parts d in
            let left_is : part points from s ≡ f.before = ap (λ k. part points from k) split ∙ part-before f.before f.point f.after f.parts in
            let right_is : part points s to ≡ f.after = ap (λ k. part points k to) split ∙ part-after f.before f.point f.after f.parts in
            let left : kept_between limit (get_or points from d) (part points from s) (get_or points s d) ≡ kept_between limit x f.before f.point =
            ap (λ (q : Point). kept_between limit q (part points from s) (get_or points s d)) (sym (at_x d)) ∙ ap (λ (l : List Point). kept_between limit x l (get_or points s d)) left_is ∙ ap (λ (q : Point). kept_between limit x f.before q) point_is in
            let right : kept_between limit (get_or points s d) (part points s to) z ≡ kept_between limit f.point f.after y =
            ap (λ (q : Point). kept_between limit q (part points s to) z) point_is ∙ ap (λ (l : List Point). kept_between limit f.point l z) right_is ∙ ap (λ (q : Point). kept_between limit f.point f.after q) (sym (at_y d)) in
            let all : kept_between limit (get_or points from d) (part points from to) z ≡ kept_between limit x f.before f.point ++ f.point ∷ kept_between limit f.point f.after y =
            ap (λ (q : Point). kept_between limit q (part points from to) z) (sym (at_x d)) ∙ ap (λ (q : Point). kept_between limit x (part points from to) q) (sym (at_y d)) ∙ between-far limit x (part points from to) y f.before f.point f.after f.parts f.farthest in
            ap (λ (xs : List ℕ). kept ++ rest_of limit points d from xs) stack
            ∙ ap (λ (l : List Point). kept ++ (l ++ get_or points s d ∷ (kept_between limit (get_or points s d) (part points s to) z ++ z ∷ rest))) left
            ∙ ap (λ (q : Point). kept ++ (kept_between limit x f.before f.point ++ q ∷ (kept_between limit (get_or points s d) (part points s to) z ++ z ∷ rest))) point_is
            ∙ ap (λ (l : List Point). kept ++ (kept_between limit x f.before f.point ++ f.point ∷ (l ++ z ∷ rest))) right
            ∙ ap (λ (l : List Point). kept ++ l) (sym (append_assoc (kept_between limit x f.before f.point) (f.point ∷ kept_between limit f.point f.after y) (z ∷ rest)))
            ∙ ap (λ (l : List Point). kept ++ (l ++ z ∷ rest)) (sym all)
            ∙ whole-popped d;
      }

  -- the loop's step
  pub stands-next : (x y : Point) (split : Option ℕ) (after : List Point) (next : ℕ) (more : List ℕ) → ((d : Point) → x ≡ get_or points from d) → ((d : Point) → y ≡ get_or points to d)
      → MatchOption split (All (λ q. offset_of x y q ≤ limit_of tolerance) (part points from to)) (IsFarthestAt (limit_of tolerance) x y (part points from to)) → IsStep kept after lower more from to y next split
      → Stands tolerance points after next more
  stands-next x y None after next more at_x at_y all step =
      let there : Stands tolerance points (kept ++ y ∷ []) to lower = stands-near x y at_x at_y all in
      let one : Stands tolerance points after to lower = subst (λ (xs : List Point). Stands tolerance points xs to lower) (sym step.1) there in
      let two : Stands tolerance points after next lower = subst (λ (k : ℕ). Stands tolerance points after k lower) (sym step.0) one in
      subst (λ (xs : List ℕ). Stands tolerance points after next xs) (sym step.2) two
  stands-next x y (Some at) after next more at_x at_y f step =
      let there : Stands tolerance points kept from more = stands-split x y at (from + 1 + at) more at_x at_y f refl step.2 in
      let one : Stands tolerance points after from more = subst (λ (xs : List Point). Stands tolerance points xs from more) (sym step.1) there in
      subst (λ (k : ℕ). Stands tolerance points after k more) (sym step.0) one

  pub step-smaller : (y : Point) (split : Option ℕ) (after : List Point) (next : ℕ) (more : List ℕ) → IsStep kept after lower more from to y next split → 2 * (length points - next) - length more < 2 * (length points - from) - length ends
  step-smaller y None after next more step =
      let less = near-smaller in
      let e = step.0 in
      let n : length more ≡ length lower = ap length step.2 in
      omega (arith, less, e, n)
  step-smaller y (Some at) after next more step =
      let less = split-smaller more (from + 1 + at) step.2 in
      let e = step.0 in
      omega (arith, less, e)

  -- the last point that stays is none before
  pub step-later : (y : Point) (split : Option ℕ) (after : List Point) (next : ℕ) (more : List ℕ) → IsStep kept after lower more from to y next split → from ≤ next
  step-later y None after next more step =
      let lt = next-end.0 in
      let is = step.0 in
      omega (arith, lt, is)
  step-later y (Some at) after next more step = let is = step.0 in omega (arith, is)

-- with no end left all is done
pub stands-all : (tolerance : ℕ) (points kept : List Point) (from : ℕ) (ends : List ℕ) → Point → Stands tolerance points kept from ends → ends ≡ [] → kept ≡ simplified tolerance points
unfolding rest_of
stands-all tolerance points kept from ends d h e =
    sym (append-nil kept) ∙ subst (λ (xs : List ℕ). kept ++ rest_of (limit_of tolerance) points d from (reverse xs) ≡ simplified tolerance points) e (h.whole d)

-- at first the last point is the only end
stands-whole : (tolerance : ℕ) (points : List Point) (d : Point) → 3 ≤ length points → get_or points 0 d ∷ rest_of (limit_of tolerance) points d 0 ((length points - 1) ∷ []) ≡ simplified tolerance points
unfolding rest_of simplified
stands-whole tolerance [] d le = absurd (omega (arith, le))
stands-whole tolerance (a ∷ []) d le = absurd (omega (arith, le))
stands-whole tolerance (a ∷ (b ∷ more)) d le =
    let points : List Point = a ∷ (b ∷ more) in
    let limit : ℕ = limit_of tolerance in
    let n : length points - 1 ≡ suc (length more) = omega arith in
    let m : length points - 1 - (0 + 1) ≡ length more = omega arith in
    let last : get_or points (length points - 1) d ≡ get_or (b ∷ more) (length more) b = ap (λ k. get_or points k d) n ∙ get_or_default (b ∷ more) (length more) d b (omega arith) in
    ap (λ (q : Point). a ∷ (kept_between limit a (part points 0 (length points - 1)) q ++ q ∷ [])) last
    ∙ ap (λ k. a ∷ (kept_between limit a (take k (b ∷ more)) (get_or (b ∷ more) (length more) b) ++ get_or (b ∷ more) (length more) b ∷ [])) m

pub stands-first : (tolerance : ℕ) (points kept : List Point) (ends : List ℕ) (x : Point) → 3 ≤ length points → ((d : Point) → x ≡ get_or points 0 d) → kept ≡ x ∷ [] → ends ≡ (length points - 1) ∷ [] → Stands tolerance points kept 0 ends
stands-first tolerance points kept ends x le at_x e i = record {
  inside = omega (arith, le);
  rising = subst (λ (xs : List ℕ). AreRising (length points) 0 (reverse xs)) (sym i) (omega (arith, le), omega (arith, le), tt);
  whole = λ d.
      ap (λ (xs : List Point). xs ++ rest_of (limit_of tolerance) points d 0 (reverse ends)) e
      ∙ ap (λ (xs : List ℕ). x ∷ rest_of (limit_of tolerance) points d 0 (reverse xs)) i
      ∙ ap (λ (q : Point). q ∷ rest_of (limit_of tolerance) points d 0 ((length points - 1) ∷ [])) (at_x d)
      ∙ stands-whole tolerance points d le;
}
