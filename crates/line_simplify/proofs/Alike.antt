-- Points that lie at the same places, and a part that is split as another one with such points was.
use Rattle.std.proofs.Math.ListN.{set}
use Rattle.std.proofs.Common.{◌≡◌, ℕ, ◌+◌, ◌-◌, ◌<◌, ◌≤◌, Bool, inl, inr, List, [], ◌∷◌, ◌++◌, length, drop, get_or, All, Option, Some, None, refl, sym, ap, ◌∙◌, subst, arith, length-drop}
use Rattle.std.specs.Prelude.{IfSome, IsTrue, MatchOption, map, ◌&&◌}
use Rattle.std.specs.List.{slice_get}
use Rattle.std.specs.Ordering.{int_eq}
use Rattle.std.specs.Cmp.Lexicographic.{pointwise}
use Rattle.std.proofs.lemmas.List.{length-map, length-take-le}
use Rattle.std.proofs.lemmas.List.Elements.{All-cons, All-head, All-nil, All-tail}
use Rattle.std.proofs.lemmas.Option.{get_or_from_slice_get}
use Rattle.geo_integer.specs.Plane.{plane_between}
use Rattle.geo_integer.specs.Position.{Position, position_of}
use Rattle.geo_integer.specs.Project.{place_of, position_at}
use Rattle.list_lemmas.proofs.Gets.{get_set}
use Rattle.road_base.specs.declared.coordinates.Point.{Point}
use Rattle.line_simplify.specs.Simplified.{offset_of}
use Rattle.line_simplify.specs.Splits.{AreSplits, IsSplit, between}
use Rattle.line_simplify.specs.Steps.{IsFarthestAt}
use Rattle.line_simplify.specs.declared.parts.Part.{Part}
use Rattle.line_simplify.proofs.Repeats.{first-true, same-place, second-true}

-- the places of these points are those of the others
abbrev pub AreAlike : List Point → List Point → Type 0
AreAlike xs ys = map position_of xs ≡ map position_of ys

first-alike : (x y : Point) (xs ys : List Point) → AreAlike (x ∷ xs) (y ∷ ys) → position_of x ≡ position_of y
first-alike x y xs ys e = ap (λ (l : List Position). get_or l 0 (position_of x)) e

more-alike : (x y : Point) (xs ys : List Point) → AreAlike (x ∷ xs) (y ∷ ys) → AreAlike xs ys
more-alike x y xs ys e = ap (λ (l : List Position). drop 1 l) e

cons-alike : (x y : Point) (xs ys : List Point) → position_of x ≡ position_of y → AreAlike xs ys → AreAlike (x ∷ xs) (y ∷ ys)
cons-alike x y xs ys e f = ap (λ (p : Position). p ∷ map position_of xs) e ∙ ap (λ (l : List Position). position_of y ∷ l) f

abbrev same_point : Point → Point → Bool
same_point p q = int_eq p.lon q.lon && int_eq p.lat q.lat

-- lists that compare equal
pub equal-alike : (xs ys : List Point) → IsTrue (pointwise same_point xs ys) → AreAlike xs ys
equal-alike [] [] t = refl
equal-alike [] (y ∷ ys) t = absurd (cc)
equal-alike (x ∷ xs) [] t = absurd (cc)
equal-alike (x ∷ xs) (y ∷ ys) t =
    cons-alike x y xs ys (same-place x y (same_point x y) refl (first-true (same_point x y) (pointwise same_point xs ys) t)) (equal-alike xs ys (second-true (same_point x y) (pointwise same_point xs ys) t))

-- what is true of a point is true of another one, of any at the same place
all-alike : (P Q : Point → Type 0) → ((p q : Point) → position_of p ≡ position_of q → P p → Q q) → (xs ys : List Point) → AreAlike xs ys → All P xs → All Q ys
all-alike P Q f [] [] e h = All-nil Q
all-alike P Q f [] (y ∷ ys) e h = absurd (cc)
all-alike P Q f (x ∷ xs) [] e h = absurd (cc)
all-alike P Q f (x ∷ xs) (y ∷ ys) e h = All-cons Q y ys (f x y (first-alike x y xs ys e) (All-head P x xs h)) (all-alike P Q f xs ys (more-alike x y xs ys e) (All-tail P x xs h))

-- a list alike is parted alike
record IsParted (before : List Point) (p : Point) (after ys : List Point) : Type 0 where
  front : List Point
  point : Point
  back : List Point
  parts : ys ≡ front ++ point ∷ back
  alike_front : AreAlike before front
  alike_point : position_of p ≡ position_of point
  alike_back : AreAlike after back

parted-alike : (before : List Point) (p : Point) (after ys : List Point) → AreAlike (before ++ p ∷ after) ys → IsParted before p after ys
parted-alike [] p after [] e = absurd (cc)
parted-alike [] p after (y ∷ ys) e = record {
  front = [];
  point = y;
  back = ys;
  parts = refl;
  alike_front = refl;
  alike_point = first-alike p y after ys e;
  alike_back = more-alike p y after ys e;
}
parted-alike (x ∷ before) p after [] e = absurd (cc)
parted-alike (x ∷ before) p after (y ∷ ys) e =
    let r = parted-alike before p after ys (more-alike x y (before ++ p ∷ after) ys e) in
    record {
      front = y ∷ r.front;
      point = r.point;
      back = r.back;
      parts = ap (λ (l : List Point). y ∷ l) r.parts;
      alike_front = cons-alike x y before r.front (first-alike x y (before ++ p ∷ after) ys e) r.alike_front;
      alike_point = r.alike_point;
      alike_back = r.alike_back;
    }

abbrev off : Position → Position → Position → ℕ
off a b p = plane_between p (position_at a b (place_of p a b))

-- lines with the same ends
module _ (limit : ℕ) (a b u v : Point) (from : position_of a ≡ position_of u) (to : position_of b ≡ position_of v) where
  offset-alike : (p q : Point) → position_of p ≡ position_of q → offset_of a b p ≡ offset_of u v q
  unfolding offset_of
  offset-alike p q e =
      ap (λ (x : Position). off x (position_of b) (position_of p)) from
      ∙ ap (λ (y : Position). off (position_of u) y (position_of p)) to
      ∙ ap (λ (z : Position). off (position_of u) (position_of v) z) e

  near-alike : (m n : ℕ) → m ≤ n → (xs ys : List Point) → AreAlike xs ys → All (λ q. offset_of a b q ≤ m) xs → All (λ q. offset_of u v q ≤ n) ys
  near-alike m n le xs ys e h = all-alike (λ q. offset_of a b q ≤ m) (λ q. offset_of u v q ≤ n) (λ p q s near. let same = offset-alike p q s in omega (arith, same, near, le)) xs ys e h

  nearer-alike : (m n : ℕ) → m ≤ n → (xs ys : List Point) → AreAlike xs ys → All (λ q. offset_of a b q < m) xs → All (λ q. offset_of u v q < n) ys
  nearer-alike m n le xs ys e h = all-alike (λ q. offset_of a b q < m) (λ q. offset_of u v q < n) (λ p q s near. let same = offset-alike p q s in omega (arith, same, near, le)) xs ys e h

  farthest-alike : (xs ys : List Point) (at : ℕ) → AreAlike xs ys → IsFarthestAt limit a b xs at → IsFarthestAt limit u v ys at
  farthest-alike xs ys at e f =
      let r = parted-alike f.before f.point f.after ys (ap (λ (l : List Point). map position_of l) (sym f.parts) ∙ e) in
      let same : offset_of a b f.point ≡ offset_of u v r.point = offset-alike f.point r.point r.alike_point in
      let le : offset_of a b f.point ≤ offset_of u v r.point = omega (arith, same) in
      let beyond = f.farthest.beyond in
      let n : length f.before ≡ length r.front = sym (length-map f.before position_of) ∙ ap length r.alike_front ∙ length-map r.front position_of in
      record {
        before = r.front;
        point = r.point;
        after = r.back;
        parts = r.parts;
        index = f.index ∙ n;
        farthest = record {
          beyond = omega (arith, same, beyond);
          first = nearer-alike (offset_of a b f.point) (offset_of u v r.point) le f.before r.front r.alike_front f.farthest.first;
          greatest = near-alike (offset_of a b f.point) (offset_of u v r.point) le f.after r.back r.alike_back f.farthest.greatest;
        };
      }

  match-alike : (xs ys : List Point) (split : Option ℕ) → AreAlike xs ys → MatchOption split (All (λ q. offset_of a b q ≤ limit) xs) (IsFarthestAt limit a b xs) → MatchOption split (All (λ q. offset_of u v q ≤ limit) ys) (IsFarthestAt limit u v ys)
  match-alike xs ys None e h = near-alike limit limit (omega arith) xs ys e h
  match-alike xs ys (Some at) e f = farthest-alike xs ys at e f

index-alike : (f t i j : ℕ) (split : Option ℕ) → f < t → i < j → t - f ≡ j - i → IfSome split (λ at. f + 1 + at < t) → IfSome split (λ at. i + 1 + at < j)
index-alike f t i j None first second e h = tt
index-alike f t i j (Some at) first second e h = omega (arith, first, second, e, h)

one-point : (points : List Point) (k : ℕ) (p q : Point) → slice_get points k ≡ Some p → slice_get points k ≡ Some q → p ≡ q
one-point points k p q e f = sym (get_or_from_slice_get points k p p e) ∙ get_or_from_slice_get points k q p f

-- what was found among the points between two
index-within : (points : List Point) (from to : ℕ) (split : Option ℕ) → from < to → to < length points → IfSome split (λ at. at < length (between points from to)) → IfSome split (λ at. from + 1 + at < to)
index-within points from to None lt inside h = tt
index-within points from to (Some at) lt inside h =
    let n : length (between points from to) ≡ to - (from + 1) = length-take-le (to - (from + 1)) (drop (from + 1) points) (omega (arith, lt, inside, length-drop (from + 1) points)) in
    omega (arith, h, n, lt)

pub split-is : (limit : ℕ) (points : List Point) (from to : ℕ) (split : Option ℕ) (x y : Point) → from < to → to < length points → slice_get points from ≡ Some x → slice_get points to ≡ Some y
    → IfSome split (λ at. at < length (between points from to)) → MatchOption split (All (λ q. offset_of x y q ≤ limit) (between points from to)) (IsFarthestAt limit x y (between points from to))
    → IsSplit limit points from to split
split-is limit points from to split x y lt inside at_x at_y within found = record {
  inside = inside;
  index = index-within points from to split lt inside within;
  farthest = λ a b at_a at_b.
      subst (λ (w : Point). MatchOption split (All (λ q. offset_of a w q ≤ limit) (between points from to)) (IsFarthestAt limit a w (between points from to))) (one-point points to y b at_y at_b)
      (subst (λ (w : Point). MatchOption split (All (λ q. offset_of w y q ≤ limit) (between points from to)) (IsFarthestAt limit w y (between points from to))) (one-point points from x a at_x at_a) found);
}

-- a part that comes again is split at the same point
pub split-again : (limit : ℕ) (points : List Point) (f t i j : ℕ) (split : Option ℕ) (a b u v : Point) → f < t → i < j → t - f ≡ j - i → j < length points
    → slice_get points f ≡ Some a → slice_get points t ≡ Some b → slice_get points i ≡ Some u → slice_get points j ≡ Some v
    → position_of a ≡ position_of u → position_of b ≡ position_of v → AreAlike (between points f t) (between points i j)
    → IsSplit limit points f t split → IsSplit limit points i j split
split-again limit points f t i j split a b u v first second n inside at_a at_b at_u at_v from to e h = record {
  inside = inside;
  index = index-alike f t i j split first second n h.index;
  farthest = λ x y at_x at_y.
      let there = match-alike limit a b u v from to (between points f t) (between points i j) split e (h.farthest a b at_a at_b) in
      subst (λ (w : Point). MatchOption split (All (λ q. offset_of x w q ≤ limit) (between points i j)) (IsFarthestAt limit x w (between points i j))) (one-point points j v y at_v at_y)
      (subst (λ (w : Point). MatchOption split (All (λ q. offset_of w v q ≤ limit) (between points i j)) (IsFarthestAt limit w v (between points i j))) (one-point points i u x at_u at_x) there);
}

-- before any is
pub splits-none : (limit : ℕ) (points : List Point) (from to : ℕ) (split : Option ℕ) → 0 < length points → from ≡ 0 → to ≡ 0 → split ≡ None → IsSplit limit points from to split
splits-none limit points from to split some e f n =
    subst (λ (s : Option ℕ). IsSplit limit points from to s) (sym n)
    (subst (λ (k : ℕ). IsSplit limit points k to None) (sym e)
    (subst (λ (k : ℕ). IsSplit limit points 0 k None) (sym f)
    (record { inside = some; index = tt; farthest = λ a b at_a at_b. All-nil (λ q. offset_of a b q ≤ limit) })))

-- a part more, in the place of one
pub splits-set : (limit : ℕ) (points : List Point) (parts : List Part) (n : ℕ) (part : Part) → AreSplits limit points parts → IsSplit limit points part.from part.to part.split → AreSplits limit points (set parts n part)
splits-set limit points parts n part h new = λ k other at. elim (get_set parts n k part other at) [
  | inl here ↦ subst (λ (p : Part). IsSplit limit points p.from p.to p.split) (sym here.1) new
  | inr there ↦ h k other there.1
]
