-- The farthest point off a line, of more and more points.
use Rattle.std.proofs.Common.{◌≡◌, ℕ, zero, suc, ◌+◌, ◌<◌, ◌≤◌, inl, inr, List, [], ◌∷◌, ◌++◌, length, take, get_or, Option, Some, None, All, refl, sym, ap, ◌∙◌, subst, arith, append_assoc, length-append}
use Rattle.std.proofs.lemmas.List.{append-nil, length-take-le, take_all, take_more}
use Rattle.std.specs.List.{slice_get}
use Rattle.std.proofs.lemmas.Option.{get_or_from_slice_get}
use Rattle.list_lemmas.proofs.Gets.{get_some}
use Rattle.std.specs.Prelude.{IfSome, MatchOption}
use Rattle.std.proofs.lemmas.Bool.{cases_lt}
use Rattle.std.proofs.lemmas.List.Elements.{All-append, All-cons, All-nil, All-push, All-same, All-weaker}
use Rattle.road_base.specs.declared.coordinates.Point.{Point}
use Rattle.line_simplify.specs.Steps.{IsFarthestAt}
use Rattle.line_simplify.specs.Simplified.{offset_of}

-- of the points so far: none lies beyond the limit, or this one is the farthest, that far off
abbrev pub IsFarthestSoFar : ℕ → Point → Point → List Point → ℕ → Option ℕ → Type 0
IsFarthestSoFar limit a b points most None = (most ≡ limit) × All (λ q. offset_of a b q ≤ limit) points
IsFarthestSoFar limit a b points most (Some at) = (f : IsFarthestAt limit a b points at) × (most ≡ offset_of a b f.point)

module _ (limit : ℕ) (a b : Point) where
  pub farthest-none : IsFarthestSoFar limit a b [] limit None
  farthest-none = (refl, All-nil (λ q. offset_of a b q ≤ limit))

  -- one point more, no farther off
  pub farthest-keeps : (points : List Point) (most : ℕ) (o : Option ℕ) (q : Point) → IsFarthestSoFar limit a b points most o → offset_of a b q ≤ most → IsFarthestSoFar limit a b (points ++ q ∷ []) most o
  farthest-keeps points most None q h le =
      let e = h.0 in (e, All-push (λ r. offset_of a b r ≤ limit) points q h.1 (omega (arith, e, le)))
  farthest-keeps points most (Some at) q h le =
      let f = h.0 in
      let e = h.1 in (
        record {
          before = f.before;
          point = f.point;
          after = f.after ++ q ∷ [];
          parts = ap (λ (xs : List Point). xs ++ q ∷ []) f.parts ∙ append_assoc f.before (f.point ∷ f.after) (q ∷ []);
          index = f.index;
          farthest = record {
            beyond = f.farthest.beyond;
            first = f.farthest.first;
            greatest = All-push (λ r. offset_of a b r ≤ offset_of a b f.point) f.after q f.farthest.greatest (omega (arith, e, le));
          };
        },
        e,
      )

  -- no point so far is farther off
  pub all-below : (points : List Point) (most : ℕ) (o : Option ℕ) → IsFarthestSoFar limit a b points most o → (limit ≤ most) × All (λ r. offset_of a b r ≤ most) points
  all-below points most None h =
      let e = h.0 in (omega (arith, e), All-weaker (λ r. offset_of a b r ≤ limit) (λ r. offset_of a b r ≤ most) (λ r le. omega (arith, e, le)) points h.1)
  all-below points most (Some at) h =
      let f = h.0 in
      let e = h.1 in
      let beyond = f.farthest.beyond in
      let front : All (λ r. offset_of a b r ≤ most) f.before = All-weaker (λ r. offset_of a b r < offset_of a b f.point) (λ r. offset_of a b r ≤ most) (λ r lt. omega (arith, e, lt)) f.before f.farthest.first in
      let back : All (λ r. offset_of a b r ≤ most) f.after = All-weaker (λ r. offset_of a b r ≤ offset_of a b f.point) (λ r. offset_of a b r ≤ most) (λ r le. omega (arith, e, le)) f.after f.farthest.greatest in
      let here : offset_of a b f.point ≤ most = omega (arith, e) in (
        omega (arith, e, beyond),
        All-same (λ r. offset_of a b r ≤ most) points (f.before ++ f.point ∷ f.after) f.parts
            (All-append (λ r. offset_of a b r ≤ most) f.before (f.point ∷ f.after) front (All-cons (λ r. offset_of a b r ≤ most) f.point f.after here back)),
      )

  -- one point more, farther off than all so far
  pub farthest-takes : (points : List Point) (most : ℕ) (o : Option ℕ) (q : Point) → IsFarthestSoFar limit a b points most o → most < offset_of a b q → IsFarthestSoFar limit a b (points ++ q ∷ []) (offset_of a b q) (Some (length points))
  farthest-takes points most o q h lt =
      let below = all-below points most o h in
      let within = below.0 in (
        record {
          before = points;
          point = q;
          after = [];
          parts = refl;
          index = refl;
          farthest = record {
            beyond = omega (arith, within, lt);
            first = All-weaker (λ r. offset_of a b r ≤ most) (λ r. offset_of a b r < offset_of a b q) (λ r le. omega (arith, le, lt)) points below.1;
            greatest = All-nil (λ r. offset_of a b r ≤ offset_of a b q);
          };
        },
        refl,
      )

  -- of some points there is a farthest, or none lies beyond the limit
  abbrev pub SomeFarthest : List Point → Type 0
  SomeFarthest points = (o : Option ℕ) × (most : ℕ) × IsFarthestSoFar limit a b points most o

  farthest-rest : (done rest : List Point) (most : ℕ) (o : Option ℕ) → IsFarthestSoFar limit a b done most o → SomeFarthest (done ++ rest)
  farthest-rest done [] most o h = (o, most, subst (λ (xs : List Point). IsFarthestSoFar limit a b xs most o) (sym (append-nil done)) h)
  farthest-rest done (q ∷ rest) most o h =
      let found : SomeFarthest ((done ++ q ∷ []) ++ rest) = elim (cases_lt most (offset_of a b q)) [
        | inl lt ↦ farthest-rest (done ++ q ∷ []) rest (offset_of a b q) (Some (length done)) (farthest-takes done most o q h lt)
        | inr le ↦ farthest-rest (done ++ q ∷ []) rest most o (farthest-keeps done most o q h le)
      ] in
      subst SomeFarthest (append_assoc done (q ∷ []) rest) found

  pub some-farthest : (points : List Point) → SomeFarthest points
  some-farthest points = farthest-rest [] points limit None farthest-none

  -- it is one of the points
  pub farthest-within : (points : List Point) (at : ℕ) → IsFarthestAt limit a b points at → at < length points
  farthest-within points at f =
      let e = f.index in
      let n : length points ≡ length f.before + length (f.point ∷ f.after) = ap length f.parts ∙ length-append f.before (f.point ∷ f.after) in
      omega (arith, e, n)

  -- the loop's next point
  pub takes-next : (points : List Point) (k : ℕ) (most more : ℕ) (o p : Option ℕ) (q : Point) → k < length points → q ≡ get_or points k q → IsFarthestSoFar limit a b (take k points) most o → most < offset_of a b q → more ≡ offset_of a b q → p ≡ Some k → IsFarthestSoFar limit a b (take (k + 1) points) more p
  takes-next points k most more o p q lt is h beyond e f =
      let front : take k points ++ q ∷ [] ≡ take (k + 1) points = ap (λ (r : Point). take k points ++ r ∷ []) is ∙ sym (take_more points k q lt) in
      let n : length (take k points) ≡ k = length-take-le k points (omega (arith, lt)) in
      let found : IsFarthestSoFar limit a b (take k points ++ q ∷ []) (offset_of a b q) (Some k) =
      subst (λ (i : ℕ). IsFarthestSoFar limit a b (take k points ++ q ∷ []) (offset_of a b q) (Some i)) n (farthest-takes (take k points) most o q h beyond) in
      let there : IsFarthestSoFar limit a b (take (k + 1) points) (offset_of a b q) (Some k) = subst (λ (xs : List Point). IsFarthestSoFar limit a b xs (offset_of a b q) (Some k)) front found in
      let far : IsFarthestSoFar limit a b (take (k + 1) points) more (Some k) = subst (λ (m : ℕ). IsFarthestSoFar limit a b (take (k + 1) points) m (Some k)) (sym e) there in
      subst (λ (r : Option ℕ). IsFarthestSoFar limit a b (take (k + 1) points) more r) (sym f) far

  pub keeps-next : (points : List Point) (k : ℕ) (most more : ℕ) (o p : Option ℕ) (q : Point) → k < length points → q ≡ get_or points k q → IsFarthestSoFar limit a b (take k points) most o → offset_of a b q ≤ most → more ≡ most → p ≡ o → IsFarthestSoFar limit a b (take (k + 1) points) more p
  keeps-next points k most more o p q lt is h near e f =
      let front : take k points ++ q ∷ [] ≡ take (k + 1) points = ap (λ (r : Point). take k points ++ r ∷ []) is ∙ sym (take_more points k q lt) in
      let there : IsFarthestSoFar limit a b (take (k + 1) points) most o = subst (λ (xs : List Point). IsFarthestSoFar limit a b xs most o) front (farthest-keeps (take k points) most o q h near) in
      let far : IsFarthestSoFar limit a b (take (k + 1) points) more o = subst (λ (m : ℕ). IsFarthestSoFar limit a b (take (k + 1) points) m o) (sym e) there in
      subst (λ (r : Option ℕ). IsFarthestSoFar limit a b (take (k + 1) points) more r) (sym f) far

  -- points that are passed over
  pub keeps-many : (points : List Point) (k n most : ℕ) (o : Option ℕ) → IsFarthestSoFar limit a b (take k points) most o → ((i : ℕ) (q : Point) → k ≤ i → i < k + n → slice_get points i ≡ Some q → offset_of a b q ≤ most) → IsFarthestSoFar limit a b (take (k + n) points) most o
  keeps-many points k zero most o h near =
      let m : k ≡ k + 0 = omega arith in
      subst (λ j. IsFarthestSoFar limit a b (take j points) most o) m h
  keeps-many points k (suc n) most o h near =
      let before : IsFarthestSoFar limit a b (take (k + n) points) most o = keeps-many points k n most o h (λ i q low high at. near i q low (omega (arith, high)) at) in
      elim (cases_lt (k + n) (length points)) as (λ _. IsFarthestSoFar limit a b (take (k + suc n) points) most o) [
        | inl lt ↦
            let there = get_some points (k + n) lt in
            let is : there.0 ≡ get_or points (k + n) there.0 = sym (get_or_from_slice_get points (k + n) there.0 there.0 there.1) in
            let next : IsFarthestSoFar limit a b (take (k + n + 1) points) most o =
            keeps-next points (k + n) most most o o there.0 lt is before (near (k + n) there.0 (omega arith) (omega arith) there.1) refl refl in
            let m : k + n + 1 ≡ k + suc n = omega arith in
            subst (λ j. IsFarthestSoFar limit a b (take j points) most o) m next
        | inr le ↦
            let all : take (k + n) points ≡ take (k + suc n) points = take_all (k + n) points le ∙ sym (take_all (k + suc n) points (omega (arith, le))) in
            subst (λ (xs : List Point). IsFarthestSoFar limit a b xs most o) all before
      ]

  -- no point is farther off
  pub keeps-rest : (points : List Point) (k most : ℕ) (o : Option ℕ) → IsFarthestSoFar limit a b (take k points) most o → ((i : ℕ) (q : Point) → slice_get points i ≡ Some q → offset_of a b q ≤ most) → IsFarthestSoFar limit a b points most o
  keeps-rest points k most o h near =
      subst (λ (xs : List Point). IsFarthestSoFar limit a b xs most o) (take_all (k + length points) points (omega arith)) (keeps-many points k (length points) most o h (λ i q low high at. near i q at))

  -- after the last
  pub farthest-all : (points : List Point) (most : ℕ) (o : Option ℕ) → IsFarthestSoFar limit a b points most o → MatchOption o (All (λ q. offset_of a b q ≤ limit) points) (IsFarthestAt limit a b points)
  farthest-all points most None h = h.1
  farthest-all points most (Some at) h = h.0

  pub farthest-inside : (points : List Point) (most : ℕ) (o : Option ℕ) → IsFarthestSoFar limit a b points most o → IfSome o (λ at. at < length points)
  farthest-inside points most None h = tt
  farthest-inside points most (Some at) h = farthest-within points at h.0
