-- What was found off a chord, when the chord comes again.
use Rattle.std.proofs.Common.{◌≡◌, ℕ, ◌+◌, ◌-◌, ◌≤◌, Bool, true, false, inl, inr, List, length, All, refl, sym, ap, ◌∙◌, subst, arith}
use Rattle.std.specs.Prelude.{ℤ, IsTrue, Some, ◌&&◌}
use Rattle.std.specs.List.{slice_get}
use Rattle.std.specs.Ordering.{int_eq}
use Rattle.std.proofs.Math.ListN.{set}
use Rattle.std.proofs.lemmas.Bool.Decides.{Decides-int_eq}
use Rattle.geo_integer.specs.Plane.{plane_between}
use Rattle.geo_integer.specs.Position.{Position, position_of}
use Rattle.geo_integer.specs.Project.{place_of, position_at}
use Rattle.list_lemmas.proofs.Gets.{All_get, get_part, get_set, part_get}
use Rattle.road_base.specs.declared.coordinates.Point.{Point}
use Rattle.line_simplify.specs.Finds.{AreFinds, AreWithin}
use Rattle.line_simplify.specs.Searches.{Knows}
use Rattle.line_simplify.specs.Simplified.{offset_of}
use Rattle.line_simplify.specs.declared.bounds.Chord.{Chord}
use Rattle.line_simplify.specs.declared.finds.Find.{Find}
use Rattle.line_simplify.specs.declared.simplifying.Search.{Search}
use Rattle.line_simplify.proofs.Ends.{part}

-- points that compare equal lie at one place
pub first-true : (s t : Bool) → IsTrue (s && t) → IsTrue s
first-true true t h = refl
first-true false t h = h

pub second-true : (s t : Bool) → IsTrue (s && t) → IsTrue t
second-true true t h = h
second-true false t h = cc

abbrev place : ℤ → ℤ → Position
place lon lat = record { lon = lon; lat = lat }

pub same-place : (p q : Point) (r : Bool) → r ≡ (int_eq p.lon q.lon && int_eq p.lat q.lat) → IsTrue r → position_of p ≡ position_of q
same-place p q r e t =
    let both : IsTrue (int_eq p.lon q.lon && int_eq p.lat q.lat) = subst IsTrue e t in
    let lon : p.lon ≡ q.lon = (Decides-int_eq p.lon q.lon).0 (first-true (int_eq p.lon q.lon) (int_eq p.lat q.lat) both) in
    let lat : p.lat ≡ q.lat = (Decides-int_eq p.lat q.lat).0 (second-true (int_eq p.lon q.lon) (int_eq p.lat q.lat) both) in
    ap (λ (z : ℤ). place z p.lat) lon ∙ ap (λ (z : ℤ). place q.lon z) lat

-- a line by the places of its ends
abbrev off : Position → Position → Point → ℕ
off a b p = plane_between (position_of p) (position_at a b (place_of (position_of p) a b))

same-offset : (one other : Chord) (p : Point) → position_of one.from ≡ position_of other.from → position_of one.to ≡ position_of other.to → offset_of one.from one.to p ≡ offset_of other.from other.to p
unfolding offset_of
same-offset one other p e f = ap (λ (a : Position). off a (position_of one.to) p) e ∙ ap (λ (b : Position). off (position_of other.from) b p) f

-- what is true of one chord is true of the other with its ends
pub within-same : (points : List Point) (from to : ℕ) (one other : Chord) (most : ℕ) → position_of one.from ≡ position_of other.from → position_of one.to ≡ position_of other.to → AreWithin points from to one most → AreWithin points from to other most
within-same points from to one other most e f h = λ i p low high at. subst (λ n. n ≤ most) (same-offset one other p e f) (h i p low high at)

-- a find more, in the place of one
pub finds-set : (points : List Point) (from : ℕ) (finds : List Find) (n : ℕ) (find : Find) → AreFinds points from finds → AreWithin points from find.end find.line find.most → AreFinds points from (set finds n find)
finds-set points from finds n find h new = λ k other at. elim (get_set finds n k find other at) [
  | inl here ↦ subst (λ (f : Find). AreWithin points from f.end f.line f.most) (sym here.1) new
  | inr there ↦ h k other there.1
]

-- as more points are done
finds-later : (points : List Point) (from next : ℕ) (finds : List Find) → from ≤ next → AreFinds points from finds → AreFinds points next finds
finds-later points from next finds le h = λ k find at i p low high is. h k find at i p (omega (arith, le, low)) high is

-- the points between two ends, by their numbers
pub within-part : (points : List Point) (from to : ℕ) (line : Chord) (most : ℕ) → to ≤ length points → AreWithin points from to line most → (i : ℕ) (p : Point) → slice_get (part points from to) i ≡ Some p → offset_of line.from line.to p ≤ most
within-part points from to line most le h i p at =
    let there = get_part points (from + 1) to i p le at in
    h (from + 1 + i) p (omega arith) there.0 there.1

pub part-within : (points : List Point) (from to : ℕ) (line : Chord) (most : ℕ) → to ≤ length points → All (λ q. offset_of line.from line.to q ≤ most) (part points from to) → AreWithin points from to line most
part-within points from to line most le all = λ i p low high at.
    let n : from + 1 + (i - (from + 1)) ≡ i = omega (arith, low) in
    All_get (λ q. offset_of line.from line.to q ≤ most) (part points from to) (i - (from + 1)) p all
    (part_get points (from + 1) to (i - (from + 1)) p le (omega (arith, low, high)) (subst (λ k. slice_get points k ≡ Some p) (sym n) at))

pub knows-later : (limit : ℕ) (points : List Point) (from next : ℕ) (search : Search) → from ≤ next → Knows limit points from search → Knows limit points next search
knows-later limit points from next search le h = record {
  limited = h.limited;
  runs = h.runs;
  finds = finds-later points from next search.finds.finds.items le h.finds;
  parts = h.parts;
}
