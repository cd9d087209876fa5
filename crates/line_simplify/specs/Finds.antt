-- The crate's own: how far off chords their farthest points were found. What was found off a chord bounds what is left
-- when the chord comes again.
use Rattle.std.specs.Prelude.{◌≡◌, ℕ, ◌<◌, ◌≤◌, List, Some}
use Rattle.std.specs.List.{slice_get}
use Rattle.road_base.specs.declared.coordinates.Point.{Point}
use Rattle.line_simplify.specs.Simplified.{offset_of}
use Rattle.line_simplify.specs.declared.bounds.Chord.{Chord}
use Rattle.line_simplify.specs.declared.finds.Find.{Find}

-- no point behind the one at `from` and before the one at `to` lies farther off the chord
abbrev pub AreWithin : List Point → ℕ → ℕ → Chord → ℕ → Type 0
AreWithin points from to line most = (i : ℕ) (p : Point) → from < i → i < to → slice_get points i ≡ Some p → offset_of line.from line.to p ≤ most

-- each of these is true of what is left behind the point at `from`
abbrev pub AreFinds : List Point → ℕ → List Find → Type 0
AreFinds points from finds = (k : ℕ) (find : Find) → slice_get finds k ≡ Some find → AreWithin points from find.end find.line find.most
