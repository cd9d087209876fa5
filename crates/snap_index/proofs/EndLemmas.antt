-- The lines of segments.
use Rattle.std.proofs.Common.{◌≡◌, ℕ, List, ap, ◌∙◌}
use Rattle.std.specs.Prelude.{Option, Some, None, option_map}
use Rattle.std.specs.List.{slice_get}
use Rattle.std.proofs.lemmas.Option.{same_Some, slice_get-map}
use Rattle.road_base.specs.declared.coordinates.Point.{Point}
use Rattle.road_segments.specs.Segment.{Segment}
use Rattle.snap_index.specs.Ends.{ends_of, all_ends}
use Rattle.snap_index.specs.declared.grids.SegmentEnds.{SegmentEnds}

-- a segment's line by its ends
by-ends : (o : Option Segment) (a b : Point) → option_map {U = Point × Point} (λ s. (s.from, s.to)) o ≡ Some (a, b) → option_map ends_of o ≡ Some (record { from = a; to = b })
by-ends None a b e = cc
by-ends (Some s) a b e =
    let pair : ◌≡◌ {A = Point × Point} (s.from, s.to) (a, b) = same_Some _ _ e in
    let first : s.from ≡ a = ap (λ (p : Point × Point). p.0) pair in
    let second : s.to ≡ b = ap (λ (p : Point × Point). p.1) pair in
    cc

pub line-by_ends : (segments : List Segment) (k : ℕ) (a b : Point) → option_map {U = Point × Point} (λ s. (s.from, s.to)) (slice_get segments k) ≡ Some (a, b) → slice_get (all_ends segments) k ≡ Some (record { from = a; to = b })
line-by_ends segments k a b e = slice_get-map ends_of segments k ∙ by-ends (slice_get segments k) a b e
