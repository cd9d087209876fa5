-- Laws of the definitions that crates above cite: how many vertices there are, and which segment each is.
use Rattle.std.proofs.Common.{◌≡◌, ℕ, zero, suc, ◌+◌, ◌*◌, List, [], ◌∷◌, length, Some, arith, ap}
use Rattle.std.specs.Prelude.{option_map}
use Rattle.std.specs.List.{slice_get}
use Rattle.road_segments.specs.Segment.{Segment}
use Rattle.road_segments.specs.Vertex.{against, along, vertices}

-- two vertices for each segment
pub length-vertices : (segments : List Segment) → length (vertices segments) ≡ 2 * length segments
length-vertices [] = omega arith
length-vertices (s ∷ segments) = omega (arith, length-vertices segments)

-- vertex 2k is segment k in the order of its way
pub vertices-even : (segments : List Segment) (k : ℕ) (s : Segment) (v : ℕ) → slice_get segments k ≡ Some s → v ≡ 2 * k → slice_get (vertices segments) v ≡ Some (along s)
vertices-even [] k s v e h = cc
vertices-even (s0 ∷ segments) zero s zero e h = ap (option_map along) e
vertices-even (s0 ∷ segments) zero s (suc v) e h = absurd (omega arith)
vertices-even (s0 ∷ segments) (suc k) s zero e h = absurd (omega arith)
vertices-even (s0 ∷ segments) (suc k) s (suc zero) e h = absurd (omega arith)
vertices-even (s0 ∷ segments) (suc k) s (suc (suc v)) e h = vertices-even segments k s v e (omega arith)

-- vertex 2k + 1 is segment k against it
pub vertices-odd : (segments : List Segment) (k : ℕ) (s : Segment) (v : ℕ) → slice_get segments k ≡ Some s → v ≡ 2 * k + 1 → slice_get (vertices segments) v ≡ Some (against s)
vertices-odd [] k s v e h = cc
vertices-odd (s0 ∷ segments) zero s zero e h = absurd (omega arith)
vertices-odd (s0 ∷ segments) zero s (suc zero) e h = ap (option_map against) e
vertices-odd (s0 ∷ segments) zero s (suc (suc v)) e h = absurd (omega arith)
vertices-odd (s0 ∷ segments) (suc k) s zero e h = absurd (omega arith)
vertices-odd (s0 ∷ segments) (suc k) s (suc zero) e h = absurd (omega arith)
vertices-odd (s0 ∷ segments) (suc k) s (suc (suc v)) e h = vertices-odd segments k s v e (omega arith)
