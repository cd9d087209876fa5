-- The vertices of a network: each segment in both directions. Vertex 2s is segment s in the order of its
-- way, vertex 2s + 1 the other direction (this project's rule; an edge-based graph).
use Rattle.std.specs.Prelude.{ℕ, ℤ, ◌+◌, ◌-◌, ◌%◌, ◌==◌, Bool, List, [], ◌∷◌, if◌then◌else◌}
use Rattle.road_base.specs.declared.coordinates.Point.{Point}
use Rattle.road_segments.specs.Segment.{Segment}

-- a segment in one direction, from its tail to its head: the vehicle may not pass a head that is closed, and
-- a traffic signal stands at one that is a signal; round is what is a piece of a roundabout
pub record Vertex : Type 0 where
  pub tail : ℤ
  pub head : ℤ
  pub from : Point
  pub to : Point
  pub closed : Bool
  pub signal : Bool
  pub permitted : Bool
  pub way : ℤ
  pub name : List ℕ
  pub classes : List (List ℕ)
  pub speed : ℕ
  pub round : Bool

-- a segment in the order of its way, and against it
abbrev pub along : Segment → Vertex
along s = record {
  tail = s.tail;
  head = s.head;
  from = s.from;
  to = s.to;
  closed = s.at_head.closed;
  signal = s.at_head.signal;
  permitted = s.street.forward;
  way = s.street.way;
  name = s.street.name;
  classes = s.street.classes;
  speed = s.street.speed;
  round = s.street.round;
}

abbrev pub against : Segment → Vertex
against s = record {
  tail = s.head;
  head = s.tail;
  from = s.to;
  to = s.from;
  closed = s.at_tail.closed;
  signal = s.at_tail.signal;
  permitted = s.street.backward;
  way = s.street.way;
  name = s.street.name;
  classes = s.street.classes;
  speed = s.street.speed;
  round = s.street.round;
}

-- all vertices
abbrev pub vertices : List Segment → List Vertex
vertices [] = []
vertices (s ∷ segments) = along s ∷ against s ∷ vertices segments

-- the other direction of a vertex's segment
abbrev pub opposite : ℕ → ℕ
opposite v = if v % 2 == 0 then v + 1 else v - 1
