-- Where the segments of a network lie.
use Rattle.std.specs.Prelude.{List, map}
use Rattle.road_segments.specs.Segment.{Segment}
use Rattle.snap_index.specs.declared.grids.SegmentEnds.{SegmentEnds}

-- a segment's two ends, in the order of its way
abbrev pub ends_of : Segment → SegmentEnds
ends_of segment = record { from = segment.from; to = segment.to }

-- the ends of all segments, in their order
abbrev pub all_ends : List Segment → List SegmentEnds
all_ends segments = map ends_of segments
