use Rattle.std.proofs.Common.{◌≡◌, ◌<◌, ◌++◌, All, drop, length}
use Rattle.road_segments.specs.Located.{segments_on, spot_in}
use Rattle.road_segments.specs.Rows.{segments_in}
use Rattle.road_segments.proofs.roads.rows_of.Given as goal

-- the streets so far have their rows
abbrev pub invariant-loop-street : goal.invariant-loop-street
invariant-loop-street l = record {
  rest : segments_in l.routes.streets.items l.rows.items ++ segments_on (spot_in l.spots) l.objects (drop l.street l.routes.streets.items) (drop l.street l.routes.places.items)
      ≡ segments_on (spot_in l.spots) l.objects l.routes.streets.items l.routes.places.items;
  in_range : All (λ row. row.street < length l.routes.streets.items) l.rows.items;
}
