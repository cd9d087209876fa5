-- What stands at a place of the list of vertices.
use Rattle.std.proofs.Common.{◌≡◌, ℕ, ◌*◌, ◌<◌, ◌/◌, ◌%◌, List, length, get_or, Option, Some, arith, refl, sym, ap, subst, ◌∙◌, ◌≢◌, inl, inr}
use Rattle.std.specs.Prelude.{option_map, unwrap_or}
use Rattle.std.specs.List.{slice_get}
use Rattle.std.proofs.lemmas.Option.{slice_get-map, slice_get_read}
use Rattle.std.proofs.lemmas.Bool.{cases_eq}
use Rattle.std.proofs.lemmas.List.{length-map}
use Rattle.road_segments.specs.Rows.{AreRows, no_street, segment_in, segments_in, street_at}
use Rattle.road_segments.specs.Laws.{vertices-even, vertices-odd}
use Rattle.road_segments.specs.Segment.{Segment}
use Rattle.road_segments.specs.Vertex.{Vertex, along, against, vertices}
use Rattle.road_segments.specs.declared.roads.Row.{Row}
use Rattle.road_segments.specs.declared.streets.Street.{Street}

-- the rows and the segments are as many
pub length-rows : (streets : List Street) (rows : List Row) (segments : List Segment) → segments_in streets rows ≡ segments → length rows ≡ length segments
length-rows streets rows segments e = sym (length-map rows (segment_in streets)) ∙ ap length e

-- the segment of a row that was read
pub segment-read : (streets : List Street) (rows : List Row) (segments : List Segment) (k : ℕ) (row : Row)
    → segments_in streets rows ≡ segments → k < length rows → row ≡ get_or rows k row
    → slice_get segments k ≡ Some (segment_in streets row)
segment-read streets rows segments k row e h r =
    ap (λ (x : List Segment). slice_get x k) (sym e) ∙ slice_get-map (segment_in streets) rows k ∙ ap (option_map (segment_in streets)) (slice_get_read rows (length rows) k row refl h r)

module _ {A : Type 0} (f : Vertex → A) (streets : List Street) (rows : List Row) (segments : List Segment) (v : ℕ) (row : Row) where
  -- what a vertex has, by the row that was read for it
  pub even-read : segments_in streets rows ≡ segments → v < 2 * length segments → row ≡ get_or rows (v / 2) row → v % 2 ≡ 0
      → option_map f (slice_get (vertices segments) v) ≡ Some (f (along (segment_in streets row)))
  even-read e h r even =
      ap (option_map f) (vertices-even segments (v / 2) (segment_in streets row) v (segment-read streets rows segments (v / 2) row e (omega (arith, length-rows streets rows segments e)) r) (omega arith))

  pub odd-read : segments_in streets rows ≡ segments → v < 2 * length segments → row ≡ get_or rows (v / 2) row → v % 2 ≢ 0
      → option_map f (slice_get (vertices segments) v) ≡ Some (f (against (segment_in streets row)))
  odd-read e h r odd =
      ap (option_map f) (vertices-odd segments (v / 2) (segment_in streets row) v (segment-read streets rows segments (v / 2) row e (omega (arith, length-rows streets rows segments e)) r) (omega arith))

  -- what both directions of a segment have alike
  pub either-read : segments_in streets rows ≡ segments → v < 2 * length segments → row ≡ get_or rows (v / 2) row
      → f (along (segment_in streets row)) ≡ f (against (segment_in streets row))
      → option_map f (slice_get (vertices segments) v) ≡ Some (f (along (segment_in streets row)))
  either-read e h r same =
      elim (cases_eq (v % 2) 0) as (λ _. option_map f (slice_get (vertices segments) v) ≡ Some (f (along (segment_in streets row)))) [
        | inl even ↦ even-read e h r even
        | inr odd ↦ odd-read e h r odd ∙ ap Some (sym same)
      ]

-- the street of a row, both read
pub street-read : (streets : List Street) (rows : List Row) (segments : List Segment) (v : ℕ) (row : Row) (street : Street)
    → segments_in streets rows ≡ segments → v < 2 * length segments → AreRows streets rows
    → row ≡ get_or rows (v / 2) row → street ≡ get_or streets row.street street
    → street_at streets row.street ≡ street
street-read streets rows segments v row street e h are r s =
    let in_range : (get_or rows (v / 2) row).street < length streets = are.in_range (v / 2) row (omega (arith, length-rows streets rows segments e)) in
    let has_street : row.street < length streets = subst (λ (x : Row). x.street < length streets) (sym r) in_range in
    ap (λ (o : Option Street). unwrap_or o no_street) (slice_get_read streets (length streets) row.street street refl has_street s)
