use Rattle.std.proofs.Common.{◌∙◌, ◌/◌, ap, arith, Some, refl, sym}
use Rattle.std.specs.Prelude.{option_map}
use Rattle.road_segments.specs.Segment.{Segment}
use Rattle.road_segments.specs.declared.streets.Street.{Street}
use Rattle.road_segments.proofs.VertexLemmas.{either-read, length-rows, segment-read, street-read}
use Rattle.road_segments.proofs.roads.Roads.name.Goals as goal

pub returns-clause-value : goal.returns-clause-value
returns-clause-value c =
    either-read (λ x. x.name) _ _ _ _ _ c.self.view_is c.requires c.index.ensures refl
    ∙ ap (λ (s : Street). Some s.name) (street-read _ _ _ _ _ _ c.self.view_is c.requires c.self.invariant c.index.ensures c.index-2.ensures) ∙ ap Some (sym c.as_str.ensures)

pub returns-clause-by_segment : goal.returns-clause-by_segment
returns-clause-by_segment c =
    ap (option_map (λ (s : Segment). s.street.name)) (segment-read _ _ _ (c.args.v / 2) _ c.self.view_is (omega (arith, c.requires, length-rows _ _ _ c.self.view_is)) c.index.ensures)
    ∙ ap (λ (s : Street). Some s.name) (street-read _ _ _ _ _ _ c.self.view_is c.requires c.self.invariant c.index.ensures c.index-2.ensures) ∙ ap Some (sym c.as_str.ensures)
