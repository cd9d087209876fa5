use Rattle.std.proofs.Common.{◌∙◌, ap, Some, refl}
use Rattle.road_segments.specs.declared.streets.Street.{Street}
use Rattle.road_segments.proofs.VertexLemmas.{either-read, street-read}
use Rattle.road_segments.proofs.roads.Roads.round.Goals as goal

pub returns : goal.returns
returns c =
    either-read (λ x. x.round) _ _ _ _ _ c.self.view_is c.requires c.index.ensures refl
    ∙ ap (λ (s : Street). Some s.round) (street-read _ _ _ _ _ _ c.self.view_is c.requires c.self.invariant c.index.ensures c.index-2.ensures)
