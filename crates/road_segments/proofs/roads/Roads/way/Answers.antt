use Rattle.std.proofs.Common.{◌∙◌, ap, Some, refl, rules, FitsSigned, w64}
use Rattle.std.proofs.lemmas.Int.{to_z-of_z}
use Rattle.road_segments.specs.declared.streets.Street.{Street}
use Rattle.road_segments.proofs.VertexLemmas.{either-read, street-read}
use Rattle.road_segments.proofs.roads.Roads.way.Goals as goal

pub returns : goal.returns
returns c =
    let fits : FitsSigned w64 c.index-2.result.now.way = search rules in
    rw (to_z-of_z w64 c.index-2.result.now.way fits)
    (either-read (λ x. x.way) _ _ _ _ _ c.self.view_is c.requires c.index.ensures refl
    ∙ ap (λ (s : Street). Some s.way) (street-read _ _ _ _ _ _ c.self.view_is c.requires c.self.invariant c.index.ensures c.index-2.ensures))
