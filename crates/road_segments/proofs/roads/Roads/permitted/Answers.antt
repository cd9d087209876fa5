use Rattle.std.proofs.Common.{◌∙◌, ap, Some}
use Rattle.road_segments.specs.declared.streets.Street.{Street}
use Rattle.road_segments.proofs.VertexLemmas.{even-read, odd-read, street-read}
use Rattle.road_segments.proofs.roads.Roads.permitted.Goals as goal

pub returns-then-v-eq0 : goal.returns-then-v-eq0
returns-then-v-eq0 c =
    even-read (λ x. x.permitted) _ _ _ _ _ c.self.view_is c.requires c.index.ensures c.if-v-eq0.true
    ∙ ap (λ (s : Street). Some s.forward) (street-read _ _ _ _ _ _ c.self.view_is c.requires c.self.invariant c.index.ensures c.index-street.ensures)

pub returns-else-v-eq0 : goal.returns-else-v-eq0
returns-else-v-eq0 c =
    odd-read (λ x. x.permitted) _ _ _ _ _ c.self.view_is c.requires c.index.ensures c.if-v-eq0.false
    ∙ ap (λ (s : Street). Some s.backward) (street-read _ _ _ _ _ _ c.self.view_is c.requires c.self.invariant c.index.ensures c.index-street.ensures)
