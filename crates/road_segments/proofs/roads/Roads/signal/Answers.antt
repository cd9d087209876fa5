use Rattle.road_segments.proofs.VertexLemmas.{even-read, odd-read}
use Rattle.road_segments.proofs.roads.Roads.signal.Goals as goal

pub returns-then-v-eq0 : goal.returns-then-v-eq0
returns-then-v-eq0 c = even-read (λ x. x.signal) _ _ _ _ _ c.self.view_is c.requires c.index-row.ensures c.if-v-eq0.true

pub returns-else-v-eq0 : goal.returns-else-v-eq0
returns-else-v-eq0 c = odd-read (λ x. x.signal) _ _ _ _ _ c.self.view_is c.requires c.index-row.ensures c.if-v-eq0.false
