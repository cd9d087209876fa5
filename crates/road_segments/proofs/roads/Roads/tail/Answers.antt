use Rattle.std.proofs.Common.{rules, FitsSigned, w64}
use Rattle.std.proofs.lemmas.Int.{to_z-of_z}
use Rattle.road_segments.proofs.VertexLemmas.{even-read, odd-read}
use Rattle.road_segments.proofs.roads.Roads.tail.Goals as goal

pub returns-then-v-eq0 : goal.returns-then-v-eq0
returns-then-v-eq0 c =
    let fits : FitsSigned w64 c.index-row.result.now.tail = search rules in
    rw (to_z-of_z w64 c.index-row.result.now.tail fits) (even-read (λ x. x.tail) _ _ _ _ _ c.self.view_is c.requires c.index-row.ensures c.if-v-eq0.true)

pub returns-else-v-eq0 : goal.returns-else-v-eq0
returns-else-v-eq0 c =
    let fits : FitsSigned w64 c.index-row.result.now.head = search rules in
    rw (to_z-of_z w64 c.index-row.result.now.head fits) (odd-read (λ x. x.tail) _ _ _ _ _ c.self.view_is c.requires c.index-row.ensures c.if-v-eq0.false)
