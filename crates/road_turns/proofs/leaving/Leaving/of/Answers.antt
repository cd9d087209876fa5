use Rattle.std.proofs.Common.{◌≡◌, ℤ, ◌+◌, ◌<◌, ◌++◌, ◌∷◌, [], List, cond, length, arith, refl, rules, sym, ap, ◌∙◌, w64, FitsSigned}
use Rattle.std.specs.Ordering.{int_eq}
use Rattle.std.proofs.lemmas.Int.{to_z-of_z}
use Rattle.std.proofs.lemmas.Option.{slice_get_within}
use Rattle.list_lemmas.proofs.Gets.{get_some}
use Rattle.turn_rules.specs.Rules.{Rule}
use Rattle.road_turns.specs.Fans.{AreRestricted}
use Rattle.road_turns.specs.Leaving.{leaving_at}
use Rattle.road_turns.specs.RestrictionParts.{has_via}
use Rattle.road_segments.specs.Vertex.{vertices}
use Rattle.road_turns.specs.VertexLaws.{field-at}
use Rattle.road_turns.proofs.FanLemmas.{read-at}
use Rattle.road_turns.proofs.LeavingLemmas.{exits-added, exits-all, exits-closed, exits-unruled}
use Rattle.road_segments.specs.Laws.{length-vertices}
use Rattle.road_turns.proofs.leaving.Leaving.of.Goals.{then-index+then-permitted+in_ok-add, else-index, else-index-via-then-index+else-permitted, else-index-via-else-index}
use Rattle.road_turns.proofs.leaving.Leaving.of.Goals as goal

pub index-node-requires : goal.index-node-requires
index-node-requires c = omega (arith, length-vertices c.args.roads.now, c.len-v-end.ensures.value, c.requires.as_many, c.args.fans.now.nodes.ok.0)

pub index-requires : goal.index-requires
index-requires c =
    let vs = vertices c.args.roads.now in
    let fans = c.args.fans.now in
    let v = c.loop-v.v in
    let within : v < length vs = omega (arith, length-vertices c.args.roads.now, c.len-v-end.ensures.value) in
    let x = get_some vs v within in
    let g = get_some fans.nodes.items v (omega (arith, within, c.requires.as_many)) in
    let node : c.index-node.result.now ≡ g.0 = read-at fans.nodes.items v v c.index-node.result.now g.0 refl g.1 c.index-node.ensures in
    let fan = c.requires.each v g.0 x.0 x.1 g.1 in
    omega (arith, node, slice_get_within fans.begins.items (g.0 + 1) fan.end fan.to, c.requires.flags, fans.restricted.ok.0)

pub loop-v-preserved : goal.loop-v-preserved
loop-v-preserved c =
    let vs = vertices c.args.roads.now in
    let fans = c.args.fans.now in
    let v = c.loop-v.v in
    let within : v < length vs = omega (arith, length-vertices c.args.roads.now, c.len-v-end.ensures.value) in
    let x = get_some vs v within in
    let g = get_some fans.nodes.items v (omega (arith, within, c.requires.as_many)) in
    let node : c.index-node.result.now ≡ g.0 = read-at fans.nodes.items v v c.index-node.result.now g.0 refl g.1 c.index-node.ensures in
    let flag : (kept : List Rule) → AreRestricted vs kept fans.restricted.items fans.nodes.items → c.index.result.now ≡ has_via kept x.0.tail =
    λ kept marks. read-at fans.restricted.items c.index-node.result.now g.0 c.index.result.now (has_via kept x.0.tail) node (marks.each v g.0 x.0 x.1 g.1) c.index.ensures in
    elim c.if-index.branch [
      | then-index+then-permitted+in_ok-add w ↦
          let usable = field-at (λ y. y.permitted) vs v x.0 w.permitted.result x.1 w.permitted.ensures in
          let tail = field-at (λ y. y.tail) vs v x.0 w.tail.result x.1 w.tail.ensures in
          let way = field-at (λ y. y.way) vs v x.0 w.way.result x.1 w.way.ensures in
          let fits_tail : FitsSigned w64 w.tail.result = search rules in
          let fits_way : FitsSigned w64 w.way.result = search rules in
          let more = simp to_z-of_z at w.in_ok-add.ensures.exits in
          rw w.leaving-is (record {
            by_way = w.in_ok-add.ensures.groups;
            exits = λ kept marks. exits-added vs kept v x.0 x.1 c.loop-v.leaving.runs w.add.new.leaving.runs (usable ∙ w.if-permitted.true)
                (λ n. more n
                ∙ ap (λ (z : ℤ). cond (int_eq z n) (leaving_at c.loop-v.leaving.runs n ++ (v, w.way.result) ∷ []) (leaving_at c.loop-v.leaving.runs n)) (sym tail)
                ∙ ap (λ (z : ℤ). cond (int_eq x.0.tail n) (leaving_at c.loop-v.leaving.runs n ++ (v, z) ∷ []) (leaving_at c.loop-v.leaving.runs n)) (sym way))
                (c.loop-v.invariant.exits kept marks);
          })
      | else-index w ↦
          rw w.leaving-is (elim w.else-index.branch [
            | else-index-via-then-index+else-permitted w' ↦
                let closed = field-at (λ y. y.permitted) vs v x.0 w'.permitted.result x.1 w'.permitted.ensures ∙ w'.if-permitted.false in
                record {
                  by_way = c.loop-v.invariant.by_way;
                  exits = λ kept marks. exits-closed vs kept v x.0 x.1 c.loop-v.leaving.runs closed (c.loop-v.invariant.exits kept marks);
                }
            | else-index-via-else-index w' ↦
                record {
                  by_way = c.loop-v.invariant.by_way;
                  exits = λ kept marks. exits-unruled vs kept v x.0 x.1 c.loop-v.leaving.runs (sym (flag kept marks) ∙ w'.if-index.false) (c.loop-v.invariant.exits kept marks);
                }
          ])
    ]

pub returns : goal.returns
returns c = λ kept marks. record {
  by_way = c.loop-v.invariant.by_way;
  exits = exits-all (vertices c.args.roads.now) kept c.loop-v.leaving.runs c.loop-v.v (omega (arith, length-vertices c.args.roads.now, c.len-v-end.ensures.value)) (c.loop-v.invariant.exits kept marks);
}
