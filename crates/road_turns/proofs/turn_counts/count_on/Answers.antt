use Rattle.std.proofs.Common.{◌≡◌, ◌<◌, ℤ, true, false, length, arith, rules, sym, ap, ◌∙◌, w64, FitsSigned, to_z, of_z}
use Rattle.std.proofs.lemmas.Int.{to_z-of_z}
use Rattle.list_lemmas.proofs.Gets.{get_is}
use Rattle.road_segments.specs.Laws.{length-vertices}
use Rattle.road_turns.specs.Leaving.{leaving_at, open_exits}
use Rattle.road_turns.specs.RestrictionParts.{has_via}
use Rattle.road_segments.specs.Vertex.{vertices}
use Rattle.road_turns.proofs.CountLemmas.{length-turns_on-all, turns_on-counted}
use Rattle.road_turns.proofs.FanLemmas.{flag-is, flag-within, other-within}
use Rattle.road_turns.specs.VertexLaws.{both-ways, field-at}
use Rattle.road_turns.proofs.TurnLemmas.{bit}
use Rattle.road_turns.proofs.turn_counts.count_on.Goals as goal

pub index-node-requires : goal.index-node-requires
index-node-requires c =
    let fans = c.args.exits.now.fans in
    omega (arith, other-within c.args.roads.now fans.leaving.items fans.begins.items fans.restricted.items fans.nodes.items c.requires.fans c.args.v c.requires.vertex c.other_way.result c.other_way.ensures, fans.nodes.ok.0)

pub index-requires : goal.index-requires
index-requires c =
    let fans = c.args.exits.now.fans in
    omega (arith, flag-within c.args.roads.now fans.leaving.items fans.begins.items fans.restricted.items fans.nodes.items c.requires.fans c.args.v c.requires.vertex c.other_way.result c.other_way.ensures c.index-node.result.now c.index-node.ensures, fans.restricted.ok.0)

pub index-requires-then-not-index : goal.index-requires-then-not-index
index-requires-then-not-index c = omega (arith, c.requires.exits.as_many, length-vertices c.args.roads.now, c.args.exits.now.counts.ok.0)

pub returns-then-not-index-clause-value : goal.returns-then-not-index-clause-value
returns-then-not-index-clause-value c =
    let vs = vertices c.args.roads.now in
    let v = c.args.v in
    let kept = c.args.restrictions.now.kept in
    let fans = c.args.exits.now.fans in
    let counts = c.args.exits.now.counts.items in
    let w = both-ways c.args.roads.now v c.requires.vertex in
    let unruled : has_via kept w.0.head ≡ false = sym (flag-is c.args.roads.now fans.leaving.items fans.begins.items fans.restricted.items fans.nodes.items c.requires.fans c.args.v c.requires.vertex c.other_way.result c.other_way.ensures c.index-node.result.now c.index-node.ensures kept c.index.result.now c.requires.restricted c.index.ensures) ∙ c.if-not-index.true in
    let lt : v < length counts = omega (arith, c.requires.exits.as_many, length-vertices c.args.roads.now) in
    c.requires.exits.each v c.index-then-not-index.result.now (get_is counts v c.index-then-not-index.result.now lt (sym c.index-then-not-index.ensures))
    ∙ sym (length-turns_on-all vs v w.0 w.1 w.2 w.3 w.4 kept unruled)

pub overflow_sub-result : goal.overflow_sub-result
overflow_sub-result c =
    let kept = c.args.restrictions.now.kept in
    let runs = c.args.exits.now.leaving.runs in
    let fits : FitsSigned w64 c.head.result = search rules in
    let fits_way : FitsSigned w64 c.way.result = search rules in
    let fans = c.args.exits.now.fans in
    let w = both-ways c.args.roads.now c.args.v c.requires.vertex in
    let head = field-at (λ z. z.head) (vertices c.args.roads.now) c.args.v w.0 c.head.result w.2 c.head.ensures in
    let says : has_via kept c.head.result ≡ true = ap (has_via kept) (sym head) ∙ sym (flag-is c.args.roads.now fans.leaving.items fans.begins.items fans.restricted.items fans.nodes.items c.requires.fans c.args.v c.requires.vertex c.other_way.result c.other_way.ensures c.index-node.result.now c.index-node.ensures kept c.index.result.now c.requires.restricted c.index.ensures) ∙ c.if-not-index.false in
    let its : c.in_ok-ahead.ahead ≡ length (open_exits kept c.head.result c.way.result (leaving_at runs c.head.result)) =
    c.in_ok-ahead.ensures.value
    ∙ ap (λ (z : ℤ). length (open_exits kept z (to_z w64 (of_z w64 c.way.result)) (leaving_at runs z))) (to_z-of_z w64 c.head.result fits)
    ∙ ap (λ (z : ℤ). length (open_exits kept c.head.result z (leaving_at runs c.head.result))) (to_z-of_z w64 c.way.result fits_way) in
    let counted =
    turns_on-counted c.args.roads.now kept runs c.args.exits.now.leaving.groups c.args.v c.in_ok-ahead.ahead c.head.result c.way.result c.requires.vertex c.requires.leaving c.head.ensures c.way.ensures
    says its in
    omega (arith, counted, ap bit (sym c.opens_back.ensures ∙ c.if-opens_back.true))

pub returns-then-opens_back-clause-value : goal.returns-then-opens_back-clause-value
returns-then-opens_back-clause-value c =
    let kept = c.args.restrictions.now.kept in
    let runs = c.args.exits.now.leaving.runs in
    let fits : FitsSigned w64 c.head.result = search rules in
    let fits_way : FitsSigned w64 c.way.result = search rules in
    let fans = c.args.exits.now.fans in
    let w = both-ways c.args.roads.now c.args.v c.requires.vertex in
    let head = field-at (λ z. z.head) (vertices c.args.roads.now) c.args.v w.0 c.head.result w.2 c.head.ensures in
    let says : has_via kept c.head.result ≡ true = ap (has_via kept) (sym head) ∙ sym (flag-is c.args.roads.now fans.leaving.items fans.begins.items fans.restricted.items fans.nodes.items c.requires.fans c.args.v c.requires.vertex c.other_way.result c.other_way.ensures c.index-node.result.now c.index-node.ensures kept c.index.result.now c.requires.restricted c.index.ensures) ∙ c.if-not-index.false in
    let its : c.in_ok-ahead.ahead ≡ length (open_exits kept c.head.result c.way.result (leaving_at runs c.head.result)) =
    c.in_ok-ahead.ensures.value
    ∙ ap (λ (z : ℤ). length (open_exits kept z (to_z w64 (of_z w64 c.way.result)) (leaving_at runs z))) (to_z-of_z w64 c.head.result fits)
    ∙ ap (λ (z : ℤ). length (open_exits kept c.head.result z (leaving_at runs c.head.result))) (to_z-of_z w64 c.way.result fits_way) in
    let counted =
    turns_on-counted c.args.roads.now kept runs c.args.exits.now.leaving.groups c.args.v c.in_ok-ahead.ahead c.head.result c.way.result c.requires.vertex c.requires.leaving c.head.ensures c.way.ensures
    says its in
    omega (arith, counted, ap bit (sym c.opens_back.ensures ∙ c.if-opens_back.true))

pub returns-else-opens_back-clause-value : goal.returns-else-opens_back-clause-value
returns-else-opens_back-clause-value c =
    let kept = c.args.restrictions.now.kept in
    let runs = c.args.exits.now.leaving.runs in
    let fits : FitsSigned w64 c.head.result = search rules in
    let fits_way : FitsSigned w64 c.way.result = search rules in
    let fans = c.args.exits.now.fans in
    let w = both-ways c.args.roads.now c.args.v c.requires.vertex in
    let head = field-at (λ z. z.head) (vertices c.args.roads.now) c.args.v w.0 c.head.result w.2 c.head.ensures in
    let says : has_via kept c.head.result ≡ true = ap (has_via kept) (sym head) ∙ sym (flag-is c.args.roads.now fans.leaving.items fans.begins.items fans.restricted.items fans.nodes.items c.requires.fans c.args.v c.requires.vertex c.other_way.result c.other_way.ensures c.index-node.result.now c.index-node.ensures kept c.index.result.now c.requires.restricted c.index.ensures) ∙ c.if-not-index.false in
    let its : c.in_ok-ahead.ahead ≡ length (open_exits kept c.head.result c.way.result (leaving_at runs c.head.result)) =
    c.in_ok-ahead.ensures.value
    ∙ ap (λ (z : ℤ). length (open_exits kept z (to_z w64 (of_z w64 c.way.result)) (leaving_at runs z))) (to_z-of_z w64 c.head.result fits)
    ∙ ap (λ (z : ℤ). length (open_exits kept c.head.result z (leaving_at runs c.head.result))) (to_z-of_z w64 c.way.result fits_way) in
    let counted =
    turns_on-counted c.args.roads.now kept runs c.args.exits.now.leaving.groups c.args.v c.in_ok-ahead.ahead c.head.result c.way.result c.requires.vertex c.requires.leaving c.head.ensures c.way.ensures
    says its in
    omega (arith, counted, ap bit (sym c.opens_back.ensures ∙ c.if-opens_back.false))
