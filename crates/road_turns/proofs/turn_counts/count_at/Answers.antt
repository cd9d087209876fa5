use Rattle.std.proofs.Common.{◌≡◌, ◌<◌, length, arith, [], ◌∷◌, Bool, cond, sym, ap, ◌∙◌}
use Rattle.std.proofs.lemmas.Result.{IfOk-weaker}
use Rattle.road_turns.specs.Fans.{turns_at}
use Rattle.road_turns.specs.TurnParts.{turns_on}
use Rattle.road_segments.specs.Vertex.{opposite, vertices}
use Rattle.list_lemmas.proofs.Gets.{get_is}
use Rattle.road_segments.specs.Laws.{length-vertices}
use Rattle.road_turns.specs.VertexLaws.{both-ways, field-at}
use Rattle.road_turns.proofs.TurnLemmas.{turns-back, turns-none, turns-on}
use Rattle.road_turns.proofs.turn_counts.count_at.Goals as goal

pub returns-then-not-permitted-clause-value : goal.returns-then-not-permitted-clause-value
returns-then-not-permitted-clause-value c =
    let vs = vertices c.args.roads.now in
    let w = both-ways c.args.roads.now c.args.v c.requires.vertex in
    let closed = field-at (λ z. z.permitted) vs c.args.v w.0 c.permitted.result w.2 c.permitted.ensures ∙ c.if-not-permitted.true in
    sym (ap length (turns-none vs c.args.v w.0 w.1 w.2 w.3 w.4 c.args.restrictions.now.kept closed))

pub returns-then-not-must_turn_back-clause-value : goal.returns-then-not-must_turn_back-clause-value
returns-then-not-must_turn_back-clause-value c =
    let vs = vertices c.args.roads.now in
    let kept = c.args.restrictions.now.kept in
    let w = both-ways c.args.roads.now c.args.v c.requires.vertex in
    let opened = field-at (λ z. z.permitted) vs c.args.v w.0 c.permitted.result w.2 c.permitted.ensures ∙ c.if-not-permitted.false in
    let on = sym c.must_turn_back.ensures ∙ c.if-not-must_turn_back.true in
    IfOk-weaker c.count_on.result (λ n. n ≡ length (turns_on vs kept c.args.v)) (λ n. n ≡ length (turns_at vs kept c.args.v))
    (λ n e. e ∙ ap length (sym (turns-on vs c.args.v w.0 w.1 w.2 w.3 w.4 kept opened on))) c.count_on.ensures.value

pub returns-then-may_turn_back-clause-value : goal.returns-then-may_turn_back-clause-value
returns-then-may_turn_back-clause-value c =
    let vs = vertices c.args.roads.now in
    let v = c.args.v in
    let w = both-ways c.args.roads.now v c.requires.vertex in
    let opened = field-at (λ z. z.permitted) vs v w.0 c.permitted.result w.2 c.permitted.ensures ∙ c.if-not-permitted.false in
    let must = sym c.must_turn_back.ensures ∙ c.if-not-must_turn_back.false in
    let may = sym c.may_turn_back.ensures ∙ c.if-may_turn_back.true in
    sym (ap length (turns-back vs v w.0 w.1 w.2 w.3 w.4 c.args.restrictions.now.kept opened must ∙ ap (λ (b : Bool). cond b ((v, opposite v) ∷ []) []) may))

pub returns-else-may_turn_back-clause-value : goal.returns-else-may_turn_back-clause-value
returns-else-may_turn_back-clause-value c =
    let vs = vertices c.args.roads.now in
    let v = c.args.v in
    let w = both-ways c.args.roads.now v c.requires.vertex in
    let opened = field-at (λ z. z.permitted) vs v w.0 c.permitted.result w.2 c.permitted.ensures ∙ c.if-not-permitted.false in
    let must = sym c.must_turn_back.ensures ∙ c.if-not-must_turn_back.false in
    let may = sym c.may_turn_back.ensures ∙ c.if-may_turn_back.false in
    sym (ap length (turns-back vs v w.0 w.1 w.2 w.3 w.4 c.args.restrictions.now.kept opened must ∙ ap (λ (b : Bool). cond b ((v, opposite v) ∷ []) []) may))

pub index-requires : goal.index-requires
index-requires c = omega (arith, c.requires.exits.as_many, length-vertices c.args.roads.now)

pub must_turn_back-requires-clause-exits : goal.must_turn_back-requires-clause-exits
must_turn_back-requires-clause-exits c =
    let counts = c.args.exits.now.counts.items in
    let lt : c.args.v < length counts = omega (arith, c.requires.exits.as_many, length-vertices c.args.roads.now) in
    c.requires.exits.each c.args.v c.index.result.now (get_is counts c.args.v c.index.result.now lt (sym c.index.ensures))
