use Rattle.std.proofs.Common.{◌≡◌, ◌<◌, ℕ, ◌++◌, length, arith, List, [], ◌∷◌, Bool, cond, sym, ap, subst, ◌∙◌}
use Rattle.std.specs.Result.{OnOk}
use Rattle.std.proofs.lemmas.List.{append-nil}
use Rattle.road_segments.specs.Vertex.{opposite, vertices}
use Rattle.list_lemmas.proofs.Gets.{get_is}
use Rattle.road_segments.specs.Laws.{length-vertices}
use Rattle.road_turns.specs.VertexLaws.{both-ways, field-at}
use Rattle.road_turns.proofs.TurnLemmas.{turns-back, turns-none, turns-on}
use Rattle.road_turns.proofs.turn_lists.push_turns.Goals as goal

pub returns-then-not-permitted-clause-turns : goal.returns-then-not-permitted-clause-turns
returns-then-not-permitted-clause-turns c =
    let vs = vertices c.args.roads.now in
    let w = both-ways c.args.roads.now c.args.v c.requires.vertex in
    let closed = field-at (λ z. z.permitted) vs c.args.v w.0 c.permitted.result w.2 c.permitted.ensures ∙ c.if-not-permitted.true in
    sym (ap (λ (x : List (ℕ × ℕ)). c.args.turns.now.items ++ x) (turns-none vs c.args.v w.0 w.1 w.2 w.3 w.4 c.args.restrictions.now.kept closed) ∙ append-nil c.args.turns.now.items)

pub returns-then-not-must_turn_back-clause-turns : goal.returns-then-not-must_turn_back-clause-turns
returns-then-not-must_turn_back-clause-turns c =
    let vs = vertices c.args.roads.now in
    let w = both-ways c.args.roads.now c.args.v c.requires.vertex in
    let opened = field-at (λ z. z.permitted) vs c.args.v w.0 c.permitted.result w.2 c.permitted.ensures ∙ c.if-not-permitted.false in
    let on = sym c.must_turn_back.ensures ∙ c.if-not-must_turn_back.true in
    subst (λ (l : List (ℕ × ℕ)). OnOk c.push_on.result (c.push_on.new.turns.items ≡ c.args.turns.now.items ++ l))
    (sym (turns-on vs c.args.v w.0 w.1 w.2 w.3 w.4 c.args.restrictions.now.kept opened on)) c.push_on.ensures.turns

pub returns-in_ok-push-clause-turns : goal.returns-in_ok-push-clause-turns
returns-in_ok-push-clause-turns c =
    let vs = vertices c.args.roads.now in
    let v = c.args.v in
    let w = both-ways c.args.roads.now v c.requires.vertex in
    let opened = field-at (λ z. z.permitted) vs v w.0 c.permitted.result w.2 c.permitted.ensures ∙ c.if-not-permitted.false in
    let must = sym c.must_turn_back.ensures ∙ c.if-not-must_turn_back.false in
    let may = sym c.may_turn_back.ensures ∙ c.if-may_turn_back.true in
    let its = turns-back vs v w.0 w.1 w.2 w.3 w.4 c.args.restrictions.now.kept opened must ∙ ap (λ (b : Bool). cond b ((v, opposite v) ∷ []) []) may in
    c.in_ok-push.ensures.items
    ∙ ap (λ (k : ℕ). c.args.turns.now.items ++ (v, k) ∷ []) c.other_way.ensures
    ∙ ap (λ (l : List (ℕ × ℕ)). c.args.turns.now.items ++ l) (sym its)

pub returns-else-may_turn_back-clause-turns : goal.returns-else-may_turn_back-clause-turns
returns-else-may_turn_back-clause-turns c =
    let vs = vertices c.args.roads.now in
    let v = c.args.v in
    let w = both-ways c.args.roads.now v c.requires.vertex in
    let opened = field-at (λ z. z.permitted) vs v w.0 c.permitted.result w.2 c.permitted.ensures ∙ c.if-not-permitted.false in
    let must = sym c.must_turn_back.ensures ∙ c.if-not-must_turn_back.false in
    let may = sym c.may_turn_back.ensures ∙ c.if-may_turn_back.false in
    let its = turns-back vs v w.0 w.1 w.2 w.3 w.4 c.args.restrictions.now.kept opened must ∙ ap (λ (b : Bool). cond b ((v, opposite v) ∷ []) []) may in
    sym (ap (λ (l : List (ℕ × ℕ)). c.args.turns.now.items ++ l) its ∙ append-nil c.args.turns.now.items)

pub index-requires : goal.index-requires
index-requires c = omega (arith, c.requires.counts.as_many, length-vertices c.args.roads.now)

pub must_turn_back-requires-clause-exits : goal.must_turn_back-requires-clause-exits
must_turn_back-requires-clause-exits c =
    let counts = c.args.exits.now.counts.items in
    let lt : c.args.v < length counts = omega (arith, c.requires.counts.as_many, length-vertices c.args.roads.now) in
    c.requires.counts.each c.args.v c.index.result.now (get_is counts c.args.v c.index.result.now lt (sym c.index.ensures))
