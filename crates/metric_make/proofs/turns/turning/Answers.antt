use Rattle.std.proofs.Common.{◌≡◌, ◌≢◌, ℕ, ◌<◌, false, length, get_or, arith, sym, ap, subst, ◌∙◌}
use Rattle.std.proofs.lemmas.List.{length-map}
use Rattle.list_lemmas.proofs.Gets.{get_some}
use Rattle.geo_integer.specs.Bearing.{modifier_of}
use Rattle.edge_graph.specs.NetworkView.{vertices_of}
use Rattle.road_segments.specs.Vertex.{opposite}
use Rattle.road_segments.specs.Laws.{length-vertices}
use Rattle.metric_make.specs.MetricOf.{bearing_along}
use Rattle.metric_make.proofs.CostLemmas.{bearing-bound, bearing-read, turning-along, turning-back, turning-bend}
use Rattle.way_profile.specs.Vehicle.{penalty_of}
use Rattle.metric_make.proofs.turns.turning.Goals as goal

pub returns-then-to-other_way-clause-value : goal.returns-then-to-other_way-clause-value
returns-then-to-other_way-clause-value c =
    let vs = vertices_of c.args.network.now in
    let d = get_some vs c.args.from (omega (arith, length-vertices c.args.network.now.segments, c.requires.from)) in
    let e = get_some vs c.args.to (omega (arith, length-vertices c.args.network.now.segments, c.requires.to)) in
    let same : c.args.to ≡ opposite c.args.from = c.if-to-other_way.true ∙ c.other_way.ensures in
    c.u_turn.ensures.value ∙ ap (λ p. p.u_turn_penalty) c.profile.ensures ∙ sym (turning-back c.args.network.now c.args.from c.args.to d.0 e.0 d.1 e.1 same)

pub returns-then-exits-lt2-clause-value : goal.returns-then-exits-lt2-clause-value
returns-then-exits-lt2-clause-value c =
    let vs = vertices_of c.args.network.now in
    let d = get_some vs c.args.from (omega (arith, length-vertices c.args.network.now.segments, c.requires.from)) in
    let e = get_some vs c.args.to (omega (arith, length-vertices c.args.network.now.segments, c.requires.to)) in
    let apart : c.args.to ≢ opposite c.args.from = λ same. c.if-to-other_way.false (same ∙ sym c.other_way.ensures) in
    sym (turning-along c.args.network.now c.args.from c.args.to d.0 e.0 d.1 e.1 apart (omega (arith, c.exits.ensures)))

pub bounds-bearings-from : goal.bounds-bearings-from
bounds-bearings-from c =
    omega (arith, ap length c.requires.bearings, length-map (vertices_of c.args.network.now) bearing_along, length-vertices c.args.network.now.segments, c.requires.from)

pub bounds-bearings-to : goal.bounds-bearings-to
bounds-bearings-to c =
    omega (arith, ap length c.requires.bearings, length-map (vertices_of c.args.network.now) bearing_along, length-vertices c.args.network.now.segments, c.requires.to)

pub modifier-bend-requires-clause-before_in_range : goal.modifier-bend-requires-clause-before_in_range
modifier-bend-requires-clause-before_in_range c =
    let vs = vertices_of c.args.network.now in
    let d = get_some vs c.args.from (omega (arith, length-vertices c.args.network.now.segments, c.requires.from)) in
    let e = get_some vs c.args.to (omega (arith, length-vertices c.args.network.now.segments, c.requires.to)) in
    subst (λ (n : ℕ). n < 360) (sym (bearing-read vs c.args.bearings.now c.args.from d.0 c.requires.bearings d.1)) (bearing-bound d.0)

pub modifier-bend-requires-clause-after_in_range : goal.modifier-bend-requires-clause-after_in_range
modifier-bend-requires-clause-after_in_range c =
    let vs = vertices_of c.args.network.now in
    let d = get_some vs c.args.from (omega (arith, length-vertices c.args.network.now.segments, c.requires.from)) in
    let e = get_some vs c.args.to (omega (arith, length-vertices c.args.network.now.segments, c.requires.to)) in
    subst (λ (n : ℕ). n < 360) (sym (bearing-read vs c.args.bearings.now c.args.to e.0 c.requires.bearings e.1)) (bearing-bound e.0)

pub returns-clause-value : goal.returns-clause-value
returns-clause-value c =
    let vs = vertices_of c.args.network.now in
    let d = get_some vs c.args.from (omega (arith, length-vertices c.args.network.now.segments, c.requires.from)) in
    let e = get_some vs c.args.to (omega (arith, length-vertices c.args.network.now.segments, c.requires.to)) in
    let apart : c.args.to ≢ opposite c.args.from = λ same. c.if-to-other_way.false (same ∙ sym c.other_way.ensures) in
    let before = bearing-read vs c.args.bearings.now c.args.from d.0 c.requires.bearings d.1 in
    let after = bearing-read vs c.args.bearings.now c.args.to e.0 c.requires.bearings e.1 in
    c.penalty.ensures.value
    ∙ ap (λ p. penalty_of p c.modifier-bend.result) c.profile-2.ensures
    ∙ ap (penalty_of c.args.network.now.profile)
    (c.modifier-bend.ensures
    ∙ ap (λ (n : ℕ). modifier_of n (get_or c.args.bearings.now c.args.to 0) false) before
    ∙ ap (λ (n : ℕ). modifier_of (bearing_along d.0) n false) after)
    ∙ sym (turning-bend c.args.network.now c.args.from c.args.to d.0 e.0 d.1 e.1 apart (omega (arith, c.exits.ensures)))
