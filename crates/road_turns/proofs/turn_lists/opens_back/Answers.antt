use Rattle.std.proofs.Common.{◌≡◌, ℤ, Bool, not, ◌&&◌, arith, rules, sym, ap, ◌∙◌, w64, FitsSigned}
use Rattle.std.specs.Prelude.{option_map}
use Rattle.std.specs.List.{slice_get}
use Rattle.std.proofs.lemmas.Int.{to_z-of_z}
use Rattle.std.proofs.lemmas.Option.{slice_get_within}
use Rattle.road_turns.specs.Restrictions.{is_forbidden_at}
use Rattle.road_segments.specs.Vertex.{opposite, vertices}
use Rattle.road_turns.specs.VertexLaws.{both-ways, field-at}
use Rattle.road_turns.proofs.TurnLemmas.{opens_back-at}
use Rattle.road_segments.specs.Laws.{length-vertices}
use Rattle.road_turns.proofs.turn_lists.opens_back.Goals as goal

pub permitted-requires : goal.permitted-requires
permitted-requires c =
    let w = both-ways c.args.roads.now c.args.v c.requires in
    omega (arith, slice_get_within (vertices c.args.roads.now) (opposite c.args.v) w.1 w.3, length-vertices c.args.roads.now, c.other_way.ensures)

pub returns-else-permitted : goal.returns-else-permitted
returns-else-permitted c =
    let vs = vertices c.args.roads.now in
    let kept = c.args.restrictions.now.kept in
    let w = both-ways c.args.roads.now c.args.v c.requires in
    let its = field-at (λ z. z.permitted) vs (opposite c.args.v) w.1 c.permitted.result w.3 (ap (λ (k : _). option_map (λ z. z.permitted) (slice_get vs k)) (sym c.other_way.ensures) ∙ c.permitted.ensures) ∙ c.if-permitted.false in
    sym (opens_back-at vs c.args.v w.0 w.2 w.1 w.3 kept c.args.back
    ∙ ap (λ (b : Bool). b && not (is_forbidden_at kept w.0.head w.0.way w.1.way c.args.back)) its)

pub returns-then-permitted : goal.returns-then-permitted
returns-then-permitted c =
    let vs = vertices c.args.roads.now in
    let kept = c.args.restrictions.now.kept in
    let w = both-ways c.args.roads.now c.args.v c.requires in
    let its = field-at (λ z. z.permitted) vs (opposite c.args.v) w.1 c.permitted.result w.3 (ap (λ (k : _). option_map (λ z. z.permitted) (slice_get vs k)) (sym c.other_way.ensures) ∙ c.permitted.ensures) ∙ c.if-permitted.true in
    let head = field-at (λ z. z.head) vs c.args.v w.0 c.head.result w.2 c.head.ensures in
    let way = field-at (λ z. z.way) vs c.args.v w.0 c.way-way.result w.2 c.way-way.ensures in
    let fits_head : FitsSigned w64 c.head.result = search rules in
    let fits_way : FitsSigned w64 c.way-way.result = search rules in
    let says : c.forbid_turn.result ≡ is_forbidden_at kept c.head.result c.way-way.result c.way-way.result c.args.back = simp to_z-of_z at c.forbid_turn.ensures in
    let found : c.forbid_turn.result ≡ is_forbidden_at kept w.0.head w.0.way w.1.way c.args.back =
    says
    ∙ ap (λ (n : ℤ). is_forbidden_at kept n c.way-way.result c.way-way.result c.args.back) (sym head)
    ∙ ap (λ (n : ℤ). is_forbidden_at kept w.0.head n n c.args.back) (sym way)
    ∙ ap (λ (n : ℤ). is_forbidden_at kept w.0.head w.0.way n c.args.back) (sym w.5) in
    ap not found
    ∙ sym (opens_back-at vs c.args.v w.0 w.2 w.1 w.3 kept c.args.back
    ∙ ap (λ (b : Bool). b && not (is_forbidden_at kept w.0.head w.0.way w.1.way c.args.back)) its)
