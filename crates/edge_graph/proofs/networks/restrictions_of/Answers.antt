use Rattle.std.proofs.Common.{◌≡◌, ◌+◌, ◌^◌, ◌<◌, List, length, arith, rules, ap, ◌∙◌}
use Rattle.std.proofs.lemmas.Result.{IfOk-weaker}
use Rattle.turn_rules.specs.Rules.{RulesView, rules_of}
use Rattle.road_turns.specs.Restrictions.{applied_rules}
use Rattle.edge_graph.proofs.NetworkLemmas.{rules-many}
use Rattle.road_segments.specs.Segment.{Segment}
use Rattle.edge_graph.proofs.networks.restrictions_of.Goals as goal

pub returns-clause-value : goal.returns-clause-value
returns-clause-value c =
    let segments = c.args.roads.now in
    let objects = c.args.objects.now in
    let its = c.in_ok-stated.ensures.value ∙ ap (rules_of objects) c.vehicle.ensures in
    IfOk-weaker c.of.result (λ r. r ≡ applied_rules segments c.in_ok-stated.stated) (λ r. r ≡ applied_rules segments (rules_of objects c.args.profile.now.vehicle))
    (λ r e. e ∙ ap (applied_rules segments) its) c.of.ensures

pub returns-clause-few : goal.returns-clause-few
returns-clause-few c =
    let segments : List Segment = c.args.roads.now in
    let stated : RulesView = c.in_ok-stated.stated in
    let bound : length c.args.objects.now < 2 ^ 64 = search rules in
    IfOk-weaker c.of.result (λ r. r ≡ applied_rules segments stated) (λ r. length r.kept + length r.along + r.ignored < 2 ^ 64)
    (λ r e. omega (arith, rules-many segments stated, ap (λ (v : RulesView). length v.kept) e, ap (λ (v : RulesView). length v.along) e, ap (λ (v : RulesView). v.ignored) e, c.in_ok-stated.ensures.few, bound))
    c.of.ensures
