use Rattle.std.proofs.Common.{◌≡◌, ℕ, ◌+◌, ◌*◌, ◌<◌, ◌≤◌, ◌^◌, List, length, All, arith, rules, sym, ap, subst, ◌∙◌}
use Rattle.search_graph.specs.Faults.{AllInRange}
use Rattle.turn_rules.specs.Rules.{RulesView}
use Rattle.way_profile.specs.Vehicle.{IsSpeed}
use Rattle.road_segments.specs.Limits.{most_segments}
use Rattle.road_segments.specs.Segment.{Segment}
use Rattle.road_segments.specs.Vertex.{vertices}
use Rattle.edge_graph.specs.BuildCause.{IsBuildFault}
use Rattle.road_turns.specs.Limits.{most_turns}
use Rattle.edge_graph.specs.NetworkParts.{AreCopiesByVertex, AreNetworkParts, searched, turns_of}
use Rattle.edge_graph.specs.NetworkView.{network_of}
use Rattle.via_restrictions.specs.ViaWays.{forbidden_on}
use Rattle.road_turns.specs.Turn.{turns}
use Rattle.via_paths.specs.Forbidden.{words_in}
use Rattle.via_paths.specs.GroupLaws.{words-below, words-long}
use Rattle.edge_graph.proofs.NetworkLemmas.{arcs-in_range, fault-of_map, few-copies, limits-of_map, network-is, parts-are, turns-are}
use Rattle.edge_graph.proofs.RangeLemmas.{turns-in_range}
use Rattle.edge_graph.proofs.networks.Network.build.Goals as goal

pub returns-in_err-exits-clause-err : goal.returns-in_err-exits-clause-err
returns-in_err-exits-clause-err c =
    let cause : IsBuildFault (network_of c.args.objects.now c.args.profile.now) c.in_err-exits.field-0.0 =
    fault-of_map c.args.objects.now c.args.profile.now c.in_ok-roads.roads c.in_ok-restrictions.restrictions c.in_ok-roads.ensures.ok c.in_ok-restrictions.ensures.value c.in_ok-roads.ensures.few c.in_err-exits.field-0.0 c.in_err-exits.ensures.err in
    search rules

pub copies_by_vertex-requires : goal.copies_by_vertex-requires
copies_by_vertex-requires c =
    let roads : List Segment = c.in_ok-roads.roads in
    let stands_for : List ℕ = c.in_ok-exits.field-0.arcs.stands_for.items in
    let many : 2 * length roads + length stands_for < 2 ^ 32 =
    few-copies c.args.objects.now c.args.profile.now roads c.in_ok-restrictions.restrictions stands_for c.in_ok-exits.field-0.arcs.list.items c.in_ok-roads.ensures.ok c.in_ok-roads.ensures.few c.in_ok-exits.ensures.few_copies c.in_ok-exits.ensures.arcs in
    omega (arith, many, c.len-ordinary.ensures.value, ap length c.deref.ensures.value)

pub overflow_cast-vertices : goal.overflow_cast-vertices
overflow_cast-vertices c =
    let many : 2 * length c.in_ok-roads.roads + length c.in_ok-exits.field-0.arcs.stands_for.items < 2 ^ 32 =
    few-copies c.args.objects.now c.args.profile.now c.in_ok-roads.roads c.in_ok-restrictions.restrictions c.in_ok-exits.field-0.arcs.stands_for.items c.in_ok-exits.field-0.arcs.list.items c.in_ok-roads.ensures.ok c.in_ok-roads.ensures.few c.in_ok-exits.ensures.few_copies c.in_ok-exits.ensures.arcs in
    omega (arith, many, c.len.ensures, c.in_ok-exits.field-0.arcs.stands_for.ok.0)

pub overflow_add-vertices : goal.overflow_add-vertices
overflow_add-vertices c =
    let many : 2 * length c.in_ok-roads.roads + length c.in_ok-exits.field-0.arcs.stands_for.items < 2 ^ 32 =
    few-copies c.args.objects.now c.args.profile.now c.in_ok-roads.roads c.in_ok-restrictions.restrictions c.in_ok-exits.field-0.arcs.stands_for.items c.in_ok-exits.field-0.arcs.list.items c.in_ok-roads.ensures.ok c.in_ok-roads.ensures.few c.in_ok-exits.ensures.few_copies c.in_ok-exits.ensures.arcs in
    omega (arith, many, c.len-ordinary.ensures.value, c.len.ensures, c.in_ok-exits.field-0.arcs.stands_for.ok.0)

pub searched_graph-requires-clause-in_range : goal.searched_graph-requires-clause-in_range
searched_graph-requires-clause-in_range c =
    let roads : List Segment = c.in_ok-roads.roads in
    let rules : RulesView = c.in_ok-restrictions.restrictions in
    let n : ℕ = 2 * length roads in
    let groups = c.in_ok-exits.field-0.found.groups.items in
    let arcs : List (ℕ × ℕ) = c.in_ok-exits.field-0.arcs.list.items in
    let stands_for : List ℕ = c.in_ok-exits.field-0.arcs.stands_for.items in
    let long : All (λ s. 3 ≤ length s) (forbidden_on roads rules) = subst (λ (l : List (List ℕ)). All (λ s. 3 ≤ length s) l) c.in_ok-exits.ensures.words (words-long groups c.in_ok-exits.ensures.paths) in
    let range : AllInRange (n + length stands_for) arcs =
    arcs-in_range n (turns (vertices roads) rules.kept) (forbidden_on roads rules) stands_for arcs long (turns-in_range roads rules.kept) c.in_ok-exits.ensures.arcs in
    let many : n + length stands_for ≡ 2 * c.len-ordinary.result + c.len.result = omega (arith, c.len-ordinary.ensures.value, c.len.ensures, c.in_ok-exits.field-0.arcs.stands_for.ok.0) in
    subst (λ (k : ℕ). AllInRange k arcs) many range

pub invariant_of-result : goal.invariant_of-result
invariant_of-result c =
    let roads : List Segment = c.in_ok-roads.roads in
    let rules : RulesView = c.in_ok-restrictions.restrictions in
    let n : ℕ = 2 * length roads in
    let groups = c.in_ok-exits.field-0.found.groups.items in
    let arcs : List (ℕ × ℕ) = c.in_ok-exits.field-0.arcs.list.items in
    let stands_for : List ℕ = c.in_ok-exits.field-0.arcs.stands_for.items in
    let copies = c.in_ok-copies.copies in
    let words : List (List ℕ) = words_in groups in
    let speeds : All (λ s. IsSpeed s.street.speed) roads = subst (λ (l : List Segment). All (λ s. IsSpeed s.street.speed) l) (sym c.in_ok-roads.ensures.ok) c.in_ok-roads.ensures.speeds in
    let segments : length roads ≤ most_segments = omega (arith, ap length c.in_ok-roads.ensures.ok, c.in_ok-roads.ensures.few) in
    let wide : c.in-Ok.graph.vertices ≡ n + length stands_for = omega (arith, c.in-Ok.ensures.vertices, c.len-ordinary.ensures.value, c.len.ensures, c.in_ok-exits.field-0.arcs.stands_for.ok.0) in
    let listed : AreCopiesByVertex (2 * c.len-ordinary.result) stands_for copies = subst (λ (l : List ℕ). AreCopiesByVertex (2 * c.len-ordinary.result) l copies) c.deref.ensures.value c.in_ok-copies.ensures in
    let by_vertex : AreCopiesByVertex n stands_for copies = subst (λ (k : ℕ). AreCopiesByVertex (2 * k) stands_for copies) c.len-ordinary.ensures.value listed in
    let below : All (λ s. All (λ v. v < n) s) (forbidden_on roads rules) = subst (λ (l : List (List ℕ)). All (λ s. All (λ v. v < n) s) l) c.in_ok-exits.ensures.words (words-below n groups c.in_ok-exits.ensures.below) in
    let long : All (λ s. 3 ≤ length s) (forbidden_on roads rules) = subst (λ (l : List (List ℕ)). All (λ s. 3 ≤ length s) l) c.in_ok-exits.ensures.words (words-long groups c.in_ok-exits.ensures.paths) in
    let parts : AreNetworkParts roads c.in_ok-exits.field-0.exits.items c.in_ok-departures.departures.order.items c.in-Ok.graph c.in_ok-exits.field-0.turns (forbidden_on roads rules) stands_for copies =
    parts-are roads rules.kept c.in_ok-exits.field-0.exits.items c.in_ok-departures.departures.order.items c.in-Ok.graph c.in_ok-exits.field-0.turns (forbidden_on roads rules) stands_for arcs copies
    segments speeds c.in_ok-exits.ensures.exits c.in_ok-departures.ensures long below c.in_ok-exits.ensures.arcs c.in_ok-exits.ensures.few_copies wide c.in-Ok.ensures.arcs c.in_ok-exits.ensures.turns by_vertex in
    subst (λ (l : List (List ℕ)). AreNetworkParts roads c.in_ok-exits.field-0.exits.items c.in_ok-departures.departures.order.items c.in-Ok.graph c.in_ok-exits.field-0.turns l stands_for copies) (sym c.in_ok-exits.ensures.words) parts

pub returns-clause-ok : goal.returns-clause-ok
returns-clause-ok c =
    let roads : List Segment = c.in_ok-roads.roads in
    let rules : RulesView = c.in_ok-restrictions.restrictions in
    let n : ℕ = 2 * length roads in
    let groups = c.in_ok-exits.field-0.found.groups.items in
    let list : List (ℕ × ℕ) = turns (vertices roads) rules.kept in
    let arcs : List (ℕ × ℕ) = c.in_ok-exits.field-0.arcs.list.items in
    let stands_for : List ℕ = c.in_ok-exits.field-0.arcs.stands_for.items in
    let long : All (λ s. 3 ≤ length s) (forbidden_on roads rules) = subst (λ (l : List (List ℕ)). All (λ s. 3 ≤ length s) l) c.in_ok-exits.ensures.words (words-long groups c.in_ok-exits.ensures.paths) in
    let same : turns_of n c.in_ok-exits.field-0.turns stands_for c.in-Ok.graph.arcs ≡ list =
    ap (λ (k : ℕ). turns_of n k stands_for c.in-Ok.graph.arcs) c.in_ok-exits.ensures.turns
    ∙ ap (λ (l : List (ℕ × ℕ)). turns_of n (length list) stands_for l) c.in-Ok.ensures.arcs
    ∙ turns-are n list (forbidden_on roads rules) stands_for arcs long (turns-in_range roads rules.kept) c.in_ok-exits.ensures.arcs in
    let applied = c.counts_of-applied.ensures.applied ∙ ap (λ (k : ℕ). length rules.kept + k) c.in_ok-exits.ensures.applied in
    let ignored = ap (λ (k : ℕ). c.counts_of-applied.result.1 + k) (sym c.in_ok-exits.ensures.applied) ∙ c.counts_of-applied.ensures.ignored in
    network-is c.args.objects.now c.args.profile.now roads rules c.in_ok-roads.ensures.ok c.in_ok-restrictions.ensures.value c.in_ok-profile.profile
    (turns_of n c.in_ok-exits.field-0.turns stands_for c.in-Ok.graph.arcs) (words_in groups) c.counts_of-applied.result.0 c.counts_of-applied.result.1
    same c.in_ok-exits.ensures.words c.in_ok-profile.ensures applied ignored

pub returns-clause-limits : goal.returns-clause-limits
returns-clause-limits c =
    let roads : List Segment = c.in_ok-roads.roads in
    let rules : RulesView = c.in_ok-restrictions.restrictions in
    let arcs : length (searched roads rules).arcs ≤ most_turns = omega (arith, c.in_ok-exits.ensures.arcs.few, ap length c.in_ok-exits.ensures.arcs.is) in
    limits-of_map c.args.objects.now c.args.profile.now roads rules c.in_ok-roads.ensures.ok c.in_ok-restrictions.ensures.value c.in_ok-roads.ensures.few c.in_ok-exits.ensures.few_copies arcs
