-- What holds of a network of a map.
use Rattle.std.proofs.Common.{◌≡◌, ◌∙◌, ap, sym, refl, length, length-append, map, take, ℕ, zero, suc, ◌+◌, ◌*◌, ◌^◌, ◌<◌, ◌≤◌, Bool, true, false, not, cond, get_or, List, [], ◌∷◌, Option, None, All, Some, arith, subst}
use Rattle.std.specs.Prelude.{MatchOption, count_by, option_map}
use Rattle.std.specs.List.{Contains, slice_get}
use Rattle.std.proofs.lemmas.List.{length-map, length-take-le}
use Rattle.std.proofs.lemmas.List.Sums.{length-filter, sum_by-cons}
use Rattle.std.proofs.lemmas.Option.{same_Some, slice_get-get_or, slice_get_within}
use Rattle.list_lemmas.proofs.Gets.{Contains_get}
use Rattle.road_base.specs.declared.osm_objects.Object.{Object}
use Rattle.search_graph.specs.Digraph.{Digraph, IsArc}
use Rattle.search_graph.specs.Faults.{AllInRange}
use Rattle.way_profile.specs.Vehicle.{ProfileView, IsSpeed}
use Rattle.turn_rules.specs.Rules.{Rule, RulesView, rules_of}
use Rattle.via_paths.specs.Copies.{copies_of}
use Rattle.via_paths.specs.declared.expansion.Copies.{Copies}
use Rattle.via_paths.specs.Forbidden.{last_of}
use Rattle.via_paths.specs.Expansion.{copy_arcs, expanded, expanded_arcs, onward, standing}
use Rattle.via_paths.specs.TurnLaws.{arc-stands, turn-arc}
use Rattle.edge_graph.specs.BuildCause.{IsBuildFault, IsSearchedFault, IsTurnsFault, IsViasFault, IsWithinLimits}
use Rattle.edge_graph.specs.Limits.{most_copies}
use Rattle.road_turns.specs.Limits.{most_turns}
use Rattle.edge_graph.specs.declared.build_faults.BuildFault.{BuildFault}
use Rattle.edge_graph.specs.declared.build_faults.BuildFault.TheVariants.{TooManySegments, TooManyVias, TooManyTurns, Memory}
use Rattle.road_segments.specs.Limits.{most_segments}
use Rattle.edge_graph.specs.NetworkView.{NetworkView, copies_in, graph_of, network_of, network_with, stands}
use Rattle.via_restrictions.specs.ViaWays.{applied_along, forbidden_on, ignored_along}
use Rattle.edge_graph.specs.NetworkParts.{AreArcsOf, AreCopiesByVertex, AreCopiesFor, AreNetworkParts, AreWithin, CopyMap, IsGraphOf, searched, turns_of}
use Rattle.road_turns.specs.Restrictions.{applied_rules, applies}
use Rattle.edge_graph.specs.Sound.{IsSoundNetwork}
use Rattle.road_turns.specs.DepartureParts.{AreDepartures}
use Rattle.road_turns.specs.Fans.{AreExits}
use Rattle.road_turns.specs.Turn.{IsSimple, turns}
use Rattle.road_turns.specs.TurnLaws.{turns-simple}
use Rattle.edge_graph.proofs.RangeLemmas.{turns-in_range}
use Rattle.via_restrictions.specs.ViaWays.{forbids_some}
use Rattle.road_segments.specs.Vertex.{vertices}
use Rattle.road_segments.specs.Segment.{Segment, segments}
use Rattle.edge_graph.specs.GraphLaws.{arc-is-turn, stands-below, turn-in-graph}

-- where each segment's speed is in its range, each vertex's is
pub speed-in_range : (segments : List Segment) (v n : ℕ) → All (λ s. IsSpeed s.street.speed) segments
    → option_map (λ x. x.speed) (slice_get (vertices segments) v) ≡ Some n → IsSpeed n
speed-in_range [] v n all e = cc
speed-in_range (s ∷ segments) zero n all e = subst IsSpeed (same_Some s.street.speed n e) (all 0 s (omega arith))
speed-in_range (s ∷ segments) (suc zero) n all e = subst IsSpeed (same_Some s.street.speed n e) (all 0 s (omega arith))
speed-in_range (s ∷ segments) (suc (suc v)) n all e = speed-in_range segments v n (λ k d h. all (suc k) d (omega arith)) e

-- those that pass a test, and those that do not
count_by-parts : {X : Type 0} (p : X → Bool) (xs : List X) → count_by p xs + count_by (λ x. not (p x)) xs ≡ length xs
count_by-parts p [] = refl
count_by-parts p (x ∷ xs) =
    let yes_ = sum_by-cons (λ y. cond (p y) 1 0) x xs in
    let no_ = sum_by-cons (λ y. cond (not (p y)) 1 0) x xs in
    let rest = count_by-parts p xs in
    elim (p x) as (λ b. (count_by p (x ∷ xs) ≡ cond b 1 0 + count_by p xs) → (count_by (λ y. not (p y)) (x ∷ xs) ≡ cond (not b) 1 0 + count_by (λ y. not (p y)) xs) → count_by p (x ∷ xs) + count_by (λ y. not (p y)) (x ∷ xs) ≡ length (x ∷ xs)) [
      | true ↦ λ a b. omega (arith, a, b, rest)
      | false ↦ λ a b. omega (arith, a, b, rest)
    ] yes_ no_

-- each rule over via ways applies or is ignored
along-counted : (roads : List Segment) (rules : RulesView) → applied_along roads rules + ignored_along roads rules ≡ length rules.along
unfolding applied_along ignored_along
along-counted roads rules = count_by-parts (forbids_some (vertices roads) rules.kept) rules.along

-- the rules that are kept or ignored are as many as before
pub rules-many : (roads : List Segment) (rules : RulesView)
    → length (applied_rules roads rules).kept + length (applied_rules roads rules).along + (applied_rules roads rules).ignored ≡ length rules.kept + length rules.along + rules.ignored
rules-many roads rules = omega (arith, length-filter (applies roads) rules.kept, count_by-parts (applies roads) rules.kept)

-- the turns are those for which the first arcs stand
turns_of-arcs : (n : ℕ) (stands_for : List ℕ) (turns arcs : List (ℕ × ℕ))
    → ((i d e : ℕ) → slice_get turns i ≡ Some (d, e) → (q : ℕ) × (slice_get arcs i ≡ Some (d, q)) × (standing n stands_for q ≡ e))
    → turns_of n (length turns) stands_for arcs ≡ turns
turns_of-arcs n stands_for [] [] stand = refl
turns_of-arcs n stands_for [] (a ∷ arcs) stand = refl
turns_of-arcs n stands_for (t ∷ turns) [] stand = let none = stand 0 t.0 t.1 refl in absurd (omega (arith, slice_get_within [] 0 (t.0, none.0) none.1))
turns_of-arcs n stands_for (t ∷ turns) (a ∷ arcs) stand =
    let first = stand 0 t.0 t.1 refl in
    let same : a ≡ (t.0, first.0) = same_Some a (t.0, first.0) first.1 in
    let head : (a.0, standing n stands_for a.1) ≡ t = ap (λ (b : ℕ × ℕ). (b.0, standing n stands_for b.1)) same ∙ ap (λ (v : ℕ). (t.0, v)) first.2 in
    ap (λ (u : ℕ × ℕ). u ∷ turns_of n (length turns) stands_for arcs) head
    ∙ ap (λ (l : List (ℕ × ℕ)). t ∷ l) (turns_of-arcs n stands_for turns arcs (λ i d e at. stand (suc i) d e at))

pub length-turns_of : (n count : ℕ) (stands_for : List ℕ) (arcs : List (ℕ × ℕ)) → count ≤ length arcs → length (turns_of n count stands_for arcs) ≡ count
length-turns_of n count stands_for arcs le = length-map {A = ℕ × ℕ} {B = ℕ × ℕ} (take count arcs) (λ arc. (arc.0, standing n stands_for arc.1)) ∙ length-take-le count arcs le

-- both vertices of each turn are in range
pub all-below : (n : ℕ) (turns : List (ℕ × ℕ)) → AllInRange n turns → All (λ t. (t.0 < n) × (t.1 < n)) turns
all-below n turns in_range = λ k d lt.
    let t : ℕ × ℕ = get_or turns k d in
    in_range k t.0 t.1 (slice_get-get_or turns k d lt)

-- both vertices of each turn are among the ordinary ones of the copies
pub within-copies : (n : ℕ) (turns : List (ℕ × ℕ)) (forbidden : List (List ℕ)) (copies : Option Copies) → AreCopiesFor n forbidden copies → AllInRange n turns → AreWithin copies turns
within-copies n turns forbidden None are in_range = tt
within-copies n turns forbidden (Some c) are in_range = subst (λ (k : ℕ). All (λ t. (t.0 < k) × (t.1 < k)) turns) (sym are.vertices) (all-below n turns in_range)

-- there are no more vertices than there may be ordinary ones beside copies
pub few-vertices : (segments : List Segment) → length segments ≤ most_segments → 2 * length segments ≤ 2 ^ 25
unfolding most_segments
few-vertices segments few = omega (arith, few)

-- why the parts are refused: for their copies, or, where these are few enough, for their turns or arcs
pub vias-fault : (copies arcs : ℕ) (fault : BuildFault) → IsViasFault copies fault → IsSearchedFault copies arcs fault
vias-fault copies arcs TooManySegments many = absurd many
vias-fault copies arcs TooManyVias many = many
vias-fault copies arcs TooManyTurns many = absurd many
vias-fault copies arcs Memory many = tt

pub turns-fault : (copies turns arcs : ℕ) → copies ≤ most_copies → turns ≤ arcs → (fault : BuildFault) → IsTurnsFault turns fault → IsSearchedFault copies arcs fault
turns-fault copies turns arcs few more TooManySegments many = absurd many
turns-fault copies turns arcs few more TooManyVias many = absurd many
turns-fault copies turns arcs few more TooManyTurns many = (few, omega (arith, more, many))
turns-fault copies turns arcs few more Memory many = tt

-- there are no fewer arcs than turns
pub arcs-more : (n : ℕ) (turns : List (ℕ × ℕ)) (forbidden : List (List ℕ)) → length turns ≤ length (expanded_arcs n forbidden (copies_of forbidden) turns)
arcs-more n turns forbidden =
    let first : List (ℕ × ℕ) = map {A = ℕ × ℕ} {B = ℕ × ℕ} (λ turn. (turn.0, onward n (copies_of forbidden) (turn.0 ∷ []) turn.1)) turns in
    let many : length first ≡ length turns = length-map {A = ℕ × ℕ} {B = ℕ × ℕ} turns (λ turn. (turn.0, onward n (copies_of forbidden) (turn.0 ∷ []) turn.1)) in
    omega (arith, many, length-append first (copy_arcs n forbidden (copies_of forbidden) turns n (copies_of forbidden)))

-- the arcs of a network
module _ (n : ℕ) (turns : List (ℕ × ℕ)) (forbidden : List (List ℕ)) (stands_for : List ℕ) (arcs : List (ℕ × ℕ))
    (long : All (λ s. 3 ≤ length s) forbidden) (in_range : AllInRange n turns) (are : AreArcsOf n turns forbidden stands_for arcs) where
  pub stands-many : length stands_for ≡ length (copies_of forbidden)
  stands-many = ap length are.stand ∙ length-map (copies_of forbidden) last_of

  -- both ends of each are vertices of the searched graph
  pub arcs-in_range : AllInRange (n + length stands_for) arcs
  arcs-in_range i p q at =
      let there : slice_get (expanded_arcs n forbidden (copies_of forbidden) turns) i ≡ Some (p, q) = ap (λ (l : List (ℕ × ℕ)). slice_get l i) (sym are.is) ∙ at in
      let arc : Contains (expanded_arcs n forbidden (copies_of forbidden) turns) (p, q) = Contains_get (expanded_arcs n forbidden (copies_of forbidden) turns) i (p, q) there in
      let its = arc-stands n forbidden (copies_of forbidden) turns long (all-below n turns in_range) p q arc in
      (omega (arith, its.0, stands-many), omega (arith, its.1, stands-many))

  -- the first of them stand for the turns
  pub turns-are : turns_of n (length turns) stands_for arcs ≡ turns
  turns-are =
      ap (λ (l : List ℕ). turns_of n (length turns) l arcs) are.stand
      ∙ ap (turns_of n (length turns) (map last_of (copies_of forbidden))) are.is
      ∙ turns_of-arcs n (map last_of (copies_of forbidden)) turns (expanded_arcs n forbidden (copies_of forbidden) turns)
      (turn-arc n forbidden (copies_of forbidden) turns long (all-below n turns in_range))

  pub turns-few : length turns ≤ length arcs
  turns-few = omega (arith, ap length are.is, arcs-more n turns forbidden)

  -- and the graph of them is the searched one
  pub graph-of_arcs : IsSimple turns → All (λ s. All (λ v. v < n) s) forbidden → (graph : Digraph) → graph.vertices ≡ n + length stands_for → graph.arcs ≡ arcs
      → IsGraphOf n (turns_of n (length turns) stands_for graph.arcs) forbidden stands_for graph
  graph-of_arcs simple ordinary graph wide listed =
      let vertices : graph.vertices ≡ n + length (copies_of forbidden) = omega (arith, wide, stands-many) in
      let is : graph ≡ expanded n forbidden (copies_of forbidden) turns = λ i. record { vertices = vertices i; arcs = (listed ∙ are.is) i } in
      let its : IsGraphOf n turns forbidden stands_for graph = record { is = is; stand = are.stand; simple = simple; in_range = in_range; long = long; ordinary = ordinary } in
      subst (λ (l : List (ℕ × ℕ)). IsGraphOf n l forbidden stands_for graph) (sym (ap (turns_of n (length turns) stands_for) listed ∙ turns-are)) its

-- the parts of a network within the limits
pub parts-are : (roads : List Segment) (rules : List Rule) (counts order : List ℕ) (graph : Digraph) (count : ℕ) (forbidden : List (List ℕ)) (stands_for : List ℕ) (arcs : List (ℕ × ℕ)) (copies : CopyMap)
    → length roads ≤ most_segments → All (λ s. IsSpeed s.street.speed) roads → AreExits (vertices roads) counts → AreDepartures (vertices roads) order
    → All (λ s. 3 ≤ length s) forbidden → All (λ s. All (λ v. v < 2 * length roads) s) forbidden
    → AreArcsOf (2 * length roads) (turns (vertices roads) rules) forbidden stands_for arcs → length (copies_of forbidden) ≤ most_copies
    → graph.vertices ≡ 2 * length roads + length stands_for → graph.arcs ≡ arcs → count ≡ length (turns (vertices roads) rules) → AreCopiesByVertex (2 * length roads) stands_for copies
    → AreNetworkParts roads counts order graph count forbidden stands_for copies
parts-are roads rules counts order graph count forbidden stands_for arcs copies segments speeds exits departures long ordinary are few wide listed counted by_vertex =
    let n : ℕ = 2 * length roads in
    let list : List (ℕ × ℕ) = turns (vertices roads) rules in
    let in_range : AllInRange n list = turns-in_range roads rules in
    let many : length stands_for ≡ length (copies_of forbidden) = stands-many n list forbidden stands_for arcs long in_range are in
    let less : length list ≤ length arcs = turns-few n list forbidden stands_for arcs long in_range are in
    let its : IsGraphOf n (turns_of n (length list) stands_for graph.arcs) forbidden stands_for graph =
    graph-of_arcs n list forbidden stands_for arcs long in_range are (turns-simple (vertices roads) rules) ordinary graph wide listed in
    record {
      few_segments = segments;
      few_copies = omega (arith, few, many);
      few_arcs = omega (arith, are.few, ap length listed);
      speeds = speeds;
      exits = exits;
      departures = departures;
      few_turns = omega (arith, counted, less, ap length listed);
      by_vertex = by_vertex;
      is = subst (λ (k : ℕ). IsGraphOf n (turns_of n k stands_for graph.arcs) forbidden stands_for graph) (sym counted) its;
    }

-- vertices and copies have numbers of 32 bits
pub few-copies : (objects : List Object) (profile : ProfileView) (roads : List Segment) (rules : RulesView) (stands_for : List ℕ) (arcs : List (ℕ × ℕ))
    → roads ≡ segments objects profile → length (segments objects profile) ≤ most_segments → length (copies_of (forbidden_on roads rules)) ≤ most_copies
    → AreArcsOf (2 * length roads) (turns (vertices roads) rules.kept) (forbidden_on roads rules) stands_for arcs
    → 2 * length roads + length stands_for < 2 ^ 32
unfolding most_copies most_segments
few-copies objects profile roads rules stands_for arcs is segments few are =
    omega (arith, segments, few, ap length is, ap length are.stand, length-map (copies_of (forbidden_on roads rules)) last_of)

-- the network of a map
module _ (objects : List Object) (profile : ProfileView) (roads : List Segment) (rules : RulesView)
    (is : roads ≡ segments objects profile) (under : rules ≡ applied_rules roads (rules_of objects profile.vehicle)) where
  network-same : network_with roads rules profile ≡ network_of objects profile
  network-same =
      ap (λ (r : RulesView). network_with roads r profile) under
      ∙ ap (λ (s : List Segment). network_with s (applied_rules s (rules_of objects profile.vehicle)) profile) is

  few-roads : length (segments objects profile) ≤ most_segments → length roads ≤ most_segments
  few-roads few = omega (arith, few, ap length is)

  pub limits-of_map : length (segments objects profile) ≤ most_segments → length (copies_of (forbidden_on roads rules)) ≤ most_copies → length (searched roads rules).arcs ≤ most_turns
      → IsWithinLimits (network_of objects profile)
  unfolding graph_of
  limits-of_map segments copies arcs =
      let its : IsWithinLimits (network_with roads rules profile) = record { segments = few-roads segments; copies = copies; turns = arcs } in
      subst IsWithinLimits network-same its

  fault-with : length roads ≤ most_segments → (fault : BuildFault) → IsSearchedFault (length (copies_of (forbidden_on roads rules))) (length (searched roads rules).arcs) fault
      → IsBuildFault (network_with roads rules profile) fault
  unfolding graph_of
  fault-with segments TooManySegments many = absurd many
  fault-with segments TooManyVias many = (segments, many)
  fault-with segments TooManyTurns many = (segments, many.0, many.1)
  fault-with segments Memory many = tt

  pub fault-of_map : length (segments objects profile) ≤ most_segments → (fault : BuildFault)
      → IsSearchedFault (length (copies_of (forbidden_on roads rules))) (length (searched roads rules).arcs) fault → IsBuildFault (network_of objects profile) fault
  fault-of_map segments fault many = subst (λ (n : NetworkView). IsBuildFault n fault) network-same (fault-with (few-roads segments) fault many)

  -- a network of these parts
  pub network-is : (profile' : ProfileView) (list : List (ℕ × ℕ)) (forbidden : List (List ℕ)) (applied ignored : ℕ) → list ≡ turns (vertices roads) rules.kept
      → forbidden ≡ forbidden_on roads rules → profile' ≡ profile → applied ≡ length rules.kept + applied_along roads rules → ignored + applied_along roads rules ≡ rules.ignored + length rules.along
      → (let network : NetworkView = record { segments = roads; turns = list; forbidden = forbidden; profile = profile'; applied = applied; ignored = ignored } in network) ≡ network_of objects profile
  network-is profile' list forbidden applied ignored listed worded same counted left_out =
      let others : ignored ≡ rules.ignored + ignored_along roads rules = omega (arith, left_out, along-counted roads rules) in
      (λ i. record { segments = roads; turns = listed i; forbidden = worded i; profile = same i; applied = counted i; ignored = others i }) ∙ network-same

-- what the graph of a network tells of it
module _ (network : NetworkView) (graph : Digraph) (stands_for : List ℕ)
    (its : IsGraphOf (2 * length network.segments) network.turns network.forbidden stands_for graph) where
  pub graph-is : graph ≡ graph_of network
  unfolding graph_of
  graph-is = its.is

  pub sound-is : IsSoundNetwork network
  sound-is = record { simple = its.simple; in_range = its.in_range; long = its.long; ordinary = its.ordinary }

  pub copies-many : length stands_for ≡ length (copies_in network)
  copies-many = ap length its.stand ∙ length-map (copies_in network) last_of

  pub limits-is : length network.segments ≤ most_segments → length stands_for ≤ most_copies → length graph.arcs ≤ most_turns → IsWithinLimits network
  limits-is segments few arcs = record {
    segments = segments;
    copies = omega (arith, few, copies-many);
    turns = omega (arith, arcs, ap (λ (g : Digraph). length g.arcs) graph-is);
  }

  module _ (n : ℕ) (list : List ℕ) (many : n ≡ 2 * length network.segments) (same : list ≡ stands_for) where
    stands-at : (q : ℕ) → standing n list q ≡ stands network q
    stands-at q =
        ap (λ (k : ℕ). standing k list q) many
        ∙ ap (λ (l : List ℕ). standing (2 * length network.segments) l q) (same ∙ its.stand)

    pub stood-below : (q v : ℕ) → q < (graph_of network).vertices → v ≡ standing n list q → v < 2 * length network.segments
    stood-below q v lt is = subst (λ (k : ℕ). k < 2 * length network.segments) (sym (is ∙ stands-at q)) (stands-below network sound-is q lt)

    -- what is found by the vertices that heads stand for is the turn
    pub turn-found : (d e : ℕ) → d < 2 * length network.segments → (r : Option ℕ)
        → MatchOption r ((i q : ℕ) → IsArc graph i d q → ¬ (standing n list q ≡ e)) (λ i. (q : ℕ) × IsArc graph i d q × (standing n list q ≡ e))
        → MatchOption r ((i : ℕ) → ¬ (slice_get network.turns i ≡ Some (d, e))) (λ i. slice_get network.turns i ≡ Some (d, e))
    turn-found d e lt None none = λ i at.
        let arc = turn-in-graph network sound-is i d e at in
        let leads : IsArc graph i d arc.0 = subst (λ (g : Digraph). IsArc g i d arc.0) (sym graph-is) arc.1 in
        none i arc.0 leads (stands-at arc.0 ∙ arc.2)
    turn-found d e lt (Some i) some =
        let leads : IsArc (graph_of network) i d some.0 = subst (λ (g : Digraph). IsArc g i d some.0) graph-is some.1 in
        arc-is-turn network sound-is i d some.0 lt leads ∙ ap (λ (v : ℕ). Some (d, v)) (sym (stands-at some.0) ∙ some.2)
