-- Walks through places and chains of states through the tables of their legs: each walk through the places, behind any walk
-- that is in the first state, comes through a chain of states that is no dearer, and each chain has such a walk of its cost.
use Rattle.std.proofs.Common.{◌≡◌, ℕ, zero, suc, ◌+◌, ◌-◌, ◌*◌, ◌<◌, ◌≤◌, List, [], ◌∷◌, ◌++◌, Some, length, take, drop, length-append, length-drop, add-one, arith, refl, sym, subst, ap, ◌∙◌}
use Rattle.std.specs.List.{slice_get}
use Rattle.std.proofs.lemmas.Option.{none-some, same_Some}
use Rattle.std.proofs.lemmas.Slice.Zip.{length-zip}
use Rattle.list_lemmas.proofs.Fronts.{all_zip-length}
use Rattle.list_lemmas.proofs.Gets.{Contains_get, get_Contains}
use Rattle.road_base.specs.declared.segments.Place.{Place}
use Rattle.search_graph.specs.declared.costs.WeightDurLen.{WeightDurLen}
use Rattle.search_graph.specs.Costs.{NoDearer}
use Rattle.search_graph.specs.OrderLaws.{le_refl, le_trans, plus_le, plus_le_left}
use Rattle.search_graph.specs.RoadCosts.{road_cost_laws, road_cost_ops}
use Rattle.edge_graph.specs.NetworkView.{copies_in, stands}
use Rattle.edge_graph.specs.Sound.{IsSoundNetwork}
use Rattle.metric_make.specs.MetricOf.{AreAlike}
use Rattle.metric_make.specs.RoadMetric.{RoadMetric}
use Rattle.road_places.specs.Places.{ArePlacesOn, IsPlaceOn}
use Rattle.road_places.specs.declared.walks.Route.{Route}
use Rattle.road_walks.specs.Between.{IsPermittedBetween, states_of}
use Rattle.road_walks.specs.Legs.{AreAlong, IsAlongLeg, legs_of}
use Rattle.road_walks.specs.StateLaws.{IsInState, behind-append, behind-free, behind-rest, between-goes-on, goes-on-between, in-last, permitted-begins, some-walk}
use Rattle.through_query.specs.Chains.{HasChain, IsBrokenAt, IsLeastChain, chain_cost, leg_cost}
use Rattle.through_query.specs.ChainLaws.{both_are, both_some}
use Rattle.through_query.specs.declared.legs.LegCosts.{LegCosts}
use Rattle.via_paths.specs.Expansion.{word_of}
use Rattle.via_paths.specs.Forbidden.{IsFree, IsFreeBehind}
use Rattle.via_paths.specs.WordLaws.{behind-front, behind-nil, free-behind}
use Rattle.road_through.specs.States.{AreRoutesBy, AreTables, HasRoutesBy, IsTableOf}
use Rattle.road_through.specs.Through.{AreJoined, BeginsWith, HasThrough, IsBrokenThrough, IsLeastThrough, IsThrough, cost_of_all, walks_behind}
use Rattle.road_through.proofs.EndLemmas.{BeginWith, begin-behind, joined-behind, joined-from, joined-more}
use Rattle.road_through.proofs.TableLemmas.{cost-route, route-cost, walk-cost}

-- sums of what is no dearer are no dearer
plus-no_dearer : (a b c d : WeightDurLen) → NoDearer road_cost_ops a b → NoDearer road_cost_ops c d → NoDearer road_cost_ops (road_cost_ops.plus a c) (road_cost_ops.plus b d)
plus-no_dearer a b c d h k = le_trans road_cost_laws (road_cost_ops.plus a c) (road_cost_ops.plus b c) (road_cost_ops.plus b d) (plus_le road_cost_laws a b c tt tt tt h) (plus_le_left road_cost_laws c d b tt tt tt k)

two-more : (i : ℕ) → suc (suc i) ≡ i + 2
two-more i = omega arith

-- as many tables as legs
pub tables-count : (road : RoadMetric) (places : List Place) (tables : List LegCosts) → AreTables road places tables → length tables ≡ length places - 1
tables-count road places tables h =
    let same = all_zip-length (IsTableOf road) (legs_of places) tables h in
    let e = length-zip places (drop 1 places) in
    let f = length-drop 1 places in
    omega (arith, same, e, f)

-- from state x on a chain goes through the legs that costs no more than this
record HasChainFrom (tables : List LegCosts) (x : ℕ) (most : WeightDurLen) : Type 0 where
  states : List ℕ
  cost : WeightDurLen
  costs : chain_cost tables (x ∷ states) ≡ Some cost
  within : NoDearer road_cost_ops cost most

-- the routes are one walk through the places that goes on behind `before` from vertex v, and cost this together
record AreThroughBehind (road : RoadMetric) (p : Place) (places : List Place) (before : List ℕ) (v : ℕ) (routes : List Route) (cost : WeightDurLen) : Type 0 where
  along : AreAlong road (p ∷ places) routes
  joined : AreJoined routes
  begins : BeginWith v routes
  behind : IsFreeBehind road.network.forbidden before (walks_behind routes)
  is_cost : cost_of_all routes ≡ cost

module _ (road : RoadMetric) (sound : IsSoundNetwork road.network) (alike : AreAlike road.network road.weights) where
  abbrev vertex_of : ℕ → ℕ
  vertex_of d = stands road.network d

  -- the states through which a walk through the places comes are a chain that is no dearer
  chain-from : (p : Place) (places : List Place) (tables : List LegCosts) (routes : List Route) (before : List ℕ) (x d : ℕ) → slice_get (states_of road.network p) x ≡ Some d → IsInState road.network before d
      → AreTables road (p ∷ places) tables → AreAlong road (p ∷ places) routes → AreJoined routes → BeginWith (vertex_of d) routes → IsFreeBehind road.network.forbidden before (walks_behind routes)
      → HasChainFrom tables x (cost_of_all routes)
  chain-from p [] [] [] before x d at state tables along joined begins behind = record {
    states = [];
    cost = road_cost_ops.zero;
    costs = refl;
    within = le_refl road_cost_laws road_cost_ops.zero;
  }
  chain-from p [] [] (route ∷ routes) before x d at state tables along joined begins behind = absurd along
  chain-from p [] (table ∷ more) routes before x d at state tables along joined begins behind = absurd tables
  chain-from p (q ∷ places) [] routes before x d at state tables along joined begins behind = absurd tables
  chain-from p (q ∷ places) (table ∷ more) [] before x d at state tables along joined begins behind = absurd along
  chain-from p (q ∷ places) (table ∷ more) (route ∷ routes) before x d at state tables along joined begins behind =
      let forbidden = road.network.forbidden in
      let own = drop 1 route.walk in
      let here : IsFreeBehind forbidden before own = behind-front forbidden before own (walks_behind routes) behind in
      let leads = goes-on-between road sound alike p q before d route.walk begins.0 route.cost state along.0 begins.1 here in
      let e = leads.state in
      let on = between-goes-on road sound alike p q before d e route.walk route.cost state leads.leads in
      let there = get_Contains (states_of road.network q) e leads.is_state in
      let y = there.0 in
      let first = walk-cost road (p, q) table tables.0 x y d e at there.1 route.walk route.cost leads.leads in
      let rest = chain-from q places more routes (before ++ own) y e there.1 on.state tables.1 along.1 (joined-behind route routes joined) (begin-behind (vertex_of e) route on.ends routes joined)
      (behind-rest forbidden before own (walks_behind routes) behind) in
      record {
        states = y ∷ rest.states;
        cost = road_cost_ops.plus first.0 rest.cost;
        costs = both_are (leg_cost table x y) (chain_cost more (y ∷ rest.states)) first.0 rest.cost first.1 rest.costs;
        within = plus-no_dearer first.0 route.cost rest.cost (cost_of_all routes) first.2 rest.within;
      }

  -- routes by the states of a chain are there
  routes-from : (p : Place) (places : List Place) (tables : List LegCosts) (x : ℕ) (states : List ℕ) (d : WeightDurLen) → AreTables road (p ∷ places) tables → chain_cost tables (x ∷ states) ≡ Some d
      → HasRoutesBy road (p ∷ places) (x ∷ states)
  routes-from p [] tables x states d h e = ([], tt)
  routes-from p (q ∷ places) [] x states d h e = absurd h
  routes-from p (q ∷ places) (table ∷ more) x [] d h e = absurd (none-some d e)
  routes-from p (q ∷ places) (table ∷ more) x (y ∷ states) d h e =
      let parts = both_some (leg_cost table x y) (chain_cost more (y ∷ states)) d e in
      let first = cost-route road (p, q) table h.0 x y parts.0 parts.2 in
      let rest = routes-from q places more y states parts.1 h.1 parts.3 in
      (first.0 ∷ rest.0, (first.1, rest.1))

  -- and they are one walk through the places, behind one that is in the chain's first state, that costs as much as the chain
  through-from : (p : Place) (places : List Place) (tables : List LegCosts) (before : List ℕ) (x d : ℕ) (states : List ℕ) (routes : List Route) (c : WeightDurLen) → slice_get (states_of road.network p) x ≡ Some d
      → IsInState road.network before d → AreTables road (p ∷ places) tables → chain_cost tables (x ∷ states) ≡ Some c → AreRoutesBy road (p ∷ places) (x ∷ states) routes
      → AreThroughBehind road p places before (vertex_of d) routes c
  through-from p [] [] before x d [] [] c at state h e by = record { along = tt; joined = tt; begins = tt; behind = behind-nil road.network.forbidden before; is_cost = same_Some road_cost_ops.zero c e }
  through-from p [] [] before x d (y ∷ states) [] c at state h e by = absurd (none-some c e)
  through-from p [] [] before x d [] (route ∷ routes) c at state h e by = absurd by
  through-from p [] [] before x d (y ∷ states) (route ∷ routes) c at state h e by = absurd by
  through-from p [] (table ∷ more) before x d states routes c at state h e by = absurd h
  through-from p (q ∷ places) [] before x d states routes c at state h e by = absurd h
  through-from p (q ∷ places) (table ∷ more) before x d [] routes c at state h e by = absurd (none-some c e)
  through-from p (q ∷ places) (table ∷ more) before x d (y ∷ states) [] c at state h e by = absurd by
  through-from p (q ∷ places) (table ∷ more) before x d (y ∷ states) (route ∷ routes) c at state h e by =
      let parts = both_some (leg_cost table x y) (chain_cost more (y ∷ states)) c e in
      let own = drop 1 route.walk in
      let start : by.0.start ≡ d = same_Some by.0.start d (sym by.0.first ∙ at) in
      let leads : IsPermittedBetween road p q d by.0.end route.walk route.cost = subst (λ (u : ℕ). IsPermittedBetween road p q u by.0.end route.walk route.cost) start by.0.least.permitted in
      let on = between-goes-on road sound alike p q before d by.0.end route.walk route.cost state leads in
      let rest = through-from q places more (before ++ own) y by.0.end states routes parts.1 by.0.last on.state h.1 parts.3 by.1 in
      record {
        along = (on.permitted, rest.along);
        joined = joined-more (vertex_of by.0.end) route on.ends routes rest.begins rest.joined;
        begins = on.begins;
        behind = behind-append road.network.forbidden sound.long before own (walks_behind routes) on.behind rest.behind;
        is_cost = ap (λ (a : WeightDurLen). road_cost_ops.plus a (cost_of_all routes)) (route-cost road (p, q) table h.0 x y parts.0 route parts.2 by.0)
            ∙ ap (road_cost_ops.plus parts.0) rest.is_cost ∙ sym parts.4;
      }

  -- no sequence is a run of no walk
  nothing-free : IsFree road.network.forbidden []
  nothing-free s h run =
      let three : 3 ≤ length s = subst (λ (t : List ℕ). 3 ≤ length t) h.2 (sound.long h.0 s h.1) in
      let sum : 0 ≡ (length run.0 + length s) + length run.1 = ap (length {A = ℕ}) run.2 ∙ length-append (run.0 ++ s) run.1 ∙ ap (λ (k : ℕ). k + length run.1) (length-append run.0 s) in
      omega (arith, three, sum)

  -- routes that go on behind a walk are one walk through the places
  behind-through : (p : Place) (places : List Place) (before : List ℕ) (d : ℕ) (routes : List Route) (c : WeightDurLen) → IsInState road.network before d → AreThroughBehind road p places before (vertex_of d) routes c
      → IsThrough road (p ∷ places) routes
  behind-through p places before d [] c state h = record { along = h.along; joined = h.joined; free = nothing-free }
  behind-through p places before d (route ∷ routes) c state h =
      let whole = behind-free road.network.forbidden sound.long before (walks_behind (route ∷ routes)) state.begun h.behind in
      let is = joined-from route routes (vertex_of d) h.begins ∙ ap (λ (v : ℕ). v ∷ walks_behind (route ∷ routes)) (in-last road.network before d state) in
      record { along = h.along; joined = h.joined; free = subst (IsFree road.network.forbidden) (sym is) whole }

  -- a walk through two places or more has a chain through their tables that is no dearer
  chain-under : (p q : Place) (places : List Place) (tables : List LegCosts) (routes : List Route) → IsPlaceOn road.network p → AreTables road (p ∷ q ∷ places) tables → IsThrough road (p ∷ q ∷ places) routes
      → (x : ℕ) × HasChainFrom tables x (cost_of_all routes)
  chain-under p q places tables [] on h through = absurd through.along
  chain-under p q places tables (route ∷ routes) on h through =
      let first = permitted-begins road p q route.walk route.cost on through.along.0 in
      let v = first.state in
      let there = get_Contains (states_of road.network p) v first.is_state in
      let free = subst (IsFree road.network.forbidden) (joined-from route routes v first.begins) through.free in
      let begins = subst (λ (u : ℕ). BeginsWith route.walk u) (sym first.is_own) first.begins in (
        there.0,
        chain-from p (q ∷ places) tables (route ∷ routes) (v ∷ []) there.0 v there.1 first.alone h through.along through.joined begins
            (free-behind road.network.forbidden (v ∷ []) (walks_behind (route ∷ routes)) free),
      )

  -- there is no chain without states
  some-state : (tables : List LegCosts) (d : WeightDurLen) → ¬ (chain_cost tables [] ≡ Some d)
  some-state [] d = λ e. none-some d e
  some-state (table ∷ more) d = λ e. none-some d e

  -- the routes by a chain are one walk that costs as much
  record IsThroughAt (p : Place) (places : List Place) (routes : List Route) (c : WeightDurLen) : Type 0 where
    through : IsThrough road (p ∷ places) routes
    is_cost : cost_of_all routes ≡ c

  from-start : (p : Place) (places : List Place) (tables : List LegCosts) (x d : ℕ) (states : List ℕ) (routes : List Route) (c : WeightDurLen) → IsPlaceOn road.network p → slice_get (states_of road.network p) x ≡ Some d
      → AreTables road (p ∷ places) tables → chain_cost tables (x ∷ states) ≡ Some c → AreRoutesBy road (p ∷ places) (x ∷ states) routes → IsThroughAt p places routes c
  from-start p places tables x d states routes c on at h e by =
      let state = some-walk road sound p d on (Contains_get (states_of road.network p) x d at) in
      let before = word_of (2 * length road.network.segments) (copies_in road.network) d in
      let behind = through-from p places tables before x d states routes c at state h e by in
      record { through = behind-through p places before d routes c state behind; is_cost = behind.is_cost }

  chain-through : (p q : Place) (places : List Place) (tables : List LegCosts) (x : ℕ) (states : List ℕ) (routes : List Route) (c : WeightDurLen) → IsPlaceOn road.network p → AreTables road (p ∷ q ∷ places) tables
      → chain_cost tables (x ∷ states) ≡ Some c → AreRoutesBy road (p ∷ q ∷ places) (x ∷ states) routes → IsThroughAt p (q ∷ places) routes c
  chain-through p q places [] x states routes c on h e by = absurd h
  chain-through p q places (table ∷ more) x [] routes c on h e by = absurd (none-some c e)
  chain-through p q places (table ∷ more) x (y ∷ states) [] c on h e by = absurd by
  chain-through p q places (table ∷ more) x (y ∷ states) (route ∷ routes) c on h e by =
      from-start p (q ∷ places) (table ∷ more) x by.0.start (y ∷ states) (route ∷ routes) c on by.0.first h e by

  -- where a chain goes through the tables, a walk goes through the places
  through-by : (p : Place) (places : List Place) (tables : List LegCosts) (states : List ℕ) (d : WeightDurLen) → IsPlaceOn road.network p → AreTables road (p ∷ places) tables → chain_cost tables states ≡ Some d → HasThrough road (p ∷ places)
  through-by p places tables [] d on h e = absurd (some-state tables d e)
  through-by p [] tables (x ∷ states) d on h e = ([], record { along = tt; joined = tt; free = nothing-free })
  through-by p (q ∷ places) tables (x ∷ states) d on h e =
      let routes = routes-from p (q ∷ places) tables x states d h e in
      (routes.0, (chain-through p q places tables x states routes.0 d on h e routes.1).through)

  -- the least chain's routes are a least walk
  least-from : (p q : Place) (places : List Place) (tables : List LegCosts) (states : List ℕ) (routes : List Route) → IsPlaceOn road.network p → AreTables road (p ∷ q ∷ places) tables → IsLeastChain tables states
      → AreRoutesBy road (p ∷ q ∷ places) states routes → IsLeastThrough road (p ∷ q ∷ places) routes
  least-from p q places tables [] routes on h chain by = absurd (some-state tables chain.cost chain.costs)
  least-from p q places tables (x ∷ states) routes on h chain by =
      let from = chain-through p q places tables x states routes chain.cost on h chain.costs by in
      record {
        through = from.through;
        least = λ others through.
            let under = chain-under p q places tables others on h through in
            let other = under.1 in
            subst (λ (c : WeightDurLen). NoDearer road_cost_ops c (cost_of_all others)) (sym from.is_cost)
            (le_trans road_cost_laws chain.cost other.cost (cost_of_all others) (chain.least (under.0 ∷ other.states) other.cost other.costs) other.within);
      }

  pub least-through : (places : List Place) (tables : List LegCosts) (states : List ℕ) (routes : List Route) → 2 ≤ length places → ArePlacesOn road.network places → AreTables road places tables → IsLeastChain tables states
      → AreRoutesBy road places states routes → IsLeastThrough road places routes
  least-through [] tables states routes some on h chain by = absurd (omega arith)
  least-through (p ∷ []) tables states routes some on h chain by = absurd (omega arith)
  least-through (p ∷ q ∷ places) tables states routes some on h chain by = least-from p q places tables states routes (on 0 p refl) h chain by

  -- routes by the states of a chain are there
  pub routes-some : (places : List Place) (tables : List LegCosts) (states : List ℕ) → 2 ≤ length places → AreTables road places tables → IsLeastChain tables states → HasRoutesBy road places states
  routes-some [] tables states some h chain = absurd (omega arith)
  routes-some (p ∷ places) tables [] some h chain = absurd (some-state tables chain.cost chain.costs)
  routes-some (p ∷ places) tables (x ∷ states) some h chain = routes-from p places tables x states chain.cost h chain.costs

  -- the tables of the first legs
  front-tables : (p : Place) (places : List Place) (tables : List LegCosts) (n : ℕ) → AreTables road (p ∷ places) tables → AreTables road (p ∷ take n places) (take n tables)
  front-tables p [] [] zero h = tt
  front-tables p [] [] (suc n) h = tt
  front-tables p [] (table ∷ more) n h = absurd h
  front-tables p (q ∷ places) [] n h = absurd h
  front-tables p (q ∷ places) (table ∷ more) zero h = tt
  front-tables p (q ∷ places) (table ∷ more) (suc n) h = (h.0, front-tables q places more n h.1)

  -- the leg at which the tables break is the first behind which no walk reaches
  broken-from : (p q : Place) (places : List Place) (tables : List LegCosts) (i : ℕ) → IsPlaceOn road.network p → AreTables road (p ∷ q ∷ places) tables → i + 1 < length (p ∷ q ∷ places) → IsBrokenAt tables i → IsBrokenThrough road (p ∷ q ∷ places) i
  broken-from p q places tables i on h inside broken =
      let all = p ∷ q ∷ places in
      let before : HasThrough road (take (suc i) all) = through-by p (take i (q ∷ places)) (take i tables) broken.before.0 broken.before.1 on (front-tables p (q ∷ places) tables i h) broken.before.2 in
      let none : ¬ HasThrough road (take (suc (suc i)) all) = λ through.
      let under = chain-under p q (take i places) (take (suc i) tables) through.0 on (front-tables p (q ∷ places) tables (suc i) h) through.1 in
      broken.none (subst (λ (n : ℕ). HasChain (take n tables)) (sym (add-one i)) (under.0 ∷ under.1.states, under.1.cost, under.1.costs)) in
      record {
        inside = inside;
        before = subst (λ (n : ℕ). HasThrough road (take n all)) (sym (add-one i)) before;
        none = subst (λ (n : ℕ). ¬ HasThrough road (take n all)) (two-more i) none;
      }

  pub broken-through : (places : List Place) (tables : List LegCosts) (i : ℕ) → 2 ≤ length places → ArePlacesOn road.network places → AreTables road places tables → IsBrokenAt tables i → IsBrokenThrough road places i
  broken-through [] tables i some on h broken = absurd (omega arith)
  broken-through (p ∷ []) tables i some on h broken = absurd (omega arith)
  broken-through (p ∷ q ∷ places) tables i some on h broken =
      let count = tables-count road (p ∷ q ∷ places) tables h in
      broken-from p q places tables i (on 0 p refl) h (omega (arith, count, broken.inside)) broken

-- a chain has one state more than there are tables
pub states-count : (tables : List LegCosts) (states : List ℕ) (d : WeightDurLen) → chain_cost tables states ≡ Some d → length states ≡ length tables + 1
states-count [] [] d e = absurd (none-some d e)
states-count [] (x ∷ []) d e = omega arith
states-count [] (x ∷ y ∷ states) d e = absurd (none-some d e)
states-count (table ∷ tables) [] d e = absurd (none-some d e)
states-count (table ∷ tables) (x ∷ []) d e = absurd (none-some d e)
states-count (table ∷ tables) (x ∷ y ∷ states) d e =
    let parts = both_some (leg_cost table x y) (chain_cost tables (y ∷ states)) d e in
    let rest = states-count tables (y ∷ states) parts.1 parts.3 in
    omega (arith, rest)

-- as many routes as legs
pub routes-count : (road : RoadMetric) (places : List Place) (routes : List Route) → 2 ≤ length places → AreAlong road places routes → length routes + 1 ≡ length places
routes-count road places routes some along =
    let same = all_zip-length (IsAlongLeg road) (legs_of places) routes along in
    let e = length-zip places (drop 1 places) in
    let f = length-drop 1 places in
    omega (arith, same, e, f, some)
