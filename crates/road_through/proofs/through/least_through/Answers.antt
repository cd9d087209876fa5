-- The least chain of states is one least walk, and where the tables break no walk leads on.
use Rattle.std.proofs.Common.{ℕ, List, ap, arith, length, subst, sym}
use Rattle.through_query.specs.Chains.{IsAnswer, IsBrokenAt, IsLeastChain}
use Rattle.through_query.specs.declared.legs.LegCosts.{LegCosts}
use Rattle.edge_graph.specs.Sound.{IsSoundNetwork}
use Rattle.road_through.specs.States.{AreRoutesBy, HasRoutesBy}
use Rattle.road_through.proofs.BridgeLemmas.{broken-through, least-through, routes-count, routes-some, states-count, tables-count}
use Rattle.road_through.proofs.through.least_through.Goals as goal

pub least_chain-requires-clause-some : goal.least_chain-requires-clause-some
least_chain-requires-clause-some g c =
    let count = tables-count c.args.under.now.road c.args.places.now c.in_ok-tables.tables.items c.in_ok-tables.ensures in
    let given = ap (length {A = LegCosts}) c.deref.ensures.value in
    omega (arith, count, given, c.requires.some)

pub least_chain-requires-clause-few : goal.least_chain-requires-clause-few
least_chain-requires-clause-few g c =
    let count = tables-count c.args.under.now.road c.args.places.now c.in_ok-tables.tables.items c.in_ok-tables.ensures in
    let given = ap (length {A = LegCosts}) c.deref.ensures.value in
    omega (arith, count, given, c.requires.few)

pub routes_by-requires-clause-one_each : goal.routes_by-requires-clause-one_each
routes_by-requires-clause-one_each g c =
    let tables = c.in_ok-tables.tables.items in
    let chain : IsLeastChain c.deref.result.now c.in-States.states.items = subst (IsAnswer c.deref.result.now) c.in-States.is c.in_ok-chain.ensures in
    let count = tables-count c.args.under.now.road c.args.places.now tables c.in_ok-tables.ensures in
    let given = ap (length {A = LegCosts}) c.deref.ensures.value in
    let states = states-count c.deref.result.now c.in-States.states.items chain.cost chain.costs in
    let same = ap (length {A = ℕ}) c.as_slice.ensures.value in
    omega (arith, count, given, states, same, c.requires.some)

pub routes_by-requires-clause-reach : goal.routes_by-requires-clause-reach
routes_by-requires-clause-reach g c =
    let road = c.args.under.now.road in
    let places = c.args.places.now in
    let tables = c.in_ok-tables.tables.items in
    let states = c.in-States.states.items in
    let chain : IsLeastChain c.deref.result.now states = subst (IsAnswer c.deref.result.now) c.in-States.is c.in_ok-chain.ensures in
    subst (HasRoutesBy road places) (sym c.as_slice.ensures.value)
    (routes-some road (subst IsSoundNetwork c.network-network.ensures c.graph-sound.ensures.sound) c.base-alike.ensures.alike places tables states c.requires.some c.in_ok-tables.ensures (subst (λ (legs : List LegCosts). IsLeastChain legs states) c.deref.ensures.value chain))

pub returns-in-States-clause-through : goal.returns-in-States-clause-through
returns-in-States-clause-through g c =
    let road = c.args.under.now.road in
    let places = c.args.places.now in
    let tables = c.in_ok-tables.tables.items in
    let states = c.in-States.states.items in
    let chain : IsLeastChain c.deref.result.now states = subst (IsAnswer c.deref.result.now) c.in-States.is c.in_ok-chain.ensures in
    least-through road (subst IsSoundNetwork c.network-network.ensures c.graph-sound.ensures.sound) c.base-alike.ensures.alike places tables states c.in_ok-routes-in-States.routes.items c.requires.some c.requires.placed c.in_ok-tables.ensures
    (subst (λ (legs : List LegCosts). IsLeastChain legs states) c.deref.ensures.value chain)
    (subst (λ (chosen : List ℕ). AreRoutesBy road places chosen c.in_ok-routes-in-States.routes.items) c.as_slice.ensures.value c.in_ok-routes-in-States.ensures.routes)

pub returns-in-States-clause-one_each : goal.returns-in-States-clause-one_each
returns-in-States-clause-one_each g c =
    let walk = returns-in-States-clause-through g c in
    routes-count c.args.under.now.road c.args.places.now c.in_ok-routes-in-States.routes.items c.requires.some walk.through.along

pub returns-clause-err : goal.returns-clause-err
returns-clause-err g c =
    let road = c.args.under.now.road in
    let places = c.args.places.now in
    let broken : IsBrokenAt c.deref.result.now c.in-Broken.leg = subst (IsAnswer c.deref.result.now) c.in-Broken.is c.in_ok-chain.ensures in
    broken-through road (subst IsSoundNetwork c.network-network.ensures c.graph-sound.ensures.sound) c.base-alike.ensures.alike places c.in_ok-tables.tables.items c.in-Broken.leg c.requires.some c.requires.placed c.in_ok-tables.ensures
    (subst (λ (legs : List LegCosts). IsBrokenAt legs c.in-Broken.leg) c.deref.ensures.value broken)
