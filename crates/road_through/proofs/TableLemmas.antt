-- What the table of a leg tells of the walks along it.
use Rattle.std.proofs.Common.{◌≡◌, ℕ, ◌+◌, ◌*◌, ◌<◌, ◌&&◌, nat_lt, if◌then◌else◌, Bool, true, false, List, Option, Some, None, length, slice_index_or, arith, refl, sym, subst, ap, ◌∙◌}
use Rattle.std.specs.List.{slice_get}
use Rattle.std.proofs.lemmas.Bool.{lt-ltb}
use Rattle.std.proofs.lemmas.Bool.Decides.{nat_tests}
use Rattle.std.proofs.lemmas.Option.{none-some, same_Some, slice_get_within}
use Rattle.list_lemmas.proofs.Gets.{get_some}
use Rattle.road_base.specs.declared.segments.Place.{Place}
use Rattle.search_graph.specs.declared.costs.WeightDurLen.{WeightDurLen}
use Rattle.search_graph.specs.Costs.{NoDearer}
use Rattle.search_graph.specs.OrderLaws.{same_from_le}
use Rattle.search_graph.specs.RoadCosts.{road_cost_laws, road_cost_ops}
use Rattle.metric_make.specs.RoadMetric.{RoadMetric}
use Rattle.road_places.specs.declared.walks.Route.{Route}
use Rattle.road_walks.specs.Between.{CanCostBetween, IsCostBetween, IsPermittedBetween, IsRouteBetween, states_of}
use Rattle.through_query.specs.Chains.{leg_cost}
use Rattle.through_query.specs.declared.legs.LegCosts.{LegCosts}
use Rattle.road_through.specs.States.{IsLeastBy, IsTableOf}

-- a value of a table of so many starts and ends
abbrev value_at : ℕ → ℕ → List (Option WeightDurLen) → ℕ → ℕ → Option WeightDurLen
value_at starts ends costs x y = if nat_lt x starts && nat_lt y ends then slice_index_or costs (x * ends + y) None else None

-- it is that of the list where there are such states
value-inside : (starts ends : ℕ) (costs : List (Option WeightDurLen)) (x y : ℕ) → x < starts → y < ends → value_at starts ends costs x y ≡ slice_index_or costs (x * ends + y) None
value-inside starts ends costs x y h k =
    ap (λ (b : Bool). if b && nat_lt y ends then slice_index_or costs (x * ends + y) None else None) (lt-ltb x starts h)
    ∙ ap (λ (b : Bool). if b then slice_index_or costs (x * ends + y) None else None) (lt-ltb y ends k)

-- and elsewhere there is none
tested : (b : Bool) (o : Option WeightDurLen) (c : WeightDurLen) → (if b then o else None) ≡ Some c → b ≡ true
tested true o c e = refl
tested false o c e = absurd (none-some c e)

first-inside : (starts ends x y : ℕ) → (nat_lt x starts && nat_lt y ends) ≡ true → x < starts
first-inside starts ends x y h = grind (arith, nat_tests)

second-inside : (starts ends x y : ℕ) → (nat_lt x starts && nat_lt y ends) ≡ true → y < ends
second-inside starts ends x y h = grind (arith, nat_tests)

-- where some walk between two states costs d, a least one costs no more
least-some : (road : RoadMetric) (p q : Place) (v w : ℕ) (value : Option WeightDurLen) (d : WeightDurLen) → IsCostBetween road p q v w value → CanCostBetween road p q v w d → (c : WeightDurLen) × (value ≡ Some c) × NoDearer road_cost_ops c d
least-some road p q v w None d h k = absurd (h d k)
least-some road p q v w (Some c) d h k = (c, refl, h.1 d k)

-- the state of a number is one
same-state : (states : List ℕ) (x d e : ℕ) → slice_get states x ≡ Some d → slice_get states x ≡ Some e → d ≡ e
same-state states x d e h k = same_Some d e (sym h ∙ k)

module _ (road : RoadMetric) (leg : Place × Place) (table : LegCosts) (is : IsTableOf road leg table) where
  abbrev first_count : ℕ
  first_count = length (states_of road.network leg.0)

  abbrev last_count : ℕ
  last_count = length (states_of road.network leg.1)

  all_by_all : (x y : ℕ) → leg_cost table x y ≡ value_at first_count last_count table.costs.items x y
  all_by_all x y = ap (λ (n : ℕ). value_at n table.ends table.costs.items x y) is.starts ∙ ap (λ (n : ℕ). value_at first_count n table.costs.items x y) is.ends

  -- a walk from state to state has a cost there that is no more than its own
  pub walk-cost : (x y d e : ℕ) → slice_get (states_of road.network leg.0) x ≡ Some d → slice_get (states_of road.network leg.1) y ≡ Some e → (walk : List ℕ) (cost : WeightDurLen) → IsPermittedBetween road leg.0 leg.1 d e walk cost
      → (c : WeightDurLen) × (leg_cost table x y ≡ Some c) × NoDearer road_cost_ops c cost
  walk-cost x y d e h k walk cost permitted =
      let least = least-some road leg.0 leg.1 d e (slice_index_or table.costs.items (x * last_count + y) None) cost (is.costs.each x y d e h k) (walk, permitted) in
      let low = slice_get_within (states_of road.network leg.0) x d h in
      let high = slice_get_within (states_of road.network leg.1) y e k in
      (least.0, all_by_all x y ∙ value-inside first_count last_count table.costs.items x y low high ∙ least.1, least.2)

  -- a cost there is that of a least walk between two states
  pub record HasCost (x y : ℕ) (c : WeightDurLen) : Type 0 where
    pub start : ℕ
    pub end : ℕ
    pub first : slice_get (states_of road.network leg.0) x ≡ Some start
    pub last : slice_get (states_of road.network leg.1) y ≡ Some end
    pub is_cost : IsCostBetween road leg.0 leg.1 start end (Some c)

  cost-at : (x y : ℕ) (c : WeightDurLen) → leg_cost table x y ≡ Some c → HasCost x y c
  cost-at x y c e =
      let value : value_at first_count last_count table.costs.items x y ≡ Some c = sym (all_by_all x y) ∙ e in
      let test = tested (nat_lt x first_count && nat_lt y last_count) (slice_index_or table.costs.items (x * last_count + y) None) c value in
      let h = first-inside first_count last_count x y test in
      let k = second-inside first_count last_count x y test in
      let d = get_some (states_of road.network leg.0) x h in
      let f = get_some (states_of road.network leg.1) y k in
      record {
        start = d.0;
        end = f.0;
        first = d.1;
        last = f.1;
        is_cost = subst (λ (o : Option WeightDurLen). IsCostBetween road leg.0 leg.1 d.0 f.0 o) (sym (value-inside first_count last_count table.costs.items x y h k) ∙ value) (is.costs.each x y d.0 f.0 d.1 f.1);
      }

  -- so there is a least route between the two
  pub cost-route : (x y : ℕ) (c : WeightDurLen) → leg_cost table x y ≡ Some c → (route : Route) × IsLeastBy road (leg, (x, y)) route
  cost-route x y c e =
      let at = cost-at x y c e in
      let can = at.is_cost.0 in
      (record { cost = c; walk = can.0 }, record { start = at.start; end = at.end; first = at.first; last = at.last; least = record { permitted = can.1; least = λ other d h. at.is_cost.1 d (other, h) } })

  -- and each costs just this
  pub route-cost : (x y : ℕ) (c : WeightDurLen) (route : Route) → leg_cost table x y ≡ Some c → IsLeastBy road (leg, (x, y)) route → route.cost ≡ c
  route-cost x y c route e h =
      let at = cost-at x y c e in
      let can = at.is_cost.0 in
      let first = same-state (states_of road.network leg.0) x h.start at.start h.first at.first in
      let last = same-state (states_of road.network leg.1) y h.end at.end h.last at.last in
      let least : IsRouteBetween road leg.0 leg.1 at.start at.end (Some route) =
      subst (λ (b : ℕ). IsRouteBetween road leg.0 leg.1 at.start b (Some route)) last (subst (λ (a : ℕ). IsRouteBetween road leg.0 leg.1 a h.end (Some route)) first h.least) in
      same_from_le road_cost_laws route.cost c tt tt (least.least can.0 c can.1) (at.is_cost.1 route.cost (route.walk, least.permitted))
