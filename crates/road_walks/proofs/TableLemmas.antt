-- How a table of costs comes from a table over the network's graph.
use Rattle.std.proofs.Common.{◌≡◌, ℕ, ◌<◌, zero, suc, inl, inr, List, [], ◌∷◌, get_or, Option, Some, None, All, arith, sym, subst}
use Rattle.std.specs.List.{AllZip, Contains, slice_get}
use Rattle.std.specs.Prelude.{IfSome, option_map}
use Rattle.std.proofs.lemmas.Option.{same_Some, slice_get-get_or}
use Rattle.list_lemmas.proofs.Fronts.{all_zip-each, all_zip-first}
use Rattle.list_lemmas.proofs.Gets.{get_Contains}
use Rattle.road_base.specs.declared.segments.Place.{Place}
use Rattle.search_graph.specs.declared.costs.WeightDurLen.{WeightDurLen}
use Rattle.search_graph.specs.declared.ends.Start.{Start}
use Rattle.search_graph.specs.declared.ends.Target.{Target}
use Rattle.search_graph.specs.Digraph.{Weighting}
use Rattle.search_graph.specs.RoadCosts.{road_cost_ops, road_cost_laws}
use Rattle.search_graph.specs.WeightLaws.{least_walk_units}
use Rattle.search_graph.specs.Weighted.{AreSmall}
use Rattle.table_query.specs.LeastCosts.{IsLeastAmong, IsLesserOf}
use Rattle.table_query.specs.LesserLaws.{EitherOf, least-either, least-same}
use Rattle.table_query.specs.Tables.{IsCell, IsRow, IsTable}
use Rattle.edge_graph.specs.NetworkView.{graph_of}
use Rattle.edge_graph.specs.Sound.{IsSoundNetwork}
use Rattle.metric_make.specs.MetricOf.{AreAlike}
use Rattle.road_places.specs.Permitted.{IsAlongOne, IsTarget}
use Rattle.metric_make.specs.RoadMetric.{RoadMetric}
use Rattle.road_places.specs.declared.walks.Route.{Route}
use Rattle.road_walks.specs.Choosing.{IsLeastOf}
use Rattle.road_walks.specs.Least.{most_units}
use Rattle.road_walks.specs.Searched.{CanCostFreely}
use Rattle.road_walks.specs.TableParts.{AreStartsFrom, AreTargetsTo, CanCostAlong, CanCostByTurns, IsCellByTurns, IsCellWithin, IsRowByTurns, IsRowWithin, IsWithin}
use Rattle.road_walks.specs.Tables.{AreRowsOf, AreWithin, CanCost, IsCellOf, IsRowOf}
use Rattle.road_walks.specs.WalkLaws.{stands_for_cells}
use Rattle.road_walks.proofs.TurnLemmas.{by_turns-from, by_turns-to}

-- what holds of each pair of two lists, and of each pair of the second and a third, gives what holds of the first and the third
pub all_zip-through : {A B D : Type 0} (R : A → B → Type 0) (S : B → D → Type 0) (T : A → D → Type 0) → ((a : A) (b : B) (d : D) → R a b → S b d → T a d) →
    (xs : List A) (ys : List B) (zs : List D) → AllZip R xs ys → AllZip S ys zs → AllZip T xs zs
all_zip-through R S T f [] [] [] h k = tt
all_zip-through R S T f [] [] (d ∷ zs) h k = absurd k
all_zip-through R S T f [] (b ∷ ys) zs h k = absurd h
all_zip-through R S T f (a ∷ xs) [] zs h k = absurd h
all_zip-through R S T f (a ∷ xs) (b ∷ ys) [] h k = absurd k
all_zip-through R S T f (a ∷ xs) (b ∷ ys) (d ∷ zs) h k = (f a b d h.0 k.0, all_zip-through R S T f xs ys zs h.1 k.1)

-- what holds of each pair holds of the pair at a place
pub all_zip-at : {A B : Type 0} (R : A → B → Type 0) (xs : List A) (ys : List B) (k : ℕ) (x : A) (y : B) → AllZip R xs ys → slice_get xs k ≡ Some x → slice_get ys k ≡ Some y → R x y
all_zip-at R [] ys k x y h at there = cc
all_zip-at R (a ∷ xs) [] k x y h at there = absurd h
all_zip-at R (a ∷ xs) (b ∷ ys) zero x y h at there = subst (λ z. R z y) (let e : a ≡ x = cc in e) (subst (λ z. R a z) (let e : b ≡ y = cc in e) h.0)
all_zip-at R (a ∷ xs) (b ∷ ys) (suc k) x y h at there = all_zip-at R xs ys k x y h.1 at there

all-from_get : {A : Type 0} (Q : A → Type 0) (xs : List A) → ((k : ℕ) (a : A) → slice_get xs k ≡ Some a → Q a) → All Q xs
all-from_get Q xs h = λ k a lt. h k (get_or xs k a) (slice_get-get_or xs k a lt)

-- each of the starts is one of the vertices, and costs at most one unit
pub starts-fit : (n : ℕ) (road : RoadMetric) (sources : List Place) (lists : List (List (Start WeightDurLen))) → AllZip (AreStartsFrom n road) sources lists
    → (list : List (Start WeightDurLen)) (s : Start WeightDurLen) → Contains lists list → Contains list s → (s.vertex < n) × road_cost_ops.units s.cost 1
starts-fit n road sources lists h list s in_lists in_list =
    let at = get_Contains lists list in_lists in
    let source = all_zip-first (AreStartsFrom n road) sources lists at.0 list h at.1 in
    source.1.fit s in_list

-- and so the targets
pub targets-fit : (n : ℕ) (road : RoadMetric) (destinations : List Place) (lists : List (List (Target WeightDurLen))) → AllZip (AreTargetsTo n road) destinations lists
    → (list : List (Target WeightDurLen)) (t : Target WeightDurLen) → Contains lists list → Contains list t → (t.vertex < n) × road_cost_ops.units t.cost 1
targets-fit n road destinations lists h list t in_lists in_list =
    let at = get_Contains lists list in_lists in
    let destination = all_zip-first (AreTargetsTo n road) destinations lists at.0 list h at.1 in
    destination.1.fit t in_list

-- the least cost between starts and targets over a network's graph is no more than the graph's vertices allow
cell-within : (road : RoadMetric) (starts : List (Start WeightDurLen)) (targets : List (Target WeightDurLen)) → AreSmall road_cost_ops (graph_of road.network) road.weights
    → ((s : Start WeightDurLen) → Contains starts s → road_cost_ops.units s.cost 1) → ((t : Target WeightDurLen) → Contains targets t → road_cost_ops.units t.cost 1)
    → (value : Option WeightDurLen) → IsCell road_cost_ops (graph_of road.network) road.weights starts targets value → IsWithin road value
cell-within road starts targets small start_units target_units None h = λ d e. cc
cell-within road starts targets small start_units target_units (Some c) h = λ d e.
    let t : Target WeightDurLen = h.0.0 in
    let among = h.0.1 in
    subst (λ (x : WeightDurLen). road_cost_ops.units x (most_units road.network)) (same_Some c d e)
    (least_walk_units road_cost_laws (graph_of road.network) road.weights small starts t start_units (target_units t among) h.0.2.0 c
    (record { leads = h.0.2.1; least = λ other x r. h.1 x (t, among, (other, r)) }))

module _ (road : RoadMetric) (n : ℕ) (small : AreSmall road_cost_ops (graph_of road.network) road.weights) (sound : IsSoundNetwork road.network) (alike : AreAlike road.network road.weights) where
  -- a cell between all starts and all targets of two places is the least by turns
  cell-by_turns : (p q : Place) (starts : List (Start WeightDurLen)) (targets : List (Target WeightDurLen)) (value : Option WeightDurLen) → AreStartsFrom n road p starts → AreTargetsTo n road q targets
      → IsCell road_cost_ops (graph_of road.network) road.weights starts targets value → IsCellByTurns road p q value
  cell-by_turns p q starts targets value s t h = (
    least-same road_cost_ops (CanCostFreely road starts (IsTarget road.weights q)) (CanCostByTurns road p q)
        (λ d k. (k.0, by_turns-from road p q starts s.all k.0 d k.1))
        (λ d k. (k.0, by_turns-to road p q starts s.all k.0 d k.1))
        value (stands_for_cells road sound alike starts s.ordinary (IsTarget road.weights q) targets t.all value h),
    cell-within road starts targets small (λ x k. (s.fit x k).1) (λ x k. (t.fit x k).1) value h,
  )

  row-by_turns : (p : Place) (destinations : List Place) (starts : List (Start WeightDurLen)) (targets : List (List (Target WeightDurLen))) (row : List (Option WeightDurLen)) → AreStartsFrom n road p starts → AllZip (AreTargetsTo n road) destinations targets
      → IsRow road_cost_ops (graph_of road.network) road.weights targets starts row → IsRowByTurns road destinations p row
  row-by_turns p destinations starts targets row s t h =
      all_zip-through (AreTargetsTo n road) (IsCell road_cost_ops (graph_of road.network) road.weights starts) (IsCellByTurns road p)
      (λ q list value k cell. cell-by_turns p q starts list value s k cell) destinations targets row t h

  pub table-by_turns : (sources destinations : List Place) (starts : List (List (Start WeightDurLen))) (targets : List (List (Target WeightDurLen))) (rows : List (List (Option WeightDurLen))) → AllZip (AreStartsFrom n road) sources starts → AllZip (AreTargetsTo n road) destinations targets
      → IsTable road_cost_ops (graph_of road.network) road.weights starts targets rows → AllZip (IsRowByTurns road destinations) sources rows
  table-by_turns sources destinations starts targets rows s t h =
      all_zip-through (AreStartsFrom n road) (IsRow road_cost_ops (graph_of road.network) road.weights targets) (IsRowByTurns road destinations)
      (λ p list row k cells. row-by_turns p destinations list targets row k t cells) sources starts rows s h

-- what the least walk of one vertex costs is the least that such a walk does
pub along-cost : (w : Weighting WeightDurLen) (p q : Place) (route : Option Route) → IsLeastOf (IsAlongOne w p q) route → IsLeastAmong road_cost_ops (CanCostAlong w p q) (option_map (λ (r : Route). r.cost) route)
along-cost w p q None h = λ d k. h k.0 d k.1
along-cost w p q (Some route) h = ((route.walk, h.0), λ d k. h.1 k.0 d k.1)

-- what the least walk of one vertex costs is one unit at most
pub along-within : (road : RoadMetric) (route : Option Route) → IfSome route (λ r. road_cost_ops.units r.cost 1) → IsWithin road (option_map (λ (r : Route). r.cost) route)
along-within road None h = λ d e. cc
along-within road (Some route) h = λ d e.
    subst (λ (x : WeightDurLen). road_cost_ops.units x (most_units road.network)) (same_Some route.cost d e) (road_cost_laws.units_more route.cost 1 (most_units road.network) h (omega arith))

-- of two costs within so many units the lesser is
lesser-within : (road : RoadMetric) (a b value : Option WeightDurLen) → IsLesserOf road_cost_ops a b value → IsWithin road a → IsWithin road b → IsWithin road value
lesser-within road None b value e h k = subst (IsWithin road) (sym e) k
lesser-within road (Some a) None value e h k = subst (IsWithin road) (sym e) h
lesser-within road (Some a) (Some b) value e h k = elim e [ inl first ↦ subst (IsWithin road) (sym first.0) h | inr second ↦ subst (IsWithin road) (sym second.0) k ]

-- the lesser of what the least walk of one vertex costs and of what that of more vertices does
pub cell-of : (road : RoadMetric) (p q : Place) (along by_turns value : Option WeightDurLen) → IsLesserOf road_cost_ops along by_turns value → IsLeastAmong road_cost_ops (CanCostAlong road.weights p q) along → IsWithin road along
    → IsCellByTurns road p q by_turns → IsCellWithin road p q value
cell-of road p q along by_turns value e h within k = (
  least-same road_cost_ops (EitherOf (CanCostAlong road.weights p q) (CanCostByTurns road p q)) (CanCost road p q)
      (λ d c. elim c [ inl a ↦ (a.0, inl a.1) | inr b ↦ (b.0, inr b.1) ])
      (λ d c. elim c.1 [ inl a ↦ inl (c.0, a) | inr b ↦ inr (c.0, b) ])
      value (least-either road_cost_laws (CanCostAlong road.weights p q) (CanCostByTurns road p q) along by_turns value e h k.0),
  lesser-within road along by_turns value e within k.1,
)

module _ (road : RoadMetric) (destinations : List Place) where
  row-least : (p : Place) (row : List (Option WeightDurLen)) → IsRowWithin road destinations p row → IsRowOf road destinations p row
  row-least p row h = all_zip-each (IsCellWithin road p) (IsCellOf road p) (λ q value cell. cell.0) destinations row h

  row-within : (p : Place) (row : List (Option WeightDurLen)) → IsRowWithin road destinations p row → All (IsWithin road) row
  row-within p row h = all-from_get (IsWithin road) row (λ k value at. let cell = all_zip-first (IsCellWithin road p) destinations row k value h at in cell.1.1)

  -- the cells of a table are the least
  pub rows-least : (sources : List Place) (rows : List (List (Option WeightDurLen))) → AllZip (IsRowWithin road destinations) sources rows → AreRowsOf road sources destinations rows
  rows-least sources rows h = all_zip-each (IsRowWithin road destinations) (IsRowOf road destinations) row-least sources rows h

  -- and each grows with the number of vertices at most
  pub rows-within : (sources : List Place) (rows : List (List (Option WeightDurLen))) → AllZip (IsRowWithin road destinations) sources rows → AreWithin (most_units road.network) rows
  rows-within sources rows h = all-from_get (All (IsWithin road)) rows (λ k row at. let source = all_zip-first (IsRowWithin road destinations) sources rows k row h at in row-within source.0 row source.1)
