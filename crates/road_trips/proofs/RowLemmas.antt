-- A table of what least walks cost, as the best order takes it.
use Rattle.std.proofs.Common.{◌≡◌, ◌+◌, ◌*◌, ◌^◌, List, [], ◌∷◌, Option, Vec, All, length, get_or, arith, sym, ap, subst, ◌∙◌}
use Rattle.std.specs.Prelude.{option_map}
use Rattle.std.specs.Global.{Global}
use Rattle.std.specs.Option.{ForSome}
use Rattle.std.proofs.lemmas.List.{length-map}
use Rattle.std.proofs.lemmas.List.Elements.{All-cons, All-nil, All-weaker}
use Rattle.std.proofs.lemmas.Option.{slice_get-get_or, slice_get-map}
use Rattle.list_lemmas.proofs.Fronts.{all_zip-length}
use Rattle.list_lemmas.proofs.Gets.{All_get}
use Rattle.road_base.specs.declared.segments.Place.{Place}
use Rattle.road_segments.specs.Limits.{most_segments}
use Rattle.search_graph.specs.declared.costs.WeightDurLen.{WeightDurLen}
use Rattle.search_graph.specs.RoadCosts.{road_cost_laws, road_cost_ops}
use Rattle.edge_graph.specs.BuildCause.{IsWithinLimits}
use Rattle.edge_graph.specs.GraphLaws.{graph-vertices}
use Rattle.edge_graph.specs.Limits.{most_copies}
use Rattle.edge_graph.specs.NetworkView.{NetworkView, copies_in, graph_of}
use Rattle.trip_query.specs.Trips.{lists_of}
use Rattle.metric_make.specs.RoadMetric.{RoadMetric}
use Rattle.road_walks.specs.Least.{most_units}
use Rattle.road_walks.specs.Tables.{AreRowsOf, AreWithin, IsCellOf}

-- what holds of each list of some vectors holds of each vector
pub all-vectors : {A : Type 0} (P : List A → Type 0) (vectors : List (Vec A Global)) (lists : List (List A)) → lists_of vectors ≡ lists → All P lists → All (λ v. P v.items) vectors
all-vectors {A} P vectors lists same all = λ k v lt.
    let items : Vec A Global → List A = λ x. x.items in
    let at = slice_get-map items vectors k ∙ ap (option_map items) (slice_get-get_or vectors k v lt) in
    All_get P (lists_of vectors) k (items (get_or vectors k v)) (subst (All P) (sym same) all) at

pub vectors-length : {A : Type 0} (vectors : List (Vec A Global)) (lists : List (List A)) → lists_of vectors ≡ lists → length vectors ≡ length lists
vectors-length {A} vectors lists same =
    let size = length-map vectors (λ (x : Vec A Global). x.items) in
    let e = ap length same in
    omega (arith, size, e)

-- each row of a table has a cost for each destination
pub row-widths : (road : RoadMetric) (sources destinations : List Place) (rows : List (List (Option WeightDurLen))) → AreRowsOf road sources destinations rows → All (λ (row : List (Option WeightDurLen)). length row ≡ length destinations) rows
row-widths road [] destinations [] h = All-nil (λ (row : List (Option WeightDurLen)). length row ≡ length destinations)
row-widths road [] destinations (row ∷ rows) h = absurd h
row-widths road (p ∷ sources) destinations [] h = absurd h
row-widths road (p ∷ sources) destinations (row ∷ rows) h =
    All-cons (λ (r : List (Option WeightDurLen)). length r ≡ length destinations) row rows (all_zip-length (IsCellOf road p) destinations row h.0) (row-widths road sources destinations rows h.1)

-- no cost of a table over a network within the limits is too much
pub few-units : (network : NetworkView) (rows : List (List (Option WeightDurLen))) → IsWithinLimits network → AreWithin (most_units network) rows → AreWithin (2 ^ 27) rows
unfolding most_copies most_segments
few-units network rows limits within =
    let segments = limits.segments in
    let copies = limits.copies in
    let all : (graph_of network).vertices ≡ 2 * length network.segments + length (copies_in network) = graph-vertices network in
    All-weaker (All (λ (value : Option WeightDurLen). ForSome value (λ d. road_cost_ops.units d (most_units network)))) (All (λ (value : Option WeightDurLen). ForSome value (λ d. road_cost_ops.units d (2 ^ 27))))
    (λ row h. All-weaker (λ (value : Option WeightDurLen). ForSome value (λ d. road_cost_ops.units d (most_units network))) (λ (value : Option WeightDurLen). ForSome value (λ d. road_cost_ops.units d (2 ^ 27)))
    (λ value k d is. road_cost_laws.units_more d (most_units network) (2 ^ 27) (k d is) (omega (arith, segments, copies, all))) row h) rows within
