-- The costs and cliques that stand side by side in a metric, place by place.
use Rattle.std.proofs.Common.{◌≡◌, ℕ, zero, suc, ◌+◌, ◌<◌, List, [], ◌∷◌, ◌++◌, length, get_or, take, All, Option, Some, None, refl, sym, ap, ap₂, subst, arith, add-one, ◌∙◌}
use Rattle.std.specs.Prelude.{map, option_map}
use Rattle.std.specs.List.{AllZip, range_with_len, slice_get, zip}
use Rattle.std.specs.Option.{ForSome}
use Rattle.std.proofs.lemmas.List.{length-map, map-append}
use Rattle.std.proofs.lemmas.List.Elements.{All-map}
use Rattle.std.proofs.lemmas.List.FromFn.{get_or-range_with_len, length-range_with_len}
use Rattle.std.proofs.lemmas.Option.{same_Some, slice_get-map, slice_get_within}
use Rattle.list_lemmas.proofs.Fronts.{all_zip-each, all_zip-length, all_zip-more, all_zip-second, slice_get-zip, take-get}
use Rattle.list_lemmas.proofs.Gets.{get_is, get_some}
use Rattle.search_graph.specs.declared.costs.WeightDurLen.{WeightDurLen}
use Rattle.search_graph.specs.Digraph.{Digraph, Weighting}
use Rattle.search_graph.specs.RoadCosts.{road_cost_ops}
use Rattle.search_graph.specs.Weighted.{AreSmall}
use Rattle.edge_graph.specs.NetworkView.{NetworkView, graph_of}
use Rattle.edge_graph.specs.Sound.{IsSoundNetwork}
use Rattle.metric_make.specs.Avoiding.{avoided}
use Rattle.metric_make.specs.AvoidLaws.{avoided-alike, avoided-small}
use Rattle.metric_make.specs.MetricOf.{AreAlike, MetricView}
use Rattle.metric_make.specs.RoadMetric.{road_of}
use Rattle.cell_frame.specs.Borders.{Framed}
use Rattle.cell_frame.specs.Cliqued.{AreExact, CliqueLists}
use Rattle.cell_recustomize.specs.ChangeLaws.{WereExact-changed}
use Rattle.cell_recustomize.specs.Changes.{FitGraph}
use Rattle.cell_recustomize.specs.declared.places.Changed.{Changed}
use Rattle.class_sets.specs.Exacting.{AreCounted, AreKept, IsKept}
use Rattle.customized.specs.declared.bases.Bases.{Bases}
use Rattle.customized.specs.Exact.{AreChangesBetween, Customized, IsExact, IsExactForEach, IsRemadeBy, IsTouchedBy, customized_on, excluding}
use Rattle.customized.specs.Excluding.{exclusions, place_of, sets, weights_in, weights_under}
use Rattle.customized.specs.Framing.{RoadsView}

-- what holds of two elements that stand at one place
all_zip-at : {A B : Type 0} (R : A → B → Type 0) (xs : List A) (ys : List B) (k : ℕ) (x : A) (y : B) → AllZip R xs ys → slice_get xs k ≡ Some x → slice_get ys k ≡ Some y → R x y
all_zip-at R [] ys k x y h at beside = cc
all_zip-at R (a ∷ xs) [] k x y h at beside = absurd h
all_zip-at R (a ∷ xs) (b ∷ ys) zero x y h at beside = let e : a ≡ x = cc in let f : b ≡ y = cc in rw (sym e, sym f) h.0
all_zip-at R (a ∷ xs) (b ∷ ys) (suc k) x y h at beside = all_zip-at R xs ys k x y h.1 at beside

-- what holds beside the values of a list holds beside its elements
all_zip-from_map : {A B C : Type 0} (f : A → B) (R : B → C → Type 0) (xs : List A) (ys : List C) → AllZip R (map f xs) ys → AllZip (λ x y. R (f x) y) xs ys
all_zip-from_map f R [] [] h = tt
all_zip-from_map f R [] (y ∷ ys) h = absurd h
all_zip-from_map f R (x ∷ xs) [] h = absurd h
all_zip-from_map f R (x ∷ xs) (y ∷ ys) h = (h.0, all_zip-from_map f R xs ys h.1)

-- two relations, one behind the other, over the values of a list by two functions
all_zip-through : {A B C D : Type 0} (f g : A → B) (Q : B × B → C → Type 0) (T : C → D → Type 0) (R : A → D → Type 0) → ((a : A) (c : C) (d : D) → Q (f a, g a) c → T c d → R a d)
    → (xs : List A) (cs : List C) (ds : List D) → AllZip Q (zip (map f xs) (map g xs)) cs → AllZip T cs ds → AllZip R xs ds
all_zip-through f g Q T R step [] [] [] h k = tt
all_zip-through f g Q T R step [] [] (d ∷ ds) h k = absurd k
all_zip-through f g Q T R step [] (c ∷ cs) ds h k = absurd h
all_zip-through f g Q T R step (x ∷ xs) [] ds h k = absurd h
all_zip-through f g Q T R step (x ∷ xs) (c ∷ cs) [] h k = absurd k
all_zip-through f g Q T R step (x ∷ xs) (c ∷ cs) (d ∷ ds) h k = (step x c d h.0 k.0, all_zip-through f g Q T R step xs cs ds h.1 k.1)

length-zip-map : {A B : Type 0} (f g : A → B) (xs : List A) → length (zip (map f xs) (map g xs)) ≡ length xs
length-zip-map f g [] = refl
length-zip-map f g (x ∷ xs) = ap suc (length-zip-map f g xs)

pub length-sets : (network : NetworkView) → length (sets network) ≡ length network.profile.excludable
length-sets network = length-map (range_with_len 0 (length network.profile.excludable)) Some ∙ length-range_with_len 0 (length network.profile.excludable)

-- set k stands at place k
set-at : (network : NetworkView) (k : ℕ) → k < length network.profile.excludable → slice_get (sets network) k ≡ Some (Some k)
set-at network k lt =
    let n = length network.profile.excludable in
    let numbers = range_with_len 0 n in
    slice_get-map Some numbers k ∙ ap (option_map Some) (get_is numbers k k (omega (arith, lt, length-range_with_len 0 n)) (get_or-range_with_len 0 n k k lt ∙ omega arith))

-- each exclusion stands at its place
pub exclusion-at : (network : NetworkView) (set : Option ℕ) → ForSome set (λ k. k < length network.profile.excludable) → slice_get (exclusions network) (place_of set) ≡ Some set
exclusion-at network None h = refl
exclusion-at network (Some k) h = ap (slice_get (exclusions network)) (add-one k) ∙ set-at network k (h k refl)

-- one set more
pub sets-step : (network : NetworkView) (w : Weighting WeightDurLen) (k : ℕ) (bases new : List MetricView) (base : MetricView) → k < length network.profile.excludable
    → base.weights ≡ avoided network (Some k) w
    → new ≡ bases ++ base ∷ []
    → map (λ (b : MetricView). b.weights) bases ≡ map (λ set. avoided network set w) (take k (sets network))
    → map (λ (b : MetricView). b.weights) new ≡ map (λ set. avoided network set w) (take (k + 1) (sets network))
sets-step network w k bases new base lt is pushed so_far =
    let weights : MetricView → Weighting WeightDurLen = λ b. b.weights in
    let under : Option ℕ → Weighting WeightDurLen = λ set. avoided network set w in
    ap (map weights) pushed
    ∙ map-append weights bases (base ∷ [])
    ∙ ap₂ (λ (front : List (Weighting WeightDurLen)) (x : Weighting WeightDurLen). front ++ x ∷ []) so_far is
    ∙ sym (map-append under (take k (sets network)) (Some k ∷ []))
    ∙ ap (map under) (sym (take-get (sets network) k (Some k) (set-at network k lt)))

-- the changes of one more
pub changes-step : (before after : List (Weighting WeightDurLen)) (k : ℕ) (old w : Weighting WeightDurLen) (changes new : List Changed) (c : Changed) → k < length after → length before ≡ length after
    → old ≡ get_or before k old
    → w ≡ get_or after k w
    → AreChangesBetween (old, w) c
    → new ≡ changes ++ c ∷ []
    → AllZip AreChangesBetween (take k (zip before after)) changes
    → AllZip AreChangesBetween (take (k + 1) (zip before after)) new
changes-step before after k old w changes new c lt many at beside between pushed so_far =
    let pair = slice_get-zip before after k old w (get_is before k old (omega (arith, lt, many)) (sym at)) (get_is after k w lt (sym beside)) in
    subst (λ (l : List Changed). AllZip AreChangesBetween (take (k + 1) (zip before after)) l) (sym pushed) (all_zip-more AreChangesBetween (zip before after) changes k (old, w) c so_far pair between)

-- as many as there are sets avoid one
pub length-avoiding : (network : NetworkView) (bases : Bases) (w : Weighting WeightDurLen) → weights_in bases ≡ weights_under network w → length bases.avoiding.items ≡ length network.profile.excludable
length-avoiding network bases w same =
    let e = ap length same in
    omega (arith, e, length-map bases.avoiding.items (λ (b : MetricView). b.weights), length-map (sets network) (λ set. avoided network set w), length-sets network)

-- the costs at the place of a set are those of its exclusion
pub weights-at : (network : NetworkView) (bases : Bases) (w x : Weighting WeightDurLen) (set : Option ℕ) → ForSome set (λ k. k < length network.profile.excludable)
    → weights_in bases ≡ weights_under network w
    → slice_get (weights_in bases) (place_of set) ≡ Some x
    → x ≡ avoided network set w
weights-at network bases w x set h same at =
    let under : Option ℕ → Weighting WeightDurLen = λ s. avoided network s w in
    same_Some x (under set)
    (sym at ∙ ap (λ (l : List (Weighting WeightDurLen)). slice_get l (place_of set)) same ∙ slice_get-map under (exclusions network) (place_of set) ∙ ap (option_map under) (exclusion-at network set h))

-- so are the cliques
pub cliques-at : (m : Customized) (set : Option ℕ) (all : List (CliqueLists WeightDurLen)) (cliques : CliqueLists WeightDurLen) → ForSome set (λ k. k < length m.road.network.profile.excludable)
    → AllZip (λ s c. IsExact (excluding s m) c) (exclusions m.road.network) all
    → slice_get all (place_of set) ≡ Some cliques
    → IsExact (excluding set m) cliques
cliques-at m set all cliques h exact at = all_zip-at (λ s c. IsExact (excluding s m) c) (exclusions m.road.network) all (place_of set) set cliques exact (exclusion-at m.road.network set h) at

-- and there are cliques for each
pub place-below : (m : Customized) (set : Option ℕ) (all : List (CliqueLists WeightDurLen)) → ForSome set (λ k. k < length m.road.network.profile.excludable)
    → AllZip (λ s c. IsExact (excluding s m) c) (exclusions m.road.network) all
    → place_of set < length all
place-below m set all h exact =
    let within = slice_get_within (exclusions m.road.network) (place_of set) set (exclusion-at m.road.network set h) in
    omega (arith, within, all_zip-length (λ s c. IsExact (excluding s m) c) (exclusions m.road.network) all exact)

-- the costs of each are small
pub small-under : (m : Customized) (set : Option ℕ) (all : List (CliqueLists WeightDurLen)) → AllZip (λ s c. IsExact (excluding s m) c) (exclusions m.road.network) all
    → AreSmall road_cost_ops (graph_of m.road.network) (avoided m.road.network set m.road.weights)
small-under m set all exact = avoided-small m.road.network set m.road.weights (all_zip-second (λ s c. IsExact (excluding s m) c) (exclusions m.road.network) all 0 None exact refl).1.small

-- and alike for all that stands for one vertex or turn
pub alike-under : (m : Customized) (set : Option ℕ) (all : List (CliqueLists WeightDurLen)) → ForSome set (λ k. k < length m.road.network.profile.excludable)
    → AllZip (λ s c. IsExact (excluding s m) c) (exclusions m.road.network) all
    → AreAlike m.road.network (avoided m.road.network set m.road.weights)
alike-under m set all h exact = (all_zip-second (λ s c. IsExact (excluding s m) c) (exclusions m.road.network) all (place_of set) set exact (exclusion-at m.road.network set h)).1.alike

-- what is read of a metric is exact
pub exact-under : (m : Customized) (set : Option ℕ) (network : NetworkView) (frame : Framed) (base : MetricView) (cliques : CliqueLists WeightDurLen)
    → network ≡ m.road.network
    → frame ≡ m.frame
    → base.weights ≡ avoided m.road.network set m.road.weights
    → IsExact (excluding set m) cliques
    → IsExact (record { road = road_of network base; frame = frame }) cliques
exact-under m set network frame base cliques networks frames weights exact =
    subst (λ (n : NetworkView). IsExact (record { road = record { network = n; weights = base.weights }; frame = frame }) cliques) (sym networks)
    (subst (λ (f : Framed). IsExact (record { road = record { network = m.road.network; weights = base.weights }; frame = f }) cliques) (sym frames)
    (subst (λ (w : Weighting WeightDurLen). IsExact (record { road = record { network = m.road.network; weights = w }; frame = m.frame }) cliques) (sym weights) exact))

-- small costs are small under each exclusion, and fit the graph
pub weights_under-small : (network : NetworkView) (w : Weighting WeightDurLen) → AreSmall road_cost_ops (graph_of network) w → All (AreSmall road_cost_ops (graph_of network)) (weights_under network w)
weights_under-small network w small =
    All-map (AreSmall road_cost_ops (graph_of network)) (λ set. avoided network set w) (exclusions network) (λ k d lt. avoided-small network (get_or (exclusions network) k d) w small)

pub fit-all : (g : Digraph) (ws : List (Weighting WeightDurLen)) → All (AreSmall road_cost_ops g) ws → All (FitGraph g) ws
fit-all g ws small k d lt = let s = small k d lt in record { vertices = s.vertices; arcs = s.arcs }

-- cliques that were made for the costs side by side are exact for each
pub exact-for_each : (roads : RoadsView) (bases : Bases) (all : List (CliqueLists WeightDurLen)) (network : NetworkView) (frame : Framed) (base : MetricView) (weights : List (Weighting WeightDurLen))
    → network ≡ roads.network
    → frame ≡ roads.frame
    → bases.plain ≡ base
    → weights_in bases ≡ weights_under network base.weights
    → weights ≡ weights_in bases
    → roads.frame.graph ≡ graph_of roads.network
    → IsSoundNetwork roads.network
    → AreSmall road_cost_ops (graph_of roads.network) base.weights
    → AreAlike roads.network base.weights
    → AllZip (λ w cliques. AreExact road_cost_ops frame w cliques (length frame.cells.levels)) weights all
    → IsExactForEach (customized_on roads bases.plain) (weights_in bases) all
exact-for_each roads bases all network frame base weights networks frames plain under listed graph sound small alike made =
    let m = customized_on roads bases.plain in
    let same : weights_in bases ≡ weights_under roads.network bases.plain.weights = under ∙ ap₂ (λ (n : NetworkView) (b : MetricView). weights_under n b.weights) networks (sym plain) in
    let here : AllZip (λ w cliques. AreExact road_cost_ops roads.frame w cliques (length roads.frame.cells.levels)) (weights_under roads.network bases.plain.weights) all =
    subst (λ (l : List (Weighting WeightDurLen)). AllZip (λ w cliques. AreExact road_cost_ops roads.frame w cliques (length roads.frame.cells.levels)) l all) (listed ∙ same)
    (subst (λ (f : Framed). AllZip (λ w cliques. AreExact road_cost_ops f w cliques (length f.cells.levels)) weights all) frames made) in
    let plain_small : AreSmall road_cost_ops (graph_of roads.network) bases.plain.weights = subst (λ (b : MetricView). AreSmall road_cost_ops (graph_of roads.network) b.weights) (sym plain) small in
    let plain_alike : AreAlike roads.network bases.plain.weights = subst (λ (b : MetricView). AreAlike roads.network b.weights) (sym plain) alike in
    record {
      weights = same;
      exact =
          all_zip-each (λ set cliques. AreExact road_cost_ops roads.frame (avoided roads.network set bases.plain.weights) cliques (length roads.frame.cells.levels)) (λ set cliques. IsExact (excluding set m) cliques)
          (λ set cliques exact. record {
            graph = graph;
            small = avoided-small roads.network set bases.plain.weights plain_small;
            alike = avoided-alike roads.network sound set bases.plain.weights plain_small.vertices plain_alike;
            exact = exact;
          }) (exclusions roads.network) all
          (all_zip-from_map (λ set. avoided roads.network set bases.plain.weights) (λ w cliques. AreExact road_cost_ops roads.frame w cliques (length roads.frame.cells.levels)) (exclusions roads.network) all here);
    }

-- what was exact under each exclusion serves the new costs, but where they differ
pub kept-for_each : (m : Customized) (w : Weighting WeightDurLen) (all : List (CliqueLists WeightDurLen)) (changes : List Changed)
    → AllZip (λ s c. IsExact (excluding s m) c) (exclusions m.road.network) all
    → AllZip AreChangesBetween (zip (weights_under m.road.network m.road.weights) (weights_under m.road.network w)) changes
    → AreKept road_cost_ops m.frame (weights_under m.road.network w) all changes
kept-for_each m w all changes exact between =
    let network = m.road.network in
    let old : Option ℕ → Weighting WeightDurLen = λ s. avoided network s m.road.weights in
    let new : Option ℕ → Weighting WeightDurLen = λ s. avoided network s w in
    let among = exclusions network in
    let kept : (k : ℕ) (v : Weighting WeightDurLen) (cliques : CliqueLists WeightDurLen) (c : Changed) → slice_get (map new among) k ≡ Some v → slice_get all k ≡ Some cliques → slice_get changes k ≡ Some c → IsKept road_cost_ops m.frame v cliques c =
    λ k v cliques c at_v at_cliques at_c.
    let within = slice_get_within (map new among) k v at_v in
    let found = get_some among k (omega (arith, within, length-map among new)) in
    let set = found.0 in
    let new_at : slice_get (map new among) k ≡ Some (new set) = slice_get-map new among k ∙ ap (option_map new) found.1 in
    let old_at : slice_get (map old among) k ≡ Some (old set) = slice_get-map old among k ∙ ap (option_map old) found.1 in
    let is_v : new set ≡ v = same_Some (new set) v (sym new_at ∙ at_v) in
    let was : IsExact (excluding set m) cliques = all_zip-at (λ s x. IsExact (excluding s m) x) among all k set cliques exact found.1 at_cliques in
    let differ : AreChangesBetween (old set, new set) c = all_zip-at AreChangesBetween (zip (map old among) (map new among)) changes k (old set, new set) c between (slice_get-zip (map old among) (map new among) k (old set) (new set) old_at new_at) at_c in
    let vertices : length (old set).vertex ≡ m.frame.graph.vertices = was.small.vertices ∙ ap (λ (g : Digraph). g.vertices) (sym was.graph) in
    let arcs : length (old set).arc ≡ length m.frame.graph.arcs = was.small.arcs ∙ ap (λ (g : Digraph). length g.arcs) (sym was.graph) in
    let here : IsKept road_cost_ops m.frame (new set) cliques c = record {
      vertices = subst (λ (n : ℕ). All (λ i. i < n) c.vertices) vertices differ.vertices.in_range;
      arcs = subst (λ (n : ℕ). All (λ i. i < n) c.arcs) arcs differ.arcs.in_range;
      exact = WereExact-changed road_cost_ops m.frame (old set) (new set) cliques c.vertices c.arcs differ.vertices differ.arcs was.exact;
    } in
    subst (λ (x : Weighting WeightDurLen). IsKept road_cost_ops m.frame x cliques c) is_v here in
    record {
      sets = all_zip-length (λ s c. IsExact (excluding s m) c) among all exact ∙ sym (length-map among new);
      changes = all_zip-length AreChangesBetween (zip (map old among) (map new among)) changes between ∙ length-zip-map old new among ∙ sym (length-map among new);
      each = kept;
    }

-- and the searches are counted for each
pub remade-by : (m : Customized) (w : Weighting WeightDurLen) (changes : List Changed) (searches : ℕ)
    → AllZip AreChangesBetween (zip (weights_under m.road.network m.road.weights) (weights_under m.road.network w)) changes
    → AreCounted m.frame changes searches
    → IsRemadeBy m w searches
remade-by m w changes searches between counted =
    let network = m.road.network in
    record {
      counts = counted.counts;
      each =
          all_zip-through (λ s. avoided network s m.road.weights) (λ s. avoided network s w) AreChangesBetween _ (λ set n. IsTouchedBy m.frame (avoided network set m.road.weights) (avoided network set w) n)
          (λ set c n differ touched. record { changed = c; differ = differ; touched = touched }) (exclusions network) changes counted.counts between counted.each;
      all = counted.all;
    }
