-- Ordered maps whose values are changed alike, and the places of ways.
use Rattle.std.proofs.Common.{◌≡◌, ℕ, ℤ, suc, ◌-◌, ◌<◌, List, [], ◌∷◌, drop, map, Option, Some, arith, refl, sym, ap, ◌∙◌}
use Rattle.std.specs.BTreeMap.{insert_entry}
use Rattle.std.specs.declared.cmp.Ordering.{Ordering}
use Rattle.std.specs.declared.cmp.Ordering.TheVariants.{Less, Equal, Greater}
use Rattle.std.specs.Ordering.{int_cmp, match_ordering}
use Rattle.std.specs.List.{slice_get}
use Rattle.road_segments.proofs.Drops.{drop-get}
use Rattle.road_base.specs.declared.osm_objects.Object.{Object}
use Rattle.road_base.specs.declared.osm_objects.Object.TheVariants as object
use Rattle.road_base.specs.declared.osm_objects.Way.{Way}
use Rattle.road_segments.specs.Located.{StandAt}
use Rattle.road_segments.specs.Segment.{ways_by_id}

-- a key with its value changed
abbrev pub keyed : {K X Y : Type 0} → (X → Y) → K × X → K × Y
keyed f e = (e.0, f e.1)

module _ {K X Y : Type 0} (cmp : K → K → Ordering) (f : X → Y) where
  insert-at : (o : Ordering) (k : K) (v : X) (e : K × X) (es more : List (K × X)) (more' : List (K × Y)) → map (keyed f) more ≡ more'
      → map (keyed f) (match_ordering o ((k, v) ∷ e ∷ es) ((e.0, v) ∷ es) (e ∷ more)) ≡ match_ordering o ((k, f v) ∷ (e.0, f e.1) ∷ map (keyed f) es) ((e.0, f v) ∷ map (keyed f) es) ((e.0, f e.1) ∷ more')
  insert-at Less k v e es more more' h = refl
  insert-at Equal k v e es more more' h = refl
  insert-at Greater k v e es more more' h = ap (λ (x : List (K × Y)). (e.0, f e.1) ∷ x) h

  -- to change the values and to insert one go in either order
  pub map-insert_entry : (es : List (K × X)) (k : K) (v : X) → map (keyed f) (insert_entry cmp es k v) ≡ insert_entry cmp (map (keyed f) es) k (f v)
  map-insert_entry [] k v = refl
  map-insert_entry (e ∷ es) k v = insert-at (cmp k e.0) k v e es (insert_entry cmp es k v) (insert_entry cmp (map (keyed f) es) k (f v)) (map-insert_entry es k v)

abbrev pub as_object : Way → Option Object
as_object way = Some (object.Way way)

-- one more way is put into the map with its place
pub place-step : (objects : List Object) (i : ℕ) (w : Way) (old new : List (ℤ × ℕ)) → slice_get objects (i - 1) ≡ Some (object.Way w) → 0 < i
    → new ≡ insert_entry int_cmp old w.id (i - 1)
    → map (keyed (slice_get objects)) old ≡ map (keyed as_object) (ways_by_id (drop i objects))
    → map (keyed (slice_get objects)) new ≡ map (keyed as_object) (ways_by_id (drop (i - 1) objects))
place-step objects i w old new at p e h =
    let up : suc (i - 1) ≡ i = omega arith in
    let front : drop (i - 1) objects ≡ object.Way w ∷ drop i objects = drop-get objects (i - 1) (object.Way w) at ∙ ap (λ (k : ℕ). object.Way w ∷ drop k objects) up in
    ap (λ (x : List (ℤ × ℕ)). map (keyed (slice_get objects)) x) e
    ∙ map-insert_entry int_cmp (slice_get objects) old w.id (i - 1)
    ∙ ap (λ (x : Option Object). insert_entry int_cmp (map (keyed (slice_get objects)) old) w.id x) at
    ∙ ap (λ (x : List (ℤ × Option Object)). insert_entry int_cmp x w.id (as_object w)) h
    ∙ sym (map-insert_entry int_cmp as_object (ways_by_id (drop i objects)) w.id w)
    ∙ ap (λ (x : List Object). map (keyed as_object) (ways_by_id x)) (sym front)

map-value : {K X Y : Type 0} (f : X → Y) (es : List (K × X)) → map f (map (λ e. e.1) es) ≡ map (λ e. e.1) (map (keyed f) es)
map-value f [] = refl
map-value {K} {X} {Y} f (e ∷ es) = ap (λ (x : List Y). f e.1 ∷ x) (map-value f es)

map_map-as_object : (ways : List (ℤ × Way)) → map as_object (map (λ e. e.1) ways) ≡ map (λ e. Some (object.Way e.1)) ways
map_map-as_object [] = refl
map_map-as_object (w ∷ ways) = ap (λ (x : List (Option Object)). as_object w.1 ∷ x) (map_map-as_object ways)

-- the places that stand in the whole map
pub stand-at : (objects : List Object) (entries : List (ℤ × ℕ)) (places : List ℕ) → places ≡ map (λ e. e.1) entries
    → map (keyed (slice_get objects)) entries ≡ map (keyed as_object) (ways_by_id objects) → StandAt objects places (ways_by_id objects)
stand-at objects entries places e h =
    ap (λ (x : List ℕ). map (slice_get objects) x) e
    ∙ map-value (slice_get objects) entries
    ∙ ap (λ (x : List (ℤ × Option Object)). map (λ y. y.1) x) h
    ∙ sym (map-value as_object (ways_by_id objects))
    ∙ map_map-as_object (ways_by_id objects)
