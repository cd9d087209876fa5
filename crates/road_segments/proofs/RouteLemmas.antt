-- Streets and the places of their ways, one by one.
use Rattle.std.proofs.Common.{◌≡◌, ℕ, ℤ, ◌+◌, ◌-◌, ◌<◌, ◌≤◌, List, [], ◌∷◌, ◌++◌, length, get_or, take, drop, Option, Some, None, Bool, true, false, cond, arith, refl, sym, ap, subst, ◌∙◌, add-one, append_assoc, length-append}
use Rattle.std.specs.Prelude.{◌||◌, nat_lt, option_map, unwrap_or}
use Rattle.std.specs.List.{flat_map, slice_get}
use Rattle.std.proofs.lemmas.List.{append-nil}
use Rattle.std.proofs.Math.ListN.{drop_of_length-le}
use Rattle.std.proofs.lemmas.List.Concat.{flat_map-append}
use Rattle.std.proofs.lemmas.List.Elements.{All-push}
use Rattle.std.proofs.lemmas.Bool.Decides.{Decides-ltb}
use Rattle.std.proofs.lemmas.Option.{same_Some, slice_get-get_or, slice_get-map, slice_get_read, slice_get_within}
use Rattle.road_base.specs.declared.osm_objects.Object.{Object}
use Rattle.road_base.specs.declared.osm_objects.Object.TheVariants as object
use Rattle.road_base.specs.declared.osm_objects.Way.{Way}
use Rattle.way_profile.specs.Vehicle.{ProfileView, IsSpeed}
use Rattle.way_profile.specs.WayRule.{way_use}
use Rattle.way_profile.specs.declared.way_uses.WayUse.{WayUse}
use Rattle.list_lemmas.proofs.Fronts.{take-get}
use Rattle.list_lemmas.proofs.Gets.{get_some}
use Rattle.road_segments.proofs.Drops.{drop-get}
use Rattle.road_segments.proofs.SegmentLemmas.{along-few}
use Rattle.road_segments.specs.Located.{AreRoutes, StandAt, nodes_at, nodes_in, segments_on}
use Rattle.road_segments.specs.Rows.{no_street, street_at}
use Rattle.road_segments.specs.Segment.{Segment, segments_along, segments_of_way, segments_used, street_of}
use Rattle.road_segments.specs.declared.spots.Spot.{Spot}
use Rattle.road_segments.specs.declared.streets.Street.{Street}

-- one more street with its place
segments_on-push : (spot : ℤ → Option Spot) (objects : List Object) (streets : List Street) (places : List ℕ) (s : Street) (p : ℕ) → length streets ≡ length places
    → segments_on spot objects (streets ++ s ∷ []) (places ++ p ∷ []) ≡ segments_on spot objects streets places ++ segments_along spot s (nodes_at objects p)
segments_on-push spot objects [] [] s p h = append-nil _
segments_on-push spot objects [] (q ∷ places) s p h = absurd (omega arith)
segments_on-push spot objects (t ∷ streets) [] s p h = absurd (omega arith)
segments_on-push spot objects (t ∷ streets) (q ∷ places) s p h =
    ap (λ (x : List Segment). segments_along spot t (nodes_at objects q) ++ x) (segments_on-push spot objects streets places s p (omega arith))
    ∙ sym (append_assoc (segments_along spot t (nodes_at objects q)) (segments_on spot objects streets places) (segments_along spot s (nodes_at objects p)))

module _ (spot : ℤ → Option Spot) (objects : List Object) (profile : ProfileView) (ways : List (ℤ × Way)) (streets : List Street) (places : List ℕ) (w : ℤ × Way) where
  -- the segments of one more way
  more-ways : flat_map (λ way. segments_of_way spot profile way.1) (ways ++ w ∷ [])
      ≡ flat_map (λ way. segments_of_way spot profile way.1) ways ++ segments_of_way spot profile w.1
  more-ways =
      flat_map-append (λ way. segments_of_way spot profile way.1) ways (w ∷ [])
      ∙ ap (λ (x : List Segment). flat_map (λ way. segments_of_way spot profile way.1) ways ++ x) (append-nil (segments_of_way spot profile w.1))

  -- the way has segments along its street
  pub AreRoutes-add : (p : ℕ) (s : Street) → slice_get objects p ≡ Some (object.Way w.1) → AreRoutes spot objects profile ways streets places
      → segments_of_way spot profile w.1 ≡ segments_along spot s w.1.nodes → 0 < length (segments_of_way spot profile w.1) → IsSpeed s.speed
      → AreRoutes spot objects profile (ways ++ w ∷ []) (streets ++ s ∷ []) (places ++ p ∷ [])
  AreRoutes-add p s at h its some speed =
      let along : segments_along spot s (nodes_at objects p) ≡ segments_of_way spot profile w.1 =
      ap (λ (o : Option Object). segments_along spot s (nodes_in o)) at ∙ sym its in
      let pushed = segments_on-push spot objects streets places s p h.as_many in
      record {
        as_many = omega (arith, h.as_many, length-append streets (s ∷ []), length-append places (p ∷ []));
        in_range = All-push (λ place. place < length objects) places p h.in_range (slice_get_within objects p _ at);
        speeds = All-push (λ t. IsSpeed t.speed) streets s h.speeds speed;
        makes =
            pushed
            ∙ ap (λ (x : List Segment). x ++ segments_along spot s (nodes_at objects p)) h.makes
            ∙ ap (λ (x : List Segment). flat_map (λ way. segments_of_way spot profile way.1) ways ++ x) along
            ∙ sym more-ways;
        some = omega (
          arith,
          h.some,
          some,
          ap length pushed,
          ap length along,
          length-append streets (s ∷ []),
          length-append (segments_on spot objects streets places) (segments_along spot s (nodes_at objects p)),
        );
      }

  -- it has none
  pub AreRoutes-skip : AreRoutes spot objects profile ways streets places → segments_of_way spot profile w.1 ≡ [] → AreRoutes spot objects profile (ways ++ w ∷ []) streets places
  AreRoutes-skip h none = record {
    as_many = h.as_many;
    in_range = h.in_range;
    speeds = h.speeds;
    makes =
        h.makes
        ∙ sym (append-nil (flat_map (λ way. segments_of_way spot profile way.1) ways))
        ∙ ap (λ (x : List Segment). flat_map (λ way. segments_of_way spot profile way.1) ways ++ x) (sym none)
        ∙ sym more-ways;
    some = h.some;
  }

from-option : (o : Option (ℤ × Way)) (x : Option Object) → option_map (λ e. Some (object.Way e.1)) o ≡ Some x → (w : ℤ × Way) × (o ≡ Some w) × (x ≡ Some (object.Way w.1))
from-option None x e = cc
from-option (Some w) x e = (w, refl, sym (same_Some (Some (object.Way w.1)) x e))

-- the way at a place
pub StandAt-get : (objects : List Object) (places : List ℕ) (ways : List (ℤ × Way)) (k p : ℕ) → StandAt objects places ways → slice_get places k ≡ Some p
    → (w : ℤ × Way) × (slice_get ways k ≡ Some w) × (slice_get objects p ≡ Some (object.Way w.1))
StandAt-get objects places ways k p h e =
    from-option (slice_get ways k) (slice_get objects p)
    (sym (slice_get-map (λ e. Some (object.Way e.1)) ways k)
    ∙ sym (ap (λ (x : List (Option Object)). slice_get x k) h)
    ∙ slice_get-map (slice_get objects) places k
    ∙ ap (option_map (slice_get objects)) e)

way-same : (a b : Way) → Some (object.Way a) ≡ Some (object.Way b) → a ≡ b
way-same a b e = cc

-- a way with segments is one that may be used
used-some : (spot : ℤ → Option Spot) (profile : ProfileView) (usage : WayUse) (way : Way) (b : Bool) → (usage.forward || usage.backward) ≡ b → nat_lt 0 (length (segments_used spot profile usage way)) ≡ true → b ≡ true
used-some spot profile usage way true e h = refl
used-some spot profile usage way false e h =
    let none : segments_used spot profile usage way ≡ [] = ap (λ (x : Bool). cond x (segments_along spot (street_of profile usage way) way.nodes) []) e in
    absurd (omega (arith, ap length none, (Decides-ltb 0 (length (segments_used spot profile usage way))).0 h))

pub may-be-used : (spot : ℤ → Option Spot) (profile : ProfileView) (usage : WayUse) (way : Way) → nat_lt 0 (length (segments_used spot profile usage way)) ≡ true → (usage.forward || usage.backward) ≡ true
may-be-used spot profile usage way h = used-some spot profile usage way (usage.forward || usage.backward) refl h

none-of : {X : Type 0} (xs : List X) → nat_lt 0 (length xs) ≡ false → xs ≡ []
none-of [] h = refl
none-of (x ∷ xs) h =
    let some : nat_lt 0 (length (x ∷ xs)) ≡ true = (Decides-ltb 0 (length (x ∷ xs))).1 (omega arith) in
    cc

module _ (spot : ℤ → Option Spot) (objects : List Object) (profile : ProfileView) (ways : List (ℤ × Way)) (all : List ℕ) (streets : List Street) (places : List ℕ) (k p : ℕ) (x : Object) (way : Way) (usage : WayUse)
    (stand : StandAt objects all ways) (at : slice_get all k ≡ Some p) (has : x ≡ get_or objects p x) (is_way : x ≡ object.Way way)
    (so_far : AreRoutes spot objects profile (take k ways) streets places) (use_is : usage ≡ way_use profile way.tags) where
  the-way : (w : ℤ × Way) × (slice_get ways k ≡ Some w) × (slice_get objects p ≡ Some (object.Way w.1)) × (w.1 ≡ way)
  the-way =
      let g = StandAt-get objects all ways k p stand at in
      let here : slice_get objects p ≡ Some x = slice_get_read objects (length objects) p x refl (slice_get_within objects p _ g.2) has in
      (g.0, g.1, g.2, way-same g.0.1 way (sym g.2 ∙ here ∙ ap Some is_way))

  -- its segments
  of-way : (w : Way) → w ≡ way → segments_of_way spot profile w ≡ segments_used spot profile usage w
  of-way w same = ap (λ (u : WayUse). segments_used spot profile u w) (ap (λ (v : Way). way_use profile v.tags) same ∙ sym use_is)

  pub step-add : (s : Street) (streets' : List Street) (places' : List ℕ) → nat_lt 0 (length (segments_used spot profile usage way)) ≡ true → IsSpeed usage.speed
      → s ≡ street_of profile usage way → streets' ≡ streets ++ s ∷ [] → places' ≡ places ++ p ∷ []
      → AreRoutes spot objects profile (take (k + 1) ways) streets' places'
  step-add s streets' places' some speed e es ep =
      let w = the-way in
      let usable = may-be-used spot profile usage way some in
      let its : segments_of_way spot profile w.0.1 ≡ segments_along spot s w.0.1.nodes =
      of-way w.0.1 w.3
      ∙ ap (λ (b : Bool). cond b (segments_along spot (street_of profile usage w.0.1) w.0.1.nodes) []) usable
      ∙ ap (λ (t : Street). segments_along spot t w.0.1.nodes) (ap (street_of profile usage) w.3 ∙ sym e) in
      let many : 0 < length (segments_of_way spot profile w.0.1) =
      omega (arith, ap length (of-way w.0.1 w.3 ∙ ap (segments_used spot profile usage) w.3), (Decides-ltb 0 (length (segments_used spot profile usage way))).0 some) in
      rw (es, ep, take-get ways k w.0 w.1)
      (AreRoutes-add spot objects profile (take k ways) streets places w.0 p s w.2 so_far its many (subst (λ (t : Street). IsSpeed t.speed) (sym e) speed))

  pub step-skip : nat_lt 0 (length (segments_used spot profile usage way)) ≡ false → AreRoutes spot objects profile (take (k + 1) ways) streets places
  step-skip none =
      let w = the-way in
      rw (take-get ways k w.0 w.1)
      (AreRoutes-skip spot objects profile (take k ways) streets places w.0 so_far (of-way w.0.1 w.3 ∙ ap (segments_used spot profile usage) w.3 ∙ none-of (segments_used spot profile usage way) none))

-- the streets from number k on, the first apart
pub segments_on-at : (spot : ℤ → Option Spot) (objects : List Object) (streets : List Street) (places : List ℕ) (k p : ℕ) → length streets ≡ length places → slice_get places k ≡ Some p
    → (s : Street) × (slice_get streets k ≡ Some s)
    × (segments_on spot objects (drop k streets) (drop k places) ≡ segments_along spot s (nodes_at objects p) ++ segments_on spot objects (drop (k + 1) streets) (drop (k + 1) places))
segments_on-at spot objects streets places k p h e =
    let lt : k < length streets = omega (arith, slice_get_within places k p e) in
    let g = get_some streets k lt in
    (g.0, g.1, rw (drop-get streets k g.0 g.1, drop-get places k p e, add-one) refl)

-- the segments of one more street are counted
pub few-step : (spot : ℤ → Option Spot) (objects : List Object) (streets : List Street) (places all : List ℕ) (ids : List ℤ) (k count r total : ℕ)
    → length streets ≡ length places → all ≡ places → k < length all → ids ≡ nodes_at objects (get_or all k 0)
    → ((s : Street) → r ≡ length (segments_along spot s ids))
    → count + length (segments_on spot objects (drop k streets) (drop k places)) ≡ total
    → count + r + length (segments_on spot objects (drop (k + 1) streets) (drop (k + 1) places)) ≡ total
few-step spot objects streets places all ids k count r total h same lt e n t =
    let at : slice_get places k ≡ Some (get_or all k 0) = ap (λ (x : List ℕ). slice_get x k) (sym same) ∙ slice_get-get_or all k 0 lt in
    let g = segments_on-at spot objects streets places k (get_or all k 0) h at in
    omega (
      arith,
      ap length g.2,
      n g.0 ∙ ap (λ (x : List ℤ). length (segments_along spot g.0 x)) e,
      length-append (segments_along spot g.0 (nodes_at objects (get_or all k 0))) (segments_on spot objects (drop (k + 1) streets) (drop (k + 1) places)),
    )

-- there is room for the segments of one more street
pub room-step : (spot : ℤ → Option Spot) (objects : List Object) (streets : List Street) (places all : List ℕ) (ids : List ℤ) (k room total : ℕ)
    → length streets ≡ length places → all ≡ places → k < length all → ids ≡ nodes_at objects (get_or all k 0)
    → total ≤ room + length (segments_on spot objects (drop k streets) (drop k places))
    → total ≤ room + (length ids - 1) + length (segments_on spot objects (drop (k + 1) streets) (drop (k + 1) places))
room-step spot objects streets places all ids k room total h same lt e t =
    let at : slice_get places k ≡ Some (get_or all k 0) = ap (λ (x : List ℕ). slice_get x k) (sym same) ∙ slice_get-get_or all k 0 lt in
    let g = segments_on-at spot objects streets places k (get_or all k 0) h at in
    omega (
      arith,
      ap length g.2,
      along-few spot g.0 ids,
      ap (λ (x : List ℤ). length (segments_along spot g.0 x)) e,
      length-append (segments_along spot g.0 (nodes_at objects (get_or all k 0))) (segments_on spot objects (drop (k + 1) streets) (drop (k + 1) places)),
      t,
    )

-- the segments of one more street have their rows
pub rows-step : (spot : ℤ → Option Spot) (objects : List Object) (streets : List Street) (places all : List ℕ) (ids : List ℤ) (k : ℕ) (old new total : List Segment)
    → length streets ≡ length places → all ≡ places → k < length all → ids ≡ nodes_at objects (get_or all k 0)
    → new ≡ old ++ segments_along spot (street_at streets k) ids
    → old ++ segments_on spot objects (drop k streets) (drop k places) ≡ total
    → new ++ segments_on spot objects (drop (k + 1) streets) (drop (k + 1) places) ≡ total
rows-step spot objects streets places all ids k old new total h same lt e n t =
    let at : slice_get places k ≡ Some (get_or all k 0) = ap (λ (x : List ℕ). slice_get x k) (sym same) ∙ slice_get-get_or all k 0 lt in
    let g = segments_on-at spot objects streets places k (get_or all k 0) h at in
    let street : street_at streets k ≡ g.0 = ap (λ (o : Option Street). unwrap_or o no_street) g.1 in
    let rest = segments_on spot objects (drop (k + 1) streets) (drop (k + 1) places) in
    ap (λ (x : List Segment). x ++ rest) (n ∙ ap (λ (x : Street). old ++ segments_along spot x ids) street ∙ ap (λ (x : List ℤ). old ++ segments_along spot g.0 x) e)
    ∙ append_assoc old (segments_along spot g.0 (nodes_at objects (get_or all k 0))) rest
    ∙ ap (λ (x : List Segment). old ++ x) (sym g.2)
    ∙ t

-- behind the last street there are no segments
pub segments_on-end : (spot : ℤ → Option Spot) (objects : List Object) (streets : List Street) (places : List ℕ) (k : ℕ) → length streets ≡ length places → length places ≤ k
    → segments_on spot objects (drop k streets) (drop k places) ≡ []
segments_on-end spot objects streets places k same le =
    ap (λ (x : List Street). segments_on spot objects x (drop k places)) (drop_of_length-le streets (omega (arith, same, le)))
