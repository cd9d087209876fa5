-- How a search by labels goes on, and what it ends with. Labels are what paths cost, and only fall. The cheapest entry of the queue
-- is no dearer than any path that the labels don't match yet, so a label that is taken at it is least, and small.
use Rattle.std.proofs.Common.{◌≡◌, ◌≢◌, ℕ, zero, suc, ◌<◌, ◌+◌, ◌^◌, ◌⊎◌, inl, inr, Option, Some, None, List, [], ◌∷◌, ◌++◌, length, get_or, set, refl, sym, ◌∙◌, ap, subst, arith}
use Rattle.std.specs.List.{Contains, slice_get}
use Rattle.std.proofs.lemmas.Option.{same_Some, none-some, slice_get_within, slice_get-get_or}
use Rattle.std.proofs.lemmas.List.{get_or-set_same, length-set}
use Rattle.list_lemmas.proofs.Gets.{Contains_get, get_Contains, get_set}
use Rattle.search_graph.specs.Costs.{CostOps, CostLaws, NoDearer}
use Rattle.search_graph.specs.declared.ends.Start.{Start}
use Rattle.search_graph.specs.OrderLaws.{le_refl, le_trans, plus_le}
use Rattle.search_graph.specs.ChainLaws.{Chain-valid, Chain-push, Chain-grows}
use Rattle.step_search.specs.Spaces.{Space, HasHop, StepBy, Path, IsSpace}
use Rattle.step_search.specs.Paths.{IsPathTo, IsLeastPathCost}
use Rattle.label_search.specs.Labelled.{Held, IsEnd, IsExpanded, IsFront, IsReached, LabelWithin, Nothing, Offers}
use Rattle.label_search.specs.Least.{AreLeast, HasArcsAlone}
use Rattle.label_search.specs.Waiting.{TakesCheapest}

pub nothing : {E : Type 0} (x : E) → Contains [] x → ⊥
nothing x (k, lt, is) = omega arith

get_one : {X : Type 0} (x y : X) (k : ℕ) → slice_get (x ∷ []) k ≡ Some y → y ≡ x
get_one {X} x y zero e = sym (same_Some x y e)
get_one {X} x y (suc k) e = let lt : k < length {A = X} [] = slice_get_within [] k y e in absurd (omega arith)

-- what a list of one element contains is that element
only_one : {X : Type 0} (x y : X) → Contains (x ∷ []) y → y ≡ x
only_one x y h = let g = get_Contains (x ∷ []) y h in get_one x y g.0 g.1

-- a path is nothing, or has a last hop
last_hop : {C : Type 0} (ops : CostOps C) (S : Space C) (u z : ℕ) (c d : C) (vs : List ℕ) → Path ops S u c vs z d →
    ((z ≡ u) × (d ≡ c)) ⊎ ((ys : List ℕ) × (y : ℕ) × (e : C) × Path ops S u c ys y e × StepBy ops S y z e d)
last_hop ops S u z c d [] h = inl (h.0, h.1)
last_hop ops S u z c d (v ∷ vs) h = elim (last_hop ops S v z h.0 d vs h.2) [
  | inl p ↦ inr ([], u, c, (refl, refl), subst (λ (x : ℕ). StepBy ops S u x c d) (sym p.0) (subst (λ x. StepBy ops S u v c x) (sym p.1) h.1))
  | inr q ↦ inr (v ∷ q.0, q.1, q.2, (h.0, h.1, q.3), q.4)
]

module _ {C : Type 0} (S : Space C) where
  -- a vertex with a label is one of the space
  pub in_range : (labels : List (Option C)) → length labels ≡ S.vertices → (u : ℕ) (c : C) → slice_get labels u ≡ Some (Some c) → u < S.vertices
  in_range labels size u c h = let lt : u < length labels = slice_get_within labels u (Some c) h in omega (arith, lt, size)

  -- no place leads anywhere
  pub no_place : HasArcsAlone S → (u j v : ℕ) → slice_get (S.heads u) j ≡ Some v → ⊥
  no_place alone u j v h =
      let lt : j < length {A = ℕ} [] = slice_get_within [] j v (subst (λ (xs : List ℕ). slice_get xs j ≡ Some v) (alone u) h) in
      omega (arith, lt)

  -- where no arc leads out of a vertex no hop does
  pub end_from_none : HasArcsAlone S → (u : ℕ) → ((i v : ℕ) (s : C) → ¬ S.Arc u i v s) → IsEnd S u
  end_from_none alone u none v s hop = elim hop [
    | inl a ↦ none a.0 v s a.1
    | inr r ↦ no_place alone u r.0 v r.1
  ]

  -- such a vertex has been gone on from
  end_expanded : (ops : CostOps C) (labels : List (Option C)) (u : ℕ) (c : C) → IsEnd S u → IsExpanded ops S labels u c
  end_expanded ops labels u c none v s hop = absurd (none v s hop)

module _ {C : Type 0} (ops : CostOps C) (S : Space C) (start : ℕ) where
  -- a hop more
  pub reached_on : (u v : ℕ) (c s : C) → IsReached ops S start u c → HasHop S u v s → IsReached ops S start v (ops.plus c s)
  reached_on u v c s h hop = (h.0, h.1 ++ v ∷ [], Chain-push (StepBy ops S) start u v ops.zero c (ops.plus c s) h.1 h.2 (s, hop, refl))

  module _ (labels : List (Option C)) where
    -- without labels a search has come nowhere
    pub Front-none : (queue : List (C × ℕ)) → length labels ≡ S.vertices → ((v : ℕ) (d : C) → ¬ (slice_get labels v ≡ Some (Some d))) → ¬ S.May start → IsFront ops S start labels queue Nothing
    Front-none queue size none closed = record {
      size = size;
      begun = λ m. absurd (closed m);
      reached = λ v d e. absurd (none v d e);
      goes_on = λ v d e. absurd (none v d e);
    }

    -- it begins where it offers nothing
    pub Front-begun : (new : List (Option C)) (before after : List (C × ℕ)) → length labels ≡ S.vertices → ((v : ℕ) (d : C) → ¬ (slice_get labels v ≡ Some (Some d))) → S.May start →
        Offers ops S labels new before after start ops.zero → IsFront ops S start new after Nothing
    Front-begun new before after size none may o = record {
      size = o.size ∙ size;
      begun = λ m. o.found;
      reached = λ v d e. elim (o.came v d e) [ inl old ↦ absurd (none v d old.0) | inr p ↦ (may, [], (p.0, p.1)) ];
      goes_on = λ v d e. elim (o.came v d e) [
        | inl old ↦ absurd (none v d old.0)
        | inr p ↦ elim p.2 [ inl q ↦ inl q | inr end ↦ inr (inr (end_expanded S ops new v d end)) ]
      ];
    }

    -- it offers what a path costs
    pub Front-offered : (HeldBack : ℕ → C → Type 0) (new : List (Option C)) (before after : List (C × ℕ)) (v : ℕ) (c : C) →
        IsFront ops S start labels before HeldBack → Offers ops S labels new before after v c → IsReached ops S start v c → IsFront ops S start new after HeldBack
    Front-offered HeldBack new before after v c front o here = record {
      size = o.size ∙ front.size;
      begun = λ m. o.falls start ops.zero (front.begun m);
      reached = λ u d e. elim (o.came u d e) [
        | inl old ↦ front.reached u d old.0
        | inr p ↦ subst (λ (x : C). IsReached ops S start u x) (sym p.1) (subst (λ (x : ℕ). IsReached ops S start x c) (sym p.0) here)
      ];
      goes_on = λ u d e. elim (o.came u d e) [
        | inl old ↦ elim (front.goes_on u d old.0) [
          | inl q ↦ inl (old.1 q)
          | inr r ↦ elim r [ inl h ↦ inr (inl h) | inr x ↦ inr (inr (λ w s hop. o.falls w (ops.plus d s) (x w s hop))) ]
        ]
        | inr p ↦ elim p.2 [ inl q ↦ inl q | inr end ↦ inr (inr (end_expanded S ops new u d end)) ]
      ];
    }

    -- it takes an entry from the queue
    pub Front-popped : (before after : List (C × ℕ)) (v : ℕ) (c : C) → IsFront ops S start labels before Nothing → TakesCheapest ops before after (c, v) → IsFront ops S start labels after (Held v c)
    Front-popped before after v c front takes = record {
      size = front.size;
      begun = front.begun;
      reached = front.reached;
      goes_on = λ u d e. elim (front.goes_on u d e) [
        | inl q ↦ elim (takes.leaves (d, u) q) [ inl same ↦ inr (inl (ap (λ (x : C × ℕ). x.1) same, ap (λ (x : C × ℕ). x.0) same)) | inr stays ↦ inl stays ]
        | inr r ↦ elim r [ inl h ↦ absurd h | inr x ↦ inr (inr x) ]
      ];
    }

    pub least_popped : (before after : List (C × ℕ)) (v : ℕ) (c : C) → TakesCheapest ops before after (c, v) → (k : C) (w : ℕ) → Contains after (k, w) → NoDearer ops c k
    least_popped before after v c takes k w h = takes.least (k, w) (takes.among (k, w) h)

    -- the label of the entry has fallen since
    pub Front-passed : (queue : List (C × ℕ)) (v : ℕ) (c : C) → IsFront ops S start labels queue (Held v c) → ¬ (slice_get labels v ≡ Some (Some c)) → IsFront ops S start labels queue Nothing
    Front-passed queue v c front fallen = record {
      size = front.size;
      begun = front.begun;
      reached = front.reached;
      goes_on = λ u d e. elim (front.goes_on u d e) [
        | inl q ↦ inl q
        | inr r ↦ elim r [
          | inl h ↦ absurd (fallen (subst (λ (x : C). slice_get labels v ≡ Some (Some x)) h.1 (subst (λ (x : ℕ). slice_get labels x ≡ Some (Some d)) h.0 e)))
          | inr x ↦ inr (inr x)
        ]
      ];
    }

    -- or it goes on from it
    pub Front-expanded : (queue : List (C × ℕ)) (v : ℕ) (c : C) → IsFront ops S start labels queue (Held v c) → IsExpanded ops S labels v c → IsFront ops S start labels queue Nothing
    Front-expanded queue v c front expanded = record {
      size = front.size;
      begun = front.begun;
      reached = front.reached;
      goes_on = λ u d e. elim (front.goes_on u d e) [
        | inl q ↦ inl q
        | inr r ↦ elim r [
          | inl h ↦ inr (inr (subst (λ (x : C). IsExpanded ops S labels u x) (sym h.1) (subst (λ (x : ℕ). IsExpanded ops S labels x c) (sym h.0) expanded)))
          | inr x ↦ inr (inr x)
        ]
      ];
    }

-- a label that is no dearer than the one before, and in the queue if something leads on
pub Offers-put : {C : Type 0} {ops : CostOps C} (laws : CostLaws ops) (S : Space C) (old : List (Option C)) (before after : List (C × ℕ)) (v : ℕ) (c : C) → v < length old →
    ((d : C) → slice_get old v ≡ Some (Some d) → NoDearer ops c d) → Contains after (c, v) ⊎ IsEnd S v → ((x : C × ℕ) → x.1 ≢ v → Contains before x → Contains after x) →
    Offers ops S old (set old v (Some c)) before after v c
Offers-put {C} {ops} laws S old before after v c lt less leads stays =
    let new : List (Option C) = set old v (Some c) in
    let size : length new ≡ length old = length-set old v (Some c) in
    let long : v < length new = omega (arith, lt, size) in
    let here : slice_get new v ≡ Some (Some c) = slice_get-get_or new v None long ∙ ap Some (get_or-set_same old v (Some c) None lt) in
    record {
      size = size;
      falls = λ w e h.
          let below : w < length old = slice_get_within old w (Some h.0) h.1 in
          let x : Option C = get_or new w None in
          let at : slice_get new w ≡ Some x = slice_get-get_or new w None (omega (arith, below, size)) in
          elim (get_set old v w (Some c) x at) [
            | inl p ↦
                let there : slice_get old v ≡ Some (Some h.0) = subst (λ (n : ℕ). slice_get old n ≡ Some (Some h.0)) p.0 h.1 in
                (c, subst (λ (n : ℕ). slice_get new n ≡ Some (Some c)) (sym p.0) here, le_trans laws c h.0 e (less h.0 there) h.2)
            | inr p ↦ let same : x ≡ Some h.0 = same_Some x (Some h.0) (sym p.1 ∙ h.1) in (h.0, at ∙ ap Some same, h.2)
          ];
      found = (c, here, le_refl laws c);
      came = λ u d e. elim (get_set old v u (Some c) (Some d) e) [
        | inl p ↦
            let cost : d ≡ c = same_Some d c p.1 in
            let entry : ◌≡◌ {A = C × ℕ} (d, u) (c, v) = ap (λ (x : C). (x, u)) cost ∙ ap (λ (n : ℕ). (c, n)) p.0 in
            inr (
              p.0,
              cost,
              elim leads [
                | inl q ↦ inl (subst (Contains after) (sym entry) q)
                | inr end ↦ inr (subst (IsEnd S) (sym p.0) end)
              ],
            )
        | inr p ↦ inl (p.1, stays (d, u) p.0)
      ];
    }

module _ {C : Type 0} {ops : CostOps C} (laws : CostLaws ops) (S : Space C) (space : IsSpace ops S) (start : ℕ) where
  pub hop_valid : (u v : ℕ) (s : C) → HasHop S u v s → ops.valid s
  hop_valid u v s h = laws.units_valid s (2 ^ 29) (space.hop_units u v s h)

  -- a sum with a hop fits
  pub hop_fits : (u v : ℕ) (c s : C) → ops.units c (2 ^ 28) → HasHop S u v s → ops.units (ops.plus c s) (2 ^ 31)
  hop_fits u v c s small h = laws.units_more (ops.plus c s) (2 ^ 28 + 2 ^ 29) (2 ^ 31) (laws.plus_units c s (2 ^ 28) (2 ^ 29) small (space.hop_units u v s h)) (omega arith)

  module _ (labels : List (Option C)) (queue : List (C × ℕ)) (HeldBack : ℕ → C → Type 0) (front : IsFront ops S start labels queue HeldBack)
      (Far : C → Type 0) (up : (c d : C) → Far c → NoDearer ops c d → Far d) (queued : (d : C) (v : ℕ) → Contains queue (d, v) → Far d) (held : (v : ℕ) (d : C) → HeldBack v d → Far d) where
    -- along a path the labels are no dearer than what is paid, or that is far
    onward : (u z : ℕ) (c e : C) (vs : List ℕ) → ops.valid c → LabelWithin ops labels u c → Path ops S u c vs z e → LabelWithin ops labels z e ⊎ Far e
    onward u z c e [] k at h = inl (subst (λ (x : C). LabelWithin ops labels z x) (sym h.1) (subst (λ (x : ℕ). LabelWithin ops labels x c) (sym h.0) at))
    onward u z c e (v ∷ vs) k at h =
        let d : C = at.0 in
        let far : Far d → Far e = λ f. up d e f (le_trans laws d c e at.2 (Chain-grows laws hop_valid u z c e (v ∷ vs) k h)) in
        elim (front.goes_on u d at.1) [
          | inl q ↦ inr (far (queued d u q))
          | inr r ↦ elim r [
            | inl b ↦ inr (far (held u d b))
            | inr x ↦
                let s : C = h.1.0 in
                let vs0 : ops.valid s = hop_valid u v s h.1.1 in
                let way = front.reached u d at.1 in
                let vd : ops.valid d = Chain-valid laws hop_valid start u ops.zero d way.1 laws.zero_valid way.2 in
                let found : LabelWithin ops labels v (ops.plus d s) = x v s h.1.1 in
                let le : NoDearer ops (ops.plus d s) (ops.plus c s) = plus_le laws d c s vd k vs0 at.2 in
                let next : LabelWithin ops labels v h.0 = (found.0, found.1, subst (λ (y : C). NoDearer ops found.0 y) (sym h.1.2) (le_trans laws found.0 (ops.plus d s) (ops.plus c s) found.2 le)) in
                onward v z h.0 e vs (subst ops.valid (sym h.1.2) (laws.plus_valid c s k vs0)) next h.2
          ]
        ]

  -- a label that is taken at the cheapest entry is small
  pub taken_small : (labels : List (Option C)) (queue : List (C × ℕ)) (v : ℕ) (c : C) → IsFront ops S start labels queue (Held v c) → ((k : C) (w : ℕ) → Contains queue (k, w) → NoDearer ops c k) →
      slice_get labels v ≡ Some (Some c) → ops.units c (2 ^ 28)
  taken_small labels queue v c front least here =
      let way = front.reached v c here in
      space.least_units start v c way.1 way.0 way.2
      (λ ws e p. elim (onward labels queue (Held v c) front (λ (d : C). NoDearer ops c d) (λ a b h le. le_trans laws c a b h le) least (λ u d h. subst (λ (x : C). NoDearer ops c x) (sym h.1) (le_refl laws c)) start v ops.zero e ws laws.zero_valid (front.begun way.0) p) [
        | inl w ↦ subst (λ (x : C). NoDearer ops x e) (same_Some w.0 c (same_Some (Some w.0) (Some c) (sym w.1 ∙ here))) w.2
        | inr far ↦ far
      ])

  module _ (labels : List (Option C)) (front : IsFront ops S start labels [] Nothing) where
    abbrev the_start : Start C
    the_start = record { vertex = start; cost = ops.zero }

    -- where the queue is empty, each path ends at a label that is no dearer
    ends : (v : ℕ) (walk : List ℕ) (e : C) → IsPathTo ops S (the_start ∷ []) v walk e → LabelWithin ops labels v e
    ends v walk e p =
        let at : p.start ≡ the_start = only_one the_start p.start p.among in
        let goes : Path ops S start ops.zero p.middle p.last p.paid = subst (λ (s : Start C). Path ops S s.vertex s.cost p.middle p.last p.paid) at p.goes in
        let may : S.May start = subst (λ (s : Start C). S.May s.vertex) at p.may in
        let all : Path ops S start ops.zero (p.middle ++ v ∷ []) v e = Chain-push (StepBy ops S) start p.last v ops.zero p.paid e p.middle goes p.joins in
        elim (onward labels [] Nothing front (λ (d : C). ⊥) (λ a b h le. h) (λ d u h. nothing (d, u) h) (λ u d h. h) start v ops.zero e (p.middle ++ v ∷ []) laws.zero_valid (front.begun may) all) [ inl w ↦ w | inr none ↦ absurd none ]

    cost_at : (v : ℕ) (label : Option C) → start ≢ v → slice_get labels v ≡ Some label → IsLeastPathCost ops S (the_start ∷ []) v label
    cost_at v None apart h = λ walk e p. let w = ends v walk e p in absurd (none-some w.0 (same_Some None (Some w.0) (sym h ∙ w.1)))
    cost_at v (Some d) apart h =
        let way = front.reached v d h in
        elim (last_hop ops S start v ops.zero d way.1 way.2) [
          | inl n ↦ absurd (apart (sym n.0))
          | inr l ↦ (
            start ∷ (l.0 ++ v ∷ []),
            record {
              leads = record { start = the_start; among = Contains_get (the_start ∷ []) 0 the_start refl; may = way.0; middle = l.0; last = l.1; paid = l.2; goes = l.3; joins = l.4; is_walk = refl };
              least = λ walk e p. let w = ends v walk e p in subst (λ (x : C). NoDearer ops x e) (same_Some w.0 d (same_Some (Some w.0) (Some d) (sym w.1 ∙ h))) w.2;
            },
          )
        ]

    -- so the labels are least
    pub AreLeast-done : AreLeast ops S start labels
    AreLeast-done = record { size = front.size; each = cost_at }

-- the same, where the queue is known to be empty
pub AreLeast-empty : {C : Type 0} {ops : CostOps C} (laws : CostLaws ops) (S : Space C) (space : IsSpace ops S) (start : ℕ) (labels : List (Option C)) (queue : List (C × ℕ)) → queue ≡ [] →
    IsFront ops S start labels queue Nothing → AreLeast ops S start labels
AreLeast-empty {C} {ops} laws S space start labels queue empty front = AreLeast-done laws S space start labels (subst (λ (q : List (C × ℕ)). IsFront ops S start labels q Nothing) empty front)
