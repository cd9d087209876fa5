-- The law of cut walks: over the parts, by shortcuts, a least chain costs what a least one over the whole does.
use Rattle.std.proofs.Common.{◌≡◌, ℕ, ◌⊎◌, inl, inr, List, [], ◌∷◌, ◌++◌, refl, sym, subst}
use Rattle.search_graph.specs.Costs.{CostOps, CostLaws, NoDearer}
use Rattle.search_graph.specs.Walks.{Chain, Paying}
use Rattle.search_graph.specs.OrderLaws.{le_trans, le_from_same, plus_le, plus_le_left, zero_plus}
use Rattle.search_graph.specs.ChainLaws.{Chain-append, Chain-push, Chain-map, Chain-valid, Chain-from_zero, Chain-to_more}
use Rattle.cut_walks.specs.Cut.{Cut, IsCut, RunHop, OverHop, Goes, Runs, Passes, MayBegin, MayEnd}

module _ {C : Type 0} {ops : CostOps C} (laws : CostLaws ops) (K : Cut C) (cut : IsCut ops K) where
  pub run_valid : (u v : ℕ) (s : C) → RunHop K u v s → ops.valid s
  run_valid u v s h = cut.valid u v s h.1

  pub over_valid : (u v : ℕ) (s : C) → OverHop K u v s → ops.valid s
  over_valid u v s h = elim h [
    | inl p ↦ cut.valid u v s p.1
    | inr p ↦ let r = cut.stands u v s p in Chain-valid laws run_valid u v ops.zero s r.0 laws.zero_valid r.1
  ]

  -- a run stays in its part
  run_joined : (u z : ℕ) (c d : C) (vs : List ℕ) → K.Joined u u → Chain (Paying ops (RunHop K)) u c vs z d → K.Joined u z
  run_joined u z c d [] j h = subst (λ (x : ℕ). K.Joined u x) (sym h.0) j
  run_joined u z c d (v ∷ vs) j h =
      let uv : K.Joined u v = h.1.1.0 in
      let vv : K.Joined v v = cut.along v u v (cut.back u v uv) uv in
      cut.along u v z uv (run_joined v z h.0 d vs vv h.2)

  -- a run is a chain over the whole
  goes_from_run : (u z : ℕ) (c d : C) (vs : List ℕ) → Chain (Paying ops (RunHop K)) u c vs z d → Chain (Paying ops K.Hop) u c vs z d
  goes_from_run = Chain-map (Paying ops (RunHop K)) {T = Paying ops K.Hop} (λ u v c d h. (h.0, h.1.1, h.2))

  -- Each chain over the parts is one over the whole, at the same cost.
  pub goes_from_pass : (u z : ℕ) (c d : C) (vs : List ℕ) → ops.valid c → Chain (Paying ops (OverHop K)) u c vs z d → (ws : List ℕ) × Chain (Paying ops K.Hop) u c ws z d
  goes_from_pass u z c d [] k h = ([], h)
  goes_from_pass u z c d (v ∷ vs) k h =
      let s : C = h.1.0 in
      let vs0 : ops.valid s = over_valid u v s h.1.1 in
      let vd : ops.valid h.0 = subst ops.valid (sym h.1.2) (laws.plus_valid c s k vs0) in
      let rest = goes_from_pass v z h.0 d vs vd h.2 in
      elim h.1.1 [
        | inl p ↦ (v ∷ rest.0, (h.0, (s, p.1, h.1.2), rest.1))
        | inr p ↦
            let r = cut.stands u v s p in
            let here : Chain (Paying ops K.Hop) u c r.0 v (ops.plus c s) = Chain-to_more laws cut.valid u v c s r.0 k (goes_from_run u v ops.zero s r.0 r.1) in
            let there : Chain (Paying ops K.Hop) v (ops.plus c s) rest.0 z d = subst (λ x. Chain (Paying ops K.Hop) v x rest.0 z d) h.1.2 rest.1 in
            (r.0 ++ rest.0, Chain-append (Paying ops K.Hop) u v z c (ops.plus c s) d r.0 rest.0 here there)
      ]

  -- a run is under way at u, from the vertex e by which its part was entered, and r is paid since
  abbrev UnderWay : ℕ → ℕ → C → Type 0
  UnderWay e u r = K.Open e × (((¬ K.Joined e e) × (u ≡ e) × (r ≡ ops.zero)) ⊎ (K.Joined e e × K.Entry e × (vs : List ℕ) × Runs ops K e vs u r))

  begin_run : (u : ℕ) → MayBegin K u → UnderWay u u ops.zero
  begin_run u m = (m.0, elim m.1 [ inl a ↦ inl (a, refl, refl) | inr j ↦ inr (j.0, j.1, [], (refl, refl)) ])

  -- a run that ends is no dearer by its shortcut
  end_run : (e u : ℕ) (r : C) → UnderWay e u r → MayEnd K u → (vs : List ℕ) × (f : C) × Passes ops K e vs u f × NoDearer ops f r
  end_run e u r h m = elim h.1 [
    | inl a ↦ ([], ops.zero, (a.1, refl), le_from_same laws ops.zero r (sym a.2))
    | inr b ↦
        let eu : K.Joined e u = run_joined e u ops.zero r b.2 b.0 b.3 in
        elim m [
          | inl alone ↦ absurd (alone (cut.along u e u (cut.back e u eu) eu))
          | inr exit ↦
              let c = cut.covers e u r b.2 h.0 b.1 exit eu b.3 in
              (u ∷ [], c.0, (c.0, (c.0, inr c.1, sym (zero_plus laws c.0 (over_valid e u c.0 (inr c.1)))), (refl, refl)), cut.least e u c.0 r b.2 c.1 b.3)
        ]
  ]

  -- one hop more inside the part
  more_run : (e u v : ℕ) (r s d : C) → UnderWay e u r → K.Joined u v → K.Hop u v s → d ≡ ops.plus r s → UnderWay e v d
  more_run e u v r s d h j hop q = (
    h.0,
    elim h.1 [
      | inl a ↦
          let ev : K.Joined e v = subst (λ (x : ℕ). K.Joined x v) a.1 j in
          absurd (a.0 (cut.along e v e ev (cut.back e v ev)))
      | inr b ↦ inr (b.0, b.1, b.2 ++ v ∷ [], Chain-push (Paying ops (RunHop K)) e u v ops.zero r d b.2 b.3 (s, (j, hop), q))
    ],
  )

  -- where a hop leaves a part or a vertex that is alone, the run may end
  left_run : (e u v : ℕ) (r s : C) → UnderWay e u r → (¬ K.Joined u v) → K.Hop u v s → MayEnd K u
  left_run e u v r s h n hop = elim (cut.joined_or_not u u) [
    | inl j ↦ inr (cut.leaves u v s hop n j)
    | inr a ↦ inl a
  ]

  -- and at its head one may begin
  pub entered_begins : (u v : ℕ) (s : C) → (¬ K.Joined u v) → K.Hop u v s → MayBegin K v
  entered_begins u v s n hop = (
    cut.arrives u v s hop,
    elim (cut.joined_or_not v v) [
      | inl j ↦ inr (j, cut.enters u v s hop n j)
      | inr a ↦ inl a
    ],
  )

  entered : (u v : ℕ) (s : C) → (¬ K.Joined u v) → K.Hop u v s → UnderWay v v ops.zero
  entered u v s n hop = begin_run v (entered_begins u v s n hop)

  -- a chain over the whole, behind a run that is under way, is matched over the parts
  matched : (vs : List ℕ) (e u z : ℕ) (r d : C) → UnderWay e u r → ops.valid r → MayEnd K z → Chain (Paying ops K.Hop) u r vs z d →
      (ws : List ℕ) × (f : C) × Passes ops K e ws z f × NoDearer ops f d
  matched [] e u z r d h vr m p = end_run e z d (subst (λ (x : C). UnderWay e z x) (sym p.1) (subst (λ (x : ℕ). UnderWay e x r) (sym p.0) h)) m
  matched (v ∷ vs) e u z r d h vr m p =
      let s : C = p.1.0 in
      let hop : K.Hop u v s = p.1.1 in
      let vs0 : ops.valid s = cut.valid u v s hop in
      let vn : ops.valid p.0 = subst ops.valid (sym p.1.2) (laws.plus_valid r s vr vs0) in
      elim (cut.joined_or_not u v) [
        | inl j ↦ matched vs e v z p.0 d (more_run e u v r s p.0 h j hop p.1.2) vn m p.2
        | inr n ↦
            let out = end_run e u r h (left_run e u v r s h n hop) in
            let vf : ops.valid out.1 = Chain-valid laws over_valid e u ops.zero out.1 out.0 laws.zero_valid out.2 in
            let rest = Chain-from_zero laws cut.valid v z p.0 d vs vn p.2 in
            let onward = matched vs v v z ops.zero rest.0 (entered u v s n hop) laws.zero_valid m rest.1 in
            let vo : ops.valid onward.1 = Chain-valid laws over_valid v z ops.zero onward.1 onward.0 laws.zero_valid onward.2 in
            let vrest : ops.valid rest.0 = Chain-valid laws cut.valid v z ops.zero rest.0 vs laws.zero_valid rest.1 in
            let fs : C = ops.plus out.1 s in
            let vfs : ops.valid (ops.plus out.1 s) = laws.plus_valid out.1 s vf vs0 in
            let across : Passes ops K e (out.0 ++ v ∷ []) v (ops.plus out.1 s) = Chain-push (Paying ops (OverHop K)) e u v ops.zero out.1 (ops.plus out.1 s) out.0 out.2 (s, inl (n, hop), refl) in
            let beyond : Chain (Paying ops (OverHop K)) v (ops.plus out.1 s) onward.0 z (ops.plus (ops.plus out.1 s) onward.1) = Chain-to_more laws over_valid v z (ops.plus out.1 s) onward.1 onward.0 vfs onward.2 in
            let first : NoDearer ops (ops.plus out.1 s) p.0 = subst (λ x. NoDearer ops (ops.plus out.1 s) x) (sym p.1.2) (plus_le laws out.1 r s vf vr vs0 out.3) in
            let second : NoDearer ops (ops.plus (ops.plus out.1 s) onward.1) (ops.plus p.0 rest.0) =
            le_trans laws (ops.plus (ops.plus out.1 s) onward.1) (ops.plus p.0 onward.1) (ops.plus p.0 rest.0)
            (plus_le laws (ops.plus out.1 s) p.0 onward.1 vfs vn vo first) (plus_le_left laws onward.1 rest.0 p.0 vo vrest vn onward.3) in (
              (out.0 ++ v ∷ []) ++ onward.0,
              ops.plus (ops.plus out.1 s) onward.1,
              Chain-append (Paying ops (OverHop K)) e v z ops.zero (ops.plus out.1 s) (ops.plus (ops.plus out.1 s) onward.1) (out.0 ++ v ∷ []) onward.0 across beyond,
              subst (λ x. NoDearer ops (ops.plus (ops.plus out.1 s) onward.1) x) (sym rest.2) second,
            )
      ]

  -- Each chain over the whole, from where one may begin to where one may end, is matched by one over the parts that is no dearer.
  pub pass_from_goes : (u z : ℕ) (d : C) (vs : List ℕ) → MayBegin K u → MayEnd K z → Goes ops K u vs z d → (ws : List ℕ) × (f : C) × Passes ops K u ws z f × NoDearer ops f d
  pass_from_goes u z d vs b m p = matched vs u u z ops.zero d (begin_run u b) laws.zero_valid m p
