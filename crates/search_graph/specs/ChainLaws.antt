-- Laws of chains of steps: how they are joined and taken apart, and how what they pay moves with what was paid before. For
-- each chain there is one of the same ends that is no dearer and meets no vertex twice; where each hop is within k units, that
-- one is within k units for each of its hops, of which there are fewer than vertices.
use Rattle.std.proofs.Common.{◌≡◌, ℕ, ◌+◌, ◌*◌, ◌<◌, inl, inr, true, List, [], ◌∷◌, ◌++◌, length, refl, sym, ◌∙◌, ap, subst}
use Rattle.std.specs.List.{IsDistinct, AllByRecursion, list_any}
use Rattle.std.proofs.Math.Dec.{eqb}
use Rattle.std.proofs.lemmas.Map.Keys.{IsDistinct-cons, IsDistinct-tail}
use Rattle.list_lemmas.proofs.Distinct.{none_or_any, first_or_rest, any-nil, IsDistinct-one, length-lt_from_distinct}
use Rattle.list_lemmas.proofs.Sums.{no_parts, one_part_more, parts_alone}
use Rattle.search_graph.specs.Costs.{CostOps, CostLaws, NoDearer}
use Rattle.search_graph.specs.Walks.{Chain, Paying}
use Rattle.search_graph.specs.OrderLaws.{le_refl, le_trans, plus_le_left, plus_grows, plus_grows_left, zero_plus}

module _ {C : Type 0} (S : ℕ → ℕ → C → C → Type 0) where
  -- one chain behind another
  pub Chain-append : (u v z : ℕ) (c d e : C) (vs ws : List ℕ) → Chain S u c vs v d → Chain S v d ws z e → Chain S u c (vs ++ ws) z e
  Chain-append u v z c d e [] ws h k = subst (λ y. Chain S y c ws z e) h.0 (subst (λ y. Chain S v y ws z e) h.1 k)
  Chain-append u v z c d e (y ∷ vs) ws h k = (h.0, h.1, Chain-append y v z h.0 d e vs ws h.2 k)

  -- one step more at the end
  pub Chain-push : (u v z : ℕ) (c d e : C) (vs : List ℕ) → Chain S u c vs v d → S v z d e → Chain S u c (vs ++ z ∷ []) z e
  Chain-push u v z c d e vs h k = Chain-append u v z c d e vs (z ∷ []) h (e, k, (refl, refl))

  -- the chain up to its last step
  pub Chain-last : (u v z : ℕ) (c e : C) (vs : List ℕ) → Chain S u c (vs ++ v ∷ []) z e →
      (z ≡ v) × (y : ℕ) × (d : C) × Chain S u c vs y d × S y v d e
  Chain-last u v z c e [] h = (h.2.0, u, c, (refl, refl), subst (λ x. S u v c x) (sym h.2.1) h.1)
  Chain-last u v z c e (w ∷ vs) h = let r = Chain-last w v z h.0 e vs h.2 in (r.0, r.1, r.2, (h.0, h.1, r.3), r.4)

  -- other steps between the same vertices at the same costs
  pub Chain-map : {T : ℕ → ℕ → C → C → Type 0} → ((u v : ℕ) (c d : C) → S u v c d → T u v c d) →
      (u z : ℕ) (c d : C) (vs : List ℕ) → Chain S u c vs z d → Chain T u c vs z d
  Chain-map f u z c d [] h = h
  Chain-map f u z c d (v ∷ vs) h = (h.0, f u v c h.0 h.1, Chain-map f v z h.0 d vs h.2)

module _ {C : Type 0} {ops : CostOps C} (laws : CostLaws ops) {Hop : ℕ → ℕ → C → Type 0} (hops : (u v : ℕ) (s : C) → Hop u v s → ops.valid s) where
  step_valid : (u v : ℕ) (c d : C) → ops.valid c → Paying ops Hop u v c d → ops.valid d
  step_valid u v c d k h = subst ops.valid (sym h.2) (laws.plus_valid c h.0 k (hops u v h.0 h.1))

  -- what a chain pays is valid
  pub Chain-valid : (u z : ℕ) (c d : C) (vs : List ℕ) → ops.valid c → Chain (Paying ops Hop) u c vs z d → ops.valid d
  Chain-valid u z c d [] k h = subst ops.valid (sym h.1) k
  Chain-valid u z c d (v ∷ vs) k h = Chain-valid v z h.0 d vs (step_valid u v c h.0 k h.1) h.2

  -- what is paid never falls
  pub Chain-grows : (u z : ℕ) (c d : C) (vs : List ℕ) → ops.valid c → Chain (Paying ops Hop) u c vs z d → NoDearer ops c d
  Chain-grows u z c d [] k h = subst (λ x. NoDearer ops c x) (sym h.1) (le_refl laws c)
  Chain-grows u z c d (v ∷ vs) k h =
      let here : NoDearer ops c h.0 = subst (λ x. NoDearer ops c x) (sym h.1.2) (plus_grows laws c h.1.0 k (hops u v h.1.0 h.1.1)) in
      le_trans laws c h.0 d here (Chain-grows v z h.0 d vs (step_valid u v c h.0 k h.1) h.2)

  -- b more at the start is b more at the end
  pub Chain-more : (b : C) → ops.valid b → (u z : ℕ) (c d : C) (vs : List ℕ) → ops.valid c →
      Chain (Paying ops Hop) u c vs z d → Chain (Paying ops Hop) u (ops.plus b c) vs z (ops.plus b d)
  Chain-more b vb u z c d [] k h = (h.0, ap (ops.plus b) h.1)
  Chain-more b vb u z c d (v ∷ vs) k h =
      let vs0 : ops.valid h.1.0 = hops u v h.1.0 h.1.1 in
      (ops.plus b h.0, (h.1.0, h.1.1, ap (ops.plus b) h.1.2 ∙ sym (laws.assoc b c h.1.0 vb k vs0)), Chain-more b vb v z h.0 d vs (step_valid u v c h.0 k h.1) h.2)

  -- what a chain pays is what was paid before it and the rest, which it pays from less
  pub Chain-less : (b : C) → ops.valid b → (u z : ℕ) (c d : C) (vs : List ℕ) → ops.valid c →
      Chain (Paying ops Hop) u (ops.plus b c) vs z d → (e : C) × Chain (Paying ops Hop) u c vs z e × (d ≡ ops.plus b e)
  Chain-less b vb u z c d [] k h = (c, (h.0, refl), h.1)
  Chain-less b vb u z c d (v ∷ vs) k h =
      let s : C = h.1.0 in
      let vs0 : ops.valid s = hops u v s h.1.1 in
      let next : h.0 ≡ ops.plus b (ops.plus c s) = h.1.2 ∙ laws.assoc b c s vb k vs0 in
      let rest = Chain-less b vb v z (ops.plus c s) d vs (laws.plus_valid c s k vs0) (subst (λ x. Chain (Paying ops Hop) v x vs z d) next h.2) in
      (rest.0, (ops.plus c s, (s, h.1.1, refl), rest.1), rest.2)

  -- a chain from c pays c and what one from nothing pays
  pub Chain-from_zero : (u z : ℕ) (c d : C) (vs : List ℕ) → ops.valid c →
      Chain (Paying ops Hop) u c vs z d → (e : C) × Chain (Paying ops Hop) u ops.zero vs z e × (d ≡ ops.plus c e)
  Chain-from_zero u z c d vs k h = Chain-less c k u z ops.zero d vs laws.zero_valid (subst (λ x. Chain (Paying ops Hop) u x vs z d) (sym (laws.neutral c k)) h)

  pub Chain-to_more : (u z : ℕ) (c e : C) (vs : List ℕ) → ops.valid c →
      Chain (Paying ops Hop) u ops.zero vs z e → Chain (Paying ops Hop) u c vs z (ops.plus c e)
  Chain-to_more u z c e vs k h = subst (λ x. Chain (Paying ops Hop) u x vs z (ops.plus c e)) (laws.neutral c k) (Chain-more c k u z ops.zero e vs laws.zero_valid h)

  -- u is on a chain that meets no vertex twice: what is left of it from u on
  cut : (u v z : ℕ) (e : C) (ws : List ℕ) → list_any (eqb u) (v ∷ ws) ≡ true → Chain (Paying ops Hop) v ops.zero ws z e → IsDistinct eqb (v ∷ ws) →
      (xs : List ℕ) × (f : C) × Chain (Paying ops Hop) u ops.zero xs z f × NoDearer ops f e × IsDistinct eqb (u ∷ xs)
  cut u v z e [] any h d = elim (first_or_rest u v [] any) [
    | inl p ↦ ([], e, (h.0 ∙ sym p, h.1), le_refl laws e, IsDistinct-one u)
    | inr p ↦ absurd (any-nil u p)
  ]
  cut u v z e (w ∷ ws) any h d = elim (first_or_rest u v (w ∷ ws) any) [
    | inl p ↦ (w ∷ ws, e, subst (λ (x : ℕ). Chain (Paying ops Hop) x ops.zero (w ∷ ws) z e) (sym p) h, le_refl laws e, subst (λ (x : ℕ). IsDistinct eqb (x ∷ w ∷ ws)) (sym p) d)
    | inr p ↦
        let s : C = h.1.0 in
        let vs : ops.valid s = hops v w s h.1.1 in
        let paid : ops.valid h.0 = subst ops.valid (sym h.1.2) (laws.plus_valid ops.zero s laws.zero_valid vs) in
        let rest = Chain-from_zero w z h.0 e ws paid h.2 in
        let more = cut u w z rest.0 ws p rest.1 (IsDistinct-tail eqb v (w ∷ ws) d) in
        let vr : ops.valid rest.0 = Chain-valid w z ops.zero rest.0 ws laws.zero_valid rest.1 in
        let le : NoDearer ops rest.0 e = subst (λ x. NoDearer ops rest.0 x) (sym rest.2) (plus_grows_left laws h.0 rest.0 paid vr) in
        (more.0, more.1, more.2, le_trans laws more.1 rest.0 e more.3 le, more.4)
  ]

  -- a chain that meets no vertex twice, and is no dearer
  pub Chain-simple : (u z : ℕ) (d : C) (vs : List ℕ) → Chain (Paying ops Hop) u ops.zero vs z d →
      (ws : List ℕ) × (e : C) × Chain (Paying ops Hop) u ops.zero ws z e × NoDearer ops e d × IsDistinct eqb (u ∷ ws)
  Chain-simple u z d [] h = ([], d, h, le_refl laws d, IsDistinct-one u)
  Chain-simple u z d (v ∷ vs) h =
      let s : C = h.1.0 in
      let valid_s : ops.valid s = hops u v s h.1.1 in
      let paid : h.0 ≡ s = h.1.2 ∙ zero_plus laws s valid_s in
      let rest = Chain-from_zero v z s d vs valid_s (subst (λ x. Chain (Paying ops Hop) v x vs z d) paid h.2) in
      let valid_rest : ops.valid rest.0 = Chain-valid v z ops.zero rest.0 vs laws.zero_valid rest.1 in
      let short = Chain-simple v z rest.0 vs rest.1 in
      let valid_short : ops.valid short.1 = Chain-valid v z ops.zero short.1 short.0 laws.zero_valid short.2 in
      elim (none_or_any u (v ∷ short.0)) [
        | inl none ↦ (
          v ∷ short.0,
          ops.plus s short.1,
          (s, (s, h.1.1, sym (zero_plus laws s valid_s)), Chain-to_more v z s short.1 short.0 valid_s short.2),
          subst (λ x. NoDearer ops (ops.plus s short.1) x) (sym rest.2) (plus_le_left laws short.1 rest.0 s valid_short valid_rest valid_s short.3),
          IsDistinct-cons eqb u (v ∷ short.0) none short.4,
        )
        | inr any ↦
            let part = cut u v z short.1 short.0 any short.2 short.4 in
            let le : NoDearer ops rest.0 d = subst (λ x. NoDearer ops rest.0 x) (sym rest.2) (plus_grows_left laws s rest.0 valid_s valid_rest) in
            (part.0, part.1, part.2, le_trans laws part.1 rest.0 d (le_trans laws part.1 short.1 rest.0 part.3 short.3) le, part.4)
      ]

  -- what a chain of hops within k units each pays
  pub Chain-units : (k : ℕ) → ((u v : ℕ) (s : C) → Hop u v s → ops.units s k) → (u z m : ℕ) (c d : C) (vs : List ℕ) → ops.units c m → Chain (Paying ops Hop) u c vs z d → ops.units d (m + length vs * k)
  Chain-units k small u z m c d [] a h = subst (λ x. ops.units x (m + 0 * k)) (sym h.1) (laws.units_more c m (m + 0 * k) a (no_parts m k))
  Chain-units k small u z m c d (v ∷ vs) a h =
      let here : ops.units h.0 (m + k) = subst (λ x. ops.units x (m + k)) (sym h.1.2) (laws.plus_units c h.1.0 m k a (small u v h.1.0 h.1.1)) in
      laws.units_more d ((m + k) + length vs * k) (m + length (v ∷ vs) * k) (Chain-units k small v z (m + k) h.0 d vs here h.2) (one_part_more m k (length vs))

  -- the vertices of a chain
  pub Chain-below : (n : ℕ) → ((u v : ℕ) (s : C) → Hop u v s → v < n) → (u z : ℕ) (c d : C) (vs : List ℕ) → Chain (Paying ops Hop) u c vs z d → AllByRecursion (λ y. y < n) vs
  Chain-below n heads u z c d [] h = tt
  Chain-below n heads u z c d (v ∷ vs) h = (heads u v h.1.0 h.1.1, Chain-below n heads v z h.0 d vs h.2)

  -- a chain of fewer hops than there are vertices
  pub Chain-short : (n k : ℕ) → ((u v : ℕ) (s : C) → Hop u v s → v < n) → ((u v : ℕ) (s : C) → Hop u v s → ops.units s k) →
      (u z : ℕ) (d : C) (vs : List ℕ) → u < n → Chain (Paying ops Hop) u ops.zero vs z d →
      (ws : List ℕ) × (e : C) × Chain (Paying ops Hop) u ops.zero ws z e × NoDearer ops e d × (length ws < n) × ops.units e (length ws * k)
  Chain-short n k heads small u z d vs lt h =
      let r = Chain-simple u z d vs h in
      let fewer : length r.0 < n = length-lt_from_distinct n u r.0 lt (Chain-below n heads u z ops.zero r.1 r.0 r.2) r.4 in
      (r.0, r.1, r.2, r.3, fewer, laws.units_more r.1 (0 + length r.0 * k) (length r.0 * k) (Chain-units k small u z 0 ops.zero r.1 r.0 laws.zero_units r.2) (parts_alone (length r.0) k))
