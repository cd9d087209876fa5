-- The law of leaps: to a goal a least path of leaps costs what a least path of the whole space does.
use Rattle.std.proofs.Common.{◌≡◌, ◌≢◌, ℕ, ◌<◌, ◌^◌, ◌⊎◌, inl, inr, Option, Some, None, List, [], ◌∷◌, ◌++◌, refl, sym, ◌∙◌, ap, subst, arith}
use Rattle.list_lemmas.proofs.Gets.{Contains_get}
use Rattle.search_graph.specs.Costs.{CostOps, CostLaws, NoDearer}
use Rattle.search_graph.specs.declared.ends.Start.{Start}
use Rattle.search_graph.specs.OrderLaws.{le_trans, le_from_same, plus_le, plus_le_left, plus_le_back, zero_plus}
use Rattle.search_graph.specs.ChainLaws.{Chain-valid, Chain-push, Chain-append}
use Rattle.step_search.specs.Spaces.{Space, HasHop, StepBy, Path, IsLeastCost, IsSpace}
use Rattle.step_search.specs.Paths.{IsPathTo, IsLeastPathCost}
use Rattle.cut_walks.specs.Answering.{only_one}
use Rattle.cut_walks.specs.Bounds.{Chain-ends}
use Rattle.cell_customize.specs.Leaping.{ArcHop, RowHop, Leap, IsJoinable}

-- a small space whose hops are leaps of the whole one, of those between the same two only some that are no dearer than any
pub record IsLeaping {C : Type 0} (ops : CostOps C) (S small : Space C) (Goal : ℕ → Type 0) : Type 0 where
  pub size : small.vertices ≡ S.vertices
  pub may : (u : ℕ) → small.May u → S.May u
  pub begins : (u : ℕ) → S.May u → small.May u
  pub there : (u v : ℕ) (c : C) → HasHop small u v c → Leap ops S Goal u v c
  pub back : (u v : ℕ) (c : C) → u < S.vertices → Leap ops S Goal u v c → (d : C) × HasHop small u v d × NoDearer ops d c

module _ {C : Type 0} {ops : CostOps C} (laws : CostLaws ops) (S : Space C) (space : IsSpace ops S) (join : IsJoinable ops S) where
  hop_valid : (u v : ℕ) (s : C) → HasHop S u v s → ops.valid s
  hop_valid u v s h = laws.units_valid s (2 ^ 29) (space.hop_units u v s h)

  path_valid : (u z : ℕ) (c d : C) (vs : List ℕ) → ops.valid c → Path ops S u c vs z d → ops.valid d
  path_valid u z c d vs v h = Chain-valid laws hop_valid u z c d vs v h

  module _ (Goal : ℕ → Type 0) where
    leap_valid : (u v : ℕ) (c : C) → Leap ops S Goal u v c → ops.valid c
    leap_valid u v c h = elim h [
      | inl a ↦ hop_valid u v c (inl a)
      | inr q ↦ elim q [
        | inl b ↦ subst ops.valid (sym b.5) (laws.plus_valid b.1 b.2 (hop_valid u b.0 b.1 (inr b.3)) (hop_valid b.0 v b.2 (inl b.4)))
        | inr r ↦ hop_valid u v c (inr r.1)
      ]
    ]

    leap_units : (u v : ℕ) (c : C) → Leap ops S Goal u v c → ops.units c (2 ^ 29)
    leap_units u v c h = elim h [
      | inl a ↦ space.hop_units u v c (inl a)
      | inr q ↦ elim q [
        | inl b ↦ subst (λ x. ops.units x (2 ^ 29)) (sym b.5) (join.beyond_units u b.0 v b.1 b.2 b.3 b.4)
        | inr r ↦ space.hop_units u v c (inr r.1)
      ]
    ]

    leap_heads : (u v : ℕ) (c : C) → Leap ops S Goal u v c → v < S.vertices
    leap_heads u v c h = elim h [
      | inl a ↦ space.heads u v c (inl a)
      | inr q ↦ elim q [ inl b ↦ space.heads b.0 v b.2 (inl b.4) | inr r ↦ space.heads u v c (inr r.1) ]
    ]

    -- a leap is a path of one hop or two
    path_from_leap : (u v : ℕ) (c s : C) → ops.valid c → Leap ops S Goal u v s → (vs : List ℕ) × Path ops S u c vs v (ops.plus c s)
    path_from_leap u v c s vc h = elim h [
      | inl a ↦ (v ∷ [], (ops.plus c s, (s, inl a, refl), (refl, refl)))
      | inr q ↦ elim q [
        | inl b ↦
            let v1 : ops.valid b.1 = hop_valid u b.0 b.1 (inr b.3) in
            let v2 : ops.valid b.2 = hop_valid b.0 v b.2 (inl b.4) in
            let sum : ops.plus c s ≡ ops.plus (ops.plus c b.1) b.2 = ap (ops.plus c) b.5 ∙ sym (laws.assoc c b.1 b.2 vc v1 v2) in
            (b.0 ∷ v ∷ [], (ops.plus c b.1, (b.1, inr b.3, refl), (ops.plus c s, (b.2, inl b.4, sum), (refl, refl))))
        | inr r ↦ (v ∷ [], (ops.plus c s, (s, inr r.1, refl), (refl, refl)))
      ]
    ]

    module _ (small : Space C) (is : IsLeaping ops S small Goal) where
      small_valid : (u v : ℕ) (s : C) → HasHop small u v s → ops.valid s
      small_valid u v s h = leap_valid u v s (is.there u v s h)

      -- each path of leaps is one of the whole space, at the same cost
      path_there : (vs : List ℕ) (u z : ℕ) (c d : C) → ops.valid c → Path ops small u c vs z d → (ws : List ℕ) × Path ops S u c ws z d
      path_there [] u z c d vc h = ([], h)
      path_there (v ∷ vs) u z c d vc h =
          let s : C = h.1.0 in
          let first = path_from_leap u v c s vc (is.there u v s h.1.1) in
          let here : Path ops S u c first.0 v h.0 = subst (λ x. Path ops S u c first.0 v x) (sym h.1.2) first.1 in
          let rest = path_there vs v z h.0 d (path_valid u v c h.0 first.0 vc here) h.2 in
          (first.0 ++ rest.0, Chain-append (StepBy ops S) u v z c h.0 d first.0 rest.0 here rest.1)

      -- how a path ends: at a goal, or with an arc more
      abbrev Ends : ℕ → C → ℕ → C → Type 0
      Ends x c z d = (Goal z × (x ≡ z) × (c ≡ d)) ⊎ ((t : C) × ArcHop S x z t × (d ≡ ops.plus c t))

      -- where a path stands that came to e by leaps: at e, or behind a place of its row
      abbrev Stands : ℕ → ℕ → C → Type 0
      Stands e x r = ((x ≡ e) × (r ≡ ops.zero)) ⊎ RowHop S e x r

      stands_valid : (e x : ℕ) (r : C) → Stands e x r → ops.valid r
      stands_valid e x r h = elim h [ inl p ↦ subst ops.valid (sym p.1) laws.zero_valid | inr p ↦ hop_valid e x r (inr p) ]

      -- an arc behind where it stands is a leap from e
      leap_on : (e x v : ℕ) (r t : C) → Stands e x r → ArcHop S x v t → Leap ops S Goal e v (ops.plus r t)
      leap_on e x v r t h a = elim h [
        | inl p ↦
            let vt : ops.valid t = hop_valid x v t (inl a) in
            let sum : t ≡ ops.plus r t = sym (ap (λ y. ops.plus y t) p.1 ∙ zero_plus laws t vt) in
            subst (λ y. Leap ops S Goal e v y) sum (inl (subst (λ (y : ℕ). ArcHop S y v t) p.0 a))
        | inr p ↦ inr (inl (x, r, t, p, a, refl))
      ]

      -- a place of a row behind where it stands is no dearer by a place of the row of e
      stands_on : (e x v : ℕ) (r t : C) → Stands e x r → RowHop S x v t → (o : C) × Stands e v o × NoDearer ops o (ops.plus r t)
      stands_on e x v r t h a = elim h [
        | inl p ↦
            let vt : ops.valid t = hop_valid x v t (inr a) in
            let sum : t ≡ ops.plus r t = sym (ap (λ y. ops.plus y t) p.1 ∙ zero_plus laws t vt) in
            (t, inr (subst (λ (y : ℕ). RowHop S y v t) p.0 a), le_from_same laws t (ops.plus r t) sum)
        | inr p ↦ let o = join.triangle e x v r t p a in (o.0, inr o.1, o.2)
      ]

      -- by a leap more, no dearer than q and r and t
      leap_more : (e v : ℕ) (q r t c n : C) → e < S.vertices → ops.valid q → ops.valid r → ops.valid t → ops.valid c → NoDearer ops (ops.plus q r) c → n ≡ ops.plus c t → Leap ops S Goal e v (ops.plus r t) →
          (d : C) × HasHop small e v d × NoDearer ops (ops.plus q d) n
      leap_more e v q r t c n lt vq vr vt vc le sum h =
          let b = is.back e v (ops.plus r t) lt h in
          let vd : ops.valid b.0 = small_valid e v b.0 b.1 in
          let one : NoDearer ops (ops.plus q b.0) (ops.plus q (ops.plus r t)) = plus_le_left laws b.0 (ops.plus r t) q vd (laws.plus_valid r t vr vt) vq b.2 in
          let two : NoDearer ops (ops.plus q (ops.plus r t)) (ops.plus (ops.plus q r) t) = le_from_same laws (ops.plus q (ops.plus r t)) (ops.plus (ops.plus q r) t) (sym (laws.assoc q r t vq vr vt)) in
          let three : NoDearer ops (ops.plus (ops.plus q r) t) (ops.plus c t) = plus_le laws (ops.plus q r) c t (laws.plus_valid q r vq vr) vc vt le in (
            b.0,
            b.1,
            subst (λ x. NoDearer ops (ops.plus q b.0) x) (sym sum)
                (le_trans laws (ops.plus q b.0) (ops.plus q (ops.plus r t)) (ops.plus c t) one (le_trans laws (ops.plus q (ops.plus r t)) (ops.plus (ops.plus q r) t) (ops.plus c t) two three)),
          )

      -- Each path that ends so is matched by one of leaps that is no dearer: q is paid at e, and r from there on.
      matched : (vs : List ℕ) (e x y z : ℕ) (q r c o d : C) → e < S.vertices → ops.valid q → ops.valid c → Stands e x r → NoDearer ops (ops.plus q r) c → Path ops S x c vs y o → Ends y o z d →
          (ws : List ℕ) × (f : C) × Path ops small e q ws z f × NoDearer ops f d
      matched [] e x y z q r c o d lt vq vc at le p ends =
          let vr : ops.valid r = stands_valid e x r at in
          elim ends [
            | inl g ↦
                let here : x ≡ z = sym p.0 ∙ g.1 in
                let paid : c ≡ d = sym p.1 ∙ g.2 in
                elim at [
                  | inl n ↦
                      let same : ops.plus q r ≡ q = ap (ops.plus q) n.1 ∙ laws.neutral q vq in
                      ([], q, (sym here ∙ n.0, refl), subst (λ y. NoDearer ops y d) same (subst (λ y. NoDearer ops (ops.plus q r) y) paid le))
                  | inr row ↦
                      let leap : Leap ops S Goal e z r = inr (inr (g.0, subst (λ (y : ℕ). RowHop S e y r) here row)) in
                      let b = is.back e z r lt leap in
                      let vd : ops.valid b.0 = small_valid e z b.0 b.1 in
                      let less : NoDearer ops (ops.plus q b.0) (ops.plus q r) = plus_le_left laws b.0 r q vd vr vq b.2 in
                      (z ∷ [], ops.plus q b.0, (ops.plus q b.0, (b.0, b.1, refl), (refl, refl)), le_trans laws (ops.plus q b.0) (ops.plus q r) d less (subst (λ y. NoDearer ops (ops.plus q r) y) paid le))
                ]
            | inr a ↦
                let arc : ArcHop S x z a.0 = subst (λ (y : ℕ). ArcHop S y z a.0) p.0 a.1 in
                let vt : ops.valid a.0 = hop_valid x z a.0 (inl arc) in
                let m = leap_more e z q r a.0 c d lt vq vr vt vc le (a.2 ∙ ap (λ y. ops.plus y a.0) p.1) (leap_on e x z r a.0 at arc) in
                (z ∷ [], ops.plus q m.0, (ops.plus q m.0, (m.0, m.1, refl), (refl, refl)), m.2)
          ]
      matched (v ∷ vs) e x y z q r c o d lt vq vc at le p ends =
          let vr : ops.valid r = stands_valid e x r at in
          let t : C = p.1.0 in
          let vt : ops.valid t = hop_valid x v t p.1.1 in
          let vn : ops.valid p.0 = subst ops.valid (sym p.1.2) (laws.plus_valid c t vc vt) in
          elim p.1.1 [
            | inl arc ↦
                let m = leap_more e v q r t c p.0 lt vq vr vt vc le p.1.2 (leap_on e x v r t at arc) in
                let vm : ops.valid m.0 = small_valid e v m.0 m.1 in
                let vqm : ops.valid (ops.plus q m.0) = laws.plus_valid q m.0 vq vm in
                let begin : NoDearer ops (ops.plus (ops.plus q m.0) ops.zero) p.0 = subst (λ y. NoDearer ops y p.0) (sym (laws.neutral (ops.plus q m.0) vqm)) m.2 in
                let rest = matched vs v v y z (ops.plus q m.0) ops.zero p.0 o d (space.heads x v t (inl arc)) vqm vn (inl (refl, refl)) begin p.2 ends in
                (v ∷ rest.0, rest.1, (ops.plus q m.0, (m.0, m.1, refl), rest.2), rest.3)
            | inr row ↦
                let on = stands_on e x v r t at row in
                let vo : ops.valid on.0 = stands_valid e v on.0 on.1 in
                let one : NoDearer ops (ops.plus q on.0) (ops.plus q (ops.plus r t)) = plus_le_left laws on.0 (ops.plus r t) q vo (laws.plus_valid r t vr vt) vq on.2 in
                let two : NoDearer ops (ops.plus q (ops.plus r t)) (ops.plus (ops.plus q r) t) = le_from_same laws (ops.plus q (ops.plus r t)) (ops.plus (ops.plus q r) t) (sym (laws.assoc q r t vq vr vt)) in
                let three : NoDearer ops (ops.plus (ops.plus q r) t) (ops.plus c t) = plus_le laws (ops.plus q r) c t (laws.plus_valid q r vq vr) vc vt le in
                let all : NoDearer ops (ops.plus q on.0) p.0 = subst (λ y. NoDearer ops (ops.plus q on.0) y) (sym p.1.2)
                (le_trans laws (ops.plus q on.0) (ops.plus q (ops.plus r t)) (ops.plus c t) one (le_trans laws (ops.plus q (ops.plus r t)) (ops.plus (ops.plus q r) t) (ops.plus c t) two three)) in
                matched vs e v y z q on.0 p.0 o d lt vq vn on.1 all p.2 ends
          ]

      -- from where it begins
      path_back : (u y z : ℕ) (o d : C) (vs : List ℕ) → u < S.vertices → Path ops S u ops.zero vs y o → Ends y o z d → (ws : List ℕ) × (f : C) × Path ops small u ops.zero ws z f × NoDearer ops f d
      path_back u y z o d vs lt p ends =
          matched vs u u y z ops.zero ops.zero ops.zero o d lt laws.zero_valid laws.zero_valid (inl (refl, refl)) (le_from_same laws (ops.plus ops.zero ops.zero) ops.zero (laws.neutral ops.zero laws.zero_valid)) p ends

      -- what stands before the last arc of a least path of leaps is least
      before_least : (u y z : ℕ) (c t d : C) (vs : List ℕ) → u < S.vertices → Path ops S u ops.zero vs y c → ArcHop S y z t → d ≡ ops.plus c t → IsLeastCost ops small u z d → IsLeastCost ops S u y c
      before_least u y z c t d vs lt p arc sum least ws g other =
          let vt : ops.valid t = hop_valid y z t (inl arc) in
          let vc : ops.valid c = path_valid u y ops.zero c vs laws.zero_valid p in
          let vg : ops.valid g = path_valid u y ops.zero g ws laws.zero_valid other in
          let b = path_back u y z g (ops.plus g t) ws lt other (inr (t, arc, refl)) in
          let le : NoDearer ops (ops.plus c t) (ops.plus g t) = subst (λ x. NoDearer ops x (ops.plus g t)) sum (le_trans laws d b.1 (ops.plus g t) (least b.0 b.1 b.2) b.3) in
          plus_le_back laws c g t vc vg vt le

      -- what a least path of leaps pays is small
      least_leaps : (u z : ℕ) (d : C) (vs : List ℕ) → S.May u → u < S.vertices → Path ops small u ops.zero vs z d → IsLeastCost ops small u z d → ops.units d (2 ^ 28)
      least_leaps u z d vs may lt h least = elim (Chain-ends (StepBy ops small) u z ops.zero d vs h) [
        | inl n ↦ subst (λ x. ops.units x (2 ^ 28)) (sym n.1) (laws.units_more ops.zero 0 (2 ^ 28) laws.zero_units (omega arith))
        | inr l ↦
            let y : ℕ = l.1 in
            let e : C = l.2 in
            let s : C = l.4.0 in
            let sum : d ≡ ops.plus e s = l.4.2 in
            let p = path_there l.0 u y ops.zero e laws.zero_valid l.3 in
            let ve : ops.valid e = path_valid u y ops.zero e p.0 laws.zero_valid p.1 in
            elim (is.there y z s l.4.1) [
              | inl a ↦
                  subst (λ x. ops.units x (2 ^ 28)) (sym sum) (join.behind_units u y z e s p.0 may p.1 (before_least u y z e s d p.0 lt p.1 a sum least) a)
              | inr k ↦ elim k [
                | inl b ↦
                    let v1 : ops.valid b.1 = hop_valid y b.0 b.1 (inr b.3) in
                    let v2 : ops.valid b.2 = hop_valid b.0 z b.2 (inl b.4) in
                    let on : Path ops S u ops.zero (p.0 ++ b.0 ∷ []) b.0 (ops.plus e b.1) = Chain-push (StepBy ops S) u y b.0 ops.zero e (ops.plus e b.1) p.0 p.1 (b.1, inr b.3, refl) in
                    let total : d ≡ ops.plus (ops.plus e b.1) b.2 = sum ∙ ap (ops.plus e) b.5 ∙ sym (laws.assoc e b.1 b.2 ve v1 v2) in
                    subst (λ x. ops.units x (2 ^ 28)) (sym total) (join.behind_units u b.0 z (ops.plus e b.1) b.2 (p.0 ++ b.0 ∷ []) may on (before_least u b.0 z (ops.plus e b.1) b.2 d (p.0 ++ b.0 ∷ []) lt on b.4 total least) b.4)
                | inr r ↦
                    let all = path_there vs u z ops.zero d laws.zero_valid h in
                    space.least_units u z d all.0 may all.1 (λ ws g other. let b = path_back u z z g g ws lt other (inl (r.0, refl, refl)) in le_trans laws d b.1 g (least b.0 b.1 b.2) b.3)
              ]
            ]
      ]

      -- the leaps can be searched
      pub IsSpace-leaps : ((u : ℕ) → S.May u → u < S.vertices) → IsSpace ops small
      IsSpace-leaps inside = record {
        heads = λ u v s h. subst (λ (n : ℕ). v < n) (sym is.size) (leap_heads u v s (is.there u v s h));
        hop_units = λ u v s h. leap_units u v s (is.there u v s h);
        least_units = λ u z d vs m h least. least_leaps u z d vs (is.may u m) (inside u (is.may u m)) h least;
      }

      module _ (start z : ℕ) (lt : start < S.vertices) (goal : Goal z) (apart : start ≢ z) where
        abbrev begin : Start C
        begin = record { vertex = start; cost = ops.zero }

        leads_there : (walk : List ℕ) (d : C) → IsPathTo ops small (begin ∷ []) z walk d → (other : List ℕ) × IsPathTo ops S (begin ∷ []) z other d
        leads_there walk d p =
            let at : p.start ≡ begin = only_one begin p.start p.among in
            let goes : Path ops small start ops.zero p.middle p.last p.paid = subst (λ (s : Start C). Path ops small s.vertex s.cost p.middle p.last p.paid) at p.goes in
            let may : S.May start = is.may start (subst (λ (s : Start C). small.May s.vertex) at p.may) in
            let all = path_there (p.middle ++ z ∷ []) start z ops.zero d laws.zero_valid (Chain-push (StepBy ops small) start p.last z ops.zero p.paid d p.middle goes p.joins) in
            elim (Chain-ends (StepBy ops S) start z ops.zero d all.0 all.1) [
              | inl n ↦ absurd (apart (sym n.0))
              | inr l ↦ (
                start ∷ (l.0 ++ z ∷ []),
                record { start = begin; among = Contains_get (begin ∷ []) 0 begin refl; may = may; middle = l.0; last = l.1; paid = l.2; goes = l.3; joins = l.4; is_walk = refl },
              )
            ]

        leads_back : (walk : List ℕ) (d : C) → IsPathTo ops S (begin ∷ []) z walk d → (other : List ℕ) × (f : C) × IsPathTo ops small (begin ∷ []) z other f × NoDearer ops f d
        leads_back walk d p =
            let at : p.start ≡ begin = only_one begin p.start p.among in
            let goes : Path ops S start ops.zero p.middle p.last p.paid = subst (λ (s : Start C). Path ops S s.vertex s.cost p.middle p.last p.paid) at p.goes in
            let may : small.May start = is.begins start (subst (λ (s : Start C). S.May s.vertex) at p.may) in
            let all : Path ops S start ops.zero (p.middle ++ z ∷ []) z d = Chain-push (StepBy ops S) start p.last z ops.zero p.paid d p.middle goes p.joins in
            let b = path_back start z z d d (p.middle ++ z ∷ []) lt all (inl (goal, refl, refl)) in
            elim (Chain-ends (StepBy ops small) start z ops.zero b.1 b.0 b.2) [
              | inl n ↦ absurd (apart (sym n.0))
              | inr l ↦ (
                start ∷ (l.0 ++ z ∷ []),
                b.1,
                record { start = begin; among = Contains_get (begin ∷ []) 0 begin refl; may = may; middle = l.0; last = l.1; paid = l.2; goes = l.3; joins = l.4; is_walk = refl },
                b.3,
              )
            ]

        -- a cheapest path of leaps to a goal costs what a cheapest one of the whole space does
        pub cost_leapt : (cost : Option C) → IsLeastPathCost ops small (begin ∷ []) z cost → IsLeastPathCost ops S (begin ∷ []) z cost
        cost_leapt None none = λ walk d p. let b = leads_back walk d p in none b.0 b.1 b.2
        cost_leapt (Some d) some =
            let q = leads_there some.0 d some.1.leads in
            (q.0, record { leads = q.1; least = λ walk e p. let b = leads_back walk e p in le_trans laws d b.1 e (some.1.least b.0 b.1 b.2) b.3 })
