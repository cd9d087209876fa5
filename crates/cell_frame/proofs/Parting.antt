-- The cells that a search sees are a lawful cut.
use Rattle.std.proofs.Common.{◌≡◌, ℕ, ◌<◌, ◌≤◌, ◌⊎◌, inl, inr, Option, Some, None, List, [], ◌∷◌, sym, ◌∙◌, ap, subst, arith}
use Rattle.std.proofs.lemmas.Bool.{cases_lt}
use Rattle.std.proofs.lemmas.Bool.Decides.{eqb_tells}
use Rattle.search_graph.specs.Costs.{CostOps}
use Rattle.search_graph.specs.Digraph.{Digraph, Weighting, IsOpen}
use Rattle.search_graph.specs.Walks.{Chain, Paying, IsMove}
use Rattle.cell_partition.specs.Partition.{Partition, level_at, number_of}
use Rattle.cell_frame.specs.declared.cells.Cell.{Cell}
use Rattle.cell_frame.specs.Borders.{Holds, IsEntry, IsExit}
use Rattle.cell_frame.specs.Inside.{IsMoveIn, IsInside, IsLeastInside, IsInsideValue}
use Rattle.cell_frame.specs.Parts.{whole_at, ShareCell, AreParts, part_cut}
use Rattle.cut_walks.specs.Cut.{IsCut, RunHop, Runs}

-- cells of equal level and number are one
same_cell : {a b c d : ℕ} → a ≡ b → c ≡ d → ◌≡◌ {A = Cell} (record { level = a; number = c }) (record { level = b; number = d })
same_cell e f = cc

-- each entry and exit of a part has a least cost inside it, or no walk
abbrev pub AreValued : {C : Type 0} → CostOps C → Digraph → Partition → Weighting C → (ℕ → ℕ) → Type 0
AreValued {C} ops g p w level = (u v : ℕ) → 1 ≤ level u → IsEntry g p (whole_at p level u) u → IsExit g p (whole_at p level u) v →
    (o : Option C) × IsInsideValue ops g w (Holds p (whole_at p level u)) u v o

-- a cell holds a vertex, or it doesn't
holds_or_not : (p : Partition) (k : Cell) (v : ℕ) → Holds p k v ⊎ (¬ Holds p k v)
holds_or_not p k v = elim (cases_lt v p.vertices) [
  | inl lt ↦ elim (eqb_tells (number_of (level_at p k.level) v) k.number) [
    | inl e ↦ inl (lt, e.1)
    | inr n ↦ inr (λ h. n.1 h.1)
  ]
  | inr le ↦ inr (λ h. let bad : v < p.vertices = h.0 in omega arith)
]

module _ (p : Partition) (In : ℕ → Type 0) (level : ℕ → ℕ) (parts : AreParts p In level) where
  -- what shares a cell has the same one
  pub whole_same : (u v : ℕ) → ShareCell p level u v → whole_at p level v ≡ whole_at p level u
  whole_same u v h =
      let e : level v ≡ level u = parts.steady u v h in
      same_cell e (ap (λ (l : ℕ). number_of (level_at p l) v) e ∙ h.2.1)

  pub share_back : (u v : ℕ) → ShareCell p level u v → ShareCell p level v u
  share_back u v h =
      let e : whole_at p level v ≡ whole_at p level u = whole_same u v h in
      let l : level v ≡ level u = parts.steady u v h in
      let some : 1 ≤ level u = h.0 in
      (omega arith, subst (λ (k : Cell). Holds p k v) (sym e) h.2, subst (λ (k : Cell). Holds p k u) (sym e) h.1)

  pub share_along : (u v w : ℕ) → ShareCell p level u v → ShareCell p level v w → ShareCell p level u w
  share_along u v w h k = (h.0, h.1, subst (λ (c : Cell). Holds p c w) (whole_same u v h) k.2)

  -- two vertices of u's cell share it
  pub share_in : (u a b : ℕ) → 1 ≤ level u → Holds p (whole_at p level u) u → Holds p (whole_at p level u) a → Holds p (whole_at p level u) b → ShareCell p level a b
  share_in u a b some hu ha hb = share_along a u b (share_back u a (some, hu, ha)) (some, hu, hb)

  share_or_not : (u v : ℕ) → ShareCell p level u v ⊎ (¬ ShareCell p level u v)
  share_or_not u v = elim (cases_lt 0 (level u)) [
    | inl some ↦ elim (holds_or_not p (whole_at p level u) u) [
      | inl hu ↦ elim (holds_or_not p (whole_at p level u) v) [
        | inl hv ↦ inl (omega arith, hu, hv)
        | inr n ↦ inr (λ h. n h.2)
      ]
      | inr n ↦ inr (λ h. n h.1)
    ]
    | inr none ↦ inr (λ h. let some : 1 ≤ level u = h.0 in omega arith)
  ]

  module _ {C : Type 0} (ops : CostOps C) (g : Digraph) (w : Weighting C) where
    -- a run in u's cell is a walk inside it
    inside_from_run : (u a z : ℕ) (c d : C) (vs : List ℕ) → 1 ≤ level u → Holds p (whole_at p level u) u → Holds p (whole_at p level u) a →
        Chain (Paying ops (RunHop (part_cut ops g p w In level))) a c vs z d → Chain (Paying ops (IsMoveIn ops g w (Holds p (whole_at p level u)))) a c vs z d
    inside_from_run u a z c d [] some hu ha h = h
    inside_from_run u a z c d (b ∷ vs) some hu ha h =
        let hb : Holds p (whole_at p level u) b = subst (λ (k : Cell). Holds p k b) (whole_same u a (some, hu, ha)) h.1.1.0.2 in
        (h.0, (h.1.0, (hb, h.1.1.1.1), h.1.2), inside_from_run u b z h.0 d vs some hu hb h.2)

    run_from_inside : (u a z : ℕ) (c d : C) (vs : List ℕ) → 1 ≤ level u → Holds p (whole_at p level u) u → Holds p (whole_at p level u) a → In a →
        Chain (Paying ops (IsMoveIn ops g w (Holds p (whole_at p level u)))) a c vs z d → Chain (Paying ops (RunHop (part_cut ops g p w In level))) a c vs z d
    run_from_inside u a z c d [] some hu ha in_a h = h
    run_from_inside u a z c d (b ∷ vs) some hu ha in_a h =
        let ab : ShareCell p level a b = share_in u a b some hu ha h.1.1.0 in
        let in_b : In b = parts.inner a b ab in_a in
        (h.0, (h.1.0, (ab, (in_b, h.1.1.1)), h.1.2), run_from_inside u b z h.0 d vs some hu h.1.1.0 in_b h.2)

    inside_is : (u v : ℕ) (d : C) (vs : List ℕ) → ShareCell p level u v → (x : C) × IsOpen w u x → Runs ops (part_cut ops g p w In level) u vs v d → IsInside ops g w (Holds p (whole_at p level u)) u v vs d
    inside_is u v d vs j o h = record { begins = j.1; opens = o; goes = inside_from_run u u v ops.zero d vs j.0 j.1 j.1 h }

    -- what is valued has a shortcut wherever there is a run
    shortcut_from_value : (u v : ℕ) (d : C) (vs : List ℕ) (o : Option C) → IsInsideValue ops g w (Holds p (whole_at p level u)) u v o → IsInside ops g w (Holds p (whole_at p level u)) u v vs d →
        (s : C) × IsLeastInside ops g w (Holds p (whole_at p level u)) u v s
    shortcut_from_value u v d vs None none h = absurd (none vs d h)
    shortcut_from_value u v d vs (Some s) some h = (s, some)

    pub IsCut-parts : ((u v : ℕ) (s : C) → IsMove ops g w u v s → ops.valid s) → AreValued ops g p w level → IsCut ops (part_cut ops g p w In level)
    IsCut-parts valid valued = record {
      joined_or_not = share_or_not;
      back = share_back;
      along = share_along;
      valid = λ u v s h. valid u v s h.1;
      arrives = λ u v s h. (h.0, h.1.1, h.1.3);
      enters = λ u v s h n j. (j.1, h.1.2.0, u, h.1.2.1, λ q. n (share_back v u (j.0, j.1, q)));
      leaves = λ u v s h n j. (j.1, h.1.2.0, v, h.1.2.1, λ q. n (j.0, j.1, q));
      joins = λ u v s h. (h.1, subst (λ (k : Cell). IsExit g p k v) (sym (whole_same u v h.1)) h.3);
      stands = λ u v s h. (h.4.walk, run_from_inside u u v ops.zero s h.4.walk h.1.0 h.1.1 h.1.1 h.0 h.4.leads.goes);
      least = λ u v s d vs h r. h.4.least vs d (inside_is u v d vs h.1 h.4.leads.opens r);
      covers = λ u v d vs o enter exit j r.
          let here : IsExit g p (whole_at p level u) v = subst (λ (k : Cell). IsExit g p k v) (whole_same u v j) exit in
          let value = valued u v j.0 enter here in
          let s = shortcut_from_value u v d vs value.0 value.1 (inside_is u v d vs j (o.1, o.2) r) in
          (s.0, (o.0, j, enter, here, s.1));
    }
