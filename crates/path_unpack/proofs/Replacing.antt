-- Runs in place of hops, at the same costs.
use Rattle.std.proofs.Common.{◌≡◌, ℕ, ◌+◌, ◌-◌, ◌<◌, ◌≤◌, Option, Some, None, List, [], ◌∷◌, ◌++◌, length, drop, get_or, refl, sym, ◌∙◌, ap, subst, arith}
use Rattle.std.proofs.lemmas.List.{append_assoc, drop_more}
use Rattle.search_graph.specs.Costs.{CostOps, CostLaws}
use Rattle.search_graph.specs.Digraph.{Weighting}
use Rattle.search_graph.specs.Walks.{IsMove}
use Rattle.search_graph.specs.ChainLaws.{Chain-valid}
use Rattle.search_graph.specs.OrderLaws.{zero_plus}
use Rattle.cell_frame.specs.declared.cells.Cell.{Cell}
use Rattle.cell_frame.specs.Borders.{Framed, Holds}
use Rattle.cell_frame.specs.Inside.{IsMoveIn}
use Rattle.search_graph.specs.Weighted.{AreSmall}
use Rattle.overlay_query.specs.declared.packed.Hop.{Hop}
use Rattle.overlay_query.specs.Packed.{IsBy, PackedChain}
use Rattle.path_unpack.specs.Finer.{LeadOn, StandFor, Opens, IsUpTo, AreUpTo, end_of}

-- one list of hops behind another
pub end_of-append : (u : ℕ) (xs ys : List Hop) → end_of u (xs ++ ys) ≡ end_of (end_of u xs) ys
end_of-append u [] ys = refl
end_of-append u (x ∷ xs) ys = end_of-append x.to xs ys

pub AreUpTo-append : (level : ℕ) (xs ys : List Hop) → AreUpTo level xs → AreUpTo level ys → AreUpTo level (xs ++ ys)
AreUpTo-append level [] ys h k = k
AreUpTo-append level (x ∷ xs) ys h k = (h.0, AreUpTo-append level xs ys h.1 k)

module _ {C : Type 0} (ops : CostOps C) (f : Framed) (w : Weighting C) where
  chain_append : (u v z : ℕ) (c d e : C) (xs ys : List Hop) → PackedChain ops f w u c xs v d → PackedChain ops f w v d ys z e → PackedChain ops f w u c (xs ++ ys) z e
  chain_append u v z c d e [] ys h k = subst (λ (x : C). PackedChain ops f w u x ys z e) h.1 (subst (λ (x : ℕ). PackedChain ops f w x d ys z e) h.0 k)
  chain_append u v z c d e (x ∷ xs) ys h k = (h.0, h.1, chain_append x.to v z (ops.plus c h.0) d e xs ys h.2 k)

  -- hops end where the last of them leads
  pub chain_end : (u z : ℕ) (c d : C) (xs : List Hop) → PackedChain ops f w u c xs z d → z ≡ end_of u xs
  chain_end u z c d [] h = h.0
  chain_end u z c d (x ∷ xs) h = chain_end x.to z (ops.plus c h.0) d xs h.2

  -- a hop among others leads from where those before it end
  pub chain_at : (u z : ℕ) (c d : C) (xs : List Hop) (h : Hop) (ys : List Hop) → PackedChain ops f w u c (xs ++ h ∷ ys) z d → (s : C) × IsBy ops f w (end_of u xs) h.to h.by s
  chain_at u z c d [] h ys p = (p.0, p.1)
  chain_at u z c d (x ∷ xs) h ys p = chain_at x.to z (ops.plus c p.0) d xs h ys p.2

  -- with something else paid at first
  pub chain_from : (b : C) (u z : ℕ) (c d : C) (xs : List Hop) → PackedChain ops f w u c xs z d → (e : C) × PackedChain ops f w u b xs z e
  chain_from b u z c d [] h = (b, (h.0, refl))
  chain_from b u z c d (x ∷ xs) h = let r = chain_from (ops.plus b h.0) x.to z (ops.plus c h.0) d xs h.2 in (r.0, (h.0, h.1, r.1))

  by_up_to : (u v : ℕ) (o : Option Cell) (s : C) → IsBy ops f w u v o s → IsUpTo (length f.cells.levels) o
  by_up_to u v None s h = λ k e. cc
  by_up_to u v (Some x) s h = λ k e. let same : x ≡ k = cc in let le : x.level ≤ length f.cells.levels = h.0.1 in subst (λ (y : Cell). y.level ≤ length f.cells.levels) same le

  -- no cell is above the highest level
  pub chain_up_to : (u z : ℕ) (c d : C) (xs : List Hop) → PackedChain ops f w u c xs z d → AreUpTo (length f.cells.levels) xs
  chain_up_to u z c d [] h = tt
  chain_up_to u z c d (x ∷ xs) h = (by_up_to u x.to x.by h.0 h.1, chain_up_to x.to z (ops.plus c h.0) d xs h.2)

module _ {C : Type 0} {ops : CostOps C} (laws : CostLaws ops) (f : Framed) (w : Weighting C) (small : AreSmall ops f.graph w) where
  move_valid : (u v : ℕ) (s : C) → IsMove ops f.graph w u v s → ops.valid s
  move_valid u v s m = subst ops.valid (sym m.4) (laws.plus_valid m.0 m.1 (laws.units_valid m.0 1 (small.arc_unit m.2.0 m.0 m.2.2)) (laws.units_valid m.1 1 (small.vertex_unit v m.1 m.3)))

  -- what a hop costs is valid
  pub by_valid : (u v : ℕ) (o : Option Cell) (s : C) → IsBy ops f w u v o s → ops.valid s
  by_valid u v None s h = move_valid u v s h
  by_valid u v (Some k) s h = Chain-valid laws {Hop = IsMoveIn ops f.graph w (Holds f.cells k)} (λ a b x m. move_valid a b x m.1) u v ops.zero s h.3.walk laws.zero_valid h.3.leads.goes

  -- with more paid at first
  chain_more : (b : C) → ops.valid b → (u z : ℕ) (c d : C) (xs : List Hop) → ops.valid c → PackedChain ops f w u c xs z d → PackedChain ops f w u (ops.plus b c) xs z (ops.plus b d)
  chain_more b vb u z c d [] vc h = (h.0, ap (ops.plus b) h.1)
  chain_more b vb u z c d (x ∷ xs) vc h =
      let s : C = h.0 in
      let vs : ops.valid s = by_valid u x.to x.by s h.1 in
      let rest : PackedChain ops f w x.to (ops.plus b (ops.plus c s)) xs z (ops.plus b d) = chain_more b vb x.to z (ops.plus c s) d xs (laws.plus_valid c s vc vs) h.2 in
      (s, h.1, subst (λ (y : C). PackedChain ops f w x.to y xs z (ops.plus b d)) (sym (laws.assoc b c s vb vc vs)) rest)

  chain_to_more : (u z : ℕ) (c d : C) (xs : List Hop) → ops.valid c → PackedChain ops f w u ops.zero xs z d → PackedChain ops f w u c xs z (ops.plus c d)
  chain_to_more u z c d xs vc h = subst (λ (y : C). PackedChain ops f w u y xs z (ops.plus c d)) (laws.neutral c vc) (chain_more c vc u z ops.zero d xs laws.zero_valid h)

  -- a run in place of the hop that it opens
  chain_opened : (u z : ℕ) (c d : C) (xs : List Hop) (h : Hop) (run ys : List Hop) → ops.valid c → Opens ops f w (end_of u xs) h.to h.by run →
      PackedChain ops f w u c (xs ++ h ∷ ys) z d → PackedChain ops f w u c (xs ++ (run ++ ys)) z d
  chain_opened u z c d [] h run ys vc opens p = chain_append ops f w u h.to z c (ops.plus c p.0) d run ys (chain_to_more u h.to c p.0 run vc (opens p.0 p.1)) p.2
  chain_opened u z c d (x ∷ xs) h run ys vc opens p =
      (p.0, p.1, chain_opened x.to z (ops.plus c p.0) d xs h run ys (laws.plus_valid c p.0 vc (by_valid u x.to x.by p.0 p.1)) opens p.2)

  -- one hop more is opened
  pub stand_more : (first : ℕ) (hops finer : List Hop) (h : Hop) (run ys : List Hop) → Opens ops f w (end_of first finer) h.to h.by run →
      StandFor ops f w first hops (finer ++ h ∷ ys) → StandFor ops f w first hops ((finer ++ run) ++ ys)
  stand_more first hops finer h run ys opens stand = λ c d z vc p.
      subst (λ (xs : List Hop). PackedChain ops f w first c xs z d) (sym (append_assoc finer run ys)) (chain_opened first z c d finer h run ys vc opens (stand c d z vc p))

  -- the hop whose turn it is leads on
  pub hop_leads : (first : ℕ) (hops finer : List Hop) (h : Hop) (ys : List Hop) → LeadOn ops f w first hops → StandFor ops f w first hops (finer ++ h ∷ ys) →
      (s : C) × IsBy ops f w (end_of first finer) h.to h.by s
  hop_leads first hops finer h ys leads stand = chain_at ops f w first leads.0 ops.zero leads.1 finer h ys (stand ops.zero leads.1 leads.0 laws.zero_valid leads.2)

  -- a run ends where the hop that it opens leads
  pub run_end : (u : ℕ) (h : Hop) (run : List Hop) → Opens ops f w u h.to h.by run → (s : C) × IsBy ops f w u h.to h.by s → h.to ≡ end_of u run
  run_end u h run opens by = chain_end ops f w u h.to ops.zero by.0 run (opens by.0 by.1)

  -- a hop opens to itself
  pub opens_same : (u : ℕ) (h : Hop) → Opens ops f w u h.to h.by (h ∷ [])
  opens_same u h = λ s by. (s, by, (refl, sym (zero_plus laws s (by_valid u h.to h.by s by))))

  -- one turn: the hop at place i leads on, and what is left gets shorter by it
  pub turn_leads : (first at : ℕ) (hops finer : List Hop) (i : ℕ) (none : Hop) → i < length hops → at ≡ end_of first finer → LeadOn ops f w first hops → StandFor ops f w first hops (finer ++ drop i hops) →
      (s : C) × IsBy ops f w at (get_or hops i none).to (get_or hops i none).by s
  turn_leads first at hops finer i none lt e leads stand =
      let h : Hop = get_or hops i none in
      let next : drop i hops ≡ get_or hops i none ∷ drop (i + 1) hops = drop_more hops i none lt in
      let still : StandFor ops f w first hops (finer ++ get_or hops i none ∷ drop (i + 1) hops) = subst (λ (xs : List Hop). StandFor ops f w first hops (finer ++ xs)) next stand in
      subst (λ (u : ℕ). (s : C) × IsBy ops f w u (get_or hops i none).to (get_or hops i none).by s) (sym e) (hop_leads first hops finer h (drop (i + 1) hops) leads still)

  pub turn_stands : (first at : ℕ) (hops finer run : List Hop) (i : ℕ) (none : Hop) → i < length hops → at ≡ end_of first finer → Opens ops f w at (get_or hops i none).to (get_or hops i none).by run →
      StandFor ops f w first hops (finer ++ drop i hops) → StandFor ops f w first hops ((finer ++ run) ++ drop (i + 1) hops)
  turn_stands first at hops finer run i none lt e opens stand =
      let next : drop i hops ≡ get_or hops i none ∷ drop (i + 1) hops = drop_more hops i none lt in
      let still : StandFor ops f w first hops (finer ++ get_or hops i none ∷ drop (i + 1) hops) = subst (λ (xs : List Hop). StandFor ops f w first hops (finer ++ xs)) next stand in
      let here : Opens ops f w (end_of first finer) (get_or hops i none).to (get_or hops i none).by run = subst (λ (u : ℕ). Opens ops f w u (get_or hops i none).to (get_or hops i none).by run) e opens in
      stand_more first hops finer (get_or hops i none) run (drop (i + 1) hops) here still

  pub turn_ends : (first at : ℕ) (finer run : List Hop) (h : Hop) → at ≡ end_of first finer → Opens ops f w at h.to h.by run → (s : C) × IsBy ops f w at h.to h.by s → h.to ≡ end_of first (finer ++ run)
  turn_ends first at finer run h e opens by = run_end at h run opens by ∙ ap (λ (u : ℕ). end_of u run) e ∙ sym (end_of-append first finer run)

-- what is left is up to the level, and so is the hop whose turn it is
pub left_low : (level : ℕ) (hops : List Hop) (i : ℕ) (none : Hop) → i < length hops → AreUpTo level (drop i hops) → IsUpTo level (get_or hops i none).by × AreUpTo level (drop (i + 1) hops)
left_low level hops i none lt h = let next : AreUpTo level (get_or hops i none ∷ drop (i + 1) hops) = subst (λ (xs : List Hop). AreUpTo level xs) (drop_more hops i none lt) h in (next.0, next.1)

-- an arc is by no cell
pub none_low : (level : ℕ) (o : Option Cell) → o ≡ None → IsUpTo level o
none_low level o e = λ k s. let bad : ◌≡◌ {A = Option Cell} None (Some k) = sym e ∙ s in cc

-- a cell of another level is below it
pub some_low : (level : ℕ) (o : Option Cell) (x : Cell) → o ≡ Some x → IsUpTo level o → (x.level ≡ level → ⊥) → IsUpTo (level - 1) o
some_low level o x e low other = λ k s.
    let same : ◌≡◌ {A = Option Cell} (Some x) (Some k) = sym e ∙ s in
    let le : x.level ≤ level = low x e in
    let lt : x.level ≤ level - 1 = omega (arith, other) in
    let is : x ≡ k = cc in
    subst (λ (y : Cell). y.level ≤ level - 1) is lt
