-- Laws of packed walks: a path over parts, packed, leads as it did, at the same cost.
use Rattle.std.proofs.Common.{◌≡◌, ℕ, zero, suc, ◌+◌, ◌<◌, ◌≤◌, inl, inr, Option, Some, None, All, get_or, List, [], ◌∷◌, ◌++◌, length, arith, refl, sym, ◌∙◌, ap, subst}
use Rattle.std.specs.List.{slice_get}
use Rattle.std.proofs.lemmas.Option.{same_Some, slice_get_within, slice_get-get_or}
use Rattle.list_lemmas.proofs.Gets.{get_push}
use Rattle.search_graph.specs.declared.ends.Start.{Start}
use Rattle.search_graph.specs.Costs.{CostOps}
use Rattle.search_graph.specs.Digraph.{Weighting}
use Rattle.step_search.specs.Spaces.{Space, Path, IsSpace}
use Rattle.step_search.specs.Paths.{AreStarts, IsPathTo}
use Rattle.cut_walks.specs.Cut.{OverHop}
use Rattle.cell_partition.specs.Partition.{Partition}
use Rattle.cell_frame.specs.declared.cells.Cell.{Cell}
use Rattle.cell_frame.specs.Borders.{Framed, IsFramed, Holds, IsCell, IsEntry, IsExit}
use Rattle.cell_frame.specs.Inside.{IsLeastInside}
use Rattle.cell_frame.specs.Parts.{ShareCell, part_cut, whole_at}
use Rattle.cell_frame.specs.PartSpace.{part_space, IsLawful}
use Rattle.overlay_query.specs.declared.packed.Hop.{Hop}
use Rattle.overlay_query.specs.Packed.{IsBy, PackedChain, AreBetweenParts, IsByPart, ArePacked}

-- the vertices of a path are vertices
path_below : {C : Type 0} (ops : CostOps C) (S : Space C) → IsSpace ops S → (u z : ℕ) (c d : C) (vs : List ℕ) → Path ops S u c vs z d → (k v : ℕ) → slice_get vs k ≡ Some v → v < S.vertices
path_below ops S space u z c d [] h k v e = let lt : k < length {A = ℕ} [] = slice_get_within [] k v e in absurd (omega arith)
path_below ops S space u z c d (x ∷ vs) h zero v e = subst (λ (y : ℕ). y < S.vertices) (same_Some x v e) (space.heads u x h.1.0 h.1.1)
path_below ops S space u z c d (x ∷ vs) h (suc k) v e = path_below ops S space x z h.0 d vs h.2 k v e

module _ {C : Type 0} (ops : CostOps C) (S : Space C) (space : IsSpace ops S) (starts : List (Start C)) (fit : AreStarts ops S starts) (t : ℕ) (walk : List ℕ) (d : C) (p : IsPathTo ops S starts t walk d) where
  below : (k v : ℕ) → slice_get (p.start.vertex ∷ (p.middle ++ t ∷ [])) k ≡ Some v → v < S.vertices
  below zero v e = subst (λ (y : ℕ). y < S.vertices) (same_Some p.start.vertex v e) (fit p.start p.among).0
  below (suc k) v e = elim (get_push p.middle t k v e) [
    | inl g ↦ path_below ops S space p.start.vertex p.last p.start.cost p.paid p.middle p.goes k v g
    | inr g ↦ subst (λ (y : ℕ). y < S.vertices) (sym g.1) (space.heads p.last t p.joins.0 p.joins.1)
  ]

  -- a walk that a search answers has vertices alone, and some
  pub walk_below : All (λ v. v < S.vertices) walk
  walk_below = λ k x lt. below k (get_or walk k x) (subst (λ (xs : List ℕ). slice_get xs k ≡ Some (get_or walk k x)) p.is_walk (slice_get-get_or walk k x lt))

  pub walk_some : 0 < length walk
  walk_some = let e : length walk ≡ length (p.start.vertex ∷ (p.middle ++ t ∷ [])) = ap length p.is_walk in omega arith

module _ (p : Partition) (level : ℕ → ℕ) where
  -- without its first vertex and hop
  packed_tail : (u : ℕ) (vs : List ℕ) (h : Hop) (hs : List Hop) → ArePacked p level (u ∷ vs) (h ∷ hs) → ArePacked p level vs hs
  packed_tail u vs h hs a = record {
    count = let n : length (h ∷ hs) + 1 ≡ length (u ∷ vs) = a.count in omega arith;
    each = λ k n x y g e ex ey eg. a.each (suc k) (suc n) x y g (omega arith) ex ey eg;
  }

  -- with a vertex and a hop in front
  first_or_later : (u v : ℕ) (vs : List ℕ) (h : Hop) (hs : List Hop) → h.to ≡ v → IsByPart p level u v h.by → ArePacked p level (v ∷ vs) hs →
      (k n x y : ℕ) (g : Hop) → n ≡ k + 1 → slice_get (u ∷ v ∷ vs) k ≡ Some x → slice_get (u ∷ v ∷ vs) n ≡ Some y → slice_get (h ∷ hs) k ≡ Some g → (g.to ≡ y) × IsByPart p level x y g.by
  first_or_later u v vs h hs to by a zero zero x y g e ex ey eg = absurd (omega arith)
  first_or_later u v vs h hs to by a zero (suc zero) x y g e ex ey eg =
      let same_x : u ≡ x = same_Some u x ex in
      let same_y : v ≡ y = same_Some v y ey in
      let same_g : h ≡ g = same_Some h g eg in
      subst (λ (i : Hop). (i.to ≡ y) × IsByPart p level x y i.by) same_g (to ∙ same_y, subst (λ (b : ℕ). IsByPart p level x b h.by) same_y (subst (λ (b : ℕ). IsByPart p level b v h.by) same_x by))
  first_or_later u v vs h hs to by a zero (suc (suc n)) x y g e ex ey eg = absurd (omega arith)
  first_or_later u v vs h hs to by a (suc k) zero x y g e ex ey eg = absurd (omega arith)
  first_or_later u v vs h hs to by a (suc k) (suc n) x y g e ex ey eg = a.each k n x y g (omega arith) ex ey eg

  packed_cons : (u v : ℕ) (vs : List ℕ) (h : Hop) (hs : List Hop) → h.to ≡ v → IsByPart p level u v h.by → ArePacked p level (v ∷ vs) hs → ArePacked p level (u ∷ v ∷ vs) (h ∷ hs)
  packed_cons u v vs h hs to by a = record {
    count = let n : length hs + 1 ≡ length (v ∷ vs) = a.count in omega arith;
    each = first_or_later u v vs h hs to by a;
  }

  none_apart : (u v : ℕ) (o : Option Cell) → IsByPart p level u v o → o ≡ None → ¬ ShareCell p level u v
  none_apart u v None h e = h
  none_apart u v (Some k) h e = cc

  -- no hop by an arc is inside a part
  pub packed_between : (vs : List ℕ) (u : ℕ) (hops : List Hop) → ArePacked p level (u ∷ vs) hops → AreBetweenParts p level u hops
  packed_between vs u [] a = tt
  packed_between [] u (h ∷ hs) a = let n : length (h ∷ hs) + 1 ≡ length (u ∷ []) = a.count in absurd (omega arith)
  packed_between (v ∷ vs) u (h ∷ hs) a =
      let one = a.each 0 1 u v h (omega arith) refl refl refl in
      let rest : AreBetweenParts p level v hs = packed_between vs v hs (packed_tail u (v ∷ vs) h hs a) in
      (λ e. subst (λ (x : ℕ). ¬ ShareCell p level u x) (sym one.0) (none_apart u v h.by one.1 e), subst (λ (x : ℕ). AreBetweenParts p level x hs) (sym one.0) rest)

  -- all hops but the last, and the last
  pub packed_last : (vs : List ℕ) (u v : ℕ) (hops : List Hop) → ArePacked p level (u ∷ (vs ++ v ∷ [])) hops →
      (before : List Hop) × (h : Hop) × (hops ≡ before ++ h ∷ []) × ArePacked p level (u ∷ vs) before × (h.to ≡ v) × (x : ℕ) × IsByPart p level x v h.by
  packed_last [] u v [] a = let n : length {A = Hop} [] + 1 ≡ length (u ∷ v ∷ []) = a.count in absurd (omega arith)
  packed_last [] u v (h ∷ []) a =
      let one = a.each 0 1 u v h (omega arith) refl refl refl in
      let none : ArePacked p level (u ∷ []) [] = record { count = refl; each = λ k n x y g e ex ey eg. let lt : k < length {A = Hop} [] = slice_get_within [] k g eg in absurd (omega arith) } in
      ([], h, refl, none, one.0, u, one.1)
  packed_last [] u v (h ∷ g ∷ hs) a = let n : length (h ∷ g ∷ hs) + 1 ≡ length (u ∷ v ∷ []) = a.count in absurd (omega arith)
  packed_last (x ∷ vs) u v [] a = let n : length {A = Hop} [] + 1 ≡ length (u ∷ x ∷ (vs ++ v ∷ [])) = a.count in absurd (omega arith)
  packed_last (x ∷ vs) u v (h ∷ hs) a =
      let one = a.each 0 1 u x h (omega arith) refl refl refl in
      let rest = packed_last vs x v hs (packed_tail u (x ∷ (vs ++ v ∷ [])) h hs a) in
      (h ∷ rest.0, rest.1, ap (λ (ys : List Hop). h ∷ ys) rest.2, packed_cons u x vs h rest.0 one.0 one.1 rest.3, rest.4, rest.5, rest.6)

module _ {C : Type 0} (ops : CostOps C) (f : Framed) (framed : IsFramed f) (w : Weighting C) (In : ℕ → Type 0) (level : ℕ → ℕ) (lawful : IsLawful ops f w In level) (high : (v : ℕ) → level v ≤ length f.cells.levels) where
  -- a hop over the parts, by its part
  is_by : (u v : ℕ) (s : C) (o : Option Cell) → IsByPart f.cells level u v o → OverHop (part_cut ops f.graph f.cells w In level) u v s → IsBy ops f w u v o s
  is_by u v s None h over = elim over [ inl q ↦ q.1.1 | inr q ↦ absurd (h q.1) ]
  is_by u v s (Some k) h over = elim over [
    | inl q ↦ absurd (q.0 h.0)
    | inr q ↦
        let is_cell : IsCell f.cells (whole_at f.cells level u) = (q.1.0, high u, (framed.kept.level (level u) q.1.0 (high u)).placed u q.1.1.0) in
        (subst (λ (c : Cell). IsCell f.cells c) (sym h.1) is_cell, subst (λ (c : Cell). IsEntry f.graph f.cells c u) (sym h.1) q.2, subst (λ (c : Cell). IsExit f.graph f.cells c v) (sym h.1) q.3, subst (λ (c : Cell). IsLeastInside ops f.graph w (Holds f.cells c) u v s) (sym h.1) q.4)
  ]

  -- the hops of a path lead where it does, and what is paid grows as by it
  pub packed_chain : (vs : List ℕ) (u z : ℕ) (c d : C) (hops : List Hop) → Path ops (part_space ops f w In level) u c vs z d → ArePacked f.cells level (u ∷ vs) hops → PackedChain ops f w u c hops z d
  packed_chain [] u z c d [] h a = h
  packed_chain [] u z c d (g ∷ hs) h a = let n : length (g ∷ hs) + 1 ≡ length (u ∷ []) = a.count in absurd (omega arith)
  packed_chain (v ∷ vs) u z c d [] h a = let n : length {A = Hop} [] + 1 ≡ length (u ∷ v ∷ vs) = a.count in absurd (omega arith)
  packed_chain (v ∷ vs) u z c d (g ∷ hs) h a =
      let one = a.each 0 1 u v g (omega arith) refl refl refl in
      let s : C = h.1.0 in
      let by : IsBy ops f w u v g.by s = is_by u v s g.by one.1 ((lawful.over u v s).0 h.1.1) in
      let rest : PackedChain ops f w v h.0 hs z d = packed_chain vs v z h.0 d hs h.2 (packed_tail f.cells level u (v ∷ vs) g hs a) in
      let paid : PackedChain ops f w v (ops.plus c s) hs z d = subst (λ (x : C). PackedChain ops f w v x hs z d) h.1.2 rest in
      (s, subst (λ (x : ℕ). IsBy ops f w u x g.by s) (sym one.0) by, subst (λ (x : ℕ). PackedChain ops f w x (ops.plus c s) hs z d) (sym one.0) paid)
