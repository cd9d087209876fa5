-- Walks of the graph with copies, and the walks that they stand for: step by step, along with the walk so far.
use Rattle.std.proofs.Common.{◌≡◌, ℕ, ◌+◌, ◌<◌, ◌≤◌, false, List, [], ◌∷◌, ◌++◌, map, drop, length, All, arith, refl, sym, ◌∙◌, ap, subst, append_assoc, append-nil, length-append}
use Rattle.std.specs.List.{Contains, slice_get}
use Rattle.std.proofs.lemmas.List.{map_push}
use Rattle.list_lemmas.proofs.Gets.{Contains_get, get_Contains}
use Rattle.search_graph.specs.Costs.{CostOps}
use Rattle.search_graph.specs.Digraph.{Digraph, Weighting, IsArc, IsOpen, HasArc}
use Rattle.search_graph.specs.declared.ends.Start.{Start}
use Rattle.search_graph.specs.declared.ends.Target.{Target}
use Rattle.search_graph.specs.Walks.{IsMove, Walk, IsBetween}
use Rattle.via_paths.specs.Forbidden.{IsFree, IsFreeBehind, ends_in, last_of}
use Rattle.via_paths.specs.Expansion.{AreCopies, IsStateOf, held, number, word_of, onward, expanded_arcs, unexpanded, expanded, standing}
use Rattle.via_paths.specs.Standing.{IsCostedAlike, StandForFree, StandBehind, EndsStandForFree, EndsStandBehind, start_for, target_for}
use Rattle.via_paths.specs.WordLaws.{last_of-push, Contains-here, Contains-one, free-behind, free-whole, behind-nil, behind-front, behind-head, behind-last, behind-tail, behind-cons, behind-push}
use Rattle.via_paths.specs.HeldLaws.{held-push, copies-closed, ends_in-push, held-last}
use Rattle.via_paths.specs.ArcLaws.{held-word, standing-word, turn-below, arc-from, arc-to}

module _ {C : Type 0} (ops : CostOps C) (n : ℕ) (sequences copies : List (List ℕ)) (turns : List (ℕ × ℕ)) (long : All (λ s. 3 ≤ length s) sequences) (below : All (λ t. (t.0 < n) × (t.1 < n)) turns) (are : AreCopies sequences copies) where
  -- the ordinary vertex that a vertex stands for
  abbrev pub stands : ℕ → ℕ
  stands = standing n (map last_of copies)

  abbrev pub road : Digraph
  road = unexpanded n turns

  abbrev pub copied : Digraph
  copied = expanded n sequences copies turns

  -- q is the state of the walk a ∷ b, which ends in an ordinary vertex
  pub record IsAt (a : ℕ) (b : List ℕ) (q : ℕ) : Type 0 where
    pub last : last_of (a ∷ b) < n
    pub is : q ≡ number n copies (held copies (a ∷ b))

  -- a walk has a first vertex, so a state of it is one of that and the rest
  pub at-state : (a q : ℕ) (b : List ℕ) → IsStateOf n copies (a ∷ b) q → IsAt a b q
  at-state a q b h = record { last = h.ordinary; is = h.is }

  pub state-at : (a q : ℕ) (b : List ℕ) → IsAt a b q → IsStateOf n copies (a ∷ b) q
  state-at a q b h = record { begun = omega arith; ordinary = h.last; is = h.is }

  state-word : (a q : ℕ) (b : List ℕ) → IsAt a b q → word_of n copies q ≡ held copies (a ∷ b)
  state-word a q b h = ap (word_of n copies) h.is ∙ (held-word n copies a b h.last).0

  state-within : (a q : ℕ) (b : List ℕ) → IsAt a b q → q < n + length copies
  state-within a q b h = subst (λ (p : ℕ). p < n + length copies) (sym h.is) (held-word n copies a b h.last).1

  state-last : (a q : ℕ) (b : List ℕ) → IsAt a b q → last_of (word_of n copies q) ≡ last_of (a ∷ b)
  state-last a q b h = ap last_of (state-word a q b h) ∙ held-last copies (a ∷ b)

  pub state-stands : (a q : ℕ) (b : List ℕ) → IsAt a b q → stands q ≡ last_of (a ∷ b)
  state-stands a q b h = standing-word n copies q ∙ state-last a q b h

  state-fine : (a q e : ℕ) (b : List ℕ) → IsAt a b q → ends_in sequences (word_of n copies q ++ e ∷ []) ≡ ends_in sequences ((a ∷ b) ++ e ∷ [])
  state-fine a q e b h = ap (λ (w : List ℕ). ends_in sequences (w ++ e ∷ [])) (state-word a q b h) ∙ ends_in-push sequences copies are (a ∷ b) e

  -- onward from a state is the state of the walk with one vertex more
  state-push : (a q e : ℕ) (b : List ℕ) → IsAt a b q → e < n → IsAt a (b ++ e ∷ []) (onward n copies (word_of n copies q) e)
  state-push a q e b h lt = record {
    last = subst (λ (p : ℕ). p < n) (sym (last_of-push (a ∷ b) e)) lt;
    is = ap (λ (w : List ℕ). onward n copies w e) (state-word a q b h) ∙ ap (number n copies) (held-push copies (copies-closed sequences copies are) (a ∷ b) e);
  }

  pub first_state : (u : ℕ) → u < n → IsAt u [] u
  first_state u lt = record { last = lt; is = refl }

  pub first_free : (u : ℕ) → IsFree sequences (u ∷ [])
  first_free u s h run =
      let three : 3 ≤ length s = subst (λ (t : List ℕ). 3 ≤ length t) h.2 (long h.0 s h.1) in
      let sum : 1 ≡ (length run.0 + length s) + length run.1 = ap length run.2 ∙ length-append (run.0 ++ s) run.1 ∙ ap (λ (k : ℕ). k + length run.1) (length-append run.0 s) in
      omega arith

  -- an arc from the state of a walk stands for a turn that ends no sequence, and leads to the state of the walk with one
  -- vertex more
  pub record IsStepOf (a : ℕ) (b : List ℕ) (v : ℕ) : Type 0 where
    pub state : IsAt a (b ++ stands v ∷ []) v
    pub turn : Contains turns (last_of (a ∷ b), stands v)
    pub fine : ends_in sequences ((a ∷ b) ++ stands v ∷ []) ≡ false

  arc-step : (a q v : ℕ) (b : List ℕ) → IsAt a b q → Contains (expanded_arcs n sequences copies turns) (q, v) → IsStepOf a b v
  arc-step a q v b h arc =
      let r = arc-from n sequences copies turns long below q v arc in
      let lt : r.0 < n = (turn-below n sequences copies turns long below (last_of (word_of n copies q), r.0) r.1).1 in
      let next : IsAt a (b ++ r.0 ∷ []) v = subst (λ (p : ℕ). IsAt a (b ++ r.0 ∷ []) p) (sym r.3) (state-push a q r.0 b h lt) in
      let at : stands v ≡ r.0 = state-stands a v (b ++ r.0 ∷ []) next ∙ last_of-push (a ∷ b) r.0 in
      let turn : Contains turns (last_of (a ∷ b), r.0) = subst (λ (d : ℕ). Contains turns (d, r.0)) (state-last a q b h) r.1 in
      let fine : ends_in sequences ((a ∷ b) ++ r.0 ∷ []) ≡ false = sym (state-fine a q r.0 b h) ∙ r.2 in
      let all : (e : ℕ) → e ≡ r.0 → (IsAt a (b ++ e ∷ []) v) × Contains turns (last_of (a ∷ b), e) × (ends_in sequences ((a ∷ b) ++ e ∷ []) ≡ false) =
      λ e same. subst (λ (e : ℕ). (IsAt a (b ++ e ∷ []) v) × Contains turns (last_of (a ∷ b), e) × (ends_in sequences ((a ∷ b) ++ e ∷ []) ≡ false)) (sym same) (next, turn, fine) in
      let k = all (stands v) at in
      record { state = k.0; turn = k.1; fine = k.2 }

  module _ (w x : Weighting C) (alike : IsCostedAlike stands road w copied x) where
    -- an arc and an open vertex cost what they stand for
    arc-cost : (a q v j : ℕ) (b : List ℕ) (i : ℕ) → IsAt a b q → IsArc copied i q v → IsArc road j (last_of (a ∷ b)) (stands v) → slice_get x.arc i ≡ slice_get w.arc j
    arc-cost a q v j b i h arc turn = alike.arc i j q v arc (subst (λ (d : ℕ). IsArc road j d (stands v)) (sym (state-stands a q b h)) turn)

    pub down-arc : (a q v : ℕ) (b : List ℕ) (y : C) → IsAt a b q → HasArc copied x q v y → HasArc road w (last_of (a ∷ b)) (stands v) y
    down-arc a q v b y h m =
        let step = arc-step a q v b h (Contains_get copied.arcs m.0 (q, v) m.1) in
        let j = get_Contains turns (last_of (a ∷ b), stands v) step.turn in
        (j.0, j.1, sym (arc-cost a q v j.0 b m.0 h m.1 j.1) ∙ m.2)

    pub arc-state : (a q v : ℕ) (b : List ℕ) (y : C) → IsAt a b q → HasArc copied x q v y → IsStepOf a b v
    arc-state a q v b y h m = arc-step a q v b h (Contains_get copied.arcs m.0 (q, v) m.1)

    pub down-open : (a v : ℕ) (b : List ℕ) (y : C) → IsAt a b v → IsOpen x v y → IsOpen w (stands v) y
    down-open a v b y h o = sym (alike.vertex v (state-within a v b h)) ∙ o

    pub up-open : (a v : ℕ) (b : List ℕ) (y : C) → IsAt a b v → IsOpen w (stands v) y → IsOpen x v y
    up-open a v b y h o = alike.vertex v (state-within a v b h) ∙ o

    -- the vertex to which an arc stands for a turn that ends no sequence
    pub up-arc : (a q e : ℕ) (b : List ℕ) (y : C) → IsAt a b q → HasArc road w (last_of (a ∷ b)) e y → ends_in sequences ((a ∷ b) ++ e ∷ []) ≡ false →
        (v : ℕ) × HasArc copied x q v y × IsAt a (b ++ e ∷ []) v × (stands v ≡ e)
    up-arc a q e b y h m fine =
        let v : ℕ = onward n copies (word_of n copies q) e in
        let turn : Contains turns (last_of (a ∷ b), e) = Contains_get turns m.0 (last_of (a ∷ b), e) m.1 in
        let lt : e < n = (turn-below n sequences copies turns long below (last_of (a ∷ b), e) turn).1 in
        let next : IsAt a (b ++ e ∷ []) v = state-push a q e b h lt in
        let at : stands v ≡ e = state-stands a v (b ++ e ∷ []) next ∙ last_of-push (a ∷ b) e in
        let from : Contains turns (last_of (word_of n copies q), e) = subst (λ (d : ℕ). Contains turns (d, e)) (sym (state-last a q b h)) turn in
        let arc = get_Contains copied.arcs (q, v) (arc-to n sequences copies turns long below q e (state-within a q b h) from (state-fine a q e b h ∙ fine)) in
        let road_arc : IsArc road m.0 (last_of (a ∷ b)) (stands v) = subst (λ (d : ℕ). IsArc road m.0 (last_of (a ∷ b)) d) (sym at) m.1 in
        (v, (arc.0, arc.1, arc-cost a q v m.0 b arc.0 h arc.1 road_arc ∙ m.2), next, at)

    -- behind a walk so far, a walk of the graph with copies stands for one along which no sequence ends, of the same cost
    pub down : (a q z : ℕ) (b : List ℕ) (c d : C) (vs : List ℕ) → IsAt a b q → Walk ops copied x q c vs z d →
        Walk ops road w (last_of (a ∷ b)) c (map stands vs) (stands z) d × IsFreeBehind sequences (a ∷ b) (map stands vs) × IsAt a (b ++ map stands vs) z
    down a q z b c d [] h k = (
      (ap stands k.0 ∙ state-stands a q b h, k.1),
      behind-nil sequences (a ∷ b),
      subst (λ (y : ℕ). IsAt a (b ++ []) y) (sym k.0) (subst (λ (l : List ℕ). IsAt a l q) (sym (append-nil b)) h),
    )
    down a q z b c d (v ∷ vs) h k =
        let move : IsMove ops copied x q v k.1.0 = k.1.1 in
        let step = arc-state a q v b move.0 h move.2 in
        let r = down a v z (b ++ stands v ∷ []) k.0 d vs step.state k.2 in
        let arc = down-arc a q v b move.0 h move.2 in
        let open_there = down-open a v (b ++ stands v ∷ []) move.1 step.state move.3 in (
          (
            k.0,
            (k.1.0, (move.0, move.1, arc, open_there, move.4), k.1.2),
            subst (λ (u : ℕ). Walk ops road w u k.0 (map stands vs) (stands z) d) (last_of-push (a ∷ b) (stands v)) r.0,
          ),
          behind-cons sequences long (a ∷ b) (stands v) (map stands vs) step.fine r.1,
          subst (λ (l : List ℕ). IsAt a l z) (append_assoc b (stands v ∷ []) (map stands vs)) r.2,
        )

    -- and each such walk is stood for
    pub up : (a q z : ℕ) (b : List ℕ) (c d : C) (vs : List ℕ) → IsAt a b q → Walk ops road w (last_of (a ∷ b)) c vs z d → IsFreeBehind sequences (a ∷ b) vs →
        (ws : List ℕ) × (y : ℕ) × Walk ops copied x q c ws y d × (map stands ws ≡ vs) × (stands y ≡ z) × IsAt a (b ++ vs) y
    up a q z b c d [] h k free = ([], q, (refl, k.1), refl, state-stands a q b h ∙ sym k.0, subst (λ (l : List ℕ). IsAt a l q) (sym (append-nil b)) h)
    up a q z b c d (e ∷ vs) h k free =
        let move : IsMove ops road w (last_of (a ∷ b)) e k.1.0 = k.1.1 in
        let fine : ends_in sequences ((a ∷ b) ++ e ∷ []) ≡ false = behind-head sequences (a ∷ b) e vs free in
        let rest : IsFreeBehind sequences (a ∷ (b ++ e ∷ [])) vs = behind-tail sequences (a ∷ b) e vs free in
        let s = up-arc a q e b move.0 h move.2 fine in
        let r = up a s.0 z (b ++ e ∷ []) k.0 d vs s.2 (subst (λ (u : ℕ). Walk ops road w u k.0 vs z d) (sym (last_of-push (a ∷ b) e)) k.2) rest in
        let open_there : IsOpen x s.0 move.1 = up-open a s.0 (b ++ e ∷ []) move.1 s.2 (subst (λ (u : ℕ). IsOpen w u move.1) (sym s.3) move.3) in (
          s.0 ∷ r.0,
          r.1,
          (k.0, (k.1.0, (move.0, move.1, s.1, open_there, move.4), k.1.2), r.2),
          ap (λ (u : ℕ). u ∷ map stands r.0) s.3 ∙ ap (λ (l : List ℕ). e ∷ l) r.3,
          r.4,
          subst (λ (l : List ℕ). IsAt a l r.1) (append_assoc b (e ∷ []) vs) r.5,
        )

    -- by one walk alone
    pub one : (a q y z : ℕ) (l : List ℕ) (b c d e : C) (vs ws : List ℕ) → IsAt a l q → Walk ops copied x q b vs y d → Walk ops copied x q c ws z e →
        map stands vs ≡ map stands ws → (vs ≡ ws) × (y ≡ z)
    one a q y z l b c d e [] [] h k m same = (refl, k.0 ∙ sym m.0)
    one a q y z l b c d e [] (t ∷ ws) h k m same = absurd (cc)
    one a q y z l b c d e (v ∷ vs) [] h k m same = absurd (cc)
    one a q y z l b c d e (v ∷ vs) (t ∷ ws) h k m same =
        let heads : stands v ≡ stands t = cc in
        let rest : map stands vs ≡ map stands ws = cc in
        let first = arc-state a q v l k.1.1.0 h k.1.1.2 in
        let other = arc-state a q t l m.1.1.0 h m.1.1.2 in
        let equal : v ≡ t = first.state.is ∙ ap (λ (u : ℕ). number n copies (held copies (a ∷ (l ++ u ∷ [])))) heads ∙ sym other.state.is in
        let r = one a v y z (l ++ stands v ∷ []) k.0 m.0 d e vs ws first.state k.2 (subst (λ (u : ℕ). Walk ops copied x u m.0 ws z e) (sym equal) m.2) rest in
        (ap (λ (u : ℕ). u ∷ vs) equal ∙ ap (λ (us : List ℕ). t ∷ us) r.0, r.1)

    pub stand_for_free : StandForFree ops n sequences stands road w copied x
    stand_for_free = record {
      stand = λ u z c d vs lt k. let r = down u u z [] c d vs (first_state u lt) k in (r.0, free-whole sequences (u ∷ []) (map stands vs) (first_free u) r.1);
      stood_for = λ u z c d vs lt k free. let r = up u u z [] c d vs (first_state u lt) k (free-behind sequences (u ∷ []) vs free) in (r.0, r.1, r.2, r.3, r.4);
      once = λ u y z b c d e vs ws lt k m same. one u u y z [] b c d e vs ws (first_state u lt) k m same;
    }

    -- the same behind a walk so far
    behind-down : (before vs : List ℕ) (q z : ℕ) (c d : C) → IsStateOf n copies before q → Walk ops copied x q c vs z d →
        Walk ops road w (stands q) c (map stands vs) (stands z) d × IsFreeBehind sequences before (map stands vs) × IsStateOf n copies (before ++ map stands vs) z
    behind-down [] vs q z c d h k = let some : 1 ≤ length {A = ℕ} [] = h.begun in absurd (omega arith)
    behind-down (a ∷ b) vs q z c d h k =
        let here : IsAt a b q = at-state a q b h in
        let r = down a q z b c d vs here k in
        (subst (λ (u : ℕ). Walk ops road w u c (map stands vs) (stands z) d) (sym (state-stands a q b here)) r.0, r.1, state-at a z (b ++ map stands vs) r.2)

    behind-up : (before vs : List ℕ) (q z : ℕ) (c d : C) → IsStateOf n copies before q → Walk ops road w (stands q) c vs z d → IsFreeBehind sequences before vs →
        (ws : List ℕ) × (y : ℕ) × Walk ops copied x q c ws y d × (map stands ws ≡ vs) × (stands y ≡ z)
    behind-up [] vs q z c d h k free = let some : 1 ≤ length {A = ℕ} [] = h.begun in absurd (omega arith)
    behind-up (a ∷ b) vs q z c d h k free =
        let here : IsAt a b q = at-state a q b h in
        let r = up a q z b c d vs here (subst (λ (u : ℕ). Walk ops road w u c vs z d) (state-stands a q b here) k) free in
        (r.0, r.1, r.2, r.3, r.4)

    behind-one : (before : List ℕ) (q y z : ℕ) (b c d e : C) (vs ws : List ℕ) → IsStateOf n copies before q → Walk ops copied x q b vs y d → Walk ops copied x q c ws z e →
        map stands vs ≡ map stands ws → (vs ≡ ws) × (y ≡ z)
    behind-one [] q y z b c d e vs ws h k m same = let some : 1 ≤ length {A = ℕ} [] = h.begun in absurd (omega arith)
    behind-one (a ∷ l) q y z b c d e vs ws h k m same = one a q y z l b c d e vs ws (at-state a q l h) k m same

    pub stand_behind : StandBehind ops n sequences copies stands road w copied x
    stand_behind = record {
      stand = λ before vs q z c d h k. behind-down before vs q z c d h k;
      stood_for = λ before vs q z c d h k free. behind-up before vs q z c d h k free;
      once = λ before q y z b c d e vs ws h k m same. behind-one before q y z b c d e vs ws h k m same;
    }

    -- a walk between ends, from the state of a walk so far, stands for one between the ends that its own stand for
    pub down-between : (a : ℕ) (b : List ℕ) (starts others : List (Start C)) (t : Target C) (walk : List ℕ) (d : C) (p : IsBetween ops copied x starts t walk d) →
        IsAt a b p.start.vertex → Contains others (start_for stands p.start) →
        IsBetween ops road w others (target_for stands t) (map stands walk) d × IsFreeBehind sequences (a ∷ b) (drop 1 (map stands walk)) × IsAt a (b ++ drop 1 (map stands walk)) t.vertex
    down-between a b starts others t walk d p h among =
        let u : ℕ = p.start.vertex in
        let k = down a u p.last b p.start.cost p.paid p.middle h p.goes in
        let step = arc-state a p.last t.vertex (b ++ map stands p.middle) p.arc k.2 p.joins in
        let joins = down-arc a p.last t.vertex (b ++ map stands p.middle) p.arc k.2 p.joins in
        let at : stands p.last ≡ last_of (a ∷ (b ++ map stands p.middle)) = state-stands a p.last (b ++ map stands p.middle) k.2 in
        let is : map stands walk ≡ stands u ∷ (map stands p.middle ++ stands t.vertex ∷ []) =
        ap (map stands) p.is_walk ∙ ap (λ (l : List ℕ). stands u ∷ l) (map_push stands p.middle t.vertex) in
        let rest : map stands p.middle ++ stands t.vertex ∷ [] ≡ drop 1 (map stands walk) = sym (ap (drop 1) is) in
        let behind : IsFreeBehind sequences (a ∷ b) (map stands p.middle ++ stands t.vertex ∷ []) = behind-push sequences long (a ∷ b) (map stands p.middle) (stands t.vertex) k.1 step.fine in
        let ends : IsAt a (b ++ (map stands p.middle ++ stands t.vertex ∷ [])) t.vertex = subst (λ (l : List ℕ). IsAt a l t.vertex) (append_assoc b (map stands p.middle) (stands t.vertex ∷ [])) step.state in (
          record {
            start = start_for stands p.start;
            among = among;
            start_open = (p.start_open.0, down-open a u b p.start_open.0 h p.start_open.1);
            middle = map stands p.middle;
            last = stands p.last;
            paid = p.paid;
            goes = subst (λ (v : ℕ). Walk ops road w v p.start.cost (map stands p.middle) (stands p.last) p.paid) (sym (state-stands a u b h)) k.0;
            arc = p.arc;
            joins = subst (λ (v : ℕ). HasArc road w v (stands t.vertex) p.arc) (sym at) joins;
            target_open = (p.target_open.0, down-open a t.vertex ((b ++ map stands p.middle) ++ stands t.vertex ∷ []) p.target_open.0 step.state p.target_open.1);
            is_walk = is;
            is_cost = p.is_cost;
          },
          subst (λ (l : List ℕ). IsFreeBehind sequences (a ∷ b) l) rest behind,
          subst (λ (l : List ℕ). IsAt a (b ++ l) t.vertex) rest ends,
        )

    -- and each one along which no sequence ends is stood for, by one to its target or to a copy that stands for it
    pub up-between : (a : ℕ) (b : List ℕ) (starts others : List (Start C)) (s : Start C) (t : Target C) (walk : List ℕ) (d : C) (p : IsBetween ops road w starts t walk d) →
        IsAt a b s.vertex → p.start ≡ start_for stands s → Contains others s → IsFreeBehind sequences (a ∷ b) (drop 1 walk) →
        (v : ℕ) × (other : List ℕ) × (v < copied.vertices) × (stands v ≡ t.vertex) × IsBetween ops copied x others (record { vertex = v; cost = t.cost }) other d × (map stands other ≡ walk)
    up-between a b starts others s t walk d p h from among free =
        let u : ℕ = s.vertex in
        let own : p.start.vertex ≡ stands u = ap (λ (r : Start C). r.vertex) from in
        let paid : p.start.cost ≡ s.cost = ap (λ (r : Start C). r.cost) from in
        let here : p.start.vertex ≡ last_of (a ∷ b) = own ∙ state-stands a u b h in
        let goes : Walk ops road w (last_of (a ∷ b)) s.cost p.middle p.last p.paid = subst (λ (v : ℕ). Walk ops road w v s.cost p.middle p.last p.paid) here (subst (λ (c : C). Walk ops road w p.start.vertex c p.middle p.last p.paid) paid p.goes) in
        let behind : IsFreeBehind sequences (a ∷ b) (p.middle ++ t.vertex ∷ []) = subst (λ (l : List ℕ). IsFreeBehind sequences (a ∷ b) l) (ap (drop 1) p.is_walk) free in
        let k = up a u p.last b s.cost p.paid p.middle h goes (behind-front sequences (a ∷ b) p.middle (t.vertex ∷ []) behind) in
        let fine : ends_in sequences ((a ∷ (b ++ p.middle)) ++ t.vertex ∷ []) ≡ false = behind-last sequences (a ∷ b) p.middle t.vertex behind in
        let at : last_of (a ∷ (b ++ p.middle)) ≡ p.last = sym (state-stands a k.1 (b ++ p.middle) k.5) ∙ k.4 in
        let next = up-arc a k.1 t.vertex (b ++ p.middle) p.arc k.5 (subst (λ (v : ℕ). HasArc road w v t.vertex p.arc) (sym at) p.joins) fine in (
          next.0,
          u ∷ (k.0 ++ next.0 ∷ []),
          state-within a next.0 ((b ++ p.middle) ++ t.vertex ∷ []) next.2,
          next.3,
          record {
            start = s;
            among = among;
            start_open = (p.start_open.0, up-open a u b p.start_open.0 h (subst (λ (v : ℕ). IsOpen w v p.start_open.0) own p.start_open.1));
            middle = k.0;
            last = k.1;
            paid = p.paid;
            goes = k.2;
            arc = p.arc;
            joins = next.1;
            target_open = (p.target_open.0, up-open a next.0 ((b ++ p.middle) ++ t.vertex ∷ []) p.target_open.0 next.2 (subst (λ (v : ℕ). IsOpen w v p.target_open.0) (sym next.3) p.target_open.1));
            is_walk = refl;
            is_cost = p.is_cost;
          },
          ap (λ (l : List ℕ). stands u ∷ l) (map_push stands k.0 next.0 ∙ ap (λ (l : List ℕ). l ++ stands next.0 ∷ []) k.3 ∙ ap (λ (v : ℕ). p.middle ++ v ∷ []) next.3)
              ∙ ap (λ (v : ℕ). v ∷ (p.middle ++ t.vertex ∷ [])) (sym own)
              ∙ sym p.is_walk,
        )

    module _ (starts : List (Start C)) (ordinary : All (λ s. s.vertex < n) starts) where
      starts-below : (s : Start C) → Contains starts s → s.vertex < n
      starts-below s h = subst (λ (r : Start C). r.vertex < n) h.2 (ordinary h.0 s h.1)

      abbrev start_at : Start C → ℕ → Start C
      start_at s v = record { vertex = v; cost = s.cost }

      -- a start at an ordinary vertex stands for itself
      start-own : (s : Start C) → s.vertex < n → start_for stands s ≡ s
      start-own s lt = ap (start_at s) (state-stands s.vertex s.vertex [] (first_state s.vertex lt))

      free-down : (t : Target C) (walk : List ℕ) (d : C) → IsBetween ops copied x starts t walk d →
          IsBetween ops road w starts (target_for stands t) (map stands walk) d × IsFree sequences (map stands walk)
      free-down t walk d p =
          let u : ℕ = p.start.vertex in
          let lt : u < n = starts-below p.start p.among in
          let first : IsAt u [] u = first_state u lt in
          let among : Contains starts (start_for stands p.start) = subst (λ (s : Start C). Contains starts s) (sym (start-own p.start lt)) p.among in
          let r = down-between u [] starts starts t walk d p first among in
          let whole : IsFree sequences (u ∷ drop 1 (map stands walk)) = free-whole sequences (u ∷ []) (drop 1 (map stands walk)) (first_free u) r.1 in
          let is : map stands walk ≡ stands u ∷ map stands (p.middle ++ t.vertex ∷ []) = ap (map stands) p.is_walk in
          let same : u ∷ drop 1 (map stands walk) ≡ map stands walk = ap (λ (l : List ℕ). u ∷ drop 1 l) is ∙ ap (λ (v : ℕ). v ∷ map stands (p.middle ++ t.vertex ∷ [])) (sym (state-stands u u [] first)) ∙ sym is in
          (r.0, subst (IsFree sequences) same whole)

      free-up : (t : Target C) (walk : List ℕ) (d : C) → IsBetween ops road w starts t walk d → IsFree sequences walk →
          (v : ℕ) × (other : List ℕ) × (v < copied.vertices) × (stands v ≡ t.vertex) × IsBetween ops copied x starts (record { vertex = v; cost = t.cost }) other d × (map stands other ≡ walk)
      free-up t walk d p free =
          let u : ℕ = p.start.vertex in
          let lt : u < n = starts-below p.start p.among in
          let same : walk ≡ u ∷ drop 1 walk = p.is_walk ∙ ap (λ (l : List ℕ). u ∷ drop 1 l) (sym p.is_walk) in
          let behind : IsFreeBehind sequences (u ∷ []) (drop 1 walk) = free-behind sequences (u ∷ []) (drop 1 walk) (subst (IsFree sequences) same free) in
          up-between u [] starts starts p.start t walk d p (first_state u lt) (sym (start-own p.start lt)) p.among behind

    pub ends_stand_for_free : EndsStandForFree ops n sequences stands road w copied x
    ends_stand_for_free = record {
      stand = λ starts t walk d ordinary p. free-down starts ordinary t walk d p;
      stood_for = λ starts t walk d ordinary p free. free-up starts ordinary t walk d p free;
    }

    -- from one start, which is the state of a walk so far
    state-down : (before walk : List ℕ) (s : Start C) (t : Target C) (d : C) → IsStateOf n copies before s.vertex → IsBetween ops copied x (s ∷ []) t walk d →
        IsBetween ops road w (start_for stands s ∷ []) (target_for stands t) (map stands walk) d
        × IsFreeBehind sequences before (drop 1 (map stands walk)) × IsStateOf n copies (before ++ drop 1 (map stands walk)) t.vertex
    state-down [] walk s t d h p = let some : 1 ≤ length {A = ℕ} [] = h.begun in absurd (omega arith)
    state-down (a ∷ b) walk s t d h p =
        let is : p.start ≡ s = Contains-one s p.start p.among in
        let here : IsAt a b p.start.vertex = subst (λ (r : Start C). IsAt a b r.vertex) (sym is) (at-state a s.vertex b h) in
        let among : Contains (start_for stands s ∷ []) (start_for stands p.start) = subst (λ (r : Start C). Contains (start_for stands s ∷ []) (start_for stands r)) (sym is) (Contains-here (start_for stands s) []) in
        let r = down-between a b (s ∷ []) (start_for stands s ∷ []) t walk d p here among in
        (r.0, r.1, state-at a t.vertex (b ++ drop 1 (map stands walk)) r.2)

    state-up : (before walk : List ℕ) (s : Start C) (t : Target C) (d : C) → IsStateOf n copies before s.vertex → IsBetween ops road w (start_for stands s ∷ []) t walk d → IsFreeBehind sequences before (drop 1 walk) →
        (v : ℕ) × (other : List ℕ) × (v < copied.vertices) × (stands v ≡ t.vertex) × IsBetween ops copied x (s ∷ []) (record { vertex = v; cost = t.cost }) other d × (map stands other ≡ walk)
    state-up [] walk s t d h p free = let some : 1 ≤ length {A = ℕ} [] = h.begun in absurd (omega arith)
    state-up (a ∷ b) walk s t d h p free =
        up-between a b (start_for stands s ∷ []) (s ∷ []) s t walk d p (at-state a s.vertex b h) (Contains-one (start_for stands s) p.start p.among) (Contains-here s []) free

    pub ends_stand_behind : EndsStandBehind ops n sequences copies stands road w copied x
    ends_stand_behind = record {
      stand = λ before walk s t d h p. state-down before walk s t d h p;
      stood_for = λ before walk s t d h p free. state-up before walk s t d h p free;
    }
