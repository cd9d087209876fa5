-- Walks behind a walk that is in a state of a place: those that lead from this state to one of the next place are those that
-- go on from there along which no forbidden sequence ends, and they end in the state of both walks together.
use Rattle.std.proofs.Common.{◌≡◌, ℕ, ◌+◌, ◌*◌, ◌<◌, ◌≤◌, inl, inr, List, [], ◌∷◌, ◌++◌, length, map, drop, get_or, arith, ap, refl, subst, sym, ◌∙◌, append_assoc, append-nil, length-append}
use Rattle.std.specs.List.{All, Contains}
use Rattle.std.proofs.lemmas.Bool.{cases_lt}
use Rattle.std.proofs.lemmas.List.Elements.{Contains-append_left, Contains-append_right, Contains-append_cases}
use Rattle.std.proofs.lemmas.Option.{slice_get-get_or}
use Rattle.road_base.specs.declared.segments.Place.{Place}
use Rattle.search_graph.specs.declared.costs.WeightDurLen.{WeightDurLen}
use Rattle.search_graph.specs.declared.ends.Start.{Start}
use Rattle.search_graph.specs.declared.ends.Target.{Target}
use Rattle.search_graph.specs.RoadCosts.{road_cost_ops}
use Rattle.search_graph.specs.Walks.{IsBetween}
use Rattle.edge_graph.specs.GraphLaws.{copy-stands, graph-vertices, is-copy, ordinary-stands, segments-in-graph}
use Rattle.edge_graph.specs.NetworkView.{NetworkView, copies_at, copies_in, graph_of, stands, turn_graph}
use Rattle.edge_graph.specs.Sound.{IsSoundNetwork}
use Rattle.metric_make.specs.MetricOf.{AreAlike}
use Rattle.metric_make.specs.RoadMetric.{RoadMetric}
use Rattle.road_places.specs.Permitted.{IsAlong, IsByTurns, IsPermitted, IsStart, IsTarget}
use Rattle.road_places.specs.Places.{IsDirection, IsPlaceOn}
use Rattle.road_walks.specs.Between.{IsAlongBetween, IsByTurnsBetween, IsPermittedBetween, states_of}
use Rattle.via_paths.specs.Expansion.{IsStateOf, word_of}
use Rattle.via_paths.specs.Forbidden.{IsFree, IsFreeBehind, last_of}
use Rattle.via_paths.specs.Standing.{EndsStandBehind, start_for, target_for}
use Rattle.via_paths.specs.ArcLaws.{held-word}
use Rattle.via_paths.specs.WalkLaws.{ends_stand_behind}
use Rattle.via_paths.specs.PrefixLaws.{copies_of-are}
use Rattle.via_paths.specs.StateLaws.{own-state, state-last}
use Rattle.via_paths.specs.WordLaws.{Contains-here, Contains-one, Contains-there, behind-cons, behind-head, behind-nil, behind-tail}

-- ---- walks and what goes on behind them
-- a walk is its front and its last vertex
with-last : (walk : List ℕ) → 1 ≤ length walk → (front : List ℕ) × (walk ≡ front ++ last_of walk ∷ [])
with-last [] some = absurd (omega arith)
with-last (v ∷ []) some = ([], refl)
with-last (v ∷ x ∷ walk) some = let r = with-last (x ∷ walk) (omega arith) in (v ∷ r.0, ap (λ (l : List ℕ). v ∷ l) r.1)

module _ (sequences : List (List ℕ)) (long : All (λ s. 3 ≤ length s) sequences) where
  -- what goes on behind a walk along which no sequence ends is free, with the vertex from which it goes on
  pub behind-free : (before rest : List ℕ) → 1 ≤ length before → IsFreeBehind sequences before rest → IsFree sequences (last_of before ∷ rest)
  behind-free before rest some behind s h run =
      let split = with-last before some in
      let a : List ℕ = run.0 in
      let b : List ℕ = run.1 in
      let three : 3 ≤ length s = subst (λ (t : List ℕ). 3 ≤ length t) h.2 (long h.0 s h.1) in
      let whole : before ++ rest ≡ ((split.0 ++ a) ++ s) ++ b =
      ap (λ (l : List ℕ). l ++ rest) split.1
      ∙ append_assoc split.0 (last_of before ∷ []) rest
      ∙ ap (λ (l : List ℕ). split.0 ++ l) run.2
      ∙ sym (append_assoc split.0 (a ++ s) b)
      ∙ ap (λ (l : List ℕ). l ++ b) (sym (append_assoc split.0 a s)) in
      let le : length rest ≤ length b = behind s (split.0 ++ a) b h whole in
      let sum : length (last_of before ∷ rest) ≡ (length a + length s) + length b = ap length run.2 ∙ length-append (a ++ s) b ∙ ap (λ (k : ℕ). k + length b) (length-append a s) in
      omega (arith, three, le, sum)

  -- on along a walk, and then along another
  pub behind-append : (before walk more : List ℕ) → IsFreeBehind sequences before walk → IsFreeBehind sequences (before ++ walk) more → IsFreeBehind sequences before (walk ++ more)
  behind-append before [] more h k = subst (λ (l : List ℕ). IsFreeBehind sequences l more) (append-nil before) k
  behind-append before (v ∷ walk) more h k =
      behind-cons sequences long before v (walk ++ more) (behind-head sequences before v walk h)
      (behind-append (before ++ v ∷ []) walk more (behind-tail sequences before v walk h)
      (subst (λ (l : List ℕ). IsFreeBehind sequences l more) (sym (append_assoc before (v ∷ []) walk)) k))

-- and the other way round: along the second, behind the first
pub behind-rest : (sequences : List (List ℕ)) (before walk more : List ℕ) → IsFreeBehind sequences before (walk ++ more) → IsFreeBehind sequences (before ++ walk) more
behind-rest sequences before walk more behind s front rest h is =
    let le : length (walk ++ more) ≤ length rest = behind s front rest h (sym (append_assoc before walk more) ∙ is) in
    let sum = length-append walk more in
    omega (arith, le, sum)

-- ---- the states of a place
module _ (network : NetworkView) (place : Place) where
  by-copy : (q : ℕ) → Contains (copies_at network (stands network q)) q → IsDirection place.segment (stands network q) → Contains (states_of network place) q
  by-copy q h (inl e) =
      let f : List ℕ = copies_at network (2 * place.segment) in
      let b : List ℕ = copies_at network (2 * place.segment + 1) in
      Contains-there (2 * place.segment) q ((2 * place.segment + 1) ∷ (f ++ b)) (Contains-there (2 * place.segment + 1) q (f ++ b)
      (Contains-append_left f b q (subst (λ (v : ℕ). Contains (copies_at network v) q) e h)))
  by-copy q h (inr e) =
      let f : List ℕ = copies_at network (2 * place.segment) in
      let b : List ℕ = copies_at network (2 * place.segment + 1) in
      Contains-there (2 * place.segment) q ((2 * place.segment + 1) ∷ (f ++ b)) (Contains-there (2 * place.segment + 1) q (f ++ b)
      (Contains-append_right f b q (subst (λ (v : ℕ). Contains (copies_at network v) q) e h)))

  by-direction : (q : ℕ) → IsDirection place.segment q → Contains (states_of network place) q
  by-direction q (inl e) =
      let rest : List ℕ = (2 * place.segment + 1) ∷ (copies_at network (2 * place.segment) ++ copies_at network (2 * place.segment + 1)) in
      subst (Contains ((2 * place.segment) ∷ rest)) (sym e) (Contains-here (2 * place.segment) rest)
  by-direction q (inr e) =
      let rest : List ℕ = copies_at network (2 * place.segment) ++ copies_at network (2 * place.segment + 1) in
      subst (Contains ((2 * place.segment) ∷ (2 * place.segment + 1) ∷ rest)) (sym e)
      (Contains-there (2 * place.segment) (2 * place.segment + 1) ((2 * place.segment + 1) ∷ rest) (Contains-here (2 * place.segment + 1) rest))

  -- each vertex of the searched graph that stands for a direction of its segment
  pub state-there : (q : ℕ) → q < (graph_of network).vertices → IsDirection place.segment (stands network q) → Contains (states_of network place) q
  state-there q lt direction = elim (cases_lt q (2 * length network.segments)) [
    | inl low ↦ by-direction q (subst (IsDirection place.segment) (ordinary-stands network q low) direction)
    | inr far ↦ by-copy q (is-copy network (stands network q) q far lt refl) direction
  ]

  -- and no other
  pub record IsStateAt (q : ℕ) : Type 0 where
    pub within : q < (graph_of network).vertices
    pub direction : IsDirection place.segment (stands network q)

  own-direction : IsPlaceOn network place → (q : ℕ) → IsDirection place.segment q → IsStateAt q
  own-direction on q direction =
      let segment = on.on_segment in
      let low : q < 2 * length network.segments = elim direction [ inl e ↦ omega (arith, e, segment) | inr e ↦ omega (arith, e, segment) ] in
      record {
        within = omega (arith, low, segments-in-graph network);
        direction = subst (IsDirection place.segment) (sym (ordinary-stands network q low)) direction;
      }

  copy-direction : (v q : ℕ) → IsDirection place.segment v → Contains (copies_at network v) q → IsStateAt q
  copy-direction v q direction h =
      let copy = copy-stands network v q h in
      record { within = copy.1; direction = subst (IsDirection place.segment) (sym copy.2) direction }

  pub state-is : IsPlaceOn network place → (q : ℕ) → Contains (states_of network place) q → IsStateAt q
  state-is on q h =
      let f : List ℕ = copies_at network (2 * place.segment) in
      let b : List ℕ = copies_at network (2 * place.segment + 1) in
      elim (Contains-append_cases ((2 * place.segment) ∷ (2 * place.segment + 1) ∷ f) b q h) [
        | inl front ↦ elim (Contains-append_cases ((2 * place.segment) ∷ (2 * place.segment + 1) ∷ []) f q front) [
          | inl own ↦ elim (Contains-append_cases ((2 * place.segment) ∷ []) ((2 * place.segment + 1) ∷ []) q own) [
            | inl forward ↦ own-direction on q (inl (Contains-one (2 * place.segment) q forward))
            | inr backward ↦ own-direction on q (inr (Contains-one (2 * place.segment + 1) q backward))
          ]
          | inr forward ↦ copy-direction (2 * place.segment) q (inl refl) forward
        ]
        | inr backward ↦ copy-direction (2 * place.segment + 1) q (inr refl) backward
      ]

-- ---- walks in states
-- a walk of the network is in the state d
abbrev pub IsInState : NetworkView → List ℕ → ℕ → Type 0
IsInState network walk d = IsStateOf (2 * length network.segments) (copies_in network) walk d

module _ (network : NetworkView) where
  in-within : (before : List ℕ) (d : ℕ) → IsInState network before d → d < (graph_of network).vertices
  in-within [] d h = let some : 1 ≤ length {A = ℕ} [] = h.begun in absurd (omega arith)
  in-within (a ∷ b) d h =
      let n : ℕ = 2 * length network.segments in
      let lt : d < n + length (copies_in network) = subst (λ (k : ℕ). k < n + length (copies_in network)) (sym h.is) (held-word n (copies_in network) a b h.ordinary).1 in
      omega (arith, lt, graph-vertices network)

  pub in-last : (before : List ℕ) (d : ℕ) → IsInState network before d → stands network d ≡ last_of before
  in-last before d h = state-last (2 * length network.segments) d (copies_in network) before h

-- `walk` goes on behind `before` from p to q, and both together are in state e
pub record GoesOnIn (road : RoadMetric) (p q : Place) (before : List ℕ) (d e : ℕ) (walk : List ℕ) (c : WeightDurLen) : Type 0 where
  pub permitted : IsPermitted road p q walk c
  pub begins : (rest : List ℕ) × (walk ≡ stands road.network d ∷ rest)
  pub ends : (front : List ℕ) × (walk ≡ front ++ stands road.network e ∷ [])
  pub behind : IsFreeBehind road.network.forbidden before (drop 1 walk)
  pub state : IsInState road.network (before ++ drop 1 walk) e

-- it leads to a state of q
pub record LeadsToState (road : RoadMetric) (p q : Place) (d : ℕ) (walk : List ℕ) (c : WeightDurLen) : Type 0 where
  pub state : ℕ
  pub is_state : Contains (states_of road.network q) state
  pub leads : IsPermittedBetween road p q d state walk c

-- it begins in a state of p
pub record BeginsInState (network : NetworkView) (p : Place) (walk : List ℕ) : Type 0 where
  pub state : ℕ
  pub is_state : Contains (states_of network p) state
  pub begins : (rest : List ℕ) × (walk ≡ state ∷ rest)
  pub is_own : stands network state ≡ state
  pub alone : IsInState network (state ∷ []) state

module _ (road : RoadMetric) (sound : IsSoundNetwork road.network) where
  -- a state of a place is that of some walk
  pub some-walk : (p : Place) (d : ℕ) → IsPlaceOn road.network p → Contains (states_of road.network p) d → IsInState road.network (word_of (2 * length road.network.segments) (copies_in road.network) d) d
  some-walk p d on h =
      let is = state-is road.network p on d h in
      own-state (2 * length road.network.segments) road.network.forbidden (copies_in road.network) (copies_of-are road.network.forbidden) sound.ordinary d
      (omega (arith, is.within, graph-vertices road.network))

-- a permitted walk begins in a state of its first place
direction-begins : (network : NetworkView) (p : Place) (v : ℕ) (walk rest : List ℕ) → IsPlaceOn network p → IsDirection p.segment v → walk ≡ v ∷ rest → BeginsInState network p walk
direction-begins network p v walk rest on direction is =
    let segment = on.on_segment in
    let low : v < 2 * length network.segments = elim direction [ inl e ↦ omega (arith, e, segment) | inr e ↦ omega (arith, e, segment) ] in
    record {
      state = v;
      is_state = by-direction network p v direction;
      begins = (rest, is);
      is_own = ordinary-stands network v low;
      alone = record { begun = omega arith; ordinary = low; is = refl };
    }

pub permitted-begins : (road : RoadMetric) (p q : Place) (walk : List ℕ) (c : WeightDurLen) → IsPlaceOn road.network p → IsPermitted road p q walk c → BeginsInState road.network p walk
permitted-begins road p q walk c on (inl along) = direction-begins road.network p along.0 walk [] on along.1.begins along.1.is_walk
permitted-begins road p q walk c on (inr turns) =
    let runs = turns.runs in
    let first : runs.start.vertex ≡ turns.begins.0 = ap (λ (s : Start WeightDurLen). s.vertex) (Contains-one turns.first runs.start runs.among) ∙ turns.begins.2.is_vertex in
    direction-begins road.network p turns.begins.0 walk (runs.middle ++ turns.last.vertex ∷ []) on turns.begins.1
    (runs.is_walk ∙ ap (λ (v : ℕ). v ∷ (runs.middle ++ turns.last.vertex ∷ [])) first)

module _ (road : RoadMetric) (sound : IsSoundNetwork road.network) (alike : AreAlike road.network road.weights) where
  stand-behind : EndsStandBehind road_cost_ops (2 * length road.network.segments) road.network.forbidden (copies_in road.network) (stands road.network) (turn_graph road.network) road.weights (graph_of road.network) road.weights
  unfolding graph_of
  stand-behind =
      let network = road.network in
      ends_stand_behind road_cost_ops (2 * length network.segments) network.forbidden (copies_in network) network.turns sound.long
      (λ k t lt. sound.in_range k (get_or network.turns k t).0 (get_or network.turns k t).1 (slice_get-get_or network.turns k t lt)) (copies_of-are network.forbidden) road.weights road.weights alike

  along-goes-on : (p q : Place) (before : List ℕ) (d e : ℕ) (walk : List ℕ) (c : WeightDurLen) → IsInState road.network before d → IsAlongBetween road p q d e walk c → GoesOnIn road p q before d e walk c
  along-goes-on p q before d e walk c h a =
      let nothing : [] ≡ drop 1 walk = sym (ap (drop 1) a.0.is_walk) in
      record {
        permitted = inl (stands road.network d, a.0);
        begins = ([], a.0.is_walk);
        ends = ([], a.0.is_walk ∙ ap (λ (v : ℕ). stands road.network v ∷ []) a.1);
        behind = subst (IsFreeBehind road.network.forbidden before) nothing (behind-nil road.network.forbidden before);
        state = subst (λ (l : List ℕ). IsInState road.network (before ++ l) e) nothing (subst (λ (l : List ℕ). IsInState road.network l e) (sym (append-nil before)) (subst (IsInState road.network before) a.1 h));
      }

  turns-go-on : (p q : Place) (before : List ℕ) (d e : ℕ) (walk : List ℕ) (c : WeightDurLen) → IsInState road.network before d → IsByTurnsBetween road p q d e walk c → GoesOnIn road p q before d e walk c
  turns-go-on p q before d e walk c h b =
      let network = road.network in
      let run : List ℕ = map (stands network) b.run in
      let here : IsInState network before b.first.vertex = subst (IsInState network before) (sym b.begins.1) h in
      let r = stand-behind.stand before b.run b.first b.last c here b.runs in
      let runs : IsBetween road_cost_ops (turn_graph network) road.weights (start_for (stands network) b.first ∷ []) (target_for (stands network) b.last) run c = r.0 in
      let rest : List ℕ = runs.middle ++ stands network b.last.vertex ∷ [] in
      let at : runs.start.vertex ≡ stands network d =
      ap (λ (s : Start WeightDurLen). s.vertex) (Contains-one (start_for (stands network) b.first) runs.start runs.among) ∙ ap (stands network) b.begins.1 in
      let is : run ≡ stands network d ∷ rest = runs.is_walk ∙ ap (λ (v : ℕ). v ∷ rest) at in
      let same : last_of before ∷ drop 1 run ≡ run =
      ap (λ (l : List ℕ). last_of before ∷ drop 1 l) is ∙ ap (λ (v : ℕ). v ∷ rest) (sym (in-last network before d h)) ∙ sym is in
      let all : GoesOnIn road p q before d e run c = record {
        permitted = inr (record {
          first = start_for (stands network) b.first;
          last = target_for (stands network) b.last;
          begins = b.begins.0;
          ends = b.ends.0;
          runs = runs;
          free = subst (IsFree network.forbidden) same (behind-free network.forbidden sound.long before (drop 1 run) h.begun r.1);
        });
        begins = (rest, is);
        ends = (runs.start.vertex ∷ runs.middle, runs.is_walk ∙ ap (λ (v : ℕ). runs.start.vertex ∷ (runs.middle ++ stands network v ∷ [])) b.ends.1);
        behind = r.1;
        state = subst (IsInState network (before ++ drop 1 run)) b.ends.1 r.2;
      } in
      subst (λ (l : List ℕ). GoesOnIn road p q before d e l c) (sym b.is_walk) all

  -- a walk from state to state goes on behind a walk that is in the first, and both are in the second
  pub between-goes-on : (p q : Place) (before : List ℕ) (d e : ℕ) (walk : List ℕ) (c : WeightDurLen) → IsInState road.network before d → IsPermittedBetween road p q d e walk c → GoesOnIn road p q before d e walk c
  between-goes-on p q before d e walk c h (inl a) = along-goes-on p q before d e walk c h a
  between-goes-on p q before d e walk c h (inr b) = turns-go-on p q before d e walk c h b

  -- and each that goes on so leads to a state of the next place
  along-between : (p q : Place) (before : List ℕ) (d v : ℕ) (walk rest : List ℕ) (c : WeightDurLen) → IsInState road.network before d → IsAlong road.weights p q v walk c → walk ≡ stands road.network d ∷ rest
      → LeadsToState road p q d walk c
  along-between p q before d v walk rest c h a is =
      let both : v ∷ [] ≡ stands road.network d ∷ rest = sym a.is_walk ∙ is in
      let at : v ≡ stands road.network d = cc in
      record {
        state = d;
        is_state = state-there road.network q d (in-within road.network before d h) (subst (IsDirection q.segment) at a.ends);
        leads = inl (subst (λ (u : ℕ). IsAlong road.weights p q u walk c) at a, refl);
      }

  turns-between : (p q : Place) (before : List ℕ) (d : ℕ) (walk rest : List ℕ) (c : WeightDurLen) → IsInState road.network before d → IsByTurns road p q walk c → walk ≡ stands road.network d ∷ rest
      → IsFreeBehind road.network.forbidden before (drop 1 walk) → LeadsToState road p q d walk c
  turns-between p q before d walk rest c h b is behind =
      let network = road.network in
      let runs = b.runs in
      let s : Start WeightDurLen = record { vertex = d; cost = b.first.cost } in
      let own : runs.start.vertex ≡ b.first.vertex = ap (λ (r : Start WeightDurLen). r.vertex) (Contains-one b.first runs.start runs.among) in
      let both : runs.start.vertex ∷ (runs.middle ++ b.last.vertex ∷ []) ≡ stands network d ∷ rest = sym runs.is_walk ∙ is in
      let at : runs.start.vertex ≡ stands network d = cc in
      let from : b.first ≡ start_for (stands network) s = ap (λ (v : ℕ). let r : Start WeightDurLen = record { vertex = v; cost = b.first.cost } in r) (sym own ∙ at) in
      let moved : IsBetween road_cost_ops (turn_graph network) road.weights (start_for (stands network) s ∷ []) b.last walk c =
      subst (λ (r : Start WeightDurLen). IsBetween road_cost_ops (turn_graph network) road.weights (r ∷ []) b.last walk c) from runs in
      let r = stand-behind.stood_for before walk s b.last c h moved behind in
      let t : Target WeightDurLen = record { vertex = r.0; cost = b.last.cost } in
      let to : b.last ≡ target_for (stands network) t = ap (λ (v : ℕ). let x : Target WeightDurLen = record { vertex = v; cost = b.last.cost } in x) (sym r.3) in
      let direction : IsDirection q.segment (stands network r.0) = subst (IsDirection q.segment) (sym (r.3 ∙ b.ends.2.is_vertex)) b.ends.1 in
      record {
        state = r.0;
        is_state = state-there network q r.0 r.2 direction;
        leads = inr (record {
          first = s;
          last = t;
          begins = (subst (IsStart road.weights p) from b.begins, refl);
          ends = (subst (IsTarget road.weights q) to b.ends, refl);
          run = r.1;
          runs = r.4;
          is_walk = sym r.5;
        });
      }

  pub goes-on-between : (p q : Place) (before : List ℕ) (d : ℕ) (walk rest : List ℕ) (c : WeightDurLen) → IsInState road.network before d → IsPermitted road p q walk c → walk ≡ stands road.network d ∷ rest
      → IsFreeBehind road.network.forbidden before (drop 1 walk) → LeadsToState road p q d walk c
  goes-on-between p q before d walk rest c h (inl a) is behind = along-between p q before d a.0 walk rest c h a.1 is
  goes-on-between p q before d walk rest c h (inr b) is behind = turns-between p q before d walk rest c h b is behind
