-- What stands in a tree of keys and in a queue, as one list of entries.
use Rattle.std.proofs.Common.{◌≡◌, ◌≢◌, ℕ, zero, suc, ◌<◌, ◌≤◌, ◌+◌, ◌⊎◌, inl, inr, false, Option, Some, None, IfSome, IfNone, List, [], ◌∷◌, ◌++◌, length, get_or, set, replicate, refl, sym, ◌∙◌, ap, subst, arith}
use Rattle.std.specs.List.{Contains, slice_get}
use Rattle.std.specs.Ordering.{is_gt, nat_cmp}
use Rattle.std.proofs.lemmas.Bool.{cases_lt}
use Rattle.std.proofs.lemmas.Bool.Decides.{nat_tests}
use Rattle.std.proofs.lemmas.List.{get_or-set_same, get_or-set_other, length-set}
use Rattle.std.proofs.lemmas.List.Elements.{Contains-append_left, Contains-append_right, Contains-append_cases}
use Rattle.std.proofs.lemmas.Option.{get_or_from_slice_get, same_Some, slice_get_within}
use Rattle.list_lemmas.proofs.Gets.{Contains_get, get_Contains, get_is, get_set}
use Rattle.search_graph.specs.Costs.{CostOps, CostLaws, NoDearer}
use Rattle.search_graph.specs.OrderLaws.{le_refl, le_trans, le_from_less, less_or_le}
use Rattle.search_graph.specs.Ranks.{AreRanks}
use Rattle.search_queue.specs.Queued.{Adds, HasCheaper, TakesLeast}
use Rattle.tournament_tree.specs.Keys.{Lowers, NoneBelow, no_key}
use Rattle.tournament_tree.specs.Keys as tree
use Rattle.label_search.specs.Waiting.{AreRankKeys, TakesCheapest, Waits, waiting}

-- the first element, and the others
module _ {E : Type 0} where
  nothing : (x : E) → Contains [] x → ⊥
  nothing x (k, lt, is) = omega arith

  first : (e : E) (xs : List E) → Contains (e ∷ xs) e
  first e xs = Contains_get (e ∷ xs) 0 e refl

  behind : (e x : E) (xs : List E) → Contains xs x → Contains (e ∷ xs) x
  behind e x xs h = let g = get_Contains xs x h in Contains_get (e ∷ xs) (suc g.0) x g.1

  by_place : (e x : E) (xs : List E) (k : ℕ) → slice_get (e ∷ xs) k ≡ Some x → (x ≡ e) ⊎ Contains xs x
  by_place e x xs zero h = inl (sym (same_Some e x h))
  by_place e x xs (suc k) h = inr (Contains_get xs k x h)

  first_or_behind : (e x : E) (xs : List E) → Contains (e ∷ xs) x → (x ≡ e) ⊎ Contains xs x
  first_or_behind e x xs h = let g = get_Contains (e ∷ xs) x h in by_place e x xs g.0 g.1

-- a written element is there, and another is as it was
get_written : (xs : List ℕ) (v was x : ℕ) → slice_get xs v ≡ Some was → slice_get (set xs v x) v ≡ Some x
get_written xs v was x e =
    let lt : v < length xs = slice_get_within xs v was e in
    get_is (set xs v x) v x (omega (arith, lt, length-set xs v x)) (get_or-set_same xs v x x lt)

get_unwritten : (xs : List ℕ) (v i x y : ℕ) → i ≢ v → slice_get xs i ≡ Some y → slice_get (set xs v x) i ≡ Some y
get_unwritten xs v i x y ne e =
    let lt : i < length xs = slice_get_within xs i y e in
    get_is (set xs v x) i y (omega (arith, lt, length-set xs v x)) (get_or-set_other xs v i x y ne ∙ get_or_from_slice_get xs i y y e)

get_replicate : (n x i y : ℕ) → slice_get (replicate n x) i ≡ Some y → y ≡ x
get_replicate zero x i y e = let lt : i < length {A = ℕ} [] = slice_get_within [] i y e in absurd (omega (arith, lt))
get_replicate (suc n) x zero y e = sym (same_Some x y e)
get_replicate (suc n) x (suc i) y e = get_replicate n x i y e

-- two numbers apart
either : (i v : ℕ) → (i ≡ v) ⊎ (i ≢ v)
either i v = grind (arith, nat_tests)

-- what waits has a key, counted from v on
HasKey : {C : Type 0} → (ℕ → C) → ℕ → List ℕ → C × ℕ → Type 0
HasKey unranked v keys e = (i : ℕ) × (k : ℕ) × (slice_get keys i ≡ Some k) × (k < no_key) × (e ≡ (unranked k, v + i))

module _ {C : Type 0} (unranked : ℕ → C) where
  waiting-key : (v k : ℕ) (ks : List ℕ) → k < no_key → waiting unranked v (k ∷ ks) ≡ (unranked k, v) ∷ waiting unranked (suc v) ks
  waiting-key v k ks h = grind (arith, nat_tests)

  waiting-no_key : (v k : ℕ) (ks : List ℕ) → no_key ≤ k → waiting unranked v (k ∷ ks) ≡ waiting unranked (suc v) ks
  waiting-no_key v k ks h = grind (arith, nat_tests)

  -- more keys
  waiting_more : (v k : ℕ) (ks : List ℕ) (e : C × ℕ) → Contains (waiting unranked (suc v) ks) e → Contains (waiting unranked v (k ∷ ks)) e
  waiting_more v k ks e h = elim (cases_lt k no_key) [
    | inl lt ↦ subst (λ (xs : List (C × ℕ)). Contains xs e) (sym (waiting-key v k ks lt)) (behind (unranked k, v) e (waiting unranked (suc v) ks) h)
    | inr ge ↦ subst (λ (xs : List (C × ℕ)). Contains xs e) (sym (waiting-no_key v k ks ge)) h
  ]

  -- a vertex with a key waits
  waits_by_key : (v n i k : ℕ) (keys : List ℕ) → n ≡ v + i → slice_get keys i ≡ Some k → k < no_key → Contains (waiting unranked v keys) (unranked k, n)
  waits_by_key v n i k [] same e lt = let none : i < length {A = ℕ} [] = slice_get_within [] i k e in absurd (omega (arith, none))
  waits_by_key v n zero k (x ∷ ks) same e lt =
      let is : x ≡ k = same_Some x k e in
      let here : n ≡ v = omega (arith, same) in
      subst (λ (m : ℕ). Contains (waiting unranked v (x ∷ ks)) (unranked k, m)) (sym here)
      (subst (λ (m : ℕ). Contains (waiting unranked v (m ∷ ks)) (unranked k, v)) (sym is)
      (subst (λ (xs : List (C × ℕ)). Contains xs (unranked k, v)) (sym (waiting-key v k ks lt)) (first (unranked k, v) (waiting unranked (suc v) ks))))
  waits_by_key v n (suc i) k (x ∷ ks) same e lt = waiting_more v x ks (unranked k, n) (waits_by_key (suc v) n i k ks (omega (arith, same)) e lt)

  -- and nothing else does
  key_behind : (v x : ℕ) (ks : List ℕ) (e : C × ℕ) → HasKey unranked (suc v) ks e → HasKey unranked v (x ∷ ks) e
  unfolding HasKey
  key_behind v x ks e h =
      let same : suc v + h.0 ≡ v + suc h.0 = omega arith in
      (suc h.0, h.1, h.2, h.3, h.4 ∙ ap (λ (m : ℕ). (unranked h.1, m)) same)

  key_of : (v : ℕ) (keys : List ℕ) (e : C × ℕ) → Contains (waiting unranked v keys) e → HasKey unranked v keys e
  unfolding HasKey
  key_of v [] e h = absurd (nothing e h)
  key_of v (x ∷ ks) e h = elim (cases_lt x no_key) [
    | inl lt ↦ elim (first_or_behind (unranked x, v) e (waiting unranked (suc v) ks) (subst (λ (xs : List (C × ℕ)). Contains xs e) (waiting-key v x ks lt) h)) [
      | inl is ↦ let same : v ≡ v + 0 = omega arith in (0, x, refl, lt, is ∙ ap (λ (m : ℕ). (unranked x, m)) same)
      | inr more ↦ key_behind v x ks e (key_of (suc v) ks e more)
    ]
    | inr ge ↦ key_behind v x ks e (key_of (suc v) ks e (subst (λ (xs : List (C × ℕ)). Contains xs e) (waiting-no_key v x ks ge) h))
  ]

  -- the same, where vertices are counted from 0
  key_at : (keys : List ℕ) (e : C × ℕ) → Contains (waiting unranked 0 keys) e → (i : ℕ) × (k : ℕ) × (slice_get keys i ≡ Some k) × (k < no_key) × (e ≡ (unranked k, i))
  unfolding HasKey
  key_at keys e h =
      let key = key_of 0 keys e h in
      let same : 0 + key.0 ≡ key.0 = omega arith in
      (key.0, key.1, key.2, key.3, key.4 ∙ ap (λ (m : ℕ). (unranked key.1, m)) same)

  waits_at : (i k : ℕ) (keys : List ℕ) → slice_get keys i ≡ Some k → k < no_key → Contains (waiting unranked 0 keys) (unranked k, i)
  waits_at i k keys e lt = waits_by_key 0 i i k keys (omega arith) e lt

  -- where no vertex has a key, none waits
  pub waiting-none : (v : ℕ) (keys : List ℕ) → NoneBelow keys no_key → waiting unranked v keys ≡ []
  waiting-none v [] none = refl
  waiting-none v (k ∷ ks) none = waiting-no_key v k ks (none 0 k refl) ∙ waiting-none (suc v) ks (λ i d e. none (suc i) d e)

  waiting-restarted : (v n : ℕ) → waiting unranked v (replicate n no_key) ≡ []
  waiting-restarted v n = waiting-none v (replicate n no_key) (λ i d e. let same : d ≡ no_key = get_replicate n no_key i d e in omega (arith, same))

-- a queue behind what waits
module _ {C : Type 0} where
  -- gets one more
  pub Waits-queued : (ws old new : List (C × ℕ)) (e : C × ℕ) → Adds old new e → Waits (ws ++ old) (ws ++ new) e
  Waits-queued ws old new e adds = record {
    there = Contains-append_right ws new e ((adds e).1 (inl refl));
    stays = λ x ne h. elim (Contains-append_cases ws old x h) [
      | inl w ↦ Contains-append_left ws new x w
      | inr q ↦ Contains-append_right ws new x ((adds x).1 (inr q))
    ];
  }

  -- or gives its least, which is the least of all
  pub TakesCheapest-queued : (ops : CostOps C) (ws old new : List (C × ℕ)) (e : C × ℕ) → TakesLeast ops old new e → ((x : C × ℕ) → Contains ws x → NoDearer ops e.0 x.0) → TakesCheapest ops (ws ++ old) (ws ++ new) e
  TakesCheapest-queued ops ws old new e takes up = record {
    least = λ x h. elim (Contains-append_cases ws old x h) [ inl w ↦ up x w | inr q ↦ takes.least x q ];
    leaves = λ x h. elim (Contains-append_cases ws old x h) [
      | inl w ↦ inr (Contains-append_left ws new x w)
      | inr q ↦ elim ((takes.taken x).0 q) [ inl same ↦ inl same | inr left ↦ inr (Contains-append_right ws new x left) ]
    ];
    among = λ x h. elim (Contains-append_cases ws new x h) [
      | inl w ↦ Contains-append_left ws old x w
      | inr q ↦ Contains-append_right ws old x ((takes.taken x).1 (inr q))
    ];
  }

module _ {C : Type 0} {ops : CostOps C} (laws : CostLaws ops) {ranked : C → Option ℕ} {unranked : ℕ → C} (ranks : AreRanks ops ranked unranked) where
  -- of two ranks the lesser is of the cost that is no dearer
  not_more : (r k : ℕ) → r ≤ k → is_gt (nat_cmp r k) ≡ false
  not_more r k h = grind (arith, nat_tests)

  rank_le : (r k : ℕ) → ranked (unranked r) ≡ Some r → ranked (unranked k) ≡ Some k → r ≤ k → NoDearer ops (unranked r) (unranked k)
  rank_le r k h i le = subst (λ o. is_gt o ≡ false) (sym (ranks.ordered (unranked r) (unranked k) r k h i)) (not_more r k le)

  short_rank : (a : C) (r : ℕ) → ranked a ≡ Some r → r < no_key
  short_rank a r h = let short = ranks.short a r h in omega (arith, short)

  rank_back : (a : C) (r : ℕ) → ranked a ≡ Some r → ranked (unranked r) ≡ Some r
  rank_back a r h = subst (λ (x : C). ranked x ≡ Some r) (sym (ranks.back a r h)) h

  -- keys stay ranks
  pub AreRankKeys-none : (keys : List ℕ) → NoneBelow keys no_key → AreRankKeys ranked unranked keys
  AreRankKeys-none keys none v k e lt = let le : no_key ≤ k = none v k e in absurd (omega (arith, le, lt))

  pub AreRankKeys-restarted : (n : ℕ) → AreRankKeys ranked unranked (replicate n no_key)
  AreRankKeys-restarted n v k e lt = let same : k ≡ no_key = get_replicate n no_key v k e in absurd (omega (arith, same, lt))

  pub AreRankKeys-lowered : (old new : List ℕ) (v r : ℕ) (a : C) → ranked a ≡ Some r → Lowers old new v r → AreRankKeys ranked unranked old → AreRankKeys ranked unranked new
  AreRankKeys-lowered old new v r a h lowers all i k e lt = elim (get_set old v i r k (subst (λ (xs : List ℕ). slice_get xs i ≡ Some k) lowers.now e)) [
    | inl p ↦ subst (λ (m : ℕ). ranked (unranked m) ≡ Some m) (sym p.1) (rank_back a r h)
    | inr p ↦ all i k p.1 lt
  ]

  pub AreRankKeys-taken : (old new : List ℕ) (e : ℕ × ℕ) → tree.TakesLeast old new e → AreRankKeys ranked unranked old → AreRankKeys ranked unranked new
  AreRankKeys-taken old new e takes all i k h lt = elim (get_set old e.1 i no_key k (subst (λ (xs : List ℕ). slice_get xs i ≡ Some k) takes.now h)) [
    | inl p ↦ let same : k ≡ no_key = p.1 in absurd (omega (arith, same, lt))
    | inr p ↦ all i k p.1 lt
  ]

  -- a key that was lowered waits at its cost, and others as before
  others_wait : (old : List ℕ) (v r : ℕ) (x : C × ℕ) → x.1 ≢ v → Contains (waiting unranked 0 old) x → Contains (waiting unranked 0 (set old v r)) x
  others_wait old v r x ne h =
      let key = key_at unranked old x h in
      let at : x.1 ≡ key.0 = ap (λ (y : C × ℕ). y.1) key.4 in
      let apart : key.0 ≢ v = λ same. ne (at ∙ same) in
      subst (Contains (waiting unranked 0 (set old v r))) (sym key.4) (waits_at unranked key.0 key.1 (set old v r) (get_unwritten old v key.0 r key.1 apart key.2) key.3)

  pub Waits-lowered : (a : C) (v r : ℕ) (old new : List ℕ) (queue : List (C × ℕ)) → ranked a ≡ Some r → Lowers old new v r → Waits (waiting unranked 0 old ++ queue) (waiting unranked 0 new ++ queue) (a, v)
  Waits-lowered a v r old new queue h lowers =
      let there : Contains (waiting unranked 0 (set old v r)) (unranked r, v) = waits_at unranked v r (set old v r) (get_written old v lowers.before r lowers.was) (short_rank a r h) in
      subst (λ (xs : List ℕ). Waits (waiting unranked 0 old ++ queue) (waiting unranked 0 xs ++ queue) (a, v)) (sym lowers.now) (record {
        there = Contains-append_left (waiting unranked 0 (set old v r)) queue (a, v) (subst (λ (x : C). Contains (waiting unranked 0 (set old v r)) (x, v)) (ranks.back a r h) there);
        stays = λ x ne k. elim (Contains-append_cases (waiting unranked 0 old) queue x k) [
          | inl w ↦ Contains-append_left (waiting unranked 0 (set old v r)) queue x (others_wait old v r x ne w)
          | inr q ↦ Contains-append_right (waiting unranked 0 (set old v r)) queue x q
        ];
      })

  -- nothing that waits costs less than the least key does
  pub waiting_up : (r at : ℕ) (keys : List ℕ) → AreRankKeys ranked unranked keys → slice_get keys at ≡ Some r → r < no_key → NoneBelow keys r → (x : C × ℕ) → Contains (waiting unranked 0 keys) x → NoDearer ops (unranked r) x.0
  waiting_up r at keys all is lt none x h =
      let key = key_at unranked keys x h in
      let cost : x.0 ≡ unranked key.1 = ap (λ (y : C × ℕ). y.0) key.4 in
      subst (λ (c : C). NoDearer ops (unranked r) c) (sym cost) (rank_le r key.1 (all at r is lt) (all key.0 key.1 key.2 key.3) (none key.0 key.1 key.2))

  -- where something of the queue does, its least comes before all that waits
  pub queue_first : (r at : ℕ) (keys : List ℕ) (old new : List (C × ℕ)) (e : C × ℕ) → AreRankKeys ranked unranked keys → slice_get keys at ≡ Some r → r < no_key → NoneBelow keys r → HasCheaper ops old (unranked r) → TakesLeast ops old new e →
      (x : C × ℕ) → Contains (waiting unranked 0 keys) x → NoDearer ops e.0 x.0
  queue_first r at keys old new e all is lt none cheaper takes x h =
      let below : NoDearer ops cheaper.0 (unranked r) = elim (less_or_le laws (unranked r) cheaper.0) [ inl less ↦ le_from_less laws cheaper.0 (unranked r) less | inr le ↦ absurd (cheaper.3 le) ] in
      le_trans laws e.0 (unranked r) x.0 (le_trans laws e.0 cheaper.0 (unranked r) (takes.least (cheaper.0, cheaper.1) cheaper.2) below) (waiting_up r at keys all is lt none x h)

  -- where nothing of the queue does, the least key comes first
  still_waits : (old : List ℕ) (e : ℕ × ℕ) (x : C × ℕ) → slice_get old e.1 ≡ Some e.0 → Contains (waiting unranked 0 old) x → (x ≡ (unranked e.0, e.1)) ⊎ Contains (waiting unranked 0 (set old e.1 no_key)) x
  still_waits old e x was h =
      let key = key_at unranked old x h in
      elim (either key.0 e.1) [
        | inl same ↦
            let k : key.1 ≡ e.0 = same_Some key.1 e.0 (sym key.2 ∙ ap (slice_get old) same ∙ was) in
            inl (key.4 ∙ ap (λ (m : ℕ). (unranked m, key.0)) k ∙ ap (λ (m : ℕ). (unranked e.0, m)) same)
        | inr ne ↦ inr (subst (Contains (waiting unranked 0 (set old e.1 no_key))) (sym key.4) (waits_at unranked key.0 key.1 (set old e.1 no_key) (get_unwritten old e.1 key.0 no_key key.1 ne key.2) key.3))
      ]

  waited : (old : List ℕ) (v : ℕ) (x : C × ℕ) → Contains (waiting unranked 0 (set old v no_key)) x → Contains (waiting unranked 0 old) x
  waited old v x h =
      let key = key_at unranked (set old v no_key) x h in
      elim (get_set old v key.0 no_key key.1 key.2) [
        | inl p ↦ let same : key.1 ≡ no_key = p.1 in let lt : key.1 < no_key = key.3 in absurd (omega (arith, same, lt))
        | inr p ↦ subst (Contains (waiting unranked 0 old)) (sym key.4) (waits_at unranked key.0 key.1 old p.1 key.3)
      ]

  pub TakesCheapest-waiting : (r at : ℕ) (e : ℕ × ℕ) (old new : List ℕ) (queue : List (C × ℕ)) → AreRankKeys ranked unranked old → slice_get old at ≡ Some r → r < no_key → ((k : C) (v : ℕ) → Contains queue (k, v) → NoDearer ops (unranked r) k) → tree.TakesLeast old new e →
      TakesCheapest ops (waiting unranked 0 old ++ queue) (waiting unranked 0 new ++ queue) (unranked e.0, e.1)
  TakesCheapest-waiting r at e old new queue all is lt up takes =
      let first : NoDearer ops (unranked e.0) (unranked r) = rank_le e.0 r (all e.1 e.0 takes.was takes.some) (all at r is lt) (takes.least at r is) in
      let rest : List (C × ℕ) = waiting unranked 0 (set old e.1 no_key) in
      subst (λ (xs : List ℕ). TakesCheapest ops (waiting unranked 0 old ++ queue) (waiting unranked 0 xs ++ queue) (unranked e.0, e.1)) (sym takes.now) (record {
        least = λ x h. elim (Contains-append_cases (waiting unranked 0 old) queue x h) [
          | inl w ↦ waiting_up e.0 e.1 old all takes.was takes.some takes.least x w
          | inr q ↦ le_trans laws (unranked e.0) (unranked r) x.0 first (up x.0 x.1 q)
        ];
        leaves = λ x h. elim (Contains-append_cases (waiting unranked 0 old) queue x h) [
          | inl w ↦ elim (still_waits old e x takes.was w) [ inl same ↦ inl same | inr left ↦ inr (Contains-append_left rest queue x left) ]
          | inr q ↦ inr (Contains-append_right rest queue x q)
        ];
        among = λ x h. elim (Contains-append_cases rest queue x h) [
          | inl w ↦ Contains-append_left (waiting unranked 0 old) queue x (waited old e.1 x w)
          | inr q ↦ Contains-append_right (waiting unranked 0 old) queue x q
        ];
      })

  -- whether or not a key is taken, keys stay ranks
  pub AreRankKeys-popped : (old new : List ℕ) (taken : Option (ℕ × ℕ)) → IfSome taken (λ e. tree.TakesLeast old new e) → IfNone taken (new ≡ old) → AreRankKeys ranked unranked old → AreRankKeys ranked unranked new
  AreRankKeys-popped old new None some none all = subst (AreRankKeys ranked unranked) (sym none) all
  AreRankKeys-popped old new (Some e) some none all = AreRankKeys-taken old new e some all

-- neither in a tree that begins anew nor in an empty queue does anything wait
pub none_restarted : {C : Type 0} (unranked : ℕ → C) (n : ℕ) (keys : List ℕ) (queue : List (C × ℕ)) → keys ≡ replicate n no_key → queue ≡ [] → waiting unranked 0 keys ++ queue ≡ []
none_restarted unranked n keys queue e f =
    subst (λ q. waiting unranked 0 keys ++ q ≡ []) (sym f) (subst (λ ks. waiting unranked 0 ks ++ [] ≡ []) (sym e) (ap (λ xs. xs ++ []) (waiting-restarted unranked 0 n)))

-- where no vertex has a key, nothing that waits costs less than anything
pub none_waits : {C : Type 0} (ops : CostOps C) (unranked : ℕ → C) (keys : List ℕ) (c : C) → NoneBelow keys no_key → (x : C × ℕ) → Contains (waiting unranked 0 keys) x → NoDearer ops c x.0
none_waits ops unranked keys c none x h = absurd (nothing x (subst (λ xs. Contains xs x) (waiting-none unranked 0 keys none) h))
