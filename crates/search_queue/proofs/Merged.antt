-- A heap of ranks and a heap of other keys as one queue.
use Rattle.std.proofs.Common.{◌≡◌, ℕ, ◌<◌, ◌≤◌, true, false, Option, Some, List, [], ◌∷◌, ◌++◌, refl, sym, ◌∙◌, ap, subst, inl, inr, arith}
use Rattle.std.specs.List.{Contains, All}
use Rattle.std.specs.Prelude.{map}
use Rattle.std.specs.List.Sorted.{IsPermutation}
use Rattle.std.specs.Ordering.{is_lt, is_gt, nat_cmp}
use Rattle.std.specs.Prelude.{Result, Ok, Err, OnOk, OnErr}
use Rattle.std.specs.declared.cmp.Ordering.{Ordering}
use Rattle.std.specs.declared.cmp.Ordering.TheVariants.{Less, Equal, Greater}
use Rattle.std.proofs.lemmas.Bool.{true≢false}
use Rattle.std.proofs.lemmas.Bool.Decides.{nat_tests}
use Rattle.std.proofs.lemmas.List.Elements.{Contains-append_left, Contains-append_right, All-append, All-cons, All-tail, All-contains, All-contains_itself, All-map, All-weaker}
use Rattle.std.proofs.lemmas.List.Sorted.{All-permutation, IsPermutation-append_left, IsPermutation-append_right, IsPermutation-map, IsPermutation-middle, IsPermutation-sym, IsPermutation-trans, length_permutation}
use Rattle.search_graph.specs.Costs.{CostOps, CostLaws, NoDearer}
use Rattle.search_graph.specs.Ranks.{AreRanks}
use Rattle.search_graph.specs.OrderLaws.{le_from_not_less, le_trans}
use Rattle.search_queue.specs.Queued.{Adds, HasCheaper, TakesLeast, NoneBelow, IsLeastKey, GivesLeast, IsRank, AreRanked, ranked_entry}
use Rattle.search_queue.proofs.Heaps.{Adds-permutation, Contains-cases, Contains-first, Contains-rest, nothing}

not_gt_from_lt : (r : Ordering) → is_lt r ≡ true → is_gt r ≡ false
not_gt_from_lt Less h = refl
not_gt_from_lt Equal h = absurd (true≢false (sym h))
not_gt_from_lt Greater h = absurd (true≢false (sym h))

gt_from_less : (m n : ℕ) → n < m → is_gt (nat_cmp m n) ≡ true
gt_from_less m n h = grind (arith, nat_tests)

not_gt_from_le : (m n : ℕ) → m ≤ n → is_gt (nat_cmp m n) ≡ false
not_gt_from_le m n h = grind (arith, nat_tests)

-- what holds of each element that two things hold of
All-both : {X : Type 0} (P Q R : X → Type 0) → ((x : X) → P x → Q x → R x) → (xs : List X) → All P xs → All Q xs → All R xs
All-both P Q R both xs p q = All-weaker (Contains xs) R (λ x k. both x (All-contains P xs x p k) (All-contains Q xs x q k)) xs (All-contains_itself xs)

-- what is made of each element has what is made of one
Contains-mapped : {X Y : Type 0} (f : X → Y) (xs : List X) (x : X) → Contains xs x → Contains (map f xs) (f x)
Contains-mapped f [] x h = absurd (nothing x h)
Contains-mapped f (y ∷ ys) x h = elim (Contains-cases y x ys h) [
  | inl q ↦ subst (λ z. Contains (map f (y ∷ ys)) (f z)) (sym q) (Contains-first (f y) (map f ys))
  | inr k ↦ Contains-rest (f y) (f x) (map f ys) (Contains-mapped f ys x k)
]

-- the entry that is given up was there
given_among : {K : Type 0} (cmp : K → K → Ordering) (old new : List (K × ℕ)) (e : K × ℕ) → GivesLeast cmp old new e → Contains old e
given_among cmp old new e h = (Adds-permutation e new old (IsPermutation-sym old (e ∷ new) h.parts) e).1 (inl refl)

-- one more in one of two lists
module _ {E : Type 0} where
  pub Adds-left : (e : E) (xs new ys : List E) → IsPermutation (e ∷ xs) new → Adds (xs ++ ys) (new ++ ys) e
  Adds-left e xs new ys h = Adds-permutation e (xs ++ ys) (new ++ ys) (IsPermutation-append_left ys (e ∷ xs) new h)

  moved : (e : E) (xs ys new : List E) → IsPermutation (e ∷ ys) new → IsPermutation (e ∷ (xs ++ ys)) (xs ++ new)
  moved e xs ys new h = IsPermutation-trans (e ∷ (xs ++ ys)) (xs ++ e ∷ ys) (xs ++ new) (IsPermutation-sym (xs ++ e ∷ ys) (e ∷ (xs ++ ys)) (IsPermutation-middle xs e ys)) (IsPermutation-append_right xs (e ∷ ys) new h)

  pub Adds-right : (e : E) (xs ys new : List E) → IsPermutation (e ∷ ys) new → Adds (xs ++ ys) (xs ++ new) e
  Adds-right e xs ys new h = Adds-permutation e (xs ++ ys) (xs ++ new) (moved e xs ys new h)

module _ {C : Type 0} {ops : CostOps C} (laws : CostLaws ops) {ranked : C → Option ℕ} {unranked : ℕ → C} (ranks : AreRanks ops ranked unranked) where
  -- the rank of a cost is the rank of what it gives back
  pub IsRank-ranked : (a : C) (r : ℕ) → ranked a ≡ Some r → IsRank ranked unranked r
  IsRank-ranked a r h = subst (λ x. ranked x ≡ Some r) (sym (ranks.back a r h)) h

  pub AreRanked-pushed : (a : C) (r v : ℕ) (xs new : List (ℕ × ℕ)) → ranked a ≡ Some r → IsPermutation ((r, v) ∷ xs) new → AreRanked ranked unranked xs → AreRanked ranked unranked new
  AreRanked-pushed a r v xs new h p all =
      All-permutation (λ (e : ℕ × ℕ). IsRank ranked unranked e.0) ((r, v) ∷ xs) new p (All-cons (λ (e : ℕ × ℕ). IsRank ranked unranked e.0) (r, v) xs (IsRank-ranked a r h) all)

  pub AreRanked-popped : (e : ℕ × ℕ) (xs new : List (ℕ × ℕ)) → IsPermutation xs (e ∷ new) → AreRanked ranked unranked xs → AreRanked ranked unranked new
  AreRanked-popped e xs new p all =
      All-tail (λ (e : ℕ × ℕ). IsRank ranked unranked e.0) e new (All-permutation (λ (e : ℕ × ℕ). IsRank ranked unranked e.0) xs (e ∷ new) p all)

  -- whether or not there was memory for it
  pub AreRanked-tried : {T E : Type 0} (result : Result T E) (a : C) (r v : ℕ) (xs new : List (ℕ × ℕ)) → ranked a ≡ Some r → OnOk result (IsPermutation ((r, v) ∷ xs) new) → OnErr result (new ≡ xs) → AreRanked ranked unranked xs → AreRanked ranked unranked new
  AreRanked-tried (Ok x) a r v xs new h ok err all = AreRanked-pushed a r v xs new h ok all
  AreRanked-tried (Err x) a r v xs new h ok err all = subst (AreRanked ranked unranked) (sym err) all

  -- a cost that has a rank is queued by it
  pub Adds-ranked : (a : C) (r v : ℕ) (xs new : List (ℕ × ℕ)) (ys : List (C × ℕ)) → ranked a ≡ Some r → IsPermutation ((r, v) ∷ xs) new →
      Adds (map (ranked_entry unranked) xs ++ ys) (map (ranked_entry unranked) new ++ ys) (a, v)
  Adds-ranked a r v xs new ys h p =
      subst (λ (x : C). Adds (map (ranked_entry unranked) xs ++ ys) (map (ranked_entry unranked) new ++ ys) (x, v)) (ranks.back a r h)
      (Adds-left (unranked r, v) (map (ranked_entry unranked) xs) (map (ranked_entry unranked) new) ys (IsPermutation-map (ranked_entry unranked) ((r, v) ∷ xs) new p))

  -- of two ranks the one that isn't greater has the cost that is no dearer
  rank_le : (r s : ℕ) → IsRank ranked unranked r → IsRank ranked unranked s → is_lt (nat_cmp s r) ≡ false → NoDearer ops (unranked r) (unranked s)
  rank_le r s h k not = le_from_not_less laws (unranked s) (unranked r) (subst (λ (o : Ordering). is_lt o ≡ false) (sym (ranks.ordered (unranked s) (unranked r) s r k h)) not)

  ranks_up : (r : ℕ) (xs : List (ℕ × ℕ)) → IsRank ranked unranked r → AreRanked ranked unranked xs → NoneBelow nat_cmp r xs → All (λ (e : ℕ × ℕ). NoDearer ops (unranked r) (unranked e.0)) xs
  ranks_up r xs h all none =
      All-both (λ (e : ℕ × ℕ). IsRank ranked unranked e.0) (λ (e : ℕ × ℕ). is_lt (nat_cmp e.0 r) ≡ false) (λ (e : ℕ × ℕ). NoDearer ops (unranked r) (unranked e.0)) (λ e k not. rank_le r e.0 h k not) xs all none

  least_is_rank : (r : ℕ) (xs : List (ℕ × ℕ)) → AreRanked ranked unranked xs → IsLeastKey nat_cmp xs r → IsRank ranked unranked r
  least_is_rank r xs all h = All-contains (λ (e : ℕ × ℕ). IsRank ranked unranked e.0) xs (r, h.vertex) all h.among

  -- where the limit is no dearer than the least rank's cost, it is than each one's
  pub ranks_beyond : (limit : C) (r : ℕ) (xs : List (ℕ × ℕ)) → AreRanked ranked unranked xs → IsLeastKey nat_cmp xs r → NoDearer ops limit (unranked r) → All (λ (e : ℕ × ℕ). NoDearer ops limit (unranked e.0)) xs
  ranks_beyond limit r xs all h up =
      All-weaker (λ (e : ℕ × ℕ). NoDearer ops (unranked r) (unranked e.0)) (λ (e : ℕ × ℕ). NoDearer ops limit (unranked e.0)) (λ e k. le_trans laws limit (unranked r) (unranked e.0) up k) xs
      (ranks_up r xs (least_is_rank r xs all h) all h.least)

  -- two ranks tell which of their costs is no dearer
  pub rank_beyond : (limit : C) (last r : ℕ) → ranked limit ≡ Some last → IsRank ranked unranked r → last ≤ r → NoDearer ops limit (unranked r)
  rank_beyond limit last r h k le = subst (λ (o : Ordering). is_gt o ≡ false) (sym (ranks.ordered limit (unranked r) last r h k)) (not_gt_from_le last r le)

  -- or that the limit is dearer
  pub rank_below : (limit : C) (last r : ℕ) → ranked limit ≡ Some last → IsRank ranked unranked r → r < last → ¬ NoDearer ops limit (unranked r)
  rank_below limit last r h k lt up = true≢false (sym (gt_from_less last r lt) ∙ ap is_gt (sym (ranks.ordered limit (unranked r) last r h k)) ∙ up)

  -- where the limit is dearer than the least rank's cost, that rank's entry tells so
  pub ranks_cheaper : (limit : C) (r : ℕ) (xs : List (ℕ × ℕ)) → IsLeastKey nat_cmp xs r → ¬ NoDearer ops limit (unranked r) → HasCheaper ops (map (ranked_entry unranked) xs) limit
  ranks_cheaper limit r xs h not = (unranked r, h.vertex, Contains-mapped (ranked_entry unranked) xs (r, h.vertex) h.among, not)

  -- what one of the two has the queue has
  pub cheaper_left : (limit : C) (xs : List (ℕ × ℕ)) (ys : List (C × ℕ)) → HasCheaper ops (map (ranked_entry unranked) xs) limit → HasCheaper ops (map (ranked_entry unranked) xs ++ ys) limit
  cheaper_left limit xs ys h = (h.0, h.1, Contains-append_left (map (ranked_entry unranked) xs) ys (h.0, h.1) h.2, h.3)

  pub cheaper_right : (limit : C) (xs : List (ℕ × ℕ)) (ys : List (C × ℕ)) → HasCheaper ops ys limit → HasCheaper ops (map (ranked_entry unranked) xs ++ ys) limit
  cheaper_right limit xs ys h = (h.0, h.1, Contains-append_right (map (ranked_entry unranked) xs) ys (h.0, h.1) h.2, h.3)

  -- where nothing of both is dearer than the limit, nothing of the queue is
  pub both_beyond : (limit : C) (xs : List (ℕ × ℕ)) (ys : List (C × ℕ)) → All (λ (e : ℕ × ℕ). NoDearer ops limit (unranked e.0)) xs → All (λ (e : C × ℕ). NoDearer ops limit e.0) ys →
      (k : C) (v : ℕ) → Contains (map (ranked_entry unranked) xs ++ ys) (k, v) → NoDearer ops limit k
  both_beyond limit xs ys p q k v among =
      All-contains (λ (e : C × ℕ). NoDearer ops limit e.0) (map (ranked_entry unranked) xs ++ ys) (k, v)
      (All-append (λ (e : C × ℕ). NoDearer ops limit e.0) (map (ranked_entry unranked) xs) ys (All-map (λ (e : C × ℕ). NoDearer ops limit e.0) (ranked_entry unranked) xs p) q) among

  -- the least rank, where it comes before the other keys
  pub TakesLeast-rank : (e : ℕ × ℕ) (xs new : List (ℕ × ℕ)) (ys : List (C × ℕ)) → AreRanked ranked unranked xs → GivesLeast nat_cmp xs new e →
      ((r : ℕ) → IsRank ranked unranked r → NoneBelow nat_cmp r xs → All (λ (y : C × ℕ). NoDearer ops (unranked r) y.0) ys) →
      TakesLeast ops (map (ranked_entry unranked) xs ++ ys) (map (ranked_entry unranked) new ++ ys) (unranked e.0, e.1)
  TakesLeast-rank e xs new ys all h first =
      let p : IsPermutation (ranked_entry unranked e ∷ map (ranked_entry unranked) new) (map (ranked_entry unranked) xs) = IsPermutation-map (ranked_entry unranked) (e ∷ new) xs (IsPermutation-sym xs (e ∷ new) h.parts) in
      let is : IsRank ranked unranked e.0 = All-contains (λ (x : ℕ × ℕ). IsRank ranked unranked x.0) xs e all (given_among nat_cmp xs new e h) in
      record {
        taken = Adds-left (ranked_entry unranked e) (map (ranked_entry unranked) new) (map (ranked_entry unranked) xs) ys p;
        shorter = let n = length_permutation _ _ (IsPermutation-append_left ys (ranked_entry unranked e ∷ map (ranked_entry unranked) new) (map (ranked_entry unranked) xs) p) in omega (arith, n);
        least = λ z k. both_beyond (unranked e.0) xs ys (ranks_up e.0 xs is all h.least) (first e.0 is h.least) z.0 z.1 k;
      }

  module _ (cmp : C → C → Ordering) (same : ops.cmp ≡ cmp) where
    key_le : (a b : C) → is_lt (cmp b a) ≡ false → NoDearer ops a b
    key_le a b not = le_from_not_less laws b a (subst (λ (f : C → C → Ordering). is_lt (f b a) ≡ false) (sym same) not)

    key_below : (a b : C) → is_lt (cmp a b) ≡ true → NoDearer ops a b
    key_below a b lt = not_gt_from_lt (ops.cmp a b) (subst (λ (f : C → C → Ordering). is_lt (f a b) ≡ true) (sym same) lt)

    keys_up : (k : C) (ys : List (C × ℕ)) → NoneBelow cmp k ys → All (λ (e : C × ℕ). NoDearer ops k e.0) ys
    keys_up k ys none = All-weaker (λ (e : C × ℕ). is_lt (cmp e.0 k) ≡ false) (λ (e : C × ℕ). NoDearer ops k e.0) (λ e not. key_le k e.0 not) ys none

    -- where the least key isn't less than the limit, none is
    pub keys_beyond : (limit key : C) (ys : List (C × ℕ)) → IsLeastKey cmp ys key → is_lt (cmp key limit) ≡ false → All (λ (e : C × ℕ). NoDearer ops limit e.0) ys
    keys_beyond limit key ys h not =
        All-weaker (λ (e : C × ℕ). NoDearer ops key e.0) (λ (e : C × ℕ). NoDearer ops limit e.0) (λ e k. le_trans laws limit key e.0 (key_le limit key not) k) ys (keys_up key ys h.least)

    pub cost_beyond : (limit : C) (r : ℕ) → is_lt (cmp (unranked r) limit) ≡ false → NoDearer ops limit (unranked r)
    cost_beyond limit r not = key_le limit (unranked r) not

    -- where the least key isn't less than the least rank's cost, ranks come first
    pub rank_first : (rank : ℕ) (key : C) (xs : List (ℕ × ℕ)) (ys : List (C × ℕ)) → AreRanked ranked unranked xs → IsLeastKey nat_cmp xs rank → IsLeastKey cmp ys key → is_lt (cmp key (unranked rank)) ≡ false →
        (r : ℕ) → IsRank ranked unranked r → NoneBelow nat_cmp r xs → All (λ (e : C × ℕ). NoDearer ops (unranked r) e.0) ys
    rank_first rank key xs ys all h k not r is none =
        let first : NoDearer ops (unranked r) (unranked rank) = rank_le r rank is (least_is_rank rank xs all h) (All-contains (λ (e : ℕ × ℕ). is_lt (nat_cmp e.0 r) ≡ false) xs (rank, h.vertex) none h.among) in
        let up : NoDearer ops (unranked r) key = le_trans laws (unranked r) (unranked rank) key first (key_le (unranked rank) key not) in
        All-weaker (λ (e : C × ℕ). NoDearer ops key e.0) (λ (e : C × ℕ). NoDearer ops (unranked r) e.0) (λ e m. le_trans laws (unranked r) key e.0 up m) ys (keys_up key ys k.least)

    -- and where it is, keys do
    pub key_first : (rank : ℕ) (key : C) (xs : List (ℕ × ℕ)) (ys : List (C × ℕ)) → AreRanked ranked unranked xs → IsLeastKey nat_cmp xs rank → IsLeastKey cmp ys key → is_lt (cmp key (unranked rank)) ≡ true →
        (k : C) → NoneBelow cmp k ys → All (λ (e : ℕ × ℕ). NoDearer ops k (unranked e.0)) xs
    key_first rank key xs ys all h n lt k none =
        let first : NoDearer ops k key = key_le k key (All-contains (λ (e : C × ℕ). is_lt (cmp e.0 k) ≡ false) ys (key, n.vertex) none n.among) in
        ranks_beyond k rank xs all h (le_trans laws k key (unranked rank) first (key_below key (unranked rank) lt))

    -- the least key, where it comes before the ranks
    pub TakesLeast-key : (e : C × ℕ) (xs : List (ℕ × ℕ)) (ys new : List (C × ℕ)) → GivesLeast cmp ys new e →
        ((k : C) → NoneBelow cmp k ys → All (λ (x : ℕ × ℕ). NoDearer ops k (unranked x.0)) xs) →
        TakesLeast ops (map (ranked_entry unranked) xs ++ ys) (map (ranked_entry unranked) xs ++ new) e
    TakesLeast-key e xs ys new h first =
        let p : IsPermutation (e ∷ new) ys = IsPermutation-sym ys (e ∷ new) h.parts in
        record {
          taken = Adds-right e (map (ranked_entry unranked) xs) new ys p;
          shorter = let n = length_permutation _ _ (moved e (map (ranked_entry unranked) xs) new ys p) in omega (arith, n);
          least = λ z k. both_beyond e.0 xs ys (first e.0 h.least) (keys_up e.0 ys h.least) z.0 z.1 k;
        }
