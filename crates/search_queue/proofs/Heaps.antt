-- What std's heap says of a heap of keys or ranks, read as a list of them with their vertices.
use Rattle.std.proofs.Common.{◌≡◌, ℕ, ◌+◌, ◌-◌, ◌*◌, ◌<◌, ◌^◌, ◌⊎◌, inl, inr, false, List, [], ◌∷◌, length, refl, sym, ◌∙◌, ap, subst, arith}
use Rattle.std.specs.List.{Contains, slice_index_or}
use Rattle.std.specs.Prelude.{map}
use Rattle.std.specs.List.Sorted.{IsPermutation}
use Rattle.std.specs.BinaryHeap.{IsUpperBound, lt_by_cmp}
use Rattle.std.specs.Ordering.{is_lt, ordering_then, nat_cmp}
use Rattle.std.specs.declared.cmp.Ordering.{Ordering}
use Rattle.std.specs.declared.cmp.Ordering.TheVariants.{Less, Equal, Greater}
use Rattle.std.specs.declared.cmp.Reverse.{Reverse}
use Rattle.std.proofs.lemmas.Bool.Decides.{nat_tests}
use Rattle.std.proofs.lemmas.List.Elements.{Contains-append_left, Contains-append_right, Contains-append_cases, Contains-push, Contains-push_cases, All-contains, All-contains_itself, All-from_recursion, All-map, All-weaker}
use Rattle.std.proofs.lemmas.List.Sorted.{Contains-permutation, IsPermutation-map, IsPermutation-sym}
use Rattle.search_queue.specs.Queued.{Adds, NoneBelow, IsLeastKey, GivesLeast, entry_cmp, entry_of}
use Rattle.search_queue.specs.Ranked.{AreNear, ranked_cmp, ranked_of}
use Rattle.search_queue.specs.declared.rank_heap.Ranked.{Ranked}

pub nothing : {E : Type 0} (x : E) → Contains [] x → ⊥
nothing x (k, lt, is) = omega arith

-- what a permutation of e and the rest has
module _ {E : Type 0} where
  pub Contains-first : (e : E) (xs : List E) → Contains (e ∷ xs) e
  Contains-first e xs = Contains-append_left (e ∷ []) xs e (Contains-push [] e)

  pub Contains-rest : (e x : E) (xs : List E) → Contains xs x → Contains (e ∷ xs) x
  Contains-rest e x xs h = Contains-append_right (e ∷ []) xs x h

  pub Contains-cases : (e x : E) (xs : List E) → Contains (e ∷ xs) x → (x ≡ e) ⊎ Contains xs x
  Contains-cases e x xs h =
      elim (Contains-append_cases (e ∷ []) xs x h) [
        | inl k ↦ elim (Contains-push_cases [] e x k) [ inl n ↦ absurd (nothing x n) | inr q ↦ inl (sym q) ]
        | inr k ↦ inr k
      ]

  -- a list and the longer of which it is a part
  pub Adds-permutation : (e : E) (old new : List E) → IsPermutation (e ∷ old) new → Adds old new e
  Adds-permutation e old new h x = (
    λ k. Contains-cases e x old (Contains-permutation new (e ∷ old) x (IsPermutation-sym (e ∷ old) new h) k),
    λ k. Contains-permutation (e ∷ old) new x h (elim k [ inl q ↦ subst (Contains (e ∷ old)) (sym q) (Contains-first e old) | inr q ↦ Contains-rest e x old q ]),
  )

-- what holds of each entry
module _ {E : Type 0} (P : E → Type 0) where
  -- holds still with one more of which it holds
  pub each-pushed : (e : E) (old new : List E) → IsPermutation (e ∷ old) new → P e → ((x : E) → Contains old x → P x) → (x : E) → Contains new x → P x
  each-pushed e old new h here all x k = elim ((Adds-permutation e old new h x).0 k) [
    | inl q ↦ subst P (sym q) here
    | inr rest ↦ all x rest
  ]

  -- and holds of an entry that is taken, and of those that are left
  pub each-popped : (e : E) (old new : List E) → IsPermutation old (e ∷ new) → ((x : E) → Contains old x → P x) → P e × ((x : E) → Contains new x → P x)
  each-popped e old new h all =
      let adds = Adds-permutation e new old (IsPermutation-sym old (e ∷ new) h) in
      (all e ((adds e).1 (inl refl)), λ x k. all x ((adds x).1 (inr k)))

-- a heap of entries in some order, each read as a key and a vertex
module _ {E K : Type 0} (order : E → E → Ordering) (cmp : K → K → Ordering) (read : E → K × ℕ) where
  -- no entry has a lesser key than x where none is greater in that order
  AreKeysOf : E → List E → Type 0
  AreKeysOf x items = (y : E) → Contains items y → lt_by_cmp order x y ≡ false → is_lt (cmp (read y).0 (read x).0) ≡ false

  none_below : (x : E) (items : List E) → AreKeysOf x items → IsUpperBound order x items → NoneBelow cmp (read x).0 (map read items)
  unfolding AreKeysOf
  none_below x items keys u =
      let all = All-from_recursion (λ (y : E). lt_by_cmp order x y ≡ false) items u in
      All-map (λ (y : K × ℕ). is_lt (cmp y.0 (read x).0) ≡ false) read items
      (All-weaker (Contains items) (λ (y : E). is_lt (cmp (read y).0 (read x).0) ≡ false)
      (λ y k. keys y k (All-contains (λ (y : E). lt_by_cmp order x y ≡ false) items y all k)) items (All-contains_itself items))

  top_key : (x : E) (items : List E) → 0 < length items → x ≡ slice_index_or items 0 x → AreKeysOf x items → IsUpperBound order x items → IsLeastKey cmp (map read items) (read x).0
  top_key x [] some is keys u = absurd (omega (arith, some))
  top_key x (y ∷ items) some is keys u = record {
    vertex = (read x).1;
    among = subst (λ (z : E). Contains (map read (z ∷ items)) (read x)) is (Contains-first (read x) (map read items));
    least = none_below x (y ∷ items) keys u;
  }

  popped_key : (x : E) (old new : List E) → IsPermutation old (x ∷ new) → AreKeysOf x old → IsUpperBound order x old → GivesLeast cmp (map read old) (map read new) (read x)
  popped_key x old new p keys u = record {
    parts = IsPermutation-map read old (x ∷ new) p;
    least = none_below x old keys u;
  }

not_lt_first : (r s : Ordering) → is_lt (ordering_then r s) ≡ false → is_lt r ≡ false
not_lt_first Less s h = h
not_lt_first Equal s h = refl
not_lt_first Greater s h = refl

module _ {K : Type 0} (cmp : K → K → Ordering) where
  keys_of : (x : Reverse K × ℕ) (items : List (Reverse K × ℕ)) → AreKeysOf (entry_cmp cmp) cmp entry_of x items
  unfolding AreKeysOf
  keys_of x items y k h = not_lt_first (cmp y.0.0 x.0.0) (nat_cmp x.1 y.1) h

  -- the heap has the least key at its top
  pub IsLeastKey-top : (x : Reverse K × ℕ) (items : List (Reverse K × ℕ)) → 0 < length items → x ≡ slice_index_or items 0 x → IsUpperBound (entry_cmp cmp) x items → IsLeastKey cmp (map entry_of items) x.0.0
  IsLeastKey-top x items some is u = top_key (entry_cmp cmp) cmp entry_of x items some is (keys_of x items) u

  -- what a pop of the heap takes
  pub GivesLeast-popped : (x : Reverse K × ℕ) (old new : List (Reverse K × ℕ)) → IsPermutation old (x ∷ new) → IsUpperBound (entry_cmp cmp) x old → GivesLeast cmp (map entry_of old) (map entry_of new) (entry_of x)
  GivesLeast-popped x old new p u = popped_key (entry_cmp cmp) cmp entry_of x old new p (keys_of x old) u

-- of two numbers the one that isn't greater has the rank that isn't
rank_first : (r s l m : ℕ) → m < 2 ^ 32 → is_lt (nat_cmp (s * 18446744073709551616 + m) (r * 18446744073709551616 + l)) ≡ false → is_lt (nat_cmp s r) ≡ false
rank_first r s l m near h = grind (arith, nat_tests)

ranks_of : (x : Reverse Ranked) (items : List (Reverse Ranked)) → AreNear items → AreKeysOf ranked_cmp nat_cmp ranked_of x items
unfolding AreKeysOf
ranks_of x items near y k h = rank_first x.0.rank y.0.rank x.0.from_last y.0.from_last (near y k) h

-- the heap has the least rank at its top
pub IsLeastKey-rank : (x : Reverse Ranked) (items : List (Reverse Ranked)) → 0 < length items → x ≡ slice_index_or items 0 x → AreNear items → IsUpperBound ranked_cmp x items → IsLeastKey nat_cmp (map ranked_of items) x.0.rank
IsLeastKey-rank x items some is near u = top_key ranked_cmp nat_cmp ranked_of x items some is (ranks_of x items near) u

-- what a pop of the heap takes
pub GivesLeast-rank : (x : Reverse Ranked) (old new : List (Reverse Ranked)) → IsPermutation old (x ∷ new) → AreNear old → IsUpperBound ranked_cmp x old → GivesLeast nat_cmp (map ranked_of old) (map ranked_of new) (ranked_of x)
GivesLeast-rank x old new p near u = popped_key ranked_cmp nat_cmp ranked_of x old new p (ranks_of x old near) u

-- what a push adds
pub pushed_rank : (r v : ℕ) (x : Reverse Ranked) (old new : List (Reverse Ranked)) → v < 2 ^ 32 → x.0 ≡ record { rank = r; from_last = 4294967295 - v } → IsPermutation (x ∷ old) new → IsPermutation ((r, v) ∷ map ranked_of old) (map ranked_of new)
pushed_rank r v x old new short is p =
    let back : 4294967295 - (4294967295 - v) ≡ v = omega (arith, short) in
    let read : ranked_of x ≡ (r, v) = ap (λ (e : Ranked). (e.rank, 4294967295 - e.from_last)) is ∙ ap (λ u. (r, u)) back in
    subst (λ (e : ℕ × ℕ). IsPermutation (e ∷ map ranked_of old) (map ranked_of new)) read (IsPermutation-map ranked_of (x ∷ old) new p)

pub near_pushed : (r v : ℕ) (e : Ranked) → e ≡ record { rank = r; from_last = 4294967295 - v } → e.from_last < 2 ^ 32
near_pushed r v e is = let same : e.from_last ≡ 4294967295 - v = ap (λ (x : Ranked). x.from_last) is in omega (arith, same)
