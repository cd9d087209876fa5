-- A queue as the list of its entries, each a key and a vertex.
use Rattle.std.specs.Prelude.{◌≡◌, ℕ, ◌+◌, ◌<◌, ◌^◌, ◌⊎◌, ◌↔◌, false, Option, Some, List, ◌∷◌, length}
use Rattle.std.specs.List.{All, Contains}
use Rattle.std.specs.List.Sorted.{IsPermutation}
use Rattle.std.specs.Ordering.{is_lt, ordering_then, nat_cmp}
use Rattle.std.specs.declared.cmp.Ordering.{Ordering}
use Rattle.std.specs.declared.cmp.Reverse.{Reverse}
use Rattle.search_graph.specs.Costs.{CostOps, NoDearer}

-- new has what old has, and e
abbrev pub Adds : {E : Type 0} → List E → List E → E → Type 0
Adds {E} old new e = (x : E) → Contains new x ↔ ((x ≡ e) ⊎ Contains old x)

-- new is old without its entry e, whose key is the least
pub record TakesLeast {C : Type 0} (ops : CostOps C) (old new : List (C × ℕ)) (e : C × ℕ) : Type 0 where
  pub taken : Adds new old e
  pub shorter : length new + 1 ≡ length old
  pub least : (x : C × ℕ) → Contains old x → NoDearer ops e.0 x.0

-- an entry has a key that is less than k
abbrev pub HasCheaper : {C : Type 0} → CostOps C → List (C × ℕ) → C → Type 0
HasCheaper {C} ops entries k = (d : C) × (v : ℕ) × Contains entries (d, v) × ¬ NoDearer ops k d

-- The heaps of the queue. What follows serves the queue's own functions alone.

-- no key of the entries is less than k
abbrev pub NoneBelow : {K : Type 0} → (K → K → Ordering) → K → List (K × ℕ) → Type 0
NoneBelow {K} cmp k entries = All (λ (e : K × ℕ). is_lt (cmp e.0 k) ≡ false) entries

-- k is the least of the keys of the entries
pub record IsLeastKey {K : Type 0} (cmp : K → K → Ordering) (entries : List (K × ℕ)) (k : K) : Type 0 where
  pub vertex : ℕ
  pub among : Contains entries (k, vertex)
  pub least : NoneBelow cmp k entries

-- old is new and its entry e, in some order, and no key of old is less than that of e
pub record GivesLeast {K : Type 0} (cmp : K → K → Ordering) (old new : List (K × ℕ)) (e : K × ℕ) : Type 0 where
  pub parts : IsPermutation old (e ∷ new)
  pub least : NoneBelow cmp e.0 old

-- r is the rank of the cost that it gives back
abbrev pub IsRank : {C : Type 0} → (C → Option ℕ) → (ℕ → C) → ℕ → Type 0
IsRank ranked unranked r = (ranked (unranked r) ≡ Some r)

-- each key of the entries is a rank
abbrev pub AreRanked : {C : Type 0} → (C → Option ℕ) → (ℕ → C) → List (ℕ × ℕ) → Type 0
AreRanked ranked unranked entries = All (λ (e : ℕ × ℕ). IsRank ranked unranked e.0) entries

-- an entry by a rank, read as a key and a vertex
abbrev pub ranked_entry : {C : Type 0} → (ℕ → C) → ℕ × ℕ → C × ℕ
ranked_entry unranked e = (unranked e.0, e.1)

-- the order in which std's heap has the entries: the least key is the greatest
abbrev pub entry_cmp : {C : Type 0} → (C → C → Ordering) → Reverse C × ℕ → Reverse C × ℕ → Ordering
entry_cmp cmp x y = ordering_then (cmp y.0.0 x.0.0) (nat_cmp x.1 y.1)

-- an entry of the heap, read as a key and a vertex
abbrev pub entry_of : {C : Type 0} → Reverse C × ℕ → C × ℕ
entry_of e = (e.0.0, e.1)

-- the vertices of the heap's entries fit into four bytes
abbrev pub AreShort : {C : Type 0} → List (Reverse C × ℕ) → Type 0
AreShort entries = (e : _) → Contains entries e → e.1 < 2 ^ 32
