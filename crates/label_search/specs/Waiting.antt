-- For the functions of this crate alone: from where a search has still to go on, as a list of costs and vertices.
use Rattle.std.specs.Prelude.{◌≡◌, ◌≢◌, ℕ, suc, ◌<◌, ◌⊎◌, List, [], ◌∷◌, Option, Some, nat_lt, if◌then◌else◌}
use Rattle.std.specs.List.{Contains, slice_get}
use Rattle.search_graph.specs.Costs.{CostOps, NoDearer}
use Rattle.tournament_tree.specs.Keys.{no_key}

-- the costs of the vertices from v on that have a key, which is the rank of the cost
abbrev pub waiting : {C : Type 0} → (ℕ → C) → ℕ → List ℕ → List (C × ℕ)
waiting unranked v [] = []
waiting unranked v (k ∷ ks) = if nat_lt k no_key then (unranked k, v) ∷ waiting unranked (suc v) ks else waiting unranked (suc v) ks

-- each key is the rank of the cost that it gives back
abbrev pub AreRankKeys : {C : Type 0} → (C → Option ℕ) → (ℕ → C) → List ℕ → Type 0
AreRankKeys ranked unranked keys = (v k : ℕ) → slice_get keys v ≡ Some k → k < no_key → ranked (unranked k) ≡ Some k

-- e has come to the entries, and perhaps in the place of others of its vertex
pub record Waits {C : Type 0} (old new : List (C × ℕ)) (e : C × ℕ) : Type 0 where
  pub there : Contains new e
  pub stays : (x : C × ℕ) → x.1 ≢ e.1 → Contains old x → Contains new x

-- e is taken from the entries, of which no other costs less
pub record TakesCheapest {C : Type 0} (ops : CostOps C) (old new : List (C × ℕ)) (e : C × ℕ) : Type 0 where
  pub least : (x : C × ℕ) → Contains old x → NoDearer ops e.0 x.0
  pub leaves : (x : C × ℕ) → Contains old x → (x ≡ e) ⊎ Contains new x
  pub among : (x : C × ℕ) → Contains new x → Contains old x
