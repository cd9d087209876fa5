-- The keys of items by their numbers, and what the calls do to them.
use Rattle.std.specs.Prelude.{◌≡◌, ℕ, ◌<◌, ◌≤◌, List, Some, set}
use Rattle.std.specs.List.{slice_get}

-- the number that stands for no key: no other is greater
abbrev pub no_key : ℕ
no_key = 18446744073709551615

-- no item has a key below k
abbrev pub NoneBelow : List ℕ → ℕ → Type 0
NoneBelow keys k = (v d : ℕ) → slice_get keys v ≡ Some d → k ≤ d

-- an item's key, which was greater, has become k
pub record Lowers (old new : List ℕ) (v k : ℕ) : Type 0 where
  pub before : ℕ
  pub was : slice_get old v ≡ Some before
  pub less : k < before
  pub now : new ≡ set old v k

-- the key of an item is taken, which was the least: e is the key and the item
pub record TakesLeast (old new : List ℕ) (e : ℕ × ℕ) : Type 0 where
  pub some : e.0 < no_key
  pub was : slice_get old e.1 ≡ Some e.0
  pub least : NoneBelow old e.0
  pub now : new ≡ set old e.1 no_key
