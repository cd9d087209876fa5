-- For the functions of this crate alone: how the lists of the cells of a level are made from vertices, by an index of their
-- cells.
use Rattle.std.specs.Prelude.{◌≡◌, ℕ, ◌<◌, ◌↔◌, List, length, Some}
use Rattle.std.specs.List.{slice_get, Contains}
use Rattle.cell_partition.specs.Partition.{Partition, level_at, number_of}
use Rattle.cell_frame.specs.Borders.{Listed, list_at, HasList}

-- n elements, each of which stands so to the one at its place in the first list
pub record AreEach {A B : Type 0} (P : A → B → Type 0) (xs : List A) (ys : List B) (n : ℕ) : Type 0 where
  pub size : length ys ≡ n
  pub each : (k : ℕ) (x : A) (y : B) → slice_get xs k ≡ Some x → slice_get ys k ≡ Some y → P x y

-- a vertex's cell
abbrev pub IsCellOf : Partition → ℕ → ℕ → ℕ → Type 0
IsCellOf p level v number = (number ≡ number_of (level_at p level) v) × (number < length (level_at p level))

-- the element at a place
abbrev pub IsAt : List ℕ → ℕ → ℕ → Type 0
IsAt xs place x = slice_get xs place ≡ Some x

-- each list has those of the vertices that its cell holds, in their order
pub record AreListed (p : Partition) (level : ℕ) (vertices : List ℕ) (b : Listed) : Type 0 where
  pub has : (n : ℕ) → n < length (level_at p level) → HasList b n
  pub holds : (n v : ℕ) → n < length (level_at p level) → Contains (list_at b n) v ↔ (Contains vertices v × (number_of (level_at p level) v ≡ n))
  pub order : (n k l v w : ℕ) → n < length (level_at p level) → k < l → slice_get (list_at b n) k ≡ Some v → slice_get (list_at b n) l ≡ Some w →
      (i : ℕ) × (j : ℕ) × (i < j) × (slice_get vertices i ≡ Some v) × (slice_get vertices j ≡ Some w)
