-- For the functions of this crate alone: a space whose vertices have other numbers.
use Rattle.std.specs.Prelude.{◌≡◌, ℕ, ◌↔◌, List, length, Some}
use Rattle.std.specs.List.{slice_get}
use Rattle.step_search.specs.Spaces.{Space, HasHop}
use Rattle.cell_customize.specs.Leaping.{ArcHop, RowHop}

-- Number a of the small space stands for the vertex at place a of `names`, no vertex has two numbers, paths may begin at
-- the same vertices, and the hops out of each vertex that has a number are those of the whole space, arcs and places of rows. So each vertex to
-- which a hop leads from one that has a number has one too.
pub record IsRenaming {C : Type 0} (whole small : Space C) (names : List ℕ) : Type 0 where
  pub size : small.vertices ≡ length names
  pub distinct : (a b v : ℕ) → slice_get names a ≡ Some v → slice_get names b ≡ Some v → a ≡ b
  pub may : (a v : ℕ) → slice_get names a ≡ Some v → small.May a ↔ whole.May v
  pub begins : (a : ℕ) → small.May a → (v : ℕ) × (slice_get names a ≡ Some v)
  pub leaves : (a b : ℕ) (s : C) → HasHop small a b s → (u : ℕ) × (slice_get names a ≡ Some u)
  pub arc_there : (a b u : ℕ) (s : C) → slice_get names a ≡ Some u → ArcHop small a b s → (v : ℕ) × (slice_get names b ≡ Some v) × ArcHop whole u v s
  pub arc_back : (a u v : ℕ) (s : C) → slice_get names a ≡ Some u → ArcHop whole u v s → (b : ℕ) × (slice_get names b ≡ Some v) × ArcHop small a b s
  pub row_there : (a b u : ℕ) (s : C) → slice_get names a ≡ Some u → RowHop small a b s → (v : ℕ) × (slice_get names b ≡ Some v) × RowHop whole u v s
  pub row_back : (a u v : ℕ) (s : C) → slice_get names a ≡ Some u → RowHop whole u v s → (b : ℕ) × (slice_get names b ≡ Some v) × RowHop small a b s
