-- For the functions of this crate alone: the vertices that a search inside a cell comes to, under numbers of their own, with
-- their arcs and rows.
use Rattle.std.specs.Prelude.{◌≡◌, ℕ, ◌+◌, ◌<◌, ◌≤◌, List, [], length, Option, Some, None}
use Rattle.std.specs.List.{slice_get, slice_range}
use Rattle.search_graph.specs.Costs.{CostOps}
use Rattle.step_search.specs.Spaces.{Space, IsSpace}
use Rattle.step_search.specs.declared.hops.Hop.{Hop}
use Rattle.cell_customize.specs.declared.local.Span.{Span}
use Rattle.cell_customize.specs.Numbers.{AreBelow}

-- what is gone over under other numbers: it can be searched, and rows lead to vertices
pub record IsSearched {C : Type 0} (ops : CostOps C) (S : Space C) : Type 0 where
  pub space : IsSpace ops S
  pub heads : (u : ℕ) → u < S.vertices → AreBelow S.vertices (S.heads u)

-- From place `from` on stand hops that are arcs of u, among them each arc of u that is done.
pub record AreHops {C : Type 0} (S : Space C) (u : ℕ) (names : List ℕ) (hops : List (Hop C)) (from : ℕ) (Done : ℕ → Type 0) : Type 0 where
  pub there : (i b : ℕ) (s : C) → from ≤ i → slice_get hops i ≡ Some (record { head = b; cost = s }) → (v : ℕ) × (slice_get names b ≡ Some v) × (g : ℕ) × S.Arc u g v s
  pub back : (g v : ℕ) (s : C) → Done g → S.Arc u g v s → (i : ℕ) × (from ≤ i) × (b : ℕ) × (slice_get hops i ≡ Some (record { head = b; cost = s })) × (slice_get names b ≡ Some v)

-- at place `from` stand the numbers of the first n of these vertices
pub record AreHeads (names heads : List ℕ) (from : ℕ) (vertices : List ℕ) (n : ℕ) : Type 0 where
  pub within : from + n ≤ length heads
  pub each : (j v : ℕ) → j < n → slice_get vertices j ≡ Some v → (b : ℕ) × (slice_get heads (from + j) ≡ Some b) × (slice_get names b ≡ Some v)

-- from `row` up to `row_end` stand the numbers of the heads of u's row, as far as it has places that are open
pub record IsRowAt {C : Type 0} (S : Space C) (u : ℕ) (names heads : List ℕ) (row row_end : ℕ) : Type 0 where
  pub rises : row ≤ row_end
  pub within : row_end ≤ length heads
  pub there : (j b : ℕ) → row + j < row_end → slice_get heads (row + j) ≡ Some b → (v : ℕ) × (slice_get (S.heads u) j ≡ Some v) × (slice_get names b ≡ Some v)
  pub back : (j v : ℕ) (s : C) → slice_get (S.heads u) j ≡ Some v → S.Costs u j s → (row + j < row_end) × (b : ℕ) × (slice_get heads (row + j) ≡ Some b) × (slice_get names b ≡ Some v)

-- the hops and the row of u
pub record IsSpan {C : Type 0} (S : Space C) (u : ℕ) (names : List ℕ) (hops : List (Hop C)) (heads : List ℕ) (span : Span) : Type 0 where
  pub rises : span.arcs ≤ span.arcs_end
  pub within : span.arcs_end ≤ length hops
  pub there : (i b : ℕ) (s : C) → span.arcs ≤ i → i < span.arcs_end → slice_get hops i ≡ Some (record { head = b; cost = s }) → (v : ℕ) × (slice_get names b ≡ Some v) × (g : ℕ) × S.Arc u g v s
  pub back : (g v : ℕ) (s : C) → S.Arc u g v s → (i : ℕ) × (span.arcs ≤ i) × (i < span.arcs_end) × (b : ℕ) × (slice_get hops i ≡ Some (record { head = b; cost = s })) × (slice_get names b ≡ Some v)
  pub row : IsRowAt S u names heads span.row span.row_end

-- the vertices of the first numbers have their hops and rows
pub record IsLocal {C : Type 0} (S : Space C) (names : List ℕ) (spans : List Span) (hops : List (Hop C)) (heads : List ℕ) (done : ℕ) : Type 0 where
  pub size : length spans ≡ done
  pub below : AreBelow S.vertices names
  pub each : (a u : ℕ) (span : Span) → slice_get spans a ≡ Some span → slice_get names a ≡ Some u → IsSpan S u names hops heads span

-- hop i is one of number a
abbrev pub IsHopOf : List Span → ℕ → ℕ → Type 0
IsHopOf spans a i = (span : Span) × (slice_get spans a ≡ Some span) × (span.arcs ≤ i) × (i < span.arcs_end)

-- number a has a row
abbrev pub HasPlaces : List Span → ℕ → Type 0
HasPlaces spans a = (span : Span) × (slice_get spans a ≡ Some span) × (span.row < span.row_end)

abbrev pub row_in : List ℕ → Option Span → List ℕ
row_in heads None = []
row_in heads (Some span) = slice_range heads span.row span.row_end

-- the space of these hops and rows; a row costs what that of its vertex does
abbrev pub local_space : {C : Type 0} → Space C → List ℕ → List Span → List (Hop C) → List ℕ → Space C
local_space {C} S names spans hops heads = record {
  vertices = length names;
  May = λ a. (u : ℕ) × (slice_get names a ≡ Some u) × S.May u;
  Name = λ a i. IsHopOf spans a i;
  Arc = λ a i b s. IsHopOf spans a i × (slice_get hops i ≡ Some (record { head = b; cost = s }));
  heads = λ a. row_in heads (slice_get spans a);
  Costs = λ a j s. (u : ℕ) × (slice_get names a ≡ Some u) × HasPlaces spans a × S.Costs u j s;
  row = λ a. (0, a);
}
