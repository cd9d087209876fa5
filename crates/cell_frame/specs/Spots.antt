-- For the functions of this crate alone: what is known beforehand of each vertex, where a search over parts settles it.
use Rattle.std.specs.Prelude.{◌≡◌, ◌≢◌, ℕ, ◌+◌, ◌<◌, ◌≤◌, ◌^◌, List, length, Some}
use Rattle.std.specs.List.{Contains, slice_get}
use Rattle.search_graph.specs.Digraph.{Digraph, IsArc}
use Rattle.search_graph.specs.Faults.{AllInRange}
use Rattle.cell_partition.specs.Partition.{IsKept, Partition, level_at, number_of}
use Rattle.cell_frame.specs.Borders.{AreApart, Listed, at_cell, cell_of, none}
use Rattle.cell_frame.specs.Bordering.{AreBorders}
use Rattle.cell_frame.specs.declared.crossings.Crossing.{Crossing}
use Rattle.cell_frame.specs.declared.side.Side.TheVariants.{Entries}
use Rattle.cell_frame.specs.declared.spots.Spot.{Spot}
use Rattle.cell_frame.specs.declared.spots.Spots.{Spots}
use Rattle.cell_frame.specs.declared.spots.Tell.{Tell}

-- the cells are those of the graph's vertices, and have these entries
pub record IsCut (g : Digraph) (p : Partition) (entries : List Listed) : Type 0 where
  pub kept : IsKept p
  pub vertices : p.vertices ≡ g.vertices
  pub arcs : AllInRange g.vertices g.arcs
  pub borders : AreBorders g p Entries entries (length p.levels)

-- a word that is the place of v in a list, or tells that v isn't there
pub record TellsPlace (vs : List ℕ) (v word : ℕ) : Type 0 where
  pub out : word ≡ none → ¬ Contains vs v
  pub at : word ≢ none → slice_get vs word ≡ Some v

-- the word tells the place of v among the entries of its cell at a level
abbrev pub TellsEntry : Partition → List Listed → ℕ → ℕ → ℕ → Type 0
TellsEntry p entries v level word = TellsPlace (at_cell entries (cell_of p level v)) v word

-- an arc leads from v to another cell of the level
abbrev pub IsAcross : Digraph → Partition → ℕ → ℕ → Crossing → Type 0
IsAcross g p level v c = IsArc g c.arc v c.head × AreApart p level v c.head

-- arcs from v to other cells of the level, among them this one where it is one
pub record AreAcross (g : Digraph) (p : Partition) (level v arc : ℕ) (more : List Crossing) : Type 0 where
  pub out : (k : ℕ) (c : Crossing) → slice_get more k ≡ Some c → IsAcross g p level v c
  pub has : (w : ℕ) → IsArc g arc v w → AreApart p level v w → (k : ℕ) × (c : Crossing) × (slice_get more k ≡ Some c) × (c.arc ≡ arc)

-- the same of the first m of these arcs
pub record AreAcrossOf (g : Digraph) (p : Partition) (level v : ℕ) (arcs : List ℕ) (m : ℕ) (more : List Crossing) : Type 0 where
  pub out : (k : ℕ) (c : Crossing) → slice_get more k ≡ Some c → IsAcross g p level v c
  pub has : (n arc w : ℕ) → n < m → slice_get arcs n ≡ Some arc → IsArc g arc v w → AreApart p level v w → (k : ℕ) × (c : Crossing) × (slice_get more k ≡ Some c) × (c.arc ≡ arc)

-- all arcs from v to other cells of the level
pub record AreAllAcross (g : Digraph) (p : Partition) (level v : ℕ) (more : List Crossing) : Type 0 where
  pub out : (k : ℕ) (c : Crossing) → slice_get more k ≡ Some c → IsAcross g p level v c
  pub all : (arc w : ℕ) → IsArc g arc v w → AreApart p level v w → (k : ℕ) × (c : Crossing) × (slice_get more k ≡ Some c) × (c.arc ≡ arc)

-- what is told of v at a level: its place among the entries of its cell, and where all arcs from it to other cells stand
pub record TellsLevel (g : Digraph) (p : Partition) (entries : List Listed) (crossings : List Crossing) (v level : ℕ) (tell : Tell) : Type 0 where
  pub entered : TellsEntry p entries v level tell.place
  pub few : tell.first + tell.count ≤ 2 ^ 32
  pub out : (k : ℕ) → k < tell.count → (c : Crossing) × (slice_get crossings (tell.first + k) ≡ Some c) × IsAcross g p level v c
  pub all : (arc w : ℕ) → IsArc g arc v w → AreApart p level v w → (k : ℕ) × (c : Crossing) × (k < tell.count) × (slice_get crossings (tell.first + k) ≡ Some c) × (c.arc ≡ arc)

-- what is told of v at the first m levels, from the lowest
pub record AreTells (g : Digraph) (p : Partition) (entries : List Listed) (crossings : List Crossing) (v m : ℕ) (tells : List Tell) : Type 0 where
  pub size : length tells ≡ m
  pub each : (below : ℕ) (tell : Tell) → slice_get tells below ≡ Some tell → TellsLevel g p entries crossings v (below + 1) tell

-- what stands from place `border` on tells of v at each level
abbrev pub TellsBorder : Digraph → Partition → List Listed → List Tell → List Crossing → ℕ → ℕ → Type 0
TellsBorder g p entries tells crossings border v = (below : ℕ) → below < length p.levels → (tell : Tell) × (slice_get tells (border + below) ≡ Some tell) × TellsLevel g p entries crossings v (below + 1) tell

-- v is no entry at any level
abbrev pub IsNoEntry : Partition → List Listed → ℕ → Type 0
IsNoEntry p entries v = (level : ℕ) → 1 ≤ level → level ≤ length p.levels → ¬ Contains (at_cell entries (cell_of p level v)) v

-- v is left and entered at no level
pub record IsInner (g : Digraph) (p : Partition) (entries : List Listed) (v : ℕ) : Type 0 where
  pub left : (arc w level : ℕ) → IsArc g arc v w → 1 ≤ level → level ≤ length p.levels → ¬ AreApart p level v w
  pub entered : IsNoEntry p entries v

-- what is known of v
pub record IsSpot (g : Digraph) (p : Partition) (entries : List Listed) (tells : List Tell) (crossings : List Crossing) (v : ℕ) (spot : Spot) : Type 0 where
  pub lowest : 1 ≤ length p.levels → spot.lowest ≡ number_of (level_at p 1) v
  pub inner : spot.border ≡ none → IsInner g p entries v
  pub border : spot.border ≢ none → TellsBorder g p entries tells crossings spot.border v

-- each is an arc
abbrev pub AreArcs : Digraph → List Crossing → Type 0
AreArcs g crossings = (k : ℕ) (c : Crossing) → slice_get crossings k ≡ Some c → (u : ℕ) × IsArc g c.arc u c.head

-- what is known of each of the first n vertices
pub record AreSpots (g : Digraph) (p : Partition) (entries : List Listed) (known : Spots) (n : ℕ) : Type 0 where
  pub size : length known.spots.items ≡ n
  pub arcs : AreArcs g known.crossings.items
  pub each : (v : ℕ) (spot : Spot) → slice_get known.spots.items v ≡ Some spot → IsSpot g p entries known.tells.items known.crossings.items v spot
