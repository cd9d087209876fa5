-- For the functions of this crate alone: what is told beside the exits of cells, by which a search over parts leads on.
use Rattle.std.specs.Prelude.{◌≡◌, ◌≢◌, ℕ, ◌+◌, ◌≤◌, ◌^◌, List, length, Some}
use Rattle.std.specs.List.{Contains, range_with_len, slice_get}
use Rattle.cell_partition.specs.Partition.{Partition}
use Rattle.cell_frame.specs.Borders.{Listed, at_cell, cell_of, names_by, tell_by}
use Rattle.cell_frame.specs.declared.leads.Lead.{Lead}
use Rattle.cell_frame.specs.declared.leads.Leads.{Leads}
use Rattle.cell_frame.specs.declared.spots.Spots.{Spots}

-- the places of the arcs from a vertex to other cells of a level, by what is known of it
abbrev pub leaving_by : Spots → ℕ → ℕ → List ℕ
leaving_by known level v = names_by (tell_by known.tells.items level (slice_get known.spots.items v))

-- what is told of v, an exit of a level: if it tells arcs, then v is no entry of its cell, and these are all that lead from v to
-- other cells of the level
pub record IsLead (p : Partition) (entries : List Listed) (known : Spots) (level v : ℕ) (lead : Lead) : Type 0 where
  pub few : lead.first + lead.count ≤ 2 ^ 32
  pub no_entry : lead.count ≢ 0 → ¬ Contains (at_cell entries (cell_of p level v)) v
  pub arcs : lead.count ≢ 0 → range_with_len lead.first lead.count ≡ leaving_by known level v

-- what is told of the first m exits of a level, one beside each
pub record AreLeads (p : Partition) (entries : List Listed) (known : Spots) (level : ℕ) (exits : List ℕ) (m : ℕ) (leads : List Lead) : Type 0 where
  pub size : length leads ≡ m
  pub each : (k v : ℕ) (lead : Lead) → slice_get exits k ≡ Some v → slice_get leads k ≡ Some lead → IsLead p entries known level v lead

-- what is told of all exits of the first m levels, from the lowest
pub record AreLevels (p : Partition) (entries : List Listed) (known : Spots) (exits : List Listed) (m : ℕ) (leads : List Leads) : Type 0 where
  pub size : length leads ≡ m
  pub each : (below : ℕ) (b : Listed) (told : Leads) → slice_get exits below ≡ Some b → slice_get leads below ≡ Some told → AreLeads p entries known (below + 1) b.vertex (length b.vertex) told.list.items
