-- What is told of exits, one beside each.
use Rattle.std.proofs.Common.{◌≡◌, ◌≢◌, ℕ, ◌+◌, ◌-◌, ◌<◌, ◌≤◌, ◌^◌, inl, inr, List, [], ◌∷◌, ◌++◌, length, length-append, Option, Some, sym, ◌∙◌, ap, subst, arith}
use Rattle.std.specs.List.{Contains, range_with_len, slice_get}
use Rattle.std.specs.Prelude.{slice_index}
use Rattle.std.proofs.lemmas.Option.{same_Some, slice_get_within}
use Rattle.list_lemmas.proofs.Gets.{Contains_get, get_part, get_push, get_some}
use Rattle.search_graph.specs.Digraph.{Digraph}
use Rattle.cell_partition.specs.Partition.{Partition}
use Rattle.cell_frame.specs.Borders.{Framed, HasList, IsCell, IsExit, IsFramed, Listed, at_cell, list_at, list_of, names_by, none, tell_by}
use Rattle.cell_frame.specs.Leads.{AreLeads, AreLevels, IsLead, leaving_by}
use Rattle.cell_frame.specs.Spots.{IsSpot, TellsLevel}
use Rattle.cell_frame.specs.declared.cells.Cell.{Cell}
use Rattle.cell_frame.specs.declared.leads.Lead.{Lead}
use Rattle.cell_frame.specs.declared.leads.Leads.{Leads}
use Rattle.cell_frame.specs.declared.spots.Spot.{Spot}
use Rattle.cell_frame.specs.declared.spots.Spots.{Spots}
use Rattle.cell_frame.specs.declared.spots.Tell.{Tell}
use Rattle.cell_frame.proofs.Leaving.{told}

module _ (p : Partition) (entries : List Listed) (known : Spots) where
  -- the arcs that are known of a vertex that is no entry
  pub IsLead-known : (g : Digraph) (level v : ℕ) (spot : Spot) (tell : Tell) → IsSpot g p entries known.tells.items known.crossings.items v spot → slice_get known.spots.items v ≡ Some spot → 1 ≤ level → level ≤ length p.levels → Some tell ≡ tell_by known.tells.items level (Some spot) → tell.place ≡ none → IsLead p entries known level v (record { first = tell.first; count = tell.count })
  IsLead-known g level v spot tell is at low high tells out =
      let here : TellsLevel g p entries known.crossings.items v level tell = told g p entries known.tells.items known.crossings.items level v spot is low high (Some tell) tells in
      record {
        few = here.few;
        no_entry = λ some. here.entered.out out;
        arcs = λ some. ap names_by (tells ∙ ap (tell_by known.tells.items level) (sym at));
      }

  -- of one exit more
  pub AreLeads-push : (level : ℕ) (exits : List ℕ) (m v : ℕ) (lead : Lead) (leads : List Lead) → slice_get exits m ≡ Some v → IsLead p entries known level v lead → AreLeads p entries known level exits m leads → AreLeads p entries known level exits (m + 1) (leads ++ lead ∷ [])
  AreLeads-push level exits m v lead leads at is before = record {
    size = omega (arith, length-append leads (lead ∷ []), before.size);
    each = λ k u other there here. elim (get_push leads lead k other here) [
      | inl q ↦ before.each k u other there q
      | inr q ↦
          let last : k ≡ m = q.0 ∙ before.size in
          let same : u ≡ v = same_Some u v (sym there ∙ ap (slice_get exits) last ∙ at) in
          subst (λ (n : ℕ). IsLead p entries known level n other) (sym same) (subst (IsLead p entries known level v) (sym q.1) is)
    ];
  }

  -- of one level more
  pub AreLevels-push : (exits : List Listed) (m : ℕ) (b : Listed) (more : Leads) (leads : List Leads) → slice_get exits m ≡ Some b → AreLeads p entries known (m + 1) b.vertex (length b.vertex) more.list.items → AreLevels p entries known exits m leads → AreLevels p entries known exits (m + 1) (leads ++ more ∷ [])
  AreLevels-push exits m b more leads at are before = record {
    size = omega (arith, length-append leads (more ∷ []), before.size);
    each = λ below o other there here. elim (get_push leads more below other here) [
      | inl q ↦ before.each below o other there q
      | inr q ↦
          let last : below ≡ m = q.0 ∙ before.size in
          let same : o ≡ b = same_Some o b (sym there ∙ ap (slice_get exits) last ∙ at) in
          subst (λ (x : Listed). AreLeads p entries known (below + 1) x.vertex (length x.vertex) other.list.items) (sym same)
          (subst (λ (x : Leads). AreLeads p entries known (below + 1) b.vertex (length b.vertex) x.list.items) (sym q.1)
          (subst (λ (n : ℕ). AreLeads p entries known (n + 1) b.vertex (length b.vertex) more.list.items) (sym last) are))
    ];
  }

-- what is told beside an exit of a cell is so of it
module _ (f : Framed) (framed : IsFramed f) (known : Spots) (leads : List Leads) (are : AreLevels f.cells f.entries known f.exits (length f.cells.levels) leads)
    (k : Cell) (is_cell : IsCell f.cells k) (b : Listed) (here : Leads) (border : slice_get f.exits (k.level - 1) ≡ Some b) (beside : slice_get leads (k.level - 1) ≡ Some here) where
  pub told_beside : AreLeads f.cells f.entries known k.level b.vertex (length b.vertex) here.list.items
  told_beside =
      let low : 1 ≤ k.level = is_cell.0 in
      let up : k.level - 1 + 1 ≡ k.level = omega arith in
      subst (λ (level : ℕ). AreLeads f.cells f.entries known level b.vertex (length b.vertex) here.list.items) up (are.each (k.level - 1) b here border beside)

  pub has_beside : HasList b k.number
  has_beside = let x = framed.has_exits k is_cell in subst (λ (y : Listed). HasList y k.number) (same_Some x.0 b (sym x.1 ∙ border)) x.2

  pub few_beside : (n : ℕ) (lead : Lead) → slice_get here.list.items n ≡ Some lead → lead.first + lead.count ≤ 2 ^ 32
  few_beside n lead there =
      let within : n < length here.list.items = slice_get_within here.list.items n lead there in
      let v = get_some b.vertex n (omega (arith, within, told_beside.size)) in
      (told_beside.each n v.0 lead v.1 there).few

  module _ (place v : ℕ) (lead : Lead) (exit : slice_get (at_cell f.exits k) place ≡ Some v) (there : slice_get here.list.items (slice_index b.first k.number + place) ≡ Some lead) (some : lead.count ≢ 0) where
    is_lead : IsLead f.cells f.entries known k.level v lead
    is_lead =
        let inside : slice_get (list_at b k.number) place ≡ Some v = subst (λ (o : Option Listed). slice_get (list_of o k.number) place ≡ Some v) border exit in
        let at = get_part b.vertex (slice_index b.first k.number) (slice_index b.first (k.number + 1)) place v has_beside.within inside in
        told_beside.each (slice_index b.first k.number + place) v lead at.1 there

    is_exit : IsExit f.graph f.cells k v
    is_exit = (framed.exits k v is_cell).0 (Contains_get (at_cell f.exits k) place v exit)

    pub no_entry_beside : ¬ Contains (at_cell f.entries k) v
    no_entry_beside = subst (λ (m : ℕ). ¬ Contains (list_of (slice_get f.entries (k.level - 1)) m) v) is_exit.0.1 (is_lead.no_entry some)

    pub arcs_beside : range_with_len lead.first lead.count ≡ leaving_by known k.level v
    arcs_beside = is_lead.arcs some
