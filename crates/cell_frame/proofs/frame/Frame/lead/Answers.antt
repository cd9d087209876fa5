-- What is told beside an exit is so of it.
use Rattle.std.proofs.Common.{◌≡◌, ◌-◌, ℕ, Some, sym, ◌∙◌, subst, arith}
use Rattle.std.specs.List.{Contains, slice_get}
use Rattle.std.proofs.lemmas.Option.{slice_get_within}
use Rattle.list_lemmas.proofs.Gets.{get_is}
use Rattle.cell_frame.specs.Borders.{Framed, IsCell, at_cell, leaving_at}
use Rattle.cell_frame.proofs.Beside.{arcs_beside, few_beside, no_entry_beside}
use Rattle.cell_frame.proofs.frame.Frame.lead.Goals as goal

pub range-requires : goal.range-requires
range-requires c =
    let f = c.self.inside in
    let k = c.args.cell in
    let is_cell : IsCell f.cells k = subst (λ (x : Framed). IsCell x.cells k) (sym c.self.view_is) c.requires in
    let exits = c.self.invariant.0.has_exits k is_cell in
    let border : slice_get f.exits.items (k.level - 1) ≡ Some c.index-2.result.now = get_is f.exits.items (k.level - 1) c.index-2.result.now (slice_get_within f.exits.items (k.level - 1) exits.0 exits.1) (sym c.index-2.ensures) in
    let beside : slice_get f.leads.items (k.level - 1) ≡ Some c.index.result.now = get_is f.leads.items (k.level - 1) c.index.result.now (omega (arith, is_cell.0, is_cell.1, c.self.invariant.2.size)) (sym c.index.ensures) in
    few_beside _ c.self.invariant.0 f.spots f.leads.items c.self.invariant.2 k is_cell c.index-2.result.now c.index.result.now border beside _ c.in_ok-lead.lead c.in_ok-lead.ensures.there

pub returns : goal.returns
returns c =
    let f = c.self.inside in
    let k = c.args.cell in
    let is_cell : IsCell f.cells k = subst (λ (x : Framed). IsCell x.cells k) (sym c.self.view_is) c.requires in
    let exits = c.self.invariant.0.has_exits k is_cell in
    let border : slice_get f.exits.items (k.level - 1) ≡ Some c.index-2.result.now = get_is f.exits.items (k.level - 1) c.index-2.result.now (slice_get_within f.exits.items (k.level - 1) exits.0 exits.1) (sym c.index-2.ensures) in
    let beside : slice_get f.leads.items (k.level - 1) ≡ Some c.index.result.now = get_is f.leads.items (k.level - 1) c.index.result.now (omega (arith, is_cell.0, is_cell.1, c.self.invariant.2.size)) (sym c.index.ensures) in
    subst (λ (x : Framed). (v : ℕ) → slice_get (at_cell x.exits k) c.args.place ≡ Some v → (¬ Contains (at_cell x.entries k) v) × (c.range.result ≡ leaving_at x k.level v)) c.self.view_is (λ v exit. (
      no_entry_beside _ c.self.invariant.0 f.spots f.leads.items c.self.invariant.2 k is_cell c.index-2.result.now c.index.result.now border beside c.args.place v c.in_ok-lead.lead exit c.in_ok-lead.ensures.there c.in_ok-lead.ensures.some,
      c.range.ensures ∙ arcs_beside _ c.self.invariant.0 f.spots f.leads.items c.self.invariant.2 k is_cell c.index-2.result.now c.index.result.now border beside c.args.place v c.in_ok-lead.lead exit c.in_ok-lead.ensures.there c.in_ok-lead.ensures.some,
    ))
