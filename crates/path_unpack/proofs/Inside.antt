-- What a search inside a cell finds is a run for the cell's shortcut.
use Rattle.std.proofs.Common.{◌≡◌, ◌≢◌, ℕ, suc, ◌+◌, ◌*◌, ◌-◌, ◌<◌, ◌≤◌, inl, inr, Option, Some, None, List, [], ◌∷◌, ◌++◌, length, refl, sym, ◌∙◌, ap, subst, arith}
use Rattle.std.specs.Prelude.{IfSome, MatchOption}
use Rattle.std.specs.List.{Contains, slice_get, slice_range}
use Rattle.std.proofs.lemmas.Option.{same_Some, slice_get_within}
use Rattle.list_lemmas.proofs.Singles.{only_one}
use Rattle.search_graph.specs.Costs.{CostOps, CostLaws}
use Rattle.search_graph.specs.declared.ends.Start.{Start}
use Rattle.search_graph.specs.Digraph.{Weighting}
use Rattle.search_graph.specs.OrderLaws.{same_from_le}
use Rattle.search_graph.specs.ChainLaws.{Chain-push}
use Rattle.search_graph.specs.Weighted.{AreSmall}
use Rattle.step_search.specs.Spaces.{StepBy, Path}
use Rattle.step_search.specs.Paths.{IsPathTo, IsLeastPath, NoPathTo, IsBeyond}
use Rattle.cut_walks.specs.Cut.{MayEnd, AreAcross}
use Rattle.cut_walks.specs.Answering.{goes_from_path}
use Rattle.cell_partition.specs.Partition.{Partition}
use Rattle.cell_frame.specs.declared.cells.Cell.{Cell}
use Rattle.cell_frame.specs.Borders.{Framed, Holds, IsCell, at_cell}
use Rattle.cell_frame.specs.Cliqued.{AreExact, CliqueLists, HasCellRow, IsRow, Rows}
use Rattle.cell_frame.specs.Inside.{IsLeastInside}
use Rattle.cell_frame.specs.Parts.{ShareCell, whole_at, part_cut}
use Rattle.cell_customize.specs.Inner.{inner_space, IsInner}
use Rattle.cell_customize.specs.InnerLaws.{inside_least, inside_none, stays}
use Rattle.overlay_query.specs.declared.packed.Hop.{Hop}
use Rattle.overlay_query.specs.Packed.{IsBy, PackedChain, IsByPart, ArePacked}
use Rattle.overlay_query.specs.PackLaws.{packed_chain}
use Rattle.path_unpack.specs.Finer.{Opens, IsUpTo, AreUpTo}
use Rattle.path_unpack.proofs.Replacing.{by_valid}

module _ (p : Partition) (level : ℕ) where
  -- a hop by its part is by no cell above the parts' level
  is_low : (u v : ℕ) (o : Option Cell) → IsByPart p (λ v. level) u v o → IsUpTo level o
  is_low u v None h = λ c e. cc
  is_low u v (Some x) h = λ c e.
      let same : x ≡ c = cc in
      let at : x ≡ whole_at p (λ v. level) u = h.1 in
      let le : x.level ≤ level = subst (λ (y : Cell). y.level ≤ level) (sym at) (omega arith) in
      subst (λ (y : Cell). y.level ≤ level) same le

  -- and so is each hop of a packed list of vertices
  pub AreUpTo-packed : (vs : List ℕ) (u : ℕ) (hops : List Hop) → ArePacked p (λ v. level) (u ∷ vs) hops → AreUpTo level hops
  AreUpTo-packed vs u [] a = tt
  AreUpTo-packed [] u (h ∷ hs) a = let n : length (h ∷ hs) + 1 ≡ length (u ∷ []) = a.count in absurd (omega arith)
  AreUpTo-packed (v ∷ vs) u (h ∷ hs) a =
      let rest : ArePacked p (λ v. level) (v ∷ vs) hs = record {
        count = let n : length (h ∷ hs) + 1 ≡ length (u ∷ v ∷ vs) = a.count in omega arith;
        each = λ k n x y g e ex ey eg. a.each (suc k) (suc n) x y g (omega arith) ex ey eg;
      } in
      (is_low u v h.by (a.each 0 1 u v h (omega arith) refl refl refl).1, AreUpTo-packed vs v hs rest)

-- a value that is there is a least cost
if_some : {C : Type 0} (N : Type 0) (P : C → Type 0) (o : Option C) → MatchOption o N P → IfSome o P
if_some N P None h = tt
if_some N P (Some d) h = h

-- a clique has one row at a place
row_same : {C : Type 0} (f : Framed) (cliques : CliqueLists C) (k : Cell) (i : ℕ) (row other : List (Option C)) → HasCellRow f cliques k i row → HasCellRow f cliques k i other → row ≡ other
row_same {C} f cliques k i row other a b =
    let rows : a.rows ≡ b.rows = same_Some a.rows b.rows (sym a.level ∙ b.level) in
    let begins : slice_get b.rows.first k.number ≡ Some a.has.first = subst (λ (r : Rows C). slice_get r.first k.number ≡ Some a.has.first) rows a.has.begins in
    let first : a.has.first ≡ b.has.first = same_Some a.has.first b.has.first (sym begins ∙ b.has.begins) in
    let width : ℕ = length (at_cell f.exits k) in
    let here : row ≡ slice_range b.rows.values (a.has.first + i * width) (a.has.first + i * width + width) = subst (λ (r : Rows C). row ≡ slice_range r.values (a.has.first + i * width) (a.has.first + i * width + width)) rows a.has.row_is in
    here ∙ ap (λ (n : ℕ). slice_range b.rows.values (n + i * width) (n + i * width + width)) first ∙ sym b.has.row_is

module _ {C : Type 0} (ops : CostOps C) (f : Framed) (w : Weighting C) (cliques : CliqueLists C) (k : Cell) (is_cell : IsCell f.cells k) (exact : AreExact ops f w cliques k.level) (entry i : ℕ) (at : slice_get (at_cell f.entries k) i ≡ Some entry) where
  -- the clique of a cell has a row for each entry
  pub row_has : (row : List (Option C)) × HasCellRow f cliques k i row
  row_has = let r = exact.rows k i entry is_cell (omega arith) at in (r.0, r.1)

  module _ (row : List (Option C)) (has : HasCellRow f cliques k i row) where
    is_row : IsRow ops f w k entry row
    is_row = let r = exact.rows k i entry is_cell (omega arith) at in subst (IsRow ops f w k entry) (row_same f cliques k i r.0 row r.1 has) r.2

    module _ (j exit : ℕ) (leads : slice_get (at_cell f.exits k) j ≡ Some exit) where
      -- with a place for each exit
      pub row_within : j < length row
      row_within =
          let size : length row ≡ length (at_cell f.exits k) = is_row.size in
          let lt : j < length (at_cell f.exits k) = slice_get_within (at_cell f.exits k) j exit leads in
          omega (arith, size, lt)

      -- where the least cost inside the cell stands
      pub row_least : (o : Option C) → slice_get row j ≡ Some o → IfSome o (IsLeastInside ops f.graph w (Holds f.cells k) entry exit)
      row_least o e = if_some _ (IsLeastInside ops f.graph w (Holds f.cells k) entry exit) o (is_row.each j exit o leads e)

-- two least costs inside are one
least_same : {C : Type 0} {ops : CostOps C} (laws : CostLaws ops) (f : Framed) (w : Weighting C) (small : AreSmall ops f.graph w) (k : Cell) (u v : ℕ) (s r : C) →
    IsBy ops f w u v (Some k) s → IsLeastInside ops f.graph w (Holds f.cells k) u v r → r ≡ s
least_same laws f w small k u v s r by least =
    same_from_le laws r s (by_valid laws f w small u v (Some k) r (by.0, by.1, by.2, least)) (by_valid laws f w small u v (Some k) s by)
    (least.least by.3.walk s by.3.leads) (by.3.least least.walk r least.leads)

module _ {C : Type 0} {ops : CostOps C} (laws : CostLaws ops) (f : Framed) (w : Weighting C) (cliques : CliqueLists C) (k : Cell) (inner : IsInner ops f w cliques k) (entry exit : ℕ) (starts : List (Start C)) (one : starts ≡ record { vertex = entry; cost = ops.zero } ∷ []) (shortcut : (s : C) × IsBy ops f w entry exit (Some k) s) where
  pub among : Contains (at_cell f.entries k) entry
  among = (inner.framed.entries k entry inner.is_cell).1 shortcut.1.1

  leaves : Contains (at_cell f.exits k) exit
  leaves = (inner.framed.exits k exit inner.is_cell).1 shortcut.1.2

  -- from an entry to itself nothing is paid, by no hop
  pub opens_nothing : entry ≡ exit → Opens ops f w entry exit (Some k) []
  opens_nothing e s by =
      let at : IsBy ops f w entry entry (Some k) s = subst (λ (x : ℕ). IsBy ops f w entry x (Some k) s) (sym e) by in
      let nothing : IsLeastInside ops f.graph w (Holds f.cells k) entry entry ops.zero = stays laws f w cliques k inner entry among at.3.leads.opens.0 at.3.leads.opens.1 in
      (sym e, sym (least_same laws f w inner.small k entry entry s ops.zero at nothing))

  module _ (other : entry ≢ exit) where
    -- at the exit a path over the cells below may end
    may_end : MayEnd (part_cut ops f.graph f.cells w (Holds f.cells k) (λ v. k.level - 1)) exit
    may_end = elim (inner.borders.exits exit shortcut.1.2) [
      | inl alone ↦ inl (λ (j : ShareCell f.cells (λ v. k.level - 1) exit exit). let some : 1 ≤ k.level - 1 = j.0 in omega (arith, alone))
      | inr leaves ↦ inr leaves
    ]

    -- and costs what some walk inside the cell does, so no less than the least of these
    pub IsBeyond-inside : (known : C) → IsLeastInside ops f.graph w (Holds f.cells k) entry exit known → IsBeyond ops (inner_space ops f w k) starts exit known
    IsBeyond-inside known least walk d path =
        let p : IsPathTo ops (inner_space ops f w k) (record { vertex = entry; cost = ops.zero } ∷ []) exit walk d = subst (λ (s : List (Start C)). IsPathTo ops (inner_space ops f w k) s exit walk d) one path in
        let at : p.start ≡ record { vertex = entry; cost = ops.zero } = only_one (record { vertex = entry; cost = ops.zero }) p.start p.among in
        let m : (inner_space ops f w k).May entry = subst (λ (s : Start C). (inner_space ops f w k).May s.vertex) at p.may in
        let across : AreAcross ops (part_cut ops f.graph f.cells w (Holds f.cells k) (λ v. k.level - 1)) (inner_space ops f w k) (record { vertex = entry; cost = ops.zero }) exit = record { free = refl; begins = inner.lawful.begins entry m; may = m; ends = may_end; apart = other } in
        let g = goes_from_path laws (part_cut ops f.graph f.cells w (Holds f.cells k) (λ v. k.level - 1)) inner.lawful.cut (inner_space ops f w k) inner.lawful.over (record { vertex = entry; cost = ops.zero }) exit across walk d p in
        least.least g.0 d (record { begins = shortcut.1.1.0; opens = m.2; goes = g.1 })

    -- the search finds a walk, since the shortcut stands for one
    pub finds_one : NoPathTo ops (inner_space ops f w k) starts exit → ⊥
    finds_one none = inside_none laws f w cliques k inner entry among exit leaves other starts one none shortcut.1.3.walk shortcut.0 shortcut.1.3.leads

    module _ (walk : List ℕ) (r : C) (path : IsLeastPath ops (inner_space ops f w k) starts exit walk r) where
      abbrev the_start : Start C
      the_start = record { vertex = entry; cost = ops.zero }

      -- the path begins at the entry
      at_start : path.leads.start ≡ the_start
      at_start = only_one the_start path.leads.start (subst (λ (xs : List (Start C)). Contains xs path.leads.start) one path.leads.among)

      goes : Path ops (inner_space ops f w k) entry ops.zero (path.leads.middle ++ exit ∷ []) exit r
      goes =
          let p = path.leads in
          let q : Path ops (inner_space ops f w k) p.start.vertex p.start.cost (p.middle ++ exit ∷ []) exit r = Chain-push (StepBy ops (inner_space ops f w k)) p.start.vertex p.last exit p.start.cost p.paid r p.middle p.goes p.joins in
          subst (λ (s : Start C). Path ops (inner_space ops f w k) s.vertex s.cost (p.middle ++ exit ∷ []) exit r) at_start q

      walk_is : walk ≡ entry ∷ (path.leads.middle ++ exit ∷ [])
      walk_is = subst (λ (s : Start C). walk ≡ s.vertex ∷ (path.leads.middle ++ exit ∷ [])) at_start path.leads.is_walk

      of_path : (hops : List Hop) → ArePacked f.cells (λ v. k.level - 1) walk hops → ArePacked f.cells (λ v. k.level - 1) (entry ∷ (path.leads.middle ++ exit ∷ [])) hops
      of_path hops a = subst (λ (xs : List ℕ). ArePacked f.cells (λ v. k.level - 1) xs hops) walk_is a

      -- packed, it opens the shortcut
      pub opens_packed : (hops : List Hop) → ArePacked f.cells (λ v. k.level - 1) walk hops → Opens ops f w entry exit (Some k) hops
      opens_packed hops a s by =
          let high : k.level - 1 ≤ length f.cells.levels = let le : k.level ≤ length f.cells.levels = inner.is_cell.1 in omega arith in
          let chain : PackedChain ops f w entry ops.zero hops exit r = packed_chain ops f inner.framed w (Holds f.cells k) (λ v. k.level - 1) inner.lawful (λ v. high) (path.leads.middle ++ exit ∷ []) entry exit ops.zero r hops goes (of_path hops a) in
          let same : r ≡ s = least_same laws f w inner.small k entry exit s r by (inside_least laws f w cliques k inner entry among exit leaves other starts one walk r path) in
          subst (λ (x : C). PackedChain ops f w entry ops.zero hops exit x) same chain

      -- by cells below its own
      pub low_packed : (hops : List Hop) → ArePacked f.cells (λ v. k.level - 1) walk hops → AreUpTo (k.level - 1) hops
      low_packed hops a = AreUpTo-packed f.cells (k.level - 1) (path.leads.middle ++ exit ∷ []) entry hops (of_path hops a)
