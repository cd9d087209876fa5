-- `first` names the row in which the arcs of the vertex stand, in the list or, where that is left out, side by side.
use Rattle.std.proofs.Common.{rules, arith, ◌≡◌, ℕ, ◌+◌, ◌<◌, List, length, get_or, ap}
use Rattle.search_graph.specs.Digraph.{Digraph}
use Rattle.search_graph.specs.Indexed.{IsAdjacency, IsRow}
use Rattle.search_graph.proofs.IndexRows.{none_from_test, full_from_test, first_get, row_rises, row_within, listed_leaves, listed_ascends, range_leaves, range_ascends}
use Rattle.search_graph.proofs.adjacency.Graph.out.Goals as goal

-- the row, as it is read
row : (d e : Digraph) (first order : List ℕ) → d ≡ e → IsAdjacency d.vertices d.arcs first order → (v a b : ℕ) → v < e.vertices →
    a ≡ get_or first v a → b ≡ get_or first (v + 1) b → IsRow first v a b
row d e first order same x v a b lt ea eb =
    let n : d.vertices ≡ e.vertices = ap (λ (g : Digraph). g.vertices) same in
    (first_get _ _ _ _ x e.vertices v a n (omega arith) ea, first_get _ _ _ _ x e.vertices (v + 1) b n (omega arith) eb)

pub returns-then-is_empty-clause-leaves : goal.returns-then-is_empty-clause-leaves
returns-then-is_empty-clause-leaves c =
    let from = rw c.deref-lists.ensures at c.index-from.ensures in
    let to = rw c.deref-lists.ensures at c.index-to.ensures in
    let r = row _ _ _ _ c.self.view_is c.self.invariant c.args.v _ _ c.requires from to in
    let none = rw (c.as_slice-order.ensures.value, c.deref-lists.ensures) at (none_from_test c.as_slice-order.result.now _ c.if-is_empty.true c.is_empty.ensures) in
    rw (c.range.ensures, ← c.self.view_is) (range_leaves _ _ _ _ c.self.invariant c.args.v _ _ r none)

pub returns-then-is_empty-clause-ascending : goal.returns-then-is_empty-clause-ascending
returns-then-is_empty-clause-ascending c =
    let from = rw c.deref-lists.ensures at c.index-from.ensures in
    let to = rw c.deref-lists.ensures at c.index-to.ensures in
    let r = row _ _ _ _ c.self.view_is c.self.invariant c.args.v _ _ c.requires from to in
    let none = rw (c.as_slice-order.ensures.value, c.deref-lists.ensures) at (none_from_test c.as_slice-order.result.now _ c.if-is_empty.true c.is_empty.ensures) in
    rw c.range.ensures (range_ascends _ _ _ _ c.self.invariant c.args.v _ _ r none)

pub slice_bounds-listed-count : goal.slice_bounds-listed-count
slice_bounds-listed-count c =
    let from = rw c.deref-lists.ensures at c.index-from.ensures in
    let to = rw c.deref-lists.ensures at c.index-to.ensures in
    let r = row _ _ _ _ c.self.view_is c.self.invariant c.args.v _ _ c.requires from to in
    row_rises _ _ _ _ c.self.invariant c.args.v _ _ r

pub slice_bounds-listed-start : goal.slice_bounds-listed-start
slice_bounds-listed-start c = let up = slice_bounds-listed-count c in search rules

pub slice_bounds-listed-end : goal.slice_bounds-listed-end
slice_bounds-listed-end c =
    let from = rw c.deref-lists.ensures at c.index-from.ensures in
    let to = rw c.deref-lists.ensures at c.index-to.ensures in
    let r = row _ _ _ _ c.self.view_is c.self.invariant c.args.v _ _ c.requires from to in
    let up = slice_bounds-listed-count c in
    let full = rw (c.as_slice-order.ensures.value, c.deref-lists.ensures) at (full_from_test c.as_slice-order.result.now _ c.if-is_empty.false c.is_empty.ensures) in
    let within = rw (← c.deref-lists.ensures) at (row_within _ _ _ _ c.self.invariant c.args.v _ _ r full) in
    let same = ap length c.as_slice-order.ensures.value in
    search rules

pub returns-clause-leaves : goal.returns-clause-leaves
returns-clause-leaves c =
    let from = rw c.deref-lists.ensures at c.index-from.ensures in
    let to = rw c.deref-lists.ensures at c.index-to.ensures in
    let r = row _ _ _ _ c.self.view_is c.self.invariant c.args.v _ _ c.requires from to in
    let full = rw (c.as_slice-order.ensures.value, c.deref-lists.ensures) at (full_from_test c.as_slice-order.result.now _ c.if-is_empty.false c.is_empty.ensures) in
    rw (c.listed.ensures, c.as_slice-order.ensures.value, c.deref-lists.ensures, ← c.self.view_is) (listed_leaves _ _ _ _ c.self.invariant c.args.v _ _ r full)

pub returns-clause-ascending : goal.returns-clause-ascending
returns-clause-ascending c =
    let from = rw c.deref-lists.ensures at c.index-from.ensures in
    let to = rw c.deref-lists.ensures at c.index-to.ensures in
    let r = row _ _ _ _ c.self.view_is c.self.invariant c.args.v _ _ c.requires from to in
    let full = rw (c.as_slice-order.ensures.value, c.deref-lists.ensures) at (full_from_test c.as_slice-order.result.now _ c.if-is_empty.false c.is_empty.ensures) in
    rw (c.listed.ensures, c.as_slice-order.ensures.value, c.deref-lists.ensures) (listed_ascends _ _ _ _ c.self.invariant c.args.v _ _ r full)
