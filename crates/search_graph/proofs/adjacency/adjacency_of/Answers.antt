-- The index of the tails where they don't ascend.
use Rattle.search_graph.proofs.IndexRows.{IsAdjacency-listed, tails_below}
use Rattle.search_graph.proofs.adjacency.adjacency_of.Goals as goal

pub index_by-requires-clause-in_range : goal.index_by-requires-clause-in_range
index_by-requires-clause-in_range c = rw (c.deref-3.ensures.value, c.in_ok-tails.ensures, c.deref-2.ensures.value) (tails_below _ _ c.requires.in_range)

pub returns-clause-indexed : goal.returns-clause-indexed
returns-clause-indexed c =
    let indexed = rw (c.deref-3.ensures.value, c.in_ok-tails.ensures, c.deref-2.ensures.value) at c.in_ok-first-2.ensures in
    IsAdjacency-listed _ _ _ _ c.requires.in_range (tails_below _ _ c.requires.in_range) indexed
