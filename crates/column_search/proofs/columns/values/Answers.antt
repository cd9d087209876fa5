-- What is gone over backwards can be searched, and each turn values one entry more.
use Rattle.std.proofs.Common.{◌≡◌, ◌∷◌, [], length, length-append, ◌∙◌, arith}
use Rattle.cell_frame.specs.Borders.{Holds}
use Rattle.cell_frame.specs.Inside.{IsInsideValue}
use Rattle.column_search.proofs.Bounded.{IsSpace-back}
use Rattle.column_search.proofs.Counting.{AreTo-heads}
use Rattle.column_search.proofs.Inside.{AreStarts-back, one_is}
use Rattle.column_search.proofs.Turns.{one_more}
use Rattle.column_search.proofs.columns.values.Goals as goal

pub restart-requires-clause-space : goal.restart-requires-clause-space
restart-requires-clause-space g c =
    let o = c.args.backward.now.overlay.now in
    let s = c.args.backward.now.toward.now in
    let h = c.requires.ready in
    IsSpace-back g.met.C.Cost.laws o.frame.now o.weights.now o.cliques.now s.cell s.target h.toward o.heads.now (AreTo-heads o.frame.now.graph o.heads.now h.by_head)

pub restart-requires-clause-starts : goal.restart-requires-clause-starts
restart-requires-clause-starts g c =
    let o = c.args.backward.now.overlay.now in
    let s = c.args.backward.now.toward.now in
    AreStarts-back g.met.C.Cost.laws o.frame.now o.weights.now o.cliques.now s.cell s.target c.requires.ready.toward o.heads.now c.args.starts.now (c.requires.starts ∙ one_is s.target g.met.C.Cost.zero_is)

pub loop-entry-preserved : goal.loop-entry-preserved
loop-entry-preserved g c =
    let o = c.args.backward.now.overlay.now in
    let s = c.args.backward.now.toward.now in
    let before = c.loop-entry.invariant in
    let made = c.in_ok-value in
    let n : length c.loop-entry.column.items ≡ c.loop-entry.entry-index = before.count in
    record {
      under_way = made.ensures.under_way;
      count = rw c.in_ok-push.ensures.items (omega (arith, length-append c.loop-entry.column.items (made.field-0 ∷ []), n));
      each = rw c.in_ok-push.ensures.items (one_more (λ u x. IsInsideValue g.C.Cost.ops o.frame.now.graph o.weights.now (Holds o.frame.now.cells s.cell) u s.target x) c.entries-entries.result.now c.loop-entry.column.items c.loop-entry.entry-index made.field-0 n c.loop-entry-test.true made.ensures.value before.each);
    }
