-- At each level the cell of the vertex holds the target, or it is the part.
use Rattle.std.proofs.Common.{◌≤◌, sym, ◌∙◌, ap, arith}
use Rattle.cell_frame.specs.declared.cells.Cell.{Cell}
use Rattle.column_search.proofs.Levels.{apart_down, apart_here}
use Rattle.column_search.proofs.toward.TowardParts.level.Goals as goal

pub returns-then-cell : goal.returns-then-cell
returns-then-cell c =
    let p = c.args.frame.now.cells in
    let m = c.loop-level.level in
    let some : 1 ≤ m = omega (arith, c.loop-level-test.true) in
    sym (c.loop-level.invariant.same ∙ apart_here p c.args.self.now.target c.args.v m some (λ e. c.if-cell.true (ap (λ (k : Cell). k.number) c.cell.ensures.named ∙ e ∙ sym (ap (λ (k : Cell). k.number) c.cell-in-loop-level.ensures.named))))

pub loop-level-preserved : goal.loop-level-preserved
loop-level-preserved c =
    let p = c.args.frame.now.cells in
    let m = c.loop-level.level in
    let some : 1 ≤ m = omega (arith, c.loop-level-test.true) in
    record {
      low = omega (arith, c.loop-level.invariant.low);
      same = c.loop-level.invariant.same ∙ apart_down p c.args.self.now.target c.args.v m some (sym (ap (λ (k : Cell). k.number) c.cell.ensures.named) ∙ c.if-cell.false ∙ ap (λ (k : Cell). k.number) c.cell-in-loop-level.ensures.named);
    }
