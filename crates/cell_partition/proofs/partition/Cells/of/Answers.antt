use Rattle.std.proofs.Common.{◌≡◌, ℕ, length, sym, ◌∙◌, subst, arith}
use Rattle.cell_partition.specs.Partition.{IsPartition}
use Rattle.cell_partition.specs.Levels.{cells_of}
use Rattle.cell_partition.proofs.Nested.{level_placed}
use Rattle.cell_partition.proofs.partition.Cells.of.Goals as goal

pub numbers-requires-clause-parted : goal.numbers-requires-clause-parted
numbers-requires-clause-parted c =
    let first = level_placed c.args.vertices c.args.levels.items 0 c.index.result.now (search arith) c.index.ensures c.requires.levels c.requires.kept in
    subst (λ (n : ℕ). IsPartition n (cells_of c.index.result.now)) (sym first.size) first.parted

pub of-requires-clause-kept : goal.of-requires-clause-kept
of-requires-clause-kept c =
    let first = level_placed c.args.vertices c.args.levels.items 0 c.index.result.now (search arith) c.index.ensures c.requires.levels c.requires.kept in
    let size : length c.in_ok-numbers.field-0.items ≡ c.args.vertices = c.in_ok-numbers.ensures.size ∙ first.size in
    rw (size, c.deref.ensures.value) c.requires.kept

pub invariant_of-result-2 : goal.invariant_of-result-2
invariant_of-result-2 c =
    let first = level_placed c.args.vertices c.args.levels.items 0 c.index.result.now (search arith) c.index.ensures c.requires.levels c.requires.kept in
    let size : length c.in_ok-numbers.field-0.items ≡ c.args.vertices = c.in_ok-numbers.ensures.size ∙ first.size in record {
      levels = c.requires.levels;
      few = c.requires.few;
      partition = c.requires.kept;
      numbers = rw (← size, ← c.deref.ensures.value) c.in_ok-tables.ensures;
    }
