use Rattle.std.proofs.Common.{◌≡◌, ◌<◌, ◌+◌, ℕ, List, [], ◌∷◌, ◌++◌, Vec, length, get_or, ap, sym, ◌∙◌, subst, arith}
use Rattle.std.specs.Global.{Global}
use Rattle.cell_partition.specs.Partition.{IsPartition, number_of}
use Rattle.cell_partition.specs.Levels.{cells_of, partition_of, AreAbove}
use Rattle.cell_partition.proofs.Nested.{level_placed, level_table, above_more}
use Rattle.cell_partition.proofs.tables.Tables.above.Goals as goal

pub numbers-requires-clause-parted : goal.numbers-requires-clause-parted
numbers-requires-clause-parted c =
    let upper = level_placed (length c.args.lowest.now) c.args.levels.now c.loop-level.level c.index-levels-level.result (omega arith) c.index-levels-level.is c.requires.levels c.requires.kept in
    subst (λ (n : ℕ). IsPartition n (cells_of c.index-levels-level.result)) (sym upper.size) upper.parted

pub table_of-requires-clause-inside : goal.table_of-requires-clause-inside
table_of-requires-clause-inside c =
    let lowest = c.args.lowest.now in
    let levels = c.args.levels.now in
    let k = c.loop-level.level in
    let within : k < length levels = omega arith in
    let first = level_placed (length lowest) levels 0 c.index-levels-0.result c.requires.some c.index-levels-0.is c.requires.levels c.requires.kept in
    let upper = level_placed (length lowest) levels k c.index-levels-level.result within c.index-levels-level.is c.requires.levels c.requires.kept in
    let made : (vertex : ℕ) → vertex < length c.index-levels-level.result.order.items → get_or c.deref.result.now vertex 0 ≡ number_of (cells_of c.index-levels-level.result) vertex =
    λ vertex h. ap (λ (xs : List ℕ). get_or xs vertex 0) c.deref.ensures.value ∙ c.in_ok-numbers.ensures.numbers vertex h in
    let ready = level_table lowest c.deref.result.now levels k c.count-count.result c.index-levels-0.result c.index-levels-level.result first upper c.requires.kept within c.count-count.ensures c.requires.lowest
    (ap length c.deref.ensures.value ∙ c.in_ok-numbers.ensures.size) made in
    ready.inside

pub table_of-requires-clause-same_size : goal.table_of-requires-clause-same_size
table_of-requires-clause-same_size c =
    let lowest = c.args.lowest.now in
    let levels = c.args.levels.now in
    let k = c.loop-level.level in
    let within : k < length levels = omega arith in
    let first = level_placed (length lowest) levels 0 c.index-levels-0.result c.requires.some c.index-levels-0.is c.requires.levels c.requires.kept in
    let upper = level_placed (length lowest) levels k c.index-levels-level.result within c.index-levels-level.is c.requires.levels c.requires.kept in
    let made : (vertex : ℕ) → vertex < length c.index-levels-level.result.order.items → get_or c.deref.result.now vertex 0 ≡ number_of (cells_of c.index-levels-level.result) vertex =
    λ vertex h. ap (λ (xs : List ℕ). get_or xs vertex 0) c.deref.ensures.value ∙ c.in_ok-numbers.ensures.numbers vertex h in
    let ready = level_table lowest c.deref.result.now levels k c.count-count.result c.index-levels-0.result c.index-levels-level.result first upper c.requires.kept within c.count-count.ensures c.requires.lowest
    (ap length c.deref.ensures.value ∙ c.in_ok-numbers.ensures.size) made in
    ready.same_size

pub table_of-requires-clause-nested : goal.table_of-requires-clause-nested
table_of-requires-clause-nested c =
    let lowest = c.args.lowest.now in
    let levels = c.args.levels.now in
    let k = c.loop-level.level in
    let within : k < length levels = omega arith in
    let first = level_placed (length lowest) levels 0 c.index-levels-0.result c.requires.some c.index-levels-0.is c.requires.levels c.requires.kept in
    let upper = level_placed (length lowest) levels k c.index-levels-level.result within c.index-levels-level.is c.requires.levels c.requires.kept in
    let made : (vertex : ℕ) → vertex < length c.index-levels-level.result.order.items → get_or c.deref.result.now vertex 0 ≡ number_of (cells_of c.index-levels-level.result) vertex =
    λ vertex h. ap (λ (xs : List ℕ). get_or xs vertex 0) c.deref.ensures.value ∙ c.in_ok-numbers.ensures.numbers vertex h in
    let ready = level_table lowest c.deref.result.now levels k c.count-count.result c.index-levels-0.result c.index-levels-level.result first upper c.requires.kept within c.count-count.ensures c.requires.lowest
    (ap length c.deref.ensures.value ∙ c.in_ok-numbers.ensures.size) made in
    ready.nested

pub loop-level-preserved : goal.loop-level-preserved
loop-level-preserved c =
    let lowest = c.args.lowest.now in
    let levels = c.args.levels.now in
    let k = c.loop-level.level in
    let within : k < length levels = omega arith in
    let first = level_placed (length lowest) levels 0 c.index-levels-0.result c.requires.some c.index-levels-0.is c.requires.levels c.requires.kept in
    let upper = level_placed (length lowest) levels k c.index-levels-level.result within c.index-levels-level.is c.requires.levels c.requires.kept in
    let made : (vertex : ℕ) → vertex < length c.index-levels-level.result.order.items → get_or c.deref.result.now vertex 0 ≡ number_of (cells_of c.index-levels-level.result) vertex =
    λ vertex h. ap (λ (xs : List ℕ). get_or xs vertex 0) c.deref.ensures.value ∙ c.in_ok-numbers.ensures.numbers vertex h in
    let ready = level_table lowest c.deref.result.now levels k c.count-count.result c.index-levels-0.result c.index-levels-level.result first upper c.requires.kept within c.count-count.ensures c.requires.lowest
    (ap length c.deref.ensures.value ∙ c.in_ok-numbers.ensures.size) made in
    let Above : List (Vec ℕ Global) → Type 0 = λ (above : List (Vec ℕ Global)). AreAbove (partition_of (length lowest) levels) above (k + 1) in
    let pushed : c.push.new.self.items ≡ c.loop-level.above.items ++ c.in_ok-table_of.field-0 ∷ [] = c.in_ok-push.ensures.items in record {
      tables = subst Above (sym pushed)
          (above_more (partition_of (length lowest) levels) c.loop-level.above.items c.in_ok-table_of.field-0 k c.loop-level.invariant.tables (ready.table c.in_ok-table_of.field-0.items c.in_ok-table_of.ensures.size c.in_ok-table_of.ensures.table));
    }
