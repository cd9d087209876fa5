-- What the table of the lowest level tells is one of its cells.
use Rattle.std.proofs.Common.{◌≡◌, ◌<◌, ◌≤◌, length, arith, subst, ◌∙◌}
use Rattle.std.proofs.lemmas.List.{get_or_read}
use Rattle.cell_partition.specs.Levels.{AreTables}
use Rattle.cell_partition.specs.Partition.{IsKept, Partition, level_at, number_of}
use Rattle.cell_partition.proofs.partition.Cells.cell.Goals as goal

pub above-requires-clause-inside : goal.above-requires-clause-inside
above-requires-clause-inside c =
    let p = c.args.self.now in
    let kept : IsKept p = subst IsKept c.self.view_is c.self.invariant.partition in
    let tables : AreTables p c.self.inside.tables = subst (λ (q : Partition). AreTables q c.self.inside.tables) c.self.view_is c.self.invariant.numbers in
    let some : 1 ≤ length p.levels = omega (arith, c.requires.above, c.requires.below) in
    let placed : number_of (level_at p 1) c.args.vertex < length (level_at p 1) = (kept.level 1 (omega arith) some).placed c.args.vertex c.requires.inside in
    let within : c.args.vertex < length c.self.inside.tables.lowest.items = omega (arith, tables.size some, c.requires.inside) in
    let is : c.index.result.now ≡ number_of (level_at p 1) c.args.vertex = get_or_read c.self.inside.tables.lowest.items c.args.vertex _ within c.index.ensures 0 ∙ tables.lowest some c.args.vertex c.requires.inside in
    omega (arith, is, placed)
