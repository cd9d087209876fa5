use Rattle.cell_partition.proofs.numbering.numbers_of.Given as goal

-- the same cells
abbrev pub ghost-number_cells : goal.ghost-number_cells
ghost-number_cells g a = g.cells
