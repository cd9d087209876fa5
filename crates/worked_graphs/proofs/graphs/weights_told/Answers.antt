use Rattle.worked_graphs.proofs.graphs.weights_told.Goals as goal

pub vertex_costs_told-requires : goal.vertex_costs_told-requires
vertex_costs_told-requires c = c.requires

pub arc_costs_told-requires : goal.arc_costs_told-requires
arc_costs_told-requires c = c.requires
