-- The roads are those of the network.
use Rattle.std.proofs.Common.{string_bytes, subst}
use Rattle.edge_graph.specs.NetworkView.{NetworkView}
use Rattle.town_drill.specs.Drill.{AreLines}
use Rattle.town_drill.proofs.drills.lines_on.Goals as goal

pub returns : goal.returns
returns g c =
    subst (λ (network : NetworkView). AreLines network c.args.n (string_bytes c.in_ok-text.text)) c.in_ok-roads.ensures.network c.in_ok-text.ensures
