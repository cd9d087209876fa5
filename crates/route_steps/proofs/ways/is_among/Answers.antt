use Rattle.std.proofs.Common.{◌∙◌}
use Rattle.route_steps.proofs.WayLemmas.{sought}
use Rattle.route_steps.proofs.ways.is_among.Goals as goal

-- it is found where it is there
pub returns : goal.returns
returns c = c.is_ok.ensures.value ∙ sought c.args.ascending.now c.args.v c.binary_search.result c.requires c.binary_search.ensures.position
