use Rattle.route_server.specs.ControlRule.{ControlRule}
use Rattle.route_server.specs.CutLaws.{cuts_agree}
use Rattle.route_server.specs.HeadRules.{control_goes, control_heads, query_goes, query_heads}
use Rattle.route_server.specs.QueryRule.{QueryRule}
use Rattle.route_server.specs.RoadControls.{IsControlSaid}
use Rattle.route_server.specs.RoadLaws.{Says}
use Rattle.route_server.proofs.laws.inputs_have_one_cut.Goals as goal

pub returns-clause-query : goal.returns-clause-query
returns-clause-query c = cuts_agree query_heads (QueryRule Says) (QueryRule Says) (query_goes Says) (query_goes Says)

pub returns-clause-control : goal.returns-clause-control
returns-clause-control c = λ roads others.
    cuts_agree control_heads (ControlRule (IsControlSaid roads)) (ControlRule (IsControlSaid others)) (control_goes (IsControlSaid roads)) (control_goes (IsControlSaid others))
