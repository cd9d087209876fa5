use Rattle.route_server.specs.ControlEnds.{control_ends_agree}
use Rattle.route_server.specs.QueryEnds.{query_ends_agree}
use Rattle.route_server.specs.RoadControls.{IsControlSaid}
use Rattle.route_server.specs.RoadLaws.{Says}
use Rattle.route_server.proofs.laws.inputs_tell_their_ends.Goals as goal

pub returns-clause-query : goal.returns-clause-query
returns-clause-query c = query_ends_agree Says Says

pub returns-clause-control : goal.returns-clause-control
returns-clause-control c = λ roads others. control_ends_agree (IsControlSaid roads) (IsControlSaid others)
