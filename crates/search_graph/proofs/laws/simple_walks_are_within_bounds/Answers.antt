use Rattle.search_graph.specs.UnitLaws.{simple-path-units, simple-walk-units}
use Rattle.search_graph.proofs.laws.simple_walks_are_within_bounds.Goals as goal

pub returns-clause-from_open : goal.returns-clause-from_open
returns-clause-from_open g c graph w u z x paid d vs small open_there unit walk apart = simple-path-units g.met.C.Cost.laws graph w small u z x paid d vs open_there unit walk apart

pub returns-clause-between : goal.returns-clause-between
returns-clause-between g c graph w starts t walk d small units unit between apart = simple-walk-units g.met.C.Cost.laws graph w small starts t units unit walk d between apart
