use Rattle.via_paths.specs.WalkLaws.{stand_behind, ends_stand_behind}
use Rattle.via_paths.proofs.laws.walks_go_on_from_states.Goals as goal

pub returns-clause-walks : goal.returns-clause-walks
returns-clause-walks g c = λ n sequences copies turns w x long below are alike. stand_behind g.C.Cost.ops n sequences copies turns long below are w x alike

pub returns-clause-ends : goal.returns-clause-ends
returns-clause-ends g c = λ n sequences copies turns w x long below are alike. ends_stand_behind g.C.Cost.ops n sequences copies turns long below are w x alike
