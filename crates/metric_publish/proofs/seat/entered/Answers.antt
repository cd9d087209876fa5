use Rattle.metric_publish.proofs.Fronts.{prefix_trans, prefix_of_front}
use Rattle.metric_publish.proofs.ReadLaws.{given, enter_gives, enter_kin}
use Rattle.metric_publish.proofs.seat.entered.Goals as goal

pub returns-clause-gives : goal.returns-clause-gives
returns-clause-gives g c =
    let got = given _ _ _ _ _ (c.in-Some.front, c.in-Some.held) c.in-Some.is c.read-reader.ensures in
    let ahead = prefix_trans _ _ _ (prefix_of_front _ _ c.args.seat.sees) c.catch_up-reader.ensures.later in
    enter_gives _ _ _ _ _ _ _ ahead (c.catch_up-reader.ensures.caught c.if-not-is_ahead.false) c.catch_up-reader.ensures.reads got.0 got.1

pub returns-clause-kin : goal.returns-clause-kin
returns-clause-kin g c =
    let got = given _ _ _ _ _ (c.in-Some.front, c.in-Some.held) c.in-Some.is c.read-reader.ensures in
    let ahead = prefix_trans _ _ _ (prefix_of_front _ _ c.args.seat.sees) c.catch_up-reader.ensures.later in
    enter_kin g.V.Kindred.akin _ _ _ _ _ ahead got.0 got.1 c.check_law-2.ensures.kin
