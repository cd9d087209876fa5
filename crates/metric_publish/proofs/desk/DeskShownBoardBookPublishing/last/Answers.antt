use Rattle.std.proofs.Common.{List, sym, ap, subst}
use Rattle.metric_publish.specs.declared.entry.Entry.{Entry}
use Rattle.metric_publish.specs.History.{IsKin}
use Rattle.metric_publish.proofs.Kin.{last_akin}
use Rattle.metric_publish.proofs.desk.DeskShownBoardBookPublishing.last.Goals as goal

pub returns-clause-kin : goal.returns-clause-kin
returns-clause-kin g c x is =
    let shown = c.published-shown.result.now in
    last_akin g.V.Kindred.akin g.V.Kindred.together _ _ shown.last c.check_law.ensures.kin x
    (subst (λ (l : List (Entry g.row.V.Denot)). IsKin g.V.Kindred.akin l x) (ap (λ s. s.front.token.log) (sym c.published-shown.ensures)) is)
