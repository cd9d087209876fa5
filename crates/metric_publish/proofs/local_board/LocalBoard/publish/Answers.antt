use Rattle.std.proofs.Common.{◌≡◌, ap, ◌∙◌, arith}
use Rattle.std.proofs.lemmas.Bool.Decides.{nat_tests}
use Rattle.metric_publish.specs.History.{last_of}
use Rattle.metric_publish.proofs.ReadLaws.{exchanged}
use Rattle.metric_publish.proofs.Runs.{last_of-snoc}
use Rattle.metric_publish.proofs.local_board.LocalBoard.publish.Goals as goal

pub invariant_of-drop-clause-last : goal.invariant_of-drop-clause-last
invariant_of-drop-clause-last g c =
    let same : c.append.result ≡ c.args.self.now.page.len = grind (arith, nat_tests) in
    ap last_of (exchanged _ _ _ _ same c.append.ensures.adds) ∙ last_of-snoc _ _
