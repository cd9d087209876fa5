use Rattle.snap_index.proofs.searching.fill.Goals as goal

pub returns-then-look_within-clause-judged : goal.returns-then-look_within-clause-judged
returns-then-look_within-clause-judged c = c.look_within.ensures.judged c.if-look_within.true
