use Rattle.std.proofs.Common.{ℕ, subst, sym}
use Rattle.std.specs.Prelude.{Some}
use Rattle.geo_integer.specs.Position.{position_of}
use Rattle.snap_index.specs.Index.{IsLeastCosine}
use Rattle.snap_index.proofs.JudgeLemmas.{judged-enough}
use Rattle.snap_index.proofs.searching.look_within.Goals as goal

pub look-requires-clause-cosine : goal.look-requires-clause-cosine
look-requires-clause-cosine c = subst (λ (r : ℕ). IsLeastCosine (position_of c.args.query.now.from) c.least_cosine.result (Some r)) (sym c.reach_of-reach.ensures) c.least_cosine.ensures

pub returns-clause-judged : goal.returns-clause-judged
returns-clause-judged c = λ t.
    judged-enough c.args.query.now.lines.now c.args.query.now.base.now.weights c.args.query.now.heading (position_of c.args.query.now.from) c.reach_of-reach.result c.last_remoteness.result c.look.new.slots c.look.ensures.slots.order
    c.last_remoteness.ensures (c.is_enough.ensures t) c.look.ensures.judged
