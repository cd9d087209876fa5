use Rattle.left_right.specs.Sides.{view}
use Rattle.door_workers.proofs.Settlings.{has_read_all}
use Rattle.door_workers.proofs.settling.settle.Goals as goal

pub returns-in-Ok-clause-all : goal.returns-in-Ok-clause-all
returns-in-Ok-clause-all g c = λ yes.
    let before = c.learn.new.self in
    let after = c.enter.new.self in
    has_read_all before.seen.token.log before.learned.token.log after.seen.token.log c.args.desk.now.writer.desk.shown.value.front.token.log (view before.reader.place).reads (view after.reader.place).reads c.in-Ok._held c.in-Ok.ensures.gives (c.is_caught_up.ensures.0 yes)
