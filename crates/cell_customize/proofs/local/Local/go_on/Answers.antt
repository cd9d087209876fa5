-- Each turn takes one vertex more.
use Rattle.std.proofs.Common.{◌+◌, ◌≤◌, length, arith}
use Rattle.cell_customize.proofs.Numbered.{Keeps-trans, keeps_length}
use Rattle.cell_customize.proofs.local.Local.go_on.Goals as goal

pub loop-place-preserved : goal.loop-place-preserved
loop-place-preserved g c =
    let lt : c.loop-place.place + 1 ≤ length c.loop-place.self.numbers = omega (arith, c.if-place-len.false, c.len.ensures.count) in
    record {
      within = keeps_length c.loop-place.self.numbers c.take.new.self.numbers c.in_ok-take.ensures.keeps (c.loop-place.place + 1) lt;
      keeps = Keeps-trans c.args.self.now.numbers c.loop-place.self.numbers c.take.new.self.numbers c.loop-place.invariant.keeps c.in_ok-take.ensures.keeps;
      local = c.in_ok-take.ensures.local;
    }
