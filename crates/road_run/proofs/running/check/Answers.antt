-- How counting over what was read ends is how the run ends.
use Rattle.std.proofs.Common.{ℕ, List, subst}
use Rattle.road_run.specs.InnerEnds.{EndsCountOver}
use Rattle.road_run.proofs.EndLaws.{check_of_read}
use Rattle.road_run.proofs.running.check.Goals as goal

pub returns-in-Ok : goal.returns-in-Ok
returns-in-Ok g c = record {
  ends = λ input.
      check_of_read c.check_over.result (g.F.Files.view c.args.files.now) (g.F.Files.view c.read_both.new.files) input (g.O.Sink.view c.args.output.now) (g.O.Sink.view c.check_over.new.output) c.args.map.now c.args.settings.now c.in-Ok.map.items c.in-Ok.settings.items
      c.in-Ok.ensures.read
      (subst (λ (bytes : List ℕ). EndsCountOver c.check_over.result c.in-Ok.map.items bytes (g.O.Sink.view c.args.output.now) (g.O.Sink.view c.check_over.new.output)) c.as_slice.ensures.value c.check_over.ensures);
}
