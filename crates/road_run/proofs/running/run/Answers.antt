-- What a run comes to by its words.
use Rattle.std.proofs.Common.{inl, refl, subst, sym, Option}
use Rattle.command_words.specs.Commands.{Command}
use Rattle.road_io.specs.Outside.{outside}
use Rattle.road_base.specs.declared.program_status.Status.TheVariants as status
use Rattle.road_run.specs.Ending.{EndsOn}
use Rattle.road_run.proofs.EndLaws.{ask_outside, check_outside, drill_outside, town_outside}
use Rattle.road_run.proofs.running.run.Goals as goal

pub returns-in-Ok-Check-clause-outside : goal.returns-in-Ok-Check-clause-outside
returns-in-Ok-Check-clause-outside g c =
    check_outside c.check.result (g.F.Files.view c.args.files.now) (g.F.Files.view c.check.new.files) (g.I.Source.view c.args.input.now) (g.O.Sink.view c.args.output.now) (g.O.Sink.view c.check.new.output) c.in-Ok-Check.map.now c.in-Ok-Check.settings.now (g.N.Doors.view c.args.doors.now).faults (c.check.ensures.ends (g.I.Source.view c.args.input.now))

pub returns-in-Ok-Ask-clause-outside : goal.returns-in-Ok-Ask-clause-outside
returns-in-Ok-Ask-clause-outside g c =
    ask_outside c.ask.result (outside (g.F.Files.view c.args.files.now) (g.I.Source.view c.args.input.now) (g.O.Sink.view c.args.output.now)) (outside (g.F.Files.view c.ask.new.files) (g.I.Source.view c.ask.new.input) (g.O.Sink.view c.ask.new.output)) c.in-Ok-Ask.map.now c.in-Ok-Ask.settings.now (g.N.Doors.view c.args.doors.now).faults c.ask.ensures.ends

pub returns-in-Ok-Town-clause-outside : goal.returns-in-Ok-Town-clause-outside
returns-in-Ok-Town-clause-outside g c =
    town_outside c.town.result c.in-Ok-Town.n (g.F.Files.view c.args.files.now) (g.I.Source.view c.args.input.now) (g.O.Sink.view c.args.output.now) (g.O.Sink.view c.town.new.output) (g.N.Doors.view c.args.doors.now).faults c.town.ensures

pub returns-in-Ok-Drill-clause-outside : goal.returns-in-Ok-Drill-clause-outside
returns-in-Ok-Drill-clause-outside g c =
    drill_outside c.drill.result c.in-Ok-Drill.n (g.F.Files.view c.args.files.now) (g.I.Source.view c.args.input.now) (g.O.Sink.view c.args.output.now) (g.O.Sink.view c.drill.new.output) (g.N.Doors.view c.args.doors.now).faults c.drill.ensures

pub returns-in-Err-Unknown-clause-ends : goal.returns-in-Err-Unknown-clause-ends
returns-in-Err-Unknown-clause-ends g c =
    let before = outside (g.F.Files.view c.args.files.now) (g.I.Source.view c.args.input.now) (g.O.Sink.view c.args.output.now) in
    let after = outside (g.F.Files.view c.args.files.now) (g.I.Source.view c.args.input.now) (g.O.Sink.view c.close.new.output) in
    let none = (rw c.in-Err-Unknown.field-0-is at c.in-Err-Unknown.ensures.unknown).1 in
    inl (subst (λ (command : Option Command). EndsOn command status.Words before after (g.N.Doors.view c.args.doors.now) (g.N.Doors.view c.args.doors.now)) (sym none) (record { status = refl; files = refl; input = refl; put = c.close.ensures.put }, refl))
