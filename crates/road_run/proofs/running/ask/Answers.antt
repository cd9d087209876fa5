-- How reading the files ends, or answering over what was read.
use Rattle.std.proofs.Common.{ℕ, List, subst}
use Rattle.map_loading.specs.Loading.{load_of}
use Rattle.program_ends.specs.Ends.{unbegun}
use Rattle.road_io.specs.Outside.{outside}
use Rattle.road_run.specs.InnerEnds.{EndsOver}
use Rattle.road_run.specs.MapReads.{both_names}
use Rattle.road_run.proofs.EndLaws.{ask_unbegun, ends_of_read}
use Rattle.road_run.proofs.running.ask.Goals as goal

pub returns-in-Ok : goal.returns-in-Ok
returns-in-Ok g c =
    let middle = outside (g.F.Files.view c.read_both.new.files) (g.I.Source.view c.args.input.now) (g.O.Sink.view c.args.output.now) in
    let after = outside (g.F.Files.view c.ask_over.new.files) (g.I.Source.view c.ask_over.new.input) (g.O.Sink.view c.ask_over.new.output) in
    record {
      ends = ends_of_read c.ask_over.result (outside (g.F.Files.view c.args.files.now) (g.I.Source.view c.args.input.now) (g.O.Sink.view c.args.output.now)) after (g.F.Files.view c.read_both.new.files) c.args.map.now c.args.settings.now c.in-Ok.map.items c.in-Ok.settings.items
          c.in-Ok.ensures.read
          (subst (λ (bytes : List ℕ). EndsOver c.ask_over.result (load_of c.in-Ok.map.items bytes) middle after) c.as_slice.ensures.value c.ask_over.ensures);
    }

pub returns-in-Err : goal.returns-in-Err
returns-in-Err g c =
    let first = g.F.Files.view c.args.files.now in
    let last = g.F.Files.view c.read_both.new.files in
    let input = g.I.Source.view c.args.input.now in
    let before = g.O.Sink.view c.args.output.now in
    let after = g.O.Sink.view c.end_unread.new.output in
    let names = both_names c.args.map.now c.args.settings.now in
    record {
      ends = ask_unbegun c.end_unread.result (outside first input before) (outside last input after) c.args.map.now c.args.settings.now
          (unbegun c.end_unread.result first last input before after names c.in-Err.unread.name.now c.in-Err.unread.fault c.in-Err.ensures.unread c.end_unread.ensures);
    }
