-- Three texts, one behind the other.
use Rattle.std.proofs.Common.{[], ◌∷◌, ◌++◌}
use Rattle.std.proofs.lemmas.Result.{on_err_weaker}
use Rattle.road_io.specs.Told.{appends_front_first, appends_front_then}
use Rattle.program_ends.proofs.OneRead.{on_err_always}
use Rattle.program_ends.proofs.ending.put_line.Goals as goal

pub returns-in_err-put_all-clause-part : goal.returns-in_err-put_all-clause-part
returns-in_err-put_all-clause-part g c =
    on_err_always c.from_residual.result
    (appends_front_first (g.O.Sink.view c.args.output.now).written (g.O.Sink.view c.put_all.new.sink).written c.args.words.now (c.args.text.now ++ 10 ∷ []) c.in_err-put_all.ensures.part)

pub returns-in_err-put_all-2-clause-part : goal.returns-in_err-put_all-2-clause-part
returns-in_err-put_all-2-clause-part g c =
    rw (← c.as_bytes.ensures.value) (on_err_always c.from_residual-in_err-put_all-2.result
    (appends_front_then (g.O.Sink.view c.args.output.now).written (g.O.Sink.view c.put_all.new.sink).written (g.O.Sink.view c.put_all-2.new.sink).written c.args.words.now (c.as_bytes.result.now ++ 10 ∷ []) c.in_ok-put_all.ensures.all
    (appends_front_first (g.O.Sink.view c.put_all.new.sink).written (g.O.Sink.view c.put_all-2.new.sink).written c.as_bytes.result.now (10 ∷ []) c.in_err-put_all-2.ensures.part)))

pub returns-clause-part : goal.returns-clause-part
returns-clause-part g c =
    rw (← c.as_bytes.ensures.value) (on_err_weaker c.put_all-3.result
    (λ last. appends_front_then (g.O.Sink.view c.args.output.now).written (g.O.Sink.view c.put_all.new.sink).written (g.O.Sink.view c.put_all-3.new.sink).written c.args.words.now (c.as_bytes.result.now ++ 10 ∷ []) c.in_ok-put_all.ensures.all
    (appends_front_then (g.O.Sink.view c.put_all.new.sink).written (g.O.Sink.view c.put_all-2.new.sink).written (g.O.Sink.view c.put_all-3.new.sink).written c.as_bytes.result.now (10 ∷ []) c.in_ok-put_all-2.ensures.all last))
    c.put_all-3.ensures.part)
