use Rattle.std.proofs.Common.{◌∙◌, ◌||◌, ap}
use Rattle.std.proofs.lemmas.Result.{IfOk-weaker}
use Rattle.clap.specs.Words.{AddsArg}
use Rattle.command_words.proofs.command_lines.taking.Goals as goal

pub returns-clause-app : goal.returns-clause-app
returns-clause-app c =
    IfOk-weaker c.arg.result (AddsArg c.args.command c.args.arg) _ (λ r adds. adds.shape c.requires.arg_local) c.arg.ensures

pub returns-clause-local : goal.returns-clause-local
returns-clause-local c =
    IfOk-weaker c.arg.result (AddsArg c.args.command c.args.arg) _
    (λ r adds. adds.globals ∙ ap (λ b. b || c.args.arg.global) c.requires.command_local ∙ c.requires.arg_local) c.arg.ensures
