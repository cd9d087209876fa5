use Rattle.std.proofs.Common.{◌∙◌, ◌||◌, ap}
use Rattle.std.proofs.lemmas.Result.{IfOk-weaker}
use Rattle.clap.specs.Words.{AddsSubcommand}
use Rattle.clap.specs.declared.builder.command.Command.TheViews.{out-Command}
use Rattle.command_words.proofs.command_lines.above.Goals as goal

pub returns-clause-app : goal.returns-clause-app
returns-clause-app c =
    IfOk-weaker c.subcommand.result (AddsSubcommand c.args.command c.args.below) _ (λ r adds. adds.shape c.requires.below_local) c.subcommand.ensures

pub returns-clause-local : goal.returns-clause-local
returns-clause-local c =
    IfOk-weaker c.subcommand.result (AddsSubcommand c.args.command c.args.below) _
    (λ r adds. adds.globals ∙ ap (λ b. b || (out-Command c.args.below).has_globals) c.requires.local ∙ c.requires.below_local)
    c.subcommand.ensures
