-- Each setting changes its field alone.
use Rattle.std.proofs.Common.{◌≡◌, ◌∙◌, false, true, ap}
use Rattle.clap.specs.Simple.{App, app_of, app_of_fields, on_top}
use Rattle.clap.specs.declared.builder.command.Command.{Command}
use Rattle.clap.specs.declared.builder.command.Command.TheOpen.{Command-F}
use Rattle.clap.specs.declared.builder.command.Command.TheViews.{out-Command}
use Rattle.command_words.proofs.command_lines.plain.Goals as goal

-- a command that is read so, with no global argument
abbrev Is : App → Command → Type 0
Is app b = (app_of b ≡ app) × ((out-Command b).has_globals ≡ false)

is-at : (b : Command) (f : Command-F Command) → out-Command b ≡ f → (app : App) → app_of_fields f ≡ app → f.has_globals ≡ false → Is app b
is-at b f e app g h = (ap app_of_fields {y = f} e ∙ g, ap (λ (x : Command-F Command). x.has_globals) {y = f} e ∙ h)

bare : (a b : Command) (app : App) → out-Command b ≡ record (out-Command a) { no_binary_name = true } → Is app a
    → Is (on_top (λ s. record s { no_binary_name = true }) app) b
bare a b app e h = is-at b (record (out-Command a) { no_binary_name = true }) e _ (ap (on_top (λ s. record s { no_binary_name = true })) h.0) h.1

flagless : (a b : Command) (app : App) → out-Command b ≡ record (out-Command a) { disable_help_flag = true } → Is app a
    → Is (on_top (λ s. record s { disable_help_flag = true }) app) b
flagless a b app e h =
    is-at b (record (out-Command a) { disable_help_flag = true }) e _ (ap (on_top (λ s. record s { disable_help_flag = true })) h.0) h.1

helpless : (a b : Command) (app : App) → out-Command b ≡ record (out-Command a) { disable_help_subcommand = true } → Is app a
    → Is (on_top (λ s. record s { disable_help_subcommand = true }) app) b
helpless a b app e h =
    is-at b (record (out-Command a) { disable_help_subcommand = true }) e _
    (ap (on_top (λ s. record s { disable_help_subcommand = true })) h.0) h.1

needing : (a b : Command) (app : App) → out-Command b ≡ record (out-Command a) { subcommand_required = true } → Is app a
    → Is (on_top (λ s. record s { subcommand_required = true }) app) b
needing a b app e h =
    is-at b (record (out-Command a) { subcommand_required = true }) e _ (ap (on_top (λ s. record s { subcommand_required = true })) h.0)
    h.1

pub returns : goal.returns
returns c =
    let all = needing c.disable_help_subcommand.result _ _ c.subcommand_required.ensures
    (helpless c.disable_help_flag.result _ _ c.disable_help_subcommand.ensures
    (flagless c.no_binary_name.result _ _ c.disable_help_flag.ensures
    (bare c.new.result _ _ c.no_binary_name.ensures (c.new.ensures.app, c.new.ensures.local)))) in
    record { app = all.0; local = all.1 }
