-- The command line of the program as `clap` sees it: a command with one subcommand for each thing that the
-- program does. The words stand without the program's name, and there is no help: a call for it is not
-- taken.
use Rattle.std.specs.Prelude.{true, codes, Some, [], ◌∷◌, pos}
use Rattle.clap.specs.Words.{App, Rule, Text, new_app, new_rule, with_rule, with_subcommand}
use Rattle.clap.specs.Simple.{on_top}
use Rattle.clap.specs.declared.builder.action.ArgAction.TheVariants.{Set}
use Rattle.clap.specs.declared.builder.value_parser.ValueParser.TheVariants.{Signed}

-- a file, which must be named
abbrev pub file_rule : Text → Rule
file_rule name = record (new_rule name) { required = true; action = Some Set }

-- `--name` and a value
abbrev pub option_rule : Text → Rule
option_rule name = record (new_rule name) { long = Some name; action = Some Set }

-- the same, which must be given
abbrev pub needed_rule : Text → Rule
needed_rule name = record (option_rule name) { required = true }

-- how many workers serve: a number from 1 to 64, and 4 where none is given
abbrev pub workers_rule : Rule
workers_rule = record (option_rule (codes "workers")) { defaults = codes "4" ∷ []; parser = Some (Signed (pos 1) (pos 64)) }

-- a command over a map and settings, by the names of their files
abbrev pub files_app : Text → App
files_app name = with_rule (with_rule (new_app name) (file_rule (codes "opl"))) (file_rule (codes "settings"))

-- one that serves at two addresses, from the start on under the rows of the traffic files that are named
abbrev pub addresses_app : App
addresses_app = with_rule (with_rule (files_app (codes "serve")) (needed_rule (codes "listen"))) (needed_rule (codes "control"))

abbrev pub serve_app : App
serve_app = with_rule (with_rule (with_rule addresses_app workers_rule) (option_rule (codes "segment-speed-file"))) (option_rule (codes "turn-penalty-file"))

abbrev pub plain_app : App
plain_app = on_top (λ s. record s { no_binary_name = true; disable_help_flag = true; disable_help_subcommand = true; subcommand_required = true }) (new_app (codes "road_router"))

-- the commands over a map and settings alone
abbrev pub files_router : App
files_router = with_subcommand (with_subcommand plain_app (files_app (codes "check")).top) (files_app (codes "ask")).top

-- the number of a generated town: from 2 to 1000
abbrev pub number_rule : Rule
number_rule = record (file_rule (codes "n")) { parser = Some (Signed (pos 2) (pos 1000)) }

-- a command over a generated town, by its number
abbrev pub town_app : Text → App
town_app name = with_rule (new_app name) number_rule

-- the commands over a map and settings
abbrev pub maps_router : App
maps_router = with_subcommand files_router serve_app.top

abbrev pub road_router : App
road_router = with_subcommand (with_subcommand maps_router (town_app (codes "town")).top) (town_app (codes "drill")).top
