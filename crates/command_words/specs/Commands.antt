-- The commands of the program, and which words make them.
use Rattle.std.specs.Prelude.{ℕ, ◌≤◌, ◌&&◌, ◌^◌, nat_lt, List, [], ◌∷◌, codes, Option, Some, None, option_map, option_and_then, bytes_eq, if◌then◌else◌}
use Rattle.std.specs.Str.Parse.{digits_value, without_leading_plus}
use Rattle.clap.specs.ValueTests.{is_numeral}
use Rattle.clap.specs.Words.{Kinds, Row, Text, fault_of, first_of, one_of, subcommand_of}
use Rattle.command_words.specs.CommandLine.{road_router}
use Rattle.command_words.specs.declared.words.ServeWords.{ServeWords}
use Rattle.command_words.specs.declared.words.Words.{Words}
use Rattle.command_words.specs.declared.words.Words.TheVariants as words

-- what serving takes: the files of a map and settings, the addresses of the query and control ports, how
-- many workers there are, and the files of the speed and turn rows of the start, where they are named
pub record Serving : Type 0 where
  pub map : List ℕ
  pub settings : List ℕ
  pub listen : List ℕ
  pub control : List ℕ
  pub workers : ℕ
  pub speeds : Option (List ℕ)
  pub turns : Option (List ℕ)

-- to count what is in a map, or to answer lines over it, or to serve it, where a map and settings go by the names of
-- their files; or to write the generated town of a number, or to drill on it
pub data Command : Type 0 where
  Check : (map settings : List ℕ) → Command
  Ask : (map settings : List ℕ) → Command
  Serve : Serving → Command
  Town : ℕ → Command
  Drill : ℕ → Command

-- the number below 2^32 that a text writes in decimal digits, which a plus may precede
abbrev pub number_of : Text → Option ℕ
number_of text =
    let digits = without_leading_plus text in
    if is_numeral digits && nat_lt (digits_value 10 digits) (2 ^ 32) then Some (digits_value 10 digits) else None

-- the number that the value of an argument writes
abbrev pub number_in : Text → List Row → Option ℕ
number_in name rows = option_and_then number_of (one_of name rows)

-- what serves where each of these is there
abbrev pub serving_of : Option Text → Option Text → Option Text → Option Text → Option ℕ → Option Text → Option Text → Option Serving
serving_of (Some map) (Some settings) (Some listen) (Some control) (Some workers) speeds turns =
    Some (record { map = map; settings = settings; listen = listen; control = control; workers = workers; speeds = speeds; turns = turns })
serving_of _ _ _ _ _ speeds turns = None

-- what the values of the arguments of `serve` say
abbrev pub serving_in : List Row → Option Serving
serving_in rows = serving_of (first_of (codes "opl") rows) (first_of (codes "settings") rows) (first_of (codes "listen") rows)
    (first_of (codes "control") rows) (number_in (codes "workers") rows)
    (first_of (codes "segment-speed-file") rows) (first_of (codes "turn-penalty-file") rows)

-- the command of this name over these files
abbrev pub command_over : Text → Option Text → Option Text → Option Command
command_over name (Some map) (Some settings) =
    if bytes_eq name (codes "check") then Some (Check map settings)
    else (if bytes_eq name (codes "ask") then Some (Ask map settings) else None)
command_over name _ _ = None

-- the command of a subcommand's name and the values of its arguments
abbrev pub command_in : Text → List Row → Option Command
command_in name rows =
    if bytes_eq name (codes "serve") then option_map Serve (serving_in rows)
    else if bytes_eq name (codes "town") then option_map Town (number_in (codes "n") rows)
    else if bytes_eq name (codes "drill") then option_map Drill (number_in (codes "n") rows)
    else command_over name (first_of (codes "opl") rows) (first_of (codes "settings") rows)

-- None where there is a reason to refuse
abbrev pub unless_refused : Kinds → Option Command → Option Command
unless_refused [] command = command
unless_refused (kind ∷ kinds) command = None

-- the command of the words, where `clap` takes them; None where it does not, as in a call for help
unfoldable pub command_of : List Text → Option Command
command_of words = unless_refused (fault_of road_router words) (option_and_then (λ p. command_in p.0 p.1) (subcommand_of road_router words))

-- where the command serves there are 1 to 64 workers, and the number of a town is from 2 to 1000
abbrev pub HasNumbers : Command → Type 0
HasNumbers (Serve s) = (1 ≤ s.workers) × (s.workers ≤ 64)
HasNumbers (Town n) = (2 ≤ n) × (n ≤ 1000)
HasNumbers (Drill n) = (2 ≤ n) × (n ≤ 1000)
HasNumbers _ = Unit {0}

-- what `serve` is to do, and the command that words, once read, ask for
abbrev pub serving_seen : ServeWords → Serving
serving_seen s = record {
  map = s.map.now;
  settings = s.settings.now;
  listen = s.listen.now;
  control = s.control.now;
  workers = s.workers;
  speeds = option_map (λ t. t.now) s.speeds;
  turns = option_map (λ t. t.now) s.turns;
}

abbrev pub command_seen : Words → Command
command_seen (words.Check map settings) = Check map.now settings.now
command_seen (words.Ask map settings) = Ask map.now settings.now
command_seen (words.Serve s) = Serve (serving_seen s)
command_seen (words.Town n) = Town n
command_seen (words.Drill n) = Drill n
