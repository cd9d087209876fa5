-- Where `clap` takes the words, they name a command: what must be given has a value, numbers are in their ranges, and
-- the name is one of the five.
use Rattle.std.proofs.Common.{◌≡◌, ◌∙◌, ◌≤◌, ◌<◌, ◌^◌, ◌&&◌, ◌||◌, ℕ, Bool, true, false, not, List, [], ◌∷◌, ap, arith, codes, is_some, Option, Some, None, refl, subst}
use Rattle.std.specs.Option.{option_map_or}
use Rattle.std.specs.Prelude.{find, fold, option_map, option_and_then, pos, slice_get}
use Rattle.std.specs.List.{list_any}
use Rattle.std.specs.Str.{bytes_eq}
use Rattle.clap.specs.Faults.{check_fault, defaults_fault, entered_fault, level_fault, settle_fault, walk_fault}
use Rattle.clap.specs.Kinds.{check_kinds, values_kinds}
use Rattle.clap.specs.Simple.{Shape, built, built_leaf, entered, inherited, label_of, names_of, rows_at}
use Rattle.clap.specs.Takes.{is_given}
use Rattle.clap.specs.Values.{read_as}
use Rattle.clap.specs.Walk.{Row, Rule, Text, answers_to, finished, first_of, has_row, nothing_held, row_text, rows_after, settled, walk, walk_from, with_default}
use Rattle.clap.specs.Words.{App, fault_of}
use Rattle.clap.specs.declared.builder.value_parser.Reading.{Reading}
use Rattle.clap.specs.declared.builder.value_parser.Reading.TheVariants.{WithoutMinus}
use Rattle.clap.specs.declared.builder.value_parser.ValueParser.TheVariants as vp
use Rattle.command_words.specs.CommandLine.{files_app, plain_app, road_router, serve_app, town_app}
use Rattle.command_words.specs.Commands.{Ask, Check, Command, Drill, HasNumbers, Serve, Town, command_in, command_of, command_over, number_in, number_of, serving_of}
use Rattle.command_words.proofs.Fits.{AreFit, IsFit, default-fits, default-found, given-first, given-found, no-default, numbers-pass, one_value, others-suit, row-found, use-fits}
use Rattle.command_words.proofs.Numbers.{number-in_range}
use Rattle.command_words.proofs.RowWalks.{AllIn, Holds, Keeps, checks-pass, find-holds, neither, rows-kept}

-- a subcommand as `clap` builds it
abbrev leaf : App → Shape
leaf a = built_leaf (inherited plain_app.top a.top)

-- what must be given is
abbrev IsMet : List Row → Rule → Type 0
IsMet rows a = a.required ≡ true → is_given a.id rows ≡ true

none-lacking : (rows : List Row) (rules : List Rule) → list_any (λ a. a.required && not (is_given a.id rows)) rules ≡ false → AllIn (IsMet rows) rules
none-lacking rows [] e = tt
none-lacking rows (a ∷ rest) e = go a.required (is_given a.id rows) refl e (none-lacking rows rest)
  where
    go : (needed given : Bool) → is_given a.id rows ≡ given → ((needed && not given) || list_any (λ a. a.required && not (is_given a.id rows)) rest) ≡ false
        → (list_any (λ a. a.required && not (is_given a.id rows)) rest ≡ false → AllIn (IsMet rows) rest)
        → ((needed ≡ true → is_given a.id rows ≡ true) × AllIn (IsMet rows) rest)
    go true true is e others = (λ needed. is, others e)
    go true false is e others = absurd (cc)
    go false given is e others = (λ needed. absurd (cc), others e)

no-wants : (help wants : Bool) → check_kinds help false wants ≡ [] → wants ≡ false
no-wants true wants e = absurd (cc)
no-wants false true e = absurd (cc)
no-wants false false e = refl

-- an argument that takes a number
abbrev numbered : Text → Option Text → Option ℕ → List Text → (low high : ℕ) → Bool → Rule
numbered id long index defaults low high required = one_value id long index defaults (vp.Signed (pos low) (pos high)) required

-- where the argument of this id takes a number in this range:
module _ (key : Text) (low high : ℕ) where
  -- the rows of a subcommand whose words are not refused
  record Taken (s : Shape) (rows : List Row) : Type 0 where
    fit : AllIn (IsFit key low high) rows
    met : AllIn (IsMet rows) s.rules

  module _ (id : Text) (index : Option ℕ) (other : bytes_eq id key ≡ false) where
    -- a file, and an option with no default
    file-keeps : (s : Shape) → s.args_override_self ≡ false → Keeps (IsFit key low high) s [] (one_value id None index [] vp.String true)
    file-keeps s once = record {
      uses = rw once (use-fits key low high id None index [] vp.String true (λ v vs e. others-suit key low high id _ other v vs));
      default = default-fits key low high id None index [] vp.String true (λ v vs e. others-suit key low high id _ other v vs) refl;
    }

    option-keeps : (required : Bool) (s : Shape) → s.args_override_self ≡ false → Keeps (IsFit key low high) s [] (one_value id (Some id) index [] vp.String required)
    option-keeps required s once = record {
      uses = rw once (use-fits key low high id (Some id) index [] vp.String required (λ v vs e. others-suit key low high id _ other v vs));
      default = default-fits key low high id (Some id) index [] vp.String required (λ v vs e. others-suit key low high id _ other v vs) refl;
    }

  -- the number itself
  number-keeps : (long : Option Text) (index : Option ℕ) (defaults : List Text) (required : Bool) → values_kinds false (vp.Signed (pos low) (pos high)) defaults ≡ []
      → (s : Shape) → s.args_override_self ≡ false → Keeps (IsFit key low high) s [] (numbered key long index defaults low high required)
  number-keeps long index defaults required passes s once = record {
    uses = rw once (use-fits key low high key long index defaults (vp.Signed (pos low) (pos high)) required suits);
    default = default-fits key low high key long index defaults (vp.Signed (pos low) (pos high)) required suits passes;
  }
    where
      suits : (v : Text) (vs : List Text) → values_kinds false (vp.Signed (pos low) (pos high)) (v ∷ vs) ≡ [] → AreFit key low high key WithoutMinus (v ∷ vs)
      suits v vs e = (omega arith, λ is. (refl, numbers-pass key low high (v ∷ vs) e))

  -- it has a row, whose value is a number in the range
  abbrev HasNumber : List Row → Type 0
  HasNumber rows = (n : ℕ) × (number_in key rows ≡ Some n) × (low ≤ n) × (n ≤ high)

  first-number : high < 2 ^ 32 → bytes_eq key key ≡ true → (how : Reading) (values : List Text) → AreFit key low high key how values
      → (n : ℕ) × (option_and_then number_of (option_map (read_as how) (slice_get values 0)) ≡ Some n) × (low ≤ n) × (n ≤ high)
  first-number fits same how [] fit = absurd (omega arith)
  first-number fits same how (v ∷ vs) fit =
      let own = fit.1 same in
      let read = number-in_range low high fits v own.1.0 in
      (read.0, rw own.0 read.1, read.2, read.3)

  row-number : high < 2 ^ 32 → bytes_eq key key ≡ true → (rows : List Row)
      → ((r : Row) × (find (λ r. bytes_eq r.id key) rows ≡ Some r) × (r.id ≡ key) × IsFit key low high r) → HasNumber rows
  row-number fits same rows found =
      let read = first-number fits same found.0.reading found.0.values (subst (λ (id : Text). AreFit key low high id found.0.reading found.0.values) found.2 found.3) in
      (read.0, ap (λ (o : Option Row). option_and_then number_of (option_and_then row_text o)) found.1 ∙ read.1, read.2, read.3)

-- the map and the settings; no argument of their commands takes a number
files-keep : (s : Shape) → s.args_override_self ≡ false
    → AllIn (Keeps (IsFit (codes "n") 2 1000) s []) (one_value (codes "opl") None (Some 1) [] vp.String true ∷ one_value (codes "settings") None (Some 2) [] vp.String true ∷ [])
files-keep s once = (file-keeps (codes "n") 2 1000 (codes "opl") (Some 1) refl s once, (file-keeps (codes "n") 2 1000 (codes "settings") (Some 2) refl s once, tt))

module _ (name : Text) where
  files-taken : (words : List Text) → level_fault (leaf (files_app name)) [] nothing_held words false [] ≡ []
      → Taken (codes "n") 2 1000 (leaf (files_app name)) (rows_after (leaf (files_app name)).rules [] words)
  files-taken words e = record {
    fit = rows-kept (IsFit (codes "n") 2 1000) (leaf (files_app name)) [] (files-keep (leaf (files_app name)) refl) words false [] e;
    met = none-lacking (rows_after (leaf (files_app name)).rules [] words) (leaf (files_app name)).rules (no-wants false _ (checks-pass (IsFit (codes "n") 2 1000) (leaf (files_app name)) [] words false [] e));
  }

  -- the number of a town
  town-taken : (words : List Text) → level_fault (leaf (town_app name)) [] nothing_held words false [] ≡ []
      → Taken (codes "n") 2 1000 (leaf (town_app name)) (rows_after (leaf (town_app name)).rules [] words)
  town-taken words e = record {
    fit = rows-kept (IsFit (codes "n") 2 1000) (leaf (town_app name)) [] (number-keeps (codes "n") 2 1000 None (Some 1) [] true refl (leaf (town_app name)) refl, tt) words false [] e;
    met = none-lacking (rows_after (leaf (town_app name)).rules [] words) (leaf (town_app name)).rules (no-wants false _ (checks-pass (IsFit (codes "n") 2 1000) (leaf (town_app name)) [] words false [] e));
  }

  town-number : (words : List Text) → level_fault (leaf (town_app name)) [] nothing_held words false [] ≡ [] → HasNumber (codes "n") 2 1000 (rows_after (leaf (town_app name)).rules [] words)
  town-number words e =
      let taken = town-taken words e in
      let rows = rows_after (leaf (town_app name)).rules [] words in
      row-number (codes "n") 2 1000 (omega arith) refl rows (given-found (codes "n") 2 1000 (codes "n") rows taken.fit (taken.met.0 refl))

serve-taken : (words : List Text) → level_fault (leaf serve_app) [] nothing_held words false [] ≡ [] → Taken (codes "workers") 1 64 (leaf serve_app) (rows_after (leaf serve_app).rules [] words)
serve-taken words e = record {
  fit = rows-kept (IsFit (codes "workers") 1 64) (leaf serve_app) [] (
    file-keeps (codes "workers") 1 64 (codes "opl") (Some 1) refl (leaf serve_app) refl,
    (
      file-keeps (codes "workers") 1 64 (codes "settings") (Some 2) refl (leaf serve_app) refl,
      (
        option-keeps (codes "workers") 1 64 (codes "listen") None refl true (leaf serve_app) refl,
        (
          option-keeps (codes "workers") 1 64 (codes "control") None refl true (leaf serve_app) refl,
          (
            number-keeps (codes "workers") 1 64 (Some (codes "workers")) None (codes "4" ∷ []) false refl (leaf serve_app) refl,
            (
              option-keeps (codes "workers") 1 64 (codes "segment-speed-file") None refl false (leaf serve_app) refl,
              (option-keeps (codes "workers") 1 64 (codes "turn-penalty-file") None refl false (leaf serve_app) refl, tt),
            ),
          ),
        ),
      ),
    ),
  ) words false [] e;
  met = none-lacking (rows_after (leaf serve_app).rules [] words) (leaf serve_app).rules (no-wants false _ (checks-pass (IsFit (codes "workers") 1 64) (leaf serve_app) [] words false [] e));
}

abbrev workers : Rule
workers = numbered (codes "workers") (Some (codes "workers")) None (codes "4" ∷ []) 1 64 false

abbrev speeds : Rule
speeds = one_value (codes "segment-speed-file") (Some (codes "segment-speed-file")) None [] vp.String false

abbrev turns : Rule
turns = one_value (codes "turn-penalty-file") (Some (codes "turn-penalty-file")) None [] vp.String false

abbrev files_and_addresses : List Rule
files_and_addresses = one_value (codes "opl") None (Some 1) [] vp.String true ∷ one_value (codes "settings") None (Some 2) [] vp.String true
    ∷ one_value (codes "listen") (Some (codes "listen")) None [] vp.String true ∷ one_value (codes "control") (Some (codes "control")) None [] vp.String true ∷ []

-- whatever stood before the defaults of the last three
workers-there : (rows : List Row) → has_row (codes "workers") (with_default (with_default (with_default rows workers) speeds) turns) ≡ true
workers-there rows =
    ap (has_row (codes "workers")) (no-default turns (with_default (with_default rows workers) speeds) refl ∙ no-default speeds (with_default rows workers) refl)
    ∙ default-found workers (codes "4") [] rows refl refl

-- a command over both files
command-check : (map settings : Option Text) → is_some map ≡ true → is_some settings ≡ true → (c : Command) × (command_over (codes "check") map settings ≡ Some c) × HasNumbers c
command-check (Some map) (Some settings) one two = (Check map settings, refl, tt)
command-check None settings one two = absurd (cc)
command-check (Some map) None one two = absurd (cc)

command-ask : (map settings : Option Text) → is_some map ≡ true → is_some settings ≡ true → (c : Command) × (command_over (codes "ask") map settings ≡ Some c) × HasNumbers c
command-ask (Some map) (Some settings) one two = (Ask map settings, refl, tt)
command-ask None settings one two = absurd (cc)
command-ask (Some map) None one two = absurd (cc)

-- one that serves at both addresses
command-serve : (map settings listen control : Option Text) (workers : Option ℕ) (speeds turns : Option Text)
    → is_some map ≡ true → is_some settings ≡ true → is_some listen ≡ true → is_some control ≡ true → ((n : ℕ) × (workers ≡ Some n) × (1 ≤ n) × (n ≤ 64))
    → (c : Command) × (option_map Serve (serving_of map settings listen control workers speeds turns) ≡ Some c) × HasNumbers c
command-serve (Some map) (Some settings) (Some listen) (Some control) workers speeds turns one two three four n =
    (Serve (record { map = map; settings = settings; listen = listen; control = control; workers = n.0; speeds = speeds; turns = turns }), rw n.1 refl, (n.2, n.3))
command-serve None settings listen control workers speeds turns one two three four n = absurd (cc)
command-serve (Some map) None listen control workers speeds turns one two three four n = absurd (cc)
command-serve (Some map) (Some settings) None control workers speeds turns one two three four n = absurd (cc)
command-serve (Some map) (Some settings) (Some listen) None workers speeds turns one two three four n = absurd (cc)

-- one over a town
command-town : (n : Option ℕ) → ((m : ℕ) × (n ≡ Some m) × (2 ≤ m) × (m ≤ 1000)) → (c : Command) × (option_map Town n ≡ Some c) × HasNumbers c
command-town n h = (Town h.0, rw h.1 refl, (h.2, h.3))

command-drill : (n : Option ℕ) → ((m : ℕ) × (n ≡ Some m) × (2 ≤ m) × (m ≤ 1000)) → (c : Command) × (option_map Drill n ≡ Some c) × HasNumbers c
command-drill n h = (Drill h.0, rw h.1 refl, (h.2, h.3))

-- a subcommand whose words are not refused is one of the program's commands
abbrev Named : Shape → Type 0
Named s = (words : List Text) → level_fault s [] nothing_held words false [] ≡ [] → (c : Command) × (command_in s.name (rows_after s.rules [] words) ≡ Some c) × HasNumbers c

check-named : Named (leaf (files_app (codes "check")))
check-named words e =
    let taken = files-taken (codes "check") words e in
    command-check _ _ (given-first (codes "n") 2 1000 (codes "opl") _ taken.fit (taken.met.0 refl)) (given-first (codes "n") 2 1000 (codes "settings") _ taken.fit (taken.met.1.0 refl))

ask-named : Named (leaf (files_app (codes "ask")))
ask-named words e =
    let taken = files-taken (codes "ask") words e in
    command-ask _ _ (given-first (codes "n") 2 1000 (codes "opl") _ taken.fit (taken.met.0 refl)) (given-first (codes "n") 2 1000 (codes "settings") _ taken.fit (taken.met.1.0 refl))

serve-named : Named (leaf serve_app)
serve-named words e =
    let taken = serve-taken words e in
    let met = taken.met in
    let rows = rows_after (leaf serve_app).rules [] words in
    let start = settled (leaf serve_app).rules (walk (leaf serve_app).rules [] nothing_held words).held in
    let before = fold with_default start.rows files_and_addresses in
    command-serve _ _ _ _ _ (first_of (codes "segment-speed-file") rows) (first_of (codes "turn-penalty-file") rows)
    (given-first (codes "workers") 1 64 (codes "opl") rows taken.fit (met.0 refl)) (given-first (codes "workers") 1 64 (codes "settings") rows taken.fit (met.1.0 refl))
    (given-first (codes "workers") 1 64 (codes "listen") rows taken.fit (met.1.1.0 refl)) (given-first (codes "workers") 1 64 (codes "control") rows taken.fit (met.1.1.1.0 refl))
    (row-number (codes "workers") 1 64 (omega arith) refl rows (row-found (codes "workers") 1 64 (codes "workers") rows taken.fit (workers-there before)))

town-named : Named (leaf (town_app (codes "town")))
town-named words e = command-town _ (town-number (codes "town") words e)

drill-named : Named (leaf (town_app (codes "drill")))
drill-named words e = command-drill _ (town-number (codes "drill") words e)

abbrev leaves : List Shape
leaves = leaf (files_app (codes "check")) ∷ leaf (files_app (codes "ask")) ∷ leaf serve_app ∷ leaf (town_app (codes "town")) ∷ leaf (town_app (codes "drill")) ∷ []

leaves-named : AllIn Named leaves
leaves-named = (check-named, (ask-named, (serve-named, (town-named, (drill-named, tt)))))

abbrev top : Shape
top = (built road_router).top

shape-named : (words : List Text) (o : Option Shape) (rows : List Row) → Holds Named o
    → check_fault top rows (is_some (option_map (λ s. rows_at s words) o)) ≡ []
    → option_map_or (λ s. level_fault s [] nothing_held words false []) o [] ≡ []
    → (c : Command) × (option_and_then (λ p. command_in p.0 p.1) (option_map (λ s. rows_at s words) o) ≡ Some c) × HasNumbers c
shape-named words None rows named e below = absurd (cc)
shape-named words (Some s) rows named e below = named words below

stop-named : (stop : Option (Text × List Text)) (rows : List Row)
    → check_fault top rows (is_some (entered (built road_router) stop)) ≡ [] → entered_fault (built road_router) stop ≡ []
    → (c : Command) × (option_and_then (λ p. command_in p.0 p.1) (entered (built road_router) stop) ≡ Some c) × HasNumbers c
stop-named None rows e below = absurd (cc)
stop-named (Some p) rows e below =
    shape-named p.1 (find (λ s. answers_to p.0 (label_of s)) leaves) rows (find-holds Named (λ s. answers_to p.0 (label_of s)) leaves leaves-named) e below

-- where `clap` takes the words, they name a command, and its numbers are in their ranges
pub named : (words : List Text) → fault_of road_router words ≡ [] → (c : Command) × (command_of words ≡ Some c) × HasNumbers c
unfolding command_of
named words e =
    let walked_words = walk top.rules (names_of (built road_router)) nothing_held words in
    let walks = neither (walk_fault top (names_of (built road_router)) (walk_from nothing_held) words) _ e in
    let below = neither (entered_fault (built road_router) walked_words.stopped) _ walks.1 in
    let settles = neither (settle_fault top.rules top.args_override_self walked_words.held) _ below.1 in
    let checks = neither (defaults_fault (settled top.rules walked_words.held).rows top.rules) _ settles.1 in
    let found = stop-named walked_words.stopped (finished top.rules walked_words.held) checks.1 below.0 in
    (found.0, rw e found.1, found.2)
