-- Why words were not read.
use Rattle.std.specs.Prelude.{◌≡◌, ◌≢◌, List, [], None}
use Rattle.clap.specs.Words.{Text, fault_of}
use Rattle.command_words.specs.CommandLine.{road_router}
use Rattle.command_words.specs.Commands.{command_of}
use Rattle.command_words.specs.declared.words.WordsFault.{WordsFault}
use Rattle.command_words.specs.declared.words.WordsFault.TheVariants.{Unknown, Memory}

-- `clap` does not take the words, so that they make no command; want of memory has no cause
abbrev pub IsWordsFault : List Text → WordsFault → Type 0
IsWordsFault words Unknown = (fault_of road_router words ≢ []) × (command_of words ≡ None)
IsWordsFault words Memory = Unit {0}
