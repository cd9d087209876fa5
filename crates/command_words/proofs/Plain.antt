-- The command line is so plain that `clap`'s function of the words says all of it.
use Rattle.std.proofs.Common.{◌≡◌, ◌∙◌, true, ap, List, Result, refl, subst}
use Rattle.clap.proofs.OnLiterals.{clap_on_literals}
use Rattle.clap.specs.Words.{App, FailsBy, Text, fault_of, is_simple_and_free}
use Rattle.clap.specs.declared.error.Error.{Error}
use Rattle.clap.specs.declared.parser.matches.ArgMatches.{ArgMatches}
use Rattle.command_words.specs.CommandLine.{road_router}

pub is-free : is_simple_and_free road_router ≡ true
unfolding clap_on_literals
is-free = refl

-- what holds of a command holds of one like it
pub fails-as : (a b : App) → a ≡ b → is_simple_and_free b ≡ true → (words : List Text) (r : Result ArgMatches Error)
    → (is_simple_and_free a ≡ true → FailsBy (fault_of a words) r) → FailsBy (fault_of b words) r
fails-as a b e free words r h = subst (λ (x : App). FailsBy (fault_of x words) r) e (h (ap is_simple_and_free e ∙ free))
