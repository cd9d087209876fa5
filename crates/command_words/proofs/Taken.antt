-- Which words make a command.
use Rattle.std.proofs.Common.{◌≡◌, ◌≢◌, ◌∙◌, inl, inr, List, [], ◌∷◌, None, Some, refl, subst, sym, option_and_then}
use Rattle.std.proofs.lemmas.Option.{same_Some}
use Rattle.clap.specs.Words.{Text, HasKind, Kinds, IsAmong, fault_of, kind_of, subcommand_of}
use Rattle.clap.specs.declared.error.Error.{Error}
use Rattle.clap.specs.declared.error.kind.ErrorKind.{ErrorKind}
use Rattle.clap.specs.declared.error.kind.ErrorKind.TheVariants.{OutOfMemory}
use Rattle.command_words.specs.CommandLine.{road_router}
use Rattle.command_words.specs.Commands.{Command, HasNumbers, command_in, command_of}
use Rattle.command_words.proofs.Named.{named}
use Rattle.command_words.specs.WordsCause.{IsWordsFault}
use Rattle.command_words.specs.declared.words.WordsFault.{WordsFault}
use Rattle.command_words.specs.declared.words.WordsFault.TheVariants.{Unknown, Memory}

-- words that `clap` takes make the command of its matches
pub command_of-taken : (words : List Text) → fault_of road_router words ≡ [] → command_of words ≡ option_and_then (λ p. command_in p.0 p.1) (subcommand_of road_router words)
unfolding command_of
command_of-taken words taken = rw taken refl

-- others make none
command_of-refused : (words : List Text) (kind : ErrorKind) → IsAmong kind (fault_of road_router words) → command_of words ≡ None
unfolding command_of
command_of-refused words kind among = go (fault_of road_router words) refl
  where
    go : (kinds : Kinds) → fault_of road_router words ≡ kinds → command_of words ≡ None
    go [] e = absurd (rw e at among)
    go (k ∷ ks) e = rw e refl

pub fault-cause : (words : List Text) (e : Error) (fault : WordsFault) → HasKind (fault_of road_router words) e → (fault ≡ Unknown → kind_of e ≢ OutOfMemory) → IsWordsFault words fault
fault-cause words e Memory has other = tt
fault-cause words e Unknown (inl memory) other = absurd (other refl memory)
fault-cause words e Unknown (inr among) other = (λ none. rw none at among, command_of-refused words (kind_of e) among)

-- a command that words make has its numbers
pub made-has-numbers : (words : List Text) (command : Command) → command_of words ≡ Some command → HasNumbers command
made-has-numbers words command made = go (fault_of road_router words) refl
  where
    go : (kinds : Kinds) → fault_of road_router words ≡ kinds → HasNumbers command
    go [] e =
        let found = named words e in
        subst HasNumbers (same_Some _ _ (sym found.1 ∙ made)) found.2
    go (k ∷ ks) e =
        let none = command_of-refused words k (rw e (inl refl)) in
        let bad : None ≡ Some command = sym none ∙ made in
        absurd (cc)
