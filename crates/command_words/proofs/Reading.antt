-- What is read of the matches is what their rows say.
use Rattle.std.proofs.Common.{◌≡◌, ℕ, Option, Some, None, refl, codes}
use Rattle.std.specs.Prelude.{Result, false, option_and_then, if◌then◌else◌}
use Rattle.std.specs.Str.{bytes_eq}
use Rattle.std.specs.Str.Parse.{ParsesUnsigned}
use Rattle.clap.specs.Matches.{ReadsOne}
use Rattle.clap.specs.Walk.{Text}
use Rattle.command_words.specs.Commands.{Command, command_over, number_of, serving_of}
use Rattle.command_words.proofs.Numbers.{number-read}

-- a number, by the text that is read
pub one-number : (E : Type 0) (G : Text → Result ℕ E → Type 0) (text : Option Text) (r : Option ℕ)
    → ((u : Text) (x : Result ℕ E) → G u x → ParsesUnsigned 32 10 u x)
    → (text ≡ None → r ≡ None) → ((t : Text) → text ≡ Some t → ReadsOne G t r) → r ≡ option_and_then number_of text
one-number E G None r only none value = none refl
one-number E G (Some t) r only none value = number-read E t r (go r (value t refl))
  where
    go : (o : Option ℕ) → ReadsOne G t o → ReadsOne {E = E} (ParsesUnsigned 32 10) t o
    go (Some n) h = only t _ h
    go None h = (h.0, only t _ h.1)

-- what serves, by what is there
pub serving-as : (a b c d s t a' b' c' d' s' t' : Option Text) (n n' : Option ℕ) → a ≡ a' → b ≡ b' → c ≡ c' → d ≡ d' → n ≡ n' → s ≡ s' → t ≡ t'
    → serving_of a b c d n s t ≡ serving_of a' b' c' d' n' s' t'
serving-as a b c d s t a' b' c' d' s' t' n n' e1 e2 e3 e4 e5 e6 e7 = rw (e1, e2, e3, e4, e5, e6, e7) refl

-- a command over files, by what is there
pub over-files : (name : Text) (a b a' b' : Option Text) (serve town drill : Option Command) → a ≡ a' → b ≡ b'
    → bytes_eq name (codes "serve") ≡ false → bytes_eq name (codes "town") ≡ false → bytes_eq name (codes "drill") ≡ false
    → command_over name a b
    ≡ (if bytes_eq name (codes "serve") then serve else if bytes_eq name (codes "town") then town else if bytes_eq name (codes "drill") then drill else command_over name a' b')
over-files name a b a' b' serve town drill e1 e2 not_serve not_town not_drill = rw (not_serve, not_town, not_drill, e1, e2) refl
