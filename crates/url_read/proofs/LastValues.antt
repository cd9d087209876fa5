-- The last value of a name, found option by option.
use Rattle.std.proofs.Common.{◌≡◌, ℕ, ◌+◌, ◌<◌, ◌≤◌, Bool, cond, eqb, List, [], length, drop, get_or, Option, Some, None, Bor, refl, sym, ◌∙◌, ap, false}
use Rattle.std.specs.Option.{option_or, option_copied}
use Rattle.std.specs.List.{slice_split}
use Rattle.std.proofs.lemmas.List.{at_drop_more, at_drop_all}
use Rattle.url_read.specs.Options.{last_value_of, options_of, value_named}

option_or_assoc : {A : Type 0} (a b c : Option A) → option_or (option_or a b) c ≡ option_or a (option_or b c)
option_or_assoc None b c = refl
option_or_assoc (Some x) b c = refl

option_or-None : {A : Type 0} (a : Option A) → option_or a None ≡ a
option_or-None None = refl
option_or-None (Some x) = refl

-- the same behind references
pub option_copied-or : {A : Type 0} (a b : Option (Bor A)) → option_copied (option_or a b) ≡ option_or (option_copied a) (option_copied b)
option_copied-or None b = refl
option_copied-or (Some x) b = refl

-- the last value among so many options, or among the rest
pub record IsLast (name : List ℕ) (options : List (List ℕ)) (found : Option (List ℕ)) (count : ℕ) : Type 0 where
  pub whole : option_or (last_value_of name (drop count options)) found ≡ last_value_of name options

module _ (name : List ℕ) (options : List (List ℕ)) where
  pub IsLast-start : IsLast name options None 0
  IsLast-start = record { whole = option_or-None (last_value_of name options) }

  pub IsLast-more : (found : Option (List ℕ)) (count : ℕ) (d : List ℕ) (next : Option (List ℕ)) → IsLast name options found count → count < length options → next ≡ option_or (value_named name (get_or options count d)) found → IsLast name options next (count + 1)
  IsLast-more found count d next before lt h = record {
    whole = ap (λ o. option_or (last_value_of name (drop (count + 1) options)) o) h
        ∙ sym (option_or_assoc (last_value_of name (drop (count + 1) options)) (value_named name (get_or options count d)) found)
        ∙ sym (at_drop_more (λ rest. option_or (last_value_of name rest) found) options count d lt)
        ∙ before.whole;
  }

  pub IsLast-all : (found : Option (List ℕ)) (count : ℕ) → IsLast name options found count → length options ≤ count → found ≡ last_value_of name options
  IsLast-all found count before past = sym (at_drop_all (λ rest. option_or (last_value_of name rest) found) options count past) ∙ before.whole

abbrev pub parts : List ℕ → List (List ℕ)
parts query = slice_split (λ b. eqb b 38) query

-- the options of a query that is not empty are its parts
pub options_of-parts : (query : List ℕ) → eqb (length query) 0 ≡ false → options_of query ≡ parts query
options_of-parts query some = ap (λ (empty : Bool). cond empty [] (parts query)) some
