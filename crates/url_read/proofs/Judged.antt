-- Options judged one by one.
use Rattle.std.proofs.Common.{◌≡◌, ℕ, ◌+◌, ◌<◌, ◌≤◌, Bool, true, false, not, cond, List, length, drop, get_or, Option, Some, None, sym, ◌∙◌, ap}
use Rattle.std.specs.List.{find}
use Rattle.std.proofs.lemmas.List.{at_drop_more, at_drop_all}

module _ (legal : List ℕ → Bool) where
  abbrev pub first_bad : List (List ℕ) → Option (List ℕ)
  first_bad options = find (λ option. not (legal option)) options

  -- the first bad one is not among so many options
  pub record AreLegal (options : List (List ℕ)) (count : ℕ) : Type 0 where
    pub rest : first_bad (drop count options) ≡ first_bad options

  module _ (options : List (List ℕ)) (count : ℕ) (before : AreLegal options count) where
    -- the next is legal
    pub AreLegal-more : (d : List ℕ) → count < length options → legal (get_or options count d) ≡ true → AreLegal options (count + 1)
    AreLegal-more d lt good = record {
      rest = sym (ap (λ b. cond (not b) (Some (get_or options count d)) (first_bad (drop (count + 1) options))) good)
          ∙ sym (at_drop_more first_bad options count d lt)
          ∙ before.rest;
    }

    -- or the first that is not
    pub first_bad-here : (d : List ℕ) → count < length options → legal (get_or options count d) ≡ false → first_bad options ≡ Some (get_or options count d)
    first_bad-here d lt bad =
        sym before.rest
        ∙ at_drop_more first_bad options count d lt
        ∙ ap (λ b. cond (not b) (Some (get_or options count d)) (first_bad (drop (count + 1) options))) bad

    -- or there is none
    pub first_bad-none : length options ≤ count → first_bad options ≡ None
    first_bad-none past = sym before.rest ∙ at_drop_all first_bad options count past
