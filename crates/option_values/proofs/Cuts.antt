-- What a text has before and behind the first of a byte in it.
use Rattle.std.proofs.Common.{◌≡◌, ℕ, ◌<◌, cond, eqb, ap, List, ◌∷◌, length, Option, Some, None, take_all, refl, sym, ◌∙◌, ap₂, arith}
use Rattle.std.specs.Option.{MatchOption, is_none}
use Rattle.std.specs.List.{position_or_len, slice_split, before_first, after_first, list_any}
use Rattle.std.proofs.Math.ListN.{drop_of_length-le}
use Rattle.std.proofs.lemmas.List.Splits.{slice_split_first, slice_split_none}
use Rattle.std.proofs.lemmas.List.Sums.{fails_before_first, passes_at_first}
use Rattle.std.proofs.lemmas.Bool.{lt-ltb, le-ltb}
use Rattle.std.proofs.lemmas.List.Recursion.{or_at, or_from_places}
use Rattle.option_values.specs.Cutting.{IsCut, IsUncut}

module _ (c : ℕ) (text : List ℕ) where
  -- where the byte stands in the text, the text is cut there
  pub IsCut-at : (before behind : List ℕ) → position_or_len (λ b. eqb b c) text < length text → before ≡ before_first (λ b. eqb b c) text → behind ≡ after_first (λ b. eqb b c) text → IsCut c text before behind
  IsCut-at before behind within first rest = record {
    has = or_at (list_any (λ b. eqb b c)) (λ b. eqb b c) refl (λ _ _. refl) text (position_or_len (λ b. eqb b c) text) 0 within (passes_at_first (λ b. eqb b c) text 0 within);
    place = ap (λ b. is_none (cond b (Some (position_or_len (λ b. eqb b c) text)) None)) (lt-ltb (position_or_len (λ b. eqb b c) text) (length text) within);
    first = first;
    rest = rest;
    parts = slice_split_first (λ b. eqb b c) text 0 within ∙ ap₂ (λ a z. a ∷ slice_split (λ b. eqb b c) z) (sym first) (sym rest);
  }

  -- where it does not, the text is one part
  pub IsUncut-without : position_or_len (λ b. eqb b c) text ≡ length text → IsUncut c text
  IsUncut-without past = record {
    has = or_from_places (list_any (λ b. eqb b c)) (λ b. eqb b c) refl (λ _ _. refl) text 0 (λ k lt. fails_before_first (λ b. eqb b c) text k 0 (omega arith));
    place = ap (λ b. is_none (cond b (Some (position_or_len (λ b. eqb b c) text)) None)) (le-ltb (position_or_len (λ b. eqb b c) text) (length text) (omega arith));
    first = sym (take_all _ text (omega arith));
    rest = sym (drop_of_length-le text (omega arith));
    parts = slice_split_none (λ b. eqb b c) text (λ k d lt. fails_before_first (λ b. eqb b c) text k d (omega arith));
  }

-- an answer for each case follows from one for each case
pub match_weaker : {T : Type 0} {P P' : Type 0} {Q Q' : T → Type 0} (o : Option T) → (P → P') → ((x : T) → Q x → Q' x) → MatchOption o P Q → MatchOption o P' Q'
match_weaker None f g h = f h
match_weaker (Some x) f g h = g x h
