-- What number a text stands for, as `u32` reads it.
use Rattle.std.proofs.Common.{◌≡◌, ◌≤◌, ◌<◌, ◌^◌, ◌&&◌, ℕ, Bool, true, false, List, [], ◌∷◌, length, Option, Some, None, refl, sym, ◌∙◌, true≢false}
use Rattle.std.specs.Prelude.{nat_lt, pos, if◌then◌else◌}
use Rattle.std.specs.List.{list_all}
use Rattle.std.specs.Char.{digit_value}
use Rattle.std.specs.Str.Parse.{AllDigits, IsNumeral, ParsesUnsigned, digits_value, without_leading_plus}
use Rattle.std.proofs.lemmas.Bool.{ltb-true, lt-ltb}
use Rattle.clap.specs.Lexer.{without_minus}
use Rattle.clap.specs.Matches.{ReadsOne}
use Rattle.clap.specs.ValueTests.{accepts, is_numeral}
use Rattle.clap.specs.Words.{Text}
use Rattle.clap.specs.declared.builder.value_parser.ValueParser.TheVariants.{Signed}
use Rattle.clap.proofs.CallerReads.{signed_reads}
use Rattle.clap.proofs.ValueTestLemmas.{accepts-Accepts}
use Rattle.clap.proofs.WalkLemmas.{both}
use Rattle.command_words.specs.Commands.{number_of}

digits-pass : (ds : List ℕ) → AllDigits 10 ds → list_all (λ d. nat_lt (digit_value d) 10) ds ≡ true
digits-pass [] h = refl
digits-pass (d ∷ ds) h = rw (lt-ltb (digit_value d) 10 h.0) (digits-pass ds h.1)

digits-from : (ds : List ℕ) → list_all (λ d. nat_lt (digit_value d) 10) ds ≡ true → AllDigits 10 ds
digits-from [] e = tt
digits-from (d ∷ ds) e =
    let parts = both _ _ e in
    (ltb-true _ _ parts.0, digits-from ds parts.1)

-- the digits are those of a number below 2^32
abbrev is_small : List ℕ → Bool
is_small ds = is_numeral ds && nat_lt (digits_value 10 ds) (2 ^ 32)

-- what a type of 32 bits reads is `number_of`
pub number-read : (E : Type 0) (text : Text) (r : Option ℕ) → ReadsOne {E = E} (ParsesUnsigned 32 10) text r → r ≡ number_of text
number-read E text (Some n) h =
    let ds = without_leading_plus text in
    rw (lt-ltb 0 (length ds) h.0.0.0, digits-pass ds h.0.0.1, lt-ltb (digits_value 10 ds) (2 ^ 32) h.0.1, h.1) refl
number-read E text None h = go (is_small (without_leading_plus text)) refl
  where
    go : (b : Bool) → is_small (without_leading_plus text) ≡ b → None ≡ number_of text
    go false t = rw t refl
    go true t =
        let outer = both _ _ t in
        let inner = both _ _ outer.0 in
        absurd (h.1 ((ltb-true _ _ inner.0, digits-from (without_leading_plus text) inner.1), ltb-true _ _ outer.1))

-- and `number_of` is what such a type reads
number-reads : (text : Text) → ReadsOne {E = Unit {0}} (ParsesUnsigned 32 10) text (number_of text)
number-reads text = go (is_small (without_leading_plus text)) refl
  where
    passes : IsNumeral 10 (without_leading_plus text) × (digits_value 10 (without_leading_plus text) < 2 ^ 32) → is_small (without_leading_plus text) ≡ true
    passes small =
        let ds = without_leading_plus text in
        rw (lt-ltb 0 (length ds) small.0.0, digits-pass ds small.0.1, lt-ltb (digits_value 10 ds) (2 ^ 32) small.1) refl

    go : (b : Bool) → is_small (without_leading_plus text) ≡ b → ReadsOne {E = Unit {0}} (ParsesUnsigned 32 10) text (if b then Some (digits_value 10 (without_leading_plus text)) else None)
    go true t =
        let outer = both _ _ t in
        let inner = both _ _ outer.0 in
        (((ltb-true _ _ inner.0, digits-from (without_leading_plus text) inner.1), ltb-true _ _ outer.1), refl)
    go false t = (tt, λ small. absurd (true≢false (sym (passes small) ∙ t)))

-- a text that `clap` takes for a number in a range is read as one
pub number-in_range : (low high : ℕ) → high < 2 ^ 32 → (text : Text) → accepts false (Signed (pos low) (pos high)) text ≡ true
    → (n : ℕ) × (number_of (without_minus text) ≡ Some n) × (low ≤ n) × (n ≤ high)
number-in_range low high fits text passed =
    signed_reads (Unit {0}) (ParsesUnsigned 32 10) 32 low high text (number_of (without_minus text)) (number-reads (without_minus text)) (λ u x g. g) fits
    (accepts-Accepts false (Signed (pos low) (pos high)) text passed)
