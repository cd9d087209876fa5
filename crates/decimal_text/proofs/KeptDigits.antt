-- The digits that are kept after a point, zeros where none is written.
use Rattle.std.proofs.Common.{◌≡◌, ℕ, zero, suc, ◌-◌, min, List, [], ◌∷◌, ◌++◌, true, length, take, refl, ◌∙◌, ap, ap₂, codes, sym, arith}
use Rattle.std.specs.Char.{is_ascii_digit}
use Rattle.std.specs.List.{list_all}
use Rattle.std.proofs.lemmas.List.{take_min}

nothing_less : (kept : ℕ) → kept - 0 ≡ kept
nothing_less kept = omega arith

none_less : (n : ℕ) → 0 - n ≡ 0
none_less n = omega arith

less_each : (kept n : ℕ) → suc kept - suc n ≡ kept - n
less_each kept n = omega arith

-- the digits that are there, and so many of the others as are lacking
take-append : (kept : ℕ) (fraction others : List ℕ) → take kept (fraction ++ others) ≡ take kept fraction ++ take (kept - length fraction) others
take-append zero [] others = refl
take-append (suc kept) [] others = ap (λ n. take n others) (sym (nothing_less (suc kept)))
take-append zero (d ∷ ds) others = ap (λ n. take n others) (sym (none_less (suc (length ds))))
take-append (suc kept) (d ∷ ds) others =
    ap (λ more. d ∷ more) (take-append kept ds others) ∙ ap (λ n. (d ∷ take kept ds) ++ take n others) (sym (less_each kept (length ds)))

min-turned : (kept size : ℕ) → min kept size ≡ min size kept
min-turned kept size = omega arith

lacking : (kept size : ℕ) → kept - size ≡ kept - min size kept
lacking kept size = omega arith

pub kept_behind : (kept : ℕ) (fraction others : List ℕ) → take kept (fraction ++ others) ≡ take (min (length fraction) kept) fraction ++ take (kept - min (length fraction) kept) others
kept_behind kept fraction others =
    take-append kept fraction others
    ∙ ap₂ (λ (a : List ℕ) n. a ++ take n others) (sym (take_min kept fraction) ∙ ap (λ n. take n fraction) (min-turned kept (length fraction))) (lacking kept (length fraction))

nothing : List ℕ
nothing = []

take-nil : (n : ℕ) → take n nothing ≡ nothing
unfolding nothing
take-nil zero = refl
take-nil (suc n) = refl

pub zeros_are_digits : (n : ℕ) → list_all (λ b. is_ascii_digit b) (take n (codes "000000")) ≡ true
unfolding nothing
zeros_are_digits zero = refl
zeros_are_digits (suc zero) = refl
zeros_are_digits (suc (suc zero)) = refl
zeros_are_digits (suc (suc (suc zero))) = refl
zeros_are_digits (suc (suc (suc (suc zero)))) = refl
zeros_are_digits (suc (suc (suc (suc (suc zero))))) = refl
zeros_are_digits (suc (suc (suc (suc (suc (suc n)))))) = ap (list_all (λ b. is_ascii_digit b)) (take-nil n)
