-- Coordinates without the `.json` at their end.
use Rattle.std.proofs.Common.{◌≡◌, ℕ, ◌-◌, ◌≤◌, Bool, true, false, cond, eqb, List, length, take, codes, Option, Some, None, Bor, sym, ◌∙◌, ap, subst, arith}
use Rattle.std.specs.Option.{MatchOption, unwrap_or}
use Rattle.std.specs.List.{ends_with}
use Rattle.std.specs.Str.{IsCharBoundary}
use Rattle.std.specs.Str.Pattern.{FindsTextSuffix, StripsSuffix}
use Rattle.std.proofs.lemmas.Str.Pattern.{ends_text}
use Rattle.url_read.specs.Target.{without_json}

abbrev json : List ℕ
json = codes ".json"

without_json_case : (s : List ℕ) (ends : Bool) → ends ≡ ends_with eqb s json → without_json s ≡ cond ends (take (length s - 5) s) s
without_json_case s ends h = ap (λ b. cond b (take (length s - 5) s) s) (sym h)

-- what `strip_suffix` leaves, or else the text
pub without_json-stripped : (s : List ℕ) (r : Option (Bor (List ℕ))) (d : Bor (List ℕ)) → MatchOption r (FindsTextSuffix json s None) (λ x. StripsSuffix (FindsTextSuffix json) s x.now) → d.now ≡ s → (unwrap_or r d).now ≡ without_json s
without_json-stripped s None d h same = same ∙ sym (without_json_case s false (ends_text false json s h))
without_json-stripped s (Some x) d h same =
    let five : h.0 ≡ 5 = h.1.0 in
    let fits : h.0 ≤ length s = omega (arith, h.3) in
    let P : ℕ → Type 0 = λ k. IsCharBoundary s (length s - k) in
    h.2
    ∙ ap (λ k. take (length s - k) s) five
    ∙ sym (without_json_case s true (ends_text true json s (h.0, h.1, fits, subst P (sym five) h.1.2)))
