-- Whole digits, those after the point and zeros for absent ones make one number.
use Rattle.std.proofs.Common.{◌≡◌, ℕ, ◌-◌, List, ◌++◌, take, min, sym, ◌∙◌, ap, ap₂, codes}
use Rattle.std.specs.Char.{is_ascii_digit}
use Rattle.std.specs.List.{list_all}
use Rattle.std.specs.Str.Parse.{digits_value_after}
use Rattle.decimal_text.proofs.Appending.{three_runs}
use Rattle.decimal_text.proofs.KeptDigits.{kept_behind, zeros_are_digits}
use Rattle.decimal_text.proofs.decimals.joined.Goals as goal

pub append_digits-requires-clause-are_digits :
    goal.append_digits-requires-clause-are_digits
append_digits-requires-clause-are_digits c =
    ap (list_all (λ b. is_ascii_digit b)) c.split_at-2.ensures.front ∙ zeros_are_digits _

pub returns : goal.returns
returns c =
    let whole = c.args.whole.now in
    let fraction = c.args.fraction.now in
    let kept = c.args.kept in
    let present : List ℕ = c.split_at.result.0.now in
    let absent : List ℕ = c.split_at-2.result.0.now in
    let digits : present ++ absent ≡ take kept (fraction ++ codes "000000") =
    ap₂ ◌++◌ (c.split_at.ensures.front ∙ ap (λ n. take n fraction) c.min-written.ensures)
    (c.split_at-2.ensures.front ∙ ap (λ n. take (kept - n) (codes "000000")) c.min-written.ensures)
    ∙ sym (kept_behind kept fraction (codes "000000"))
    in
    three_runs whole present absent c.args.limit _ _ _ c.append_digits-units.ensures c.append_digits-with_present.ensures c.append_digits.ensures
    ∙ ap (λ ds. min (digits_value_after 10 0 (whole ++ ds)) c.args.limit) digits
