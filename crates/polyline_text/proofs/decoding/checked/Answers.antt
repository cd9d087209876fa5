use Rattle.std.proofs.Common.{ap, sym, ◌∙◌, Ok, ℤ, ℕ, to_z-of_z, subst, w32, w64}
use Rattle.std.specs.Prelude.{FitsSigned}
use Rattle.polyline_text.proofs.Reading.{checked-fits, checked-leaves}
use Rattle.polyline_text.proofs.decoding.checked.Goals as goal

pub returns-in-Ok-clause-value : goal.returns-in-Ok-clause-value
returns-in-Ok-clause-value c =
    let same = to_z-of_z {w = w64} {z = c.args.sum} c.ranges.sum in
    let fits = subst (FitsSigned w32) same c.in-Ok.ensures.0 in
    let next_is = c.in-Ok.ensures.1 ∙ same in
    let kept = to_z-of_z {w = w32} {z = c.in-Ok.next} (subst (FitsSigned w32) (sym next_is) fits) in
    ap (λ (z : ℤ). Ok (z, c.args.taken)) (kept ∙ next_is) ∙ sym (checked-fits c.args.sum c.args.taken fits)

pub returns-in-Err-clause-value : goal.returns-in-Err-clause-value
returns-in-Err-clause-value c =
    let same = to_z-of_z {w = w64} {z = c.args.sum} c.ranges.sum in
    sym (checked-leaves c.args.sum c.args.taken (λ fits. c.in-Err.ensures (subst (FitsSigned w32) (sym same) fits)))
