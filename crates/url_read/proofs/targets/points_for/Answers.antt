-- The size is judged of the points.
use Rattle.std.proofs.Common.{◌≡◌, ℕ, length, subst, arith}
use Rattle.url_read.specs.Refusals.{IsFaultOf, IsRefusalIn}
use Rattle.url_read.specs.Request.{points_for, size_refusal}
use Rattle.url_read.proofs.TooMany.{fault_kept, points_for-refused}
use Rattle.url_read.proofs.targets.points_for.Goals as goal

pub returns-in_err-check_size-clause-refusal : goal.returns-in_err-check_size-clause-refusal
returns-in_err-check_size-clause-refusal c =
    let service = c.args.service.now in
    let degrees = c.args.degrees.now in
    let points = c.in_ok-points.points.items in
    let fault = c.in_err-check_size.field-0.0 in
    let count : c.len.result ≡ length points = omega (arith, c.in_ok-points.points.ok.0) in
    fault_kept (IsFaultOf (points_for service degrees)) fault c.from_residual-in_err-check_size.result
    (points_for-refused service degrees points fault c.in_ok-points.ensures.points (subst (λ (n : ℕ). IsRefusalIn (size_refusal service n) fault) count c.in_err-check_size.ensures.refusal))
    c.from_residual-in_err-check_size.ensures.1
