use Rattle.std.proofs.Common.{ℕ, ℤ, ◌+◌, ◌%◌, ◌∙◌, ap, sym, of_z, w32}
use Rattle.geo_integer.specs.Position.{position_of}
use Rattle.metric_make.proofs.BearingLemmas.{bearing-back}
use Rattle.metric_make.proofs.turns.bearing_back.Goals as goal

pub returns-else-from-to : goal.returns-else-from-to
returns-else-from-to c =
    ap (λ (n : ℕ). (n + 180) % 360) c.requires
    ∙ sym (bearing-back (position_of c.args.from) (position_of c.args.to) (λ e. c.if-from-to.false (ap (λ (z : ℤ). of_z w32 z) e)))
