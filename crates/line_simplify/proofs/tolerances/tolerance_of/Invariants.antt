use Rattle.std.proofs.Common.{◌≡◌, take}
use Rattle.line_simplify.specs.Simplified.{greatest_of, least_of}
use Rattle.line_simplify.proofs.tolerances.tolerance_of.Given as goal

abbrev pub invariant-loop-point : goal.invariant-loop-point
invariant-loop-point l = record {
  west : l.low.lon ≡ least_of (λ p. p.lon) l.initial.low.lon (take l.point-index l.more);
  east : l.high.lon ≡ greatest_of (λ p. p.lon) l.initial.high.lon (take l.point-index l.more);
  south : l.low.lat ≡ least_of (λ p. p.lat) l.initial.low.lat (take l.point-index l.more);
  north : l.high.lat ≡ greatest_of (λ p. p.lat) l.initial.high.lat (take l.point-index l.more);
}
