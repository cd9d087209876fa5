-- A blank is one byte.
use Rattle.std.proofs.Common.{◌≡◌, get_or, true, rules}
use Rattle.opl_read.specs.Cutting.{is_blank}
use Rattle.opl_read.proofs.FieldLaws.{begins_behind, blank_is_ascii, blank_within}
use Rattle.opl_read.proofs.cutting.past_blanks.Goals as goal

pub range_from-rest-requires : goal.range_from-rest-requires
range_from-rest-requires c =
    let rest = c.loop-rest.rest.now in
    let blank : is_blank (get_or rest 0 0) ≡ true = search rules in
    λ _. begins_behind rest 0 c.loop-rest.invariant.0 (blank_within rest blank) (blank_is_ascii (get_or rest 0 0) blank)
