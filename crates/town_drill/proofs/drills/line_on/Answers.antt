-- There are sixteen trips, and the line is on those under the metric of this number.
use Rattle.std.proofs.Common.{◌≤◌, ◌∙◌, List, ap, length, subst, sym}
use Rattle.customized.specs.Exact.{Customized}
use Rattle.town_drill.specs.Drill.{line_text}
use Rattle.town_drill.specs.declared.trips.Trip.{Trip}
use Rattle.town_drill.proofs.TripLemmas.{line-on, trip-count}
use Rattle.town_drill.proofs.drills.line_on.Goals as goal

pub line-requires : goal.line-requires
line-requires g c =
    subst (λ (trips : List Trip). length trips ≤ 16) (sym c.deref.ensures.value)
    (trip-count c.under-under.result.road c.args.n c.args.number c.in_ok-trips.trips.items c.in_ok-trips.ensures)

pub returns : goal.returns
returns g c =
    line-on c.args.roads.now.network c.args.n c.args.number c.under-under.result.road c.in_ok-trips.trips.items _
    (ap (λ (m : Customized). m.road) (c.under-under.ensures ∙ c.in_ok-metric.ensures))
    c.in_ok-trips.ensures
    (c.in_ok-text.ensures ∙ ap (λ (trips : List Trip). line_text c.args.number trips) c.deref.ensures.value)
