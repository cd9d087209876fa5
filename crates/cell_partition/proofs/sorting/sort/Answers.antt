use Rattle.std.proofs.Common.{◌≡◌, rules}
use Rattle.std.specs.Ordering.{is_lt}
use Rattle.std.proofs.lemmas.Fn.{always_returns_same}
use Rattle.cell_partition.specs.declared.spot.Axis.TheVariants.{Longitude, Latitude}
use Rattle.cell_partition.specs.Spots.{comes_before}
use Rattle.cell_partition.proofs.Orders.{before_order}
use Rattle.cell_partition.proofs.sorting.sort.Goals as goal

pub returns-in-Longitude-clause-in_order : goal.returns-in-Longitude-clause-in_order
returns-in-Longitude-clause-in_order c =
    rw c.in-Longitude.is
    (c.sort_unstable_by.ensures.sorted (comes_before Longitude) (before_order Longitude) (always_returns_same _ (λ a r. is_lt r ≡ comes_before Longitude a.0.now a.1.0.now) _ (λ a r q k. search rules)))

pub returns-in-Latitude-clause-in_order : goal.returns-in-Latitude-clause-in_order
returns-in-Latitude-clause-in_order c =
    rw c.in-Latitude.is
    (c.sort_unstable_by-in-Latitude.ensures.sorted (comes_before Latitude) (before_order Latitude) (always_returns_same _ (λ a r. is_lt r ≡ comes_before Latitude a.0.now a.1.0.now) _ (λ a r q k. search rules)))
