-- What the query found is a packed walk, and what stands for it is cheapest.
use Rattle.path_unpack.proofs.walks.cheapest_from.Goals as goal

pub unpack-requires-clause-packed : goal.unpack-requires-clause-packed
unpack-requires-clause-packed g c =
    let found = rw c.in-Some.is at c.in_ok-cheapest.ensures in
    (c.args.starts.now, found.0, c.in-Some.nearest.cost, found.2.leads)

pub returns-in_ok-walk-in-Some : goal.returns-in_ok-walk-in-Some
returns-in_ok-walk-in-Some g c =
    let found = rw c.in-Some.is at c.in_ok-cheapest.ensures in
    rw c.of.ensures (
      found.0,
      found.1,
      record {
        leads = c.in_ok-walk-in-Some.ensures c.args.starts.now found.0 c.in-Some.nearest.cost (λ s h. g.met.C.Cost.laws.units_valid s.cost 1 (c.requires.starts s h).1) found.2.leads;
        least = found.2.least;
      },
      found.3,
    )
