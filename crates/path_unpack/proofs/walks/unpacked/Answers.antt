-- What the query found is a packed walk, and what stands for it is cheapest.
use Rattle.path_unpack.proofs.walks.unpacked.Goals as goal

pub unpack-requires-clause-packed : goal.unpack-requires-clause-packed
unpack-requires-clause-packed g c =
    let least = rw c.in-Some.is at c.requires.answer.1 in
    (c.args.starts.now, c.args.target, c.in-Some.found.cost, least.leads)

pub returns-in_ok-walk-in-Some : goal.returns-in_ok-walk-in-Some
returns-in_ok-walk-in-Some g c =
    let least = rw c.in-Some.is at c.requires.answer.1 in
    rw c.of.ensures (record {
      leads = c.in_ok-walk-in-Some.ensures c.args.starts.now c.args.target c.in-Some.found.cost (λ s h. g.met.C.Cost.laws.units_valid s.cost 1 (c.requires.starts s h)) least.leads;
      least = least.least;
    })
