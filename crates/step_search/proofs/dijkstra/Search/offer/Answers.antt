-- A label that improves goes to a vertex that isn't settled, and any other is left.
use Rattle.std.proofs.Common.{◌≡◌, false, refl}
use Rattle.search_labels.specs.Labelled.{label_of, settled_of}
use Rattle.step_search.specs.Stepping.Offers.{left, put}
use Rattle.step_search.proofs.Offered.{unsettled_if_improved}
use Rattle.step_search.proofs.dijkstra.Search.offer.Goals as goal

pub put-requires : goal.put-requires
put-requires g c =
    unsettled_if_improved g.met.C.Cost.laws (label_of c.args.self.now.labels) (settled_of c.args.self.now.labels) c.args.hop.head c.plus.result (rw (← c.plus.ensures) at c.requires.fixed) c.if-is_within.ensures.no

pub returns-then-is_within-clause-offers : goal.returns-then-is_within-clause-offers
returns-then-is_within-clause-offers g c = rw (← c.plus.ensures) (left refl refl c.if-is_within.ensures.yes)

pub returns-clause-offers : goal.returns-clause-offers
returns-clause-offers g c =
    let unsettled : settled_of c.args.self.now.labels c.args.hop.head ≡ false = unsettled_if_improved g.met.C.Cost.laws (label_of c.args.self.now.labels) (settled_of c.args.self.now.labels) c.args.hop.head c.plus.result (rw (← c.plus.ensures) at c.requires.fixed) c.if-is_within.ensures.no in
    rw (← c.plus.ensures) (put c.in_ok-put.ensures.label c.in_ok-put.ensures.queue unsettled c.if-is_within.ensures.no)
