-- Each turn puts a run in place of one hop more.
use Rattle.std.proofs.Common.{get_or, None}
use Rattle.overlay_query.specs.declared.packed.Hop.{Hop}
use Rattle.path_unpack.proofs.Replacing.{AreUpTo-append, turn_leads, turn_stands, turn_ends, left_low}
use Rattle.path_unpack.proofs.refining.refined.Goals as goal

abbrev none : Hop
none = record { to = 0; by = None }

pub push_finer-requires-clause-leads : goal.push_finer-requires-clause-leads
push_finer-requires-clause-leads g c = turn_leads g.met.C.Cost.laws c.args.overlay.now.frame.now c.args.overlay.now.weights.now c.requires.overlay.small c.args.first c.loop-hop.at c.args.hops.now c.loop-hop.finer.items c.loop-hop.hop-index none c.loop-hop-test.true c.loop-hop.invariant.at c.requires.leads c.loop-hop.invariant.stand

pub loop-hop-preserved : goal.loop-hop-preserved
loop-hop-preserved g c =
    let f = c.args.overlay.now.frame.now in
    let w = c.args.overlay.now.weights.now in
    let is = c.in_ok-push_finer.ensures.1 in
    let opens = c.in_ok-push_finer.ensures.2 in
    let lt = c.loop-hop-test.true in
    let at = c.loop-hop.invariant.at in
    let by = turn_leads g.met.C.Cost.laws f w c.requires.overlay.small c.args.first c.loop-hop.at c.args.hops.now c.loop-hop.finer.items c.loop-hop.hop-index none lt at c.requires.leads c.loop-hop.invariant.stand in
    record {
      at = rw is (turn_ends g.met.C.Cost.laws f w c.requires.overlay.small c.args.first c.loop-hop.at c.loop-hop.finer.items c.in_ok-push_finer.ensures.0 (get_or c.args.hops.now c.loop-hop.hop-index none) at opens by);
      stand = rw is (turn_stands g.met.C.Cost.laws f w c.requires.overlay.small c.args.first c.loop-hop.at c.args.hops.now c.loop-hop.finer.items c.in_ok-push_finer.ensures.0 c.loop-hop.hop-index none lt at opens c.loop-hop.invariant.stand);
      low = rw is (AreUpTo-append _ c.loop-hop.finer.items c.in_ok-push_finer.ensures.0 c.loop-hop.invariant.low c.in_ok-push_finer.ensures.3);
      left = (left_low c.args.level c.args.hops.now c.loop-hop.hop-index none lt c.loop-hop.invariant.left).1;
    }
