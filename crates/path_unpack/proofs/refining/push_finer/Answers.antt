-- A hop that stays opens to itself.
use Rattle.std.proofs.Common.{◌∷◌, []}
use Rattle.path_unpack.proofs.Replacing.{opens_same, none_low, some_low}
use Rattle.path_unpack.proofs.refining.push_finer.Goals as goal

pub returns-in_ok-push-in-None : goal.returns-in_ok-push-in-None
returns-in_ok-push-in-None g c = (
  c.args.hop ∷ [],
  c.in_ok-push-in-None.ensures.items,
  opens_same g.met.C.Cost.laws c.args.overlay.now.frame.now c.args.overlay.now.weights.now c.requires.overlay.small c.args.at c.args.hop,
  (none_low _ c.args.hop.by c.in-None.is, tt),
)

pub returns-in_ok-push-in-Some : goal.returns-in_ok-push-in-Some
returns-in_ok-push-in-Some g c = (
  c.args.hop ∷ [],
  c.in_ok-push-in-Some.ensures.items,
  opens_same g.met.C.Cost.laws c.args.overlay.now.frame.now c.args.overlay.now.weights.now c.requires.overlay.small c.args.at c.args.hop,
  (some_low c.args.level c.args.hop.by c.in-Some.cell c.in-Some.is c.requires.low c.if-cell-level.false, tt),
)
