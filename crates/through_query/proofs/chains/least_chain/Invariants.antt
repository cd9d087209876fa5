use Rattle.std.proofs.Common.{◌^◌, ◌<◌, length, take}
use Rattle.through_query.specs.Chains.{HasChain}
use Rattle.through_query.specs.Layers.{AreSumsWithin}
use Rattle.through_query.proofs.OneMore.{StandsFor}
use Rattle.through_query.proofs.Standing.{IsLast}
use Rattle.through_query.proofs.chains.least_chain.Given as goal

-- the sums stand for the legs so far, and the last state is the least of them
abbrev pub invariant-loop-number : goal.invariant-loop-number
invariant-loop-number l = record {
  stands : StandsFor l.legs l.number l.sums.items l.befores.items;
  room : AreSumsWithin l.number l.sums.items;
  few : length l.sums.items < 2 ^ 32;
  chain : HasChain (take l.number l.legs);
  last : 0 < l.number → IsLast l.sums.items l.last;
}
