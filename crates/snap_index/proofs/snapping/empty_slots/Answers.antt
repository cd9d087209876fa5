use Rattle.std.proofs.Common.{◌∷◌, [], ap, arith, length, length-append, refl, List, subst, sym}
use Rattle.std.specs.Prelude.{None, Option}
use Rattle.std.specs.List.{AllByRecursion}
use Rattle.snap_index.specs.Candidates.{IsEmptySlot}
use Rattle.snap_index.specs.declared.candidates.Candidate.{Candidate}
use Rattle.snap_index.proofs.SlotLemmas.{all-push}
use Rattle.snap_index.proofs.snapping.empty_slots.Goals as goal

pub loop-preserved : goal.loop-preserved
loop-preserved c = record {
  count = let one : List (Option Candidate) = None ∷ [] in let e = ap length c.in_ok-push.ensures.items in let m = length-append c.loop.slots.items one in omega (arith, e, m);
  empty = subst (λ (l : List (Option Candidate)). AllByRecursion IsEmptySlot l) (sym c.in_ok-push.ensures.items) (all-push IsEmptySlot c.loop.slots.items _ c.loop.invariant.empty refl);
}
