-- One level more is told behind the others.
use Rattle.std.proofs.Common.{◌++◌, ◌∷◌, [], List, append_assoc, arith, ◌∙◌, ap}
use Rattle.cell_frame.specs.declared.crossings.Crossing.{Crossing}
use Rattle.cell_frame.specs.declared.spots.Tell.{Tell}
use Rattle.cell_frame.proofs.Known.{AreArcs-more, AreTells-push}
use Rattle.cell_frame.proofs.spots.push_tells.Goals as goal

pub loop-below-preserved : goal.loop-below-preserved
loop-below-preserved c =
    let cut = c.args.cut.now in
    let known = c.args.known.now in
    let before = c.loop-below.invariant in
    let here = c.in_ok-push_tell.ensures in
    record {
      spots = here.spots ∙ before.spots;
      crossings = (
        before.crossings.0 ++ here.crossings.0,
        here.crossings.1 ∙ ap (λ (cs : List Crossing). cs ++ here.crossings.0) before.crossings.1 ∙ append_assoc known.crossings.items before.crossings.0 here.crossings.0,
        AreArcs-more cut.graph.now before.crossings.0 here.crossings.0 before.crossings.2 here.crossings.2,
      );
      tells = (
        before.tells.0 ++ here.tells.0 ∷ [],
        here.tells.1 ∙ ap (λ (ts : List Tell). ts ++ here.tells.0 ∷ []) before.tells.1 ∙ append_assoc known.tells.items before.tells.0 (here.tells.0 ∷ []),
        AreTells-push cut.graph.now cut.cells.now cut.entries.now c.args.v _ _ here.crossings.0 c.loop-below.below here.tells.0 before.tells.0 here.crossings.1 before.tells.2 here.tells.2,
      );
    }
