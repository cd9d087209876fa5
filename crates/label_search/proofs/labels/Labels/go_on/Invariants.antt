-- Nothing is held back between two turns.
use Rattle.label_search.specs.Labelled.{IsFront, Nothing}
use Rattle.label_search.proofs.labels.Labels.go_on.Given as goal

abbrev pub invariant-loop : goal.invariant-loop
invariant-loop g l = record {
  front : IsFront g.C.Cost.ops (g.T.Steps.space l.ground.steps.now) l.start l.self.list l.self.frontier Nothing;
}
