-- A fresh search begins at one start after the other.
use Rattle.std.proofs.Common.{[], ◌∷◌, ◌++◌, take, sym, ◌∙◌, ap, subst}
use Rattle.std.specs.List.{Contains}
use Rattle.std.proofs.lemmas.List.{take_more}
use Rattle.step_search.specs.UnderWay.{IsBegun}
use Rattle.step_search.proofs.Advanced.{begun_more, begun_nowhere}
use Rattle.step_search.proofs.dijkstra.Search.begin_all.Goals as goal

pub loop-start-init : goal.loop-start-init
loop-start-init g c = record {
  begun = begun_nowhere g.C.Cost.ops (g.T.Steps.space c.args.steps.now) c.args.starts.now c.args.self.now c.requires.fresh c.requires.space c.requires.starts;
  unsettled = c.requires.fresh.unsettled;
}

pub begin_at-requires-clause-vertex : goal.begin_at-requires-clause-vertex
begin_at-requires-clause-vertex g c = (c.requires.starts c.start-item.result (c.loop-start.start-index, c.loop-start-test.true, sym c.start-item.is)).0

pub loop-start-preserved : goal.loop-start-preserved
loop-start-preserved g c =
    let among : Contains c.args.starts.now c.start-item.result = (c.loop-start.start-index, c.loop-start-test.true, sym c.start-item.is) in
    let more = begun_more g.met.C.Cost.laws (g.T.Steps.space c.args.steps.now) c.args.starts.now c.loop-start.self c.begin_at.new.self c.in_ok-begin_at.ensures.front (take c.loop-start.start-index c.args.starts.now) c.loop-start.invariant.begun c.start-item.result among c.in_ok-begin_at.ensures.begins c.in_ok-begin_at.ensures.rows in
    record {
      begun = subst (λ ss. IsBegun g.C.Cost.ops (g.T.Steps.space c.args.steps.now) c.args.starts.now ss c.begin_at.new.self)
          (ap (λ x. take c.loop-start.start-index c.args.starts.now ++ x ∷ []) c.start-item.is ∙ sym (take_more c.args.starts.now c.loop-start.start-index c.start-item.result c.loop-start-test.true)) more;
      unsettled = λ v. ap (λ f. f v) c.in_ok-begin_at.ensures.begins.grows.settled ∙ c.loop-start.invariant.unsettled v;
    }
