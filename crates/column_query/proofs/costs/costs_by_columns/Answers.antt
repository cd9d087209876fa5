-- The starts' vertices are those of the parts.
use Rattle.std.proofs.Common.{◌∙◌}
use Rattle.column_query.proofs.Asking.{start_in, vertices_below}
use Rattle.column_query.proofs.costs.costs_by_columns.Goals as goal

pub known-requires : goal.known-requires
known-requires g c = vertices_below c.args.starts.now _ (c.deref.ensures.value ∙ c.in_ok-vertices.ensures) c.args.forward.now.frame.now.graph.vertices (λ s h. (c.requires.starts s h).0)

pub known-requires-2-clause-parts : goal.known-requires-2-clause-parts
known-requires-2-clause-parts g c = vertices_below c.args.starts.now _ (c.deref.ensures.value ∙ c.in_ok-vertices.ensures) c.args.forward.now.frame.now.graph.vertices (λ s h. (c.requires.starts s h).0)

pub costs_over-requires-clause-ready : goal.costs_over-requires-clause-ready
costs_over-requires-clause-ready g c =
    let are = c.deref.ensures.value ∙ c.in_ok-vertices.ensures in
    record {
      framed = c.known-2.ensures.framed;
      small = c.requires.weights;
      exact = c.requires.cliques;
      lawful = c.known-2.ensures.lawful;
      high = c.known.ensures.high;
      inside = vertices_below c.args.starts.now _ are c.args.forward.now.frame.now.graph.vertices (λ s h. (c.requires.starts s h).0);
      alone = c.alone.ensures;
      starts_in = start_in c.args.starts.now _ are;
      starts_below = λ s h. (c.requires.starts s h).0;
      starts_unit = λ s h. (c.requires.starts s h).1;
    }
