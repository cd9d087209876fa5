-- The targets of all columns are those of the lists.
use Rattle.std.proofs.Common.{◌∙◌, List, subst, sym}
use Rattle.std.specs.List.{Contains}
use Rattle.search_graph.specs.declared.ends.Target.{Target}
use Rattle.table_query.specs.Columns.{AreMade}
use Rattle.table_query.proofs.JoinedLists.{joined-inside}
use Rattle.table_query.proofs.tables.table.Goals as goal

pub rows_in_threads-requires-clause-ready : goal.rows_in_threads-requires-clause-ready
rows_in_threads-requires-clause-ready g c κs within =
    let joined = c.deref-2.ensures.value ∙ c.in_ok-all.ensures in
    let same = c.deref.ensures.value ∙ sym c.deref-2.ensures.value in
    record {
      small = c.requires.weights;
      exact = c.requires.cliques;
      joined = joined;
      fit = λ t h.
          let inside = joined-inside c.args.targets.now t (subst (λ (all : List (Target _)). Contains all t) joined h) in
          c.requires.targets inside.0 t inside.1 inside.2;
      made = rw c.deref-3.ensures.value (subst (λ all. AreMade g.C.Cost.ops c.args.overlay.now.frame.now c.args.overlay.now.weights.now all c.in_ok-points.points.items) same c.in_ok-points.ensures);
    }

pub points_for-requires-clause-targets : goal.points_for-requires-clause-targets
points_for-requires-clause-targets g c κs within = λ t h.
    let inside = joined-inside c.args.targets.now t (subst (λ (all : List (Target _)). Contains all t) (c.deref.ensures.value ∙ c.in_ok-all.ensures) h) in
    (c.requires.targets inside.0 t inside.1 inside.2).0
