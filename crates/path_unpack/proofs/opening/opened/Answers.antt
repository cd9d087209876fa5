-- The inside of the cell stands on the cliques below it, and the search begins at the entry, at no cost.
use Rattle.std.proofs.Common.{◌∙◌}
use Rattle.cell_customize.specs.InnerLaws.{one_is}
use Rattle.path_unpack.proofs.opening.opened.Goals as goal

pub known-requires-clause-cliques : goal.known-requires-clause-cliques
known-requires-clause-cliques g c = record { rows = λ k i u at le e. c.requires.overlay.exact.rows k i u at at.1 e; crossing = c.requires.overlay.exact.crossing }

pub opened_over-requires-clause-inner : goal.opened_over-requires-clause-inner
opened_over-requires-clause-inner g c = record {
  framed = c.requires.overlay.framed;
  small = c.requires.overlay.small;
  exact = record { rows = λ k i u at le e. c.requires.overlay.exact.rows k i u at at.1 e; crossing = c.requires.overlay.exact.crossing };
  is_cell = c.requires.shortcut.1.0;
  lawful = c.known.ensures.lawful;
  borders = c.borders.ensures;
}

pub opened_over-requires-clause-starts : goal.opened_over-requires-clause-starts
opened_over-requires-clause-starts g c = c.as_slice.ensures.value ∙ c.in_ok-starts.ensures ∙ one_is c.args.entry g.met.C.Cost.zero_is

pub opened_over-requires-clause-exact : goal.opened_over-requires-clause-exact
opened_over-requires-clause-exact g c = record { rows = λ k i u at le e. c.requires.overlay.exact.rows k i u at at.1 e; crossing = c.requires.overlay.exact.crossing }
