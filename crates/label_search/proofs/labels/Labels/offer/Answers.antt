-- What improves on the label that stands there is less than it.
use Rattle.std.proofs.Common.{Some, sym, ◌∙◌}
use Rattle.std.proofs.lemmas.Option.{same_Some}
use Rattle.label_search.proofs.labels.Labels.offer.Goals as goal

pub lower-requires-clause-less : goal.lower-requires-clause-less
lower-requires-clause-less g c = λ d e. c.if-not-improves.ensures.yes d (same_Some c.get.result (Some d) (sym c.get.ensures ∙ e))
