-- The cost that the word of the slot stands for is that of the label.
use Rattle.std.proofs.Common.{sym, subst}
use Rattle.std.specs.Bool.{OnTrue}
use Rattle.search_graph.specs.Costs.{NoDearer}
use Rattle.search_labels.specs.Labelled.{label_of}
use Rattle.search_labels.specs.Worded.{cost_at, read_label}
use Rattle.search_labels.specs.declared.labels.Slot.TheVariants.{Labelled, Settled}
use Rattle.search_labels.proofs.Wording.{label_read, OnTrue-LabelWithin}
use Rattle.search_labels.proofs.labels.Labels.is_within.Goals as goal

pub returns-in-Labelled-clause-yes : goal.returns-in-Labelled-clause-yes
returns-in-Labelled-clause-yes g c =
    let label = read_label g.C.Cost.unranked c.self.inside.others.items c.in-Labelled.node c.in-Labelled.word in
    let is = label_read g.C.Cost.unranked c.self.inside.others.items c.self.inside.slots c.args.self.now c.self.view_is c.args.v (Labelled c.in-Labelled.node c.in-Labelled.word) (sym c.in-Labelled.ensures) in
    OnTrue-LabelWithin g.C.Cost.ops (label_of c.args.self.now) c.args.v c.args.cost label is c.is_within.result
    (subst (λ others. OnTrue c.is_within.result (NoDearer g.C.Cost.ops (cost_at g.C.Cost.unranked others c.in-Labelled.word) c.args.cost)) c.as_slice.ensures.value c.is_within.ensures.yes)

pub returns-in-Settled-clause-yes : goal.returns-in-Settled-clause-yes
returns-in-Settled-clause-yes g c =
    let label = read_label g.C.Cost.unranked c.self.inside.others.items c.in-Settled.node c.in-Settled.word in
    let is = label_read g.C.Cost.unranked c.self.inside.others.items c.self.inside.slots c.args.self.now c.self.view_is c.args.v (Settled c.in-Settled.node c.in-Settled.word) (sym c.in-Settled.ensures) in
    OnTrue-LabelWithin g.C.Cost.ops (label_of c.args.self.now) c.args.v c.args.cost label is c.is_within-in-Settled.result
    (subst (λ others. OnTrue c.is_within-in-Settled.result (NoDearer g.C.Cost.ops (cost_at g.C.Cost.unranked others c.in-Settled.word) c.args.cost)) c.as_slice-in-Settled.ensures.value c.is_within-in-Settled.ensures.yes)
