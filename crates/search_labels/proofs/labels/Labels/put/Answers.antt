-- One slot is written, with a word for the cost.
use Rattle.std.proofs.Common.{refl}
use Rattle.search_labels.specs.Worded.{read_slots}
use Rattle.search_labels.specs.declared.labels.Slot.TheVariants.{Labelled}
use Rattle.search_labels.proofs.Rewritten.{label_written, settled_stays}
use Rattle.search_labels.proofs.Wording.{label_put, AreWorded-same, AreWorded-grown, AreWorded-put}
use Rattle.search_labels.proofs.labels.Labels.put.Goals as goal

pub invariant_of-self : goal.invariant_of-self
invariant_of-self g c = AreWorded-grown c.self.inside.others.items c.self.inside.slots c.self.invariant c.word_of.ensures.grown.0 c.word_of.new.others.items c.word_of.ensures.grown.1 c.word_of.ensures.few

pub invariant_of-self-in_err-put : goal.invariant_of-self-in_err-put
invariant_of-self-in_err-put g c =
    let grown = AreWorded-grown c.self.inside.others.items c.self.inside.slots c.self.invariant c.word_of.ensures.grown.0 c.word_of.new.others.items c.word_of.ensures.grown.1 c.word_of.ensures.few in
    AreWorded-same c.word_of.new.others.items c.self.inside.slots grown c.put.new.self c.in_err-put.ensures.same

pub invariant_of-self-2 : goal.invariant_of-self-2
invariant_of-self-2 g c =
    AreWorded-put c.self.inside.others.items c.self.inside.slots c.self.invariant c.word_of.ensures.grown.0 c.word_of.new.others.items c.put.new.self
    c.args.v c.in_ok-cost.cost c.args.label.node c.word_of.ensures.grown.1 c.word_of.ensures.few c.in_ok-put.ensures.put c.in_ok-cost.ensures.named

pub returns-clause-label : goal.returns-clause-label
returns-clause-label g c =
    let put = label_put g.C.Cost.unranked c.self.inside.others.items c.self.inside.slots c.args.self.now c.self.view_is c.word_of.ensures.grown.0 c.word_of.new.others.items c.put.new.self
    c.args.v c.in_ok-cost.cost c.args.label.node c.args.label c.self.invariant c.word_of.ensures.grown.1 c.in_ok-put.ensures.put c.in_ok-cost.ensures.value refl in
    label_written c.args.self.now (read_slots g.C.Cost.unranked c.word_of.new.others.items c.put.new.self) c.args.v (Labelled c.args.label.node c.args.label.cost) put

pub returns-clause-settled : goal.returns-clause-settled
returns-clause-settled g c =
    let put = label_put g.C.Cost.unranked c.self.inside.others.items c.self.inside.slots c.args.self.now c.self.view_is c.word_of.ensures.grown.0 c.word_of.new.others.items c.put.new.self
    c.args.v c.in_ok-cost.cost c.args.label.node c.args.label c.self.invariant c.word_of.ensures.grown.1 c.in_ok-put.ensures.put c.in_ok-cost.ensures.value refl in
    settled_stays c.args.self.now (read_slots g.C.Cost.unranked c.word_of.new.others.items c.put.new.self) c.args.v (Labelled c.args.label.node c.args.label.cost) put c.requires
