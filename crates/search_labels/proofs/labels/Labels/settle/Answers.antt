-- The slot keeps its label, and is settled where it has one and wasn't.
use Rattle.std.proofs.Common.{Some, None}
use Rattle.search_labels.specs.Worded.{read_slots, read_label}
use Rattle.search_labels.proofs.Rewritten.{settling_label, settling_some, settling_none}
use Rattle.search_labels.proofs.Wording.{IfNone-always, label_settled, none_settled, AreWorded-settled}
use Rattle.search_labels.proofs.labels.Labels.settle.Goals as goal

pub invariant_of-self : goal.invariant_of-self
invariant_of-self g c = AreWorded-settled c.self.inside.others.items c.self.inside.slots c.self.invariant c.settle.new.self c.args.v c.settle.result c.settle.ensures.some c.settle.ensures.none

pub invariant_of-self-2 : goal.invariant_of-self-2
invariant_of-self-2 g c = AreWorded-settled c.self.inside.others.items c.self.inside.slots c.self.invariant c.settle.new.self c.args.v c.settle.result c.settle.ensures.some c.settle.ensures.none

pub returns-in_err-label-clause-label : goal.returns-in_err-label-clause-label
returns-in_err-label-clause-label g c =
    let left = none_settled g.C.Cost.unranked c.self.inside.others.items c.self.inside.slots c.args.self.now c.self.view_is c.settle.new.self c.args.v c.in_err-label.ensures.none in
    settling_label c.args.self.now (read_slots g.C.Cost.unranked c.self.inside.others.items c.settle.new.self) c.args.v None tt left

pub returns-in_err-label-clause-none : goal.returns-in_err-label-clause-none
returns-in_err-label-clause-none g c =
    let left = none_settled g.C.Cost.unranked c.self.inside.others.items c.self.inside.slots c.args.self.now c.self.view_is c.settle.new.self c.args.v c.in_err-label.ensures.none in
    IfNone-always _ (settling_none c.args.self.now (read_slots g.C.Cost.unranked c.self.inside.others.items c.settle.new.self) c.args.v None left)

pub returns-clause-label : goal.returns-clause-label
returns-clause-label g c =
    let label = read_label g.C.Cost.unranked c.self.inside.others.items c.in_ok-label.label.node c.in_ok-label.label.cost in
    let settled = label_settled g.C.Cost.unranked c.self.inside.others.items c.self.inside.slots c.args.self.now c.self.view_is c.settle.new.self c.args.v c.in_ok-label.label c.in_ok-label.ensures.some in
    settling_label c.args.self.now (read_slots g.C.Cost.unranked c.self.inside.others.items c.settle.new.self) c.args.v (Some label) settled tt

pub returns-clause-some : goal.returns-clause-some
returns-clause-some g c =
    let label = read_label g.C.Cost.unranked c.self.inside.others.items c.in_ok-label.label.node c.in_ok-label.label.cost in
    let settled = label_settled g.C.Cost.unranked c.self.inside.others.items c.self.inside.slots c.args.self.now c.self.view_is c.settle.new.self c.args.v c.in_ok-label.label c.in_ok-label.ensures.some in
    rw (c.labelled.ensures, c.as_slice.ensures.value) (settling_some c.args.self.now (read_slots g.C.Cost.unranked c.self.inside.others.items c.settle.new.self) c.args.v (Some label) settled)
