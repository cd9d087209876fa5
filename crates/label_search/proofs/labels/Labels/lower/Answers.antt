-- A label that is put is less than the one before.
use Rattle.std.proofs.Common.{ℕ, ◌<◌, List, inl, inr, length, refl, sym, subst}
use Rattle.std.specs.List.{Contains}
use Rattle.label_search.proofs.Labelling.{Offers-put, end_from_none, nothing}
use Rattle.label_search.proofs.labels.Labels.lower.Goals as goal

pub returns-then-is_empty : goal.returns-then-is_empty
returns-then-is_empty g c =
    let S = g.T.Steps.space c.args.ground.now.steps.now in
    let within : c.args.v < length c.args.self.now.list = subst (λ (n : ℕ). c.args.v < n) (sym c.requires.size) c.requires.vertex in
    let none = c.is_empty.ensures.0 c.if-is_empty.true in
    rw c.put.ensures (Offers-put g.met.C.Cost.laws S c.args.self.now.list c.args.self.now.frontier c.args.self.now.frontier c.args.v c.args.cost within c.requires.less
    (inr (end_from_none S c.requires.alone c.args.v (λ i w s arc. nothing i (subst (λ (xs : List ℕ). Contains xs i) none (c.arcs.ensures.all i w s arc))))) (λ x ne h. h))

pub returns : goal.returns
returns g c =
    let within : c.args.v < length c.args.self.now.list = subst (λ (n : ℕ). c.args.v < n) (sym c.requires.size) c.requires.vertex in
    rw c.put.ensures (Offers-put g.met.C.Cost.laws (g.T.Steps.space c.args.ground.now.steps.now) c.args.self.now.list c.args.self.now.frontier c.push.new.self c.args.v c.args.cost within c.requires.less
    (inl c.in_ok-push.ensures.there) c.in_ok-push.ensures.stays)
