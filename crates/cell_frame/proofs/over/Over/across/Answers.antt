-- The cost that stands at the place of the arc is what it costs.
use Rattle.std.proofs.Common.{◌≡◌, ℕ, List, get_or, Some, sym, ◌∙◌, ap, subst}
use Rattle.std.proofs.lemmas.Option.{get_or_from_slice_get, same_Some}
use Rattle.list_lemmas.proofs.Gets.{get_some}
use Rattle.cell_frame.specs.declared.crossings.Crossing.{Crossing}
use Rattle.cell_frame.proofs.Crossed.{same_hop}
use Rattle.cell_frame.proofs.over.Over.across.Goals as goal

pub returns-in-None-clause-all : goal.returns-in-None-clause-all
returns-in-None-clause-all g c = λ k a x at weighs opens within. absurd (c.requires.cliques.crossing.each c.args.i k _ at c.in-None.ensures x opens)

pub returns-in-Some-clause-some : goal.returns-in-Some-clause-some
returns-in-Some-clause-some g c =
    let s = c.args.self.now in
    let f = s.frame.now in
    let k = get_some f.crossings c.args.i c.requires.arc in
    let r = c.requires.cliques.crossing.each c.args.i k.0 _ k.1 c.in-Some.ensures in
    let head = ap (λ (cs : List Crossing). (get_or cs c.args.i (record { arc = 0; head = 0 })).head) c.crossings.ensures ∙ ap (λ (x : Crossing). x.head) (get_or_from_slice_get f.crossings c.args.i k.0 (record { arc = 0; head = 0 }) k.1) in
    (k.0, r.0, r.1, k.1, head, r.2, r.3, r.4, subst (λ (n : ℕ). g.P.Parts.within s.parts.now f n) head c.if-not-within.ensures.yes)

pub returns-in-Some-clause-all : goal.returns-in-Some-clause-all
returns-in-Some-clause-all g c = λ k a x at weighs opens within.
    let s = c.args.self.now in
    let f = s.frame.now in
    let r = c.requires.cliques.crossing.each c.args.i k _ at c.in-Some.ensures in
    let head = ap (λ (cs : List Crossing). (get_or cs c.args.i (record { arc = 0; head = 0 })).head) c.crossings.ensures ∙ ap (λ (y : Crossing). y.head) (get_or_from_slice_get f.crossings c.args.i k (record { arc = 0; head = 0 }) at) in
    let arc = same_Some r.0 a (sym r.2 ∙ weighs) in
    let vertex = same_Some r.1 x (same_Some (Some r.1) (Some x) (sym r.3 ∙ opens)) in
    same_hop _ _ _ _ head (r.4 ∙ ap (λ b. g.C.Cost.ops.plus b r.1) arc ∙ ap (λ b. g.C.Cost.ops.plus a b) vertex)
