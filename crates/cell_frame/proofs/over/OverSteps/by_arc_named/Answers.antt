-- Out of a part the hop is by the arc that its name names.
use Rattle.std.proofs.Common.{◌≡◌, ◌≤◌, ℕ, length, sym, ◌∙◌, ap, subst, arith}
use Rattle.search_graph.specs.Digraph.{IsArc, IsOpen}
use Rattle.cell_frame.specs.Parts.{ShareCell}
use Rattle.cell_frame.specs.PartSpace.{NamesArc}
use Rattle.cell_frame.proofs.Crossed.{across_arc, if_some}
use Rattle.cell_frame.proofs.over.OverSteps.by_arc_named.Goals as goal

pub returns-in-Some-clause-some : goal.returns-in-Some-clause-some
returns-in-Some-clause-some g c =
    let s = c.args.self.now in
    let f = s.frame.now in
    let level = g.P.Parts.level s.parts.now f in
    let high : level c.args.v ≤ length f.cells.levels = omega (arith, c.known-2.ensures.high c.args.v, c.known-2.ensures.most) in
    let named = c.requires.named in
    if_some _ _ c.across.result c.across.ensures.some (λ h r.
    let k = across_arc f c.known.ensures level c.args.v c.args.i high c.requires.vertex c.in-Some.ensures.whole named.0 named.1 r.0 r.3 in
    let back : r.0.head ≡ h.head = sym r.4 in
    (r.0.arc, r.1, r.2, subst (λ (n : ℕ). NamesArc f level c.args.v c.args.i n) (sym k.0) named.1, subst (IsArc f.graph r.0.arc c.args.v) back k.1, r.5, subst (λ (n : ℕ). IsOpen s.weights.now n r.2) back r.6, r.7, subst (λ (n : ℕ). g.P.Parts.within s.parts.now f n) back r.8, subst (λ (n : ℕ). ¬ ShareCell f.cells level c.args.v n) back k.2))
