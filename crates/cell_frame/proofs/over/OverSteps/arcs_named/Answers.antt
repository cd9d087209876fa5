-- Out of a vertex that is alone the arcs have their own names, and out of a part those of the arcs to other cells.
use Rattle.std.proofs.Common.{◌≡◌, ◌≤◌, ℕ, inl, inr, length, refl, sym, ◌∙◌, ap, subst, arith}
use Rattle.std.specs.List.{Contains}
use Rattle.search_graph.specs.Digraph.{Digraph, IsArc, Leaves}
use Rattle.cell_frame.specs.declared.cells.Cell.{Cell}
use Rattle.cell_frame.proofs.Crossed.{names_across}
use Rattle.cell_frame.proofs.over.OverSteps.arcs_named.Goals as goal

pub returns-in-None-clause-named : goal.returns-in-None-clause-named
returns-in-None-clause-named g c = λ i h. (i, inl (c.in-None.ensures.none, refl), subst (λ (d : Digraph). Leaves d i c.args.v) c.graph.ensures ((c.out.ensures.leaves i).0 h))

pub returns-in-None-clause-all : goal.returns-in-None-clause-all
returns-in-None-clause-all g c = λ i w s h. elim h.3 [
  | inl p ↦ (c.out.ensures.leaves i).1 (subst (λ (d : Digraph). Leaves d i c.args.v) (sym c.graph.ensures) (w, subst (λ (n : ℕ). IsArc c.args.self.now.frame.now.graph n c.args.v w) (sym p.1) h.4))
  | inr p ↦ absurd (omega (arith, p.0, c.in-None.ensures.none))
]

pub returns-in-Some-clause-named : goal.returns-in-Some-clause-named
returns-in-Some-clause-named g c = λ i h.
    let s = c.args.self.now in
    let f = s.frame.now in
    let level = g.P.Parts.level s.parts.now f in
    let high : level c.args.v ≤ length f.cells.levels = omega (arith, c.known-2.ensures.high c.args.v, c.known-2.ensures.most) in
    names_across f c.known.ensures level c.args.v i high c.requires.vertex c.in-Some.ensures.whole c.in-Some.part.level (ap (λ (k : Cell). k.level) c.in-Some.ensures.some) (rw c.leaving.ensures at h)
