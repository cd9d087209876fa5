-- The arcs between cells, by their names out of a vertex.
use Rattle.std.proofs.Common.{◌≡◌, ℕ, ◌<◌, ◌≤◌, inl, inr, List, length, Option, Some, None, IfSome, refl, sym, ◌∙◌, ap, subst, arith, rules}
use Rattle.std.specs.List.{Contains, slice_get}
use Rattle.std.proofs.lemmas.Option.{same_Some}
use Rattle.search_graph.specs.Digraph.{IsArc}
use Rattle.step_search.specs.declared.hops.Hop.{Hop}
use Rattle.cell_frame.specs.declared.crossings.Crossing.{Crossing}
use Rattle.cell_frame.specs.Borders.{Framed, IsFramed, leaving_at}
use Rattle.cell_frame.specs.Parts.{ShareCell}
use Rattle.cell_frame.specs.PartSpace.{NamesArc}

-- what is so of a value, where there is one
pub if_some : {A : Type 0} (P Q : A → Type 0) (o : Option A) → IfSome o P → ((x : A) → P x → Q x) → IfSome o Q
if_some P Q None h f = tt
if_some P Q (Some x) h f = f x h

pub none_some : {A : Type 0} (x : A) → ¬ (None ≡ Some x)
none_some x e = search rules

-- hops with the same head and cost
abbrev pub hop_of : {C : Type 0} → ℕ → C → Hop C
hop_of head cost = record { head = head; cost = cost }

pub same_hop : {C : Type 0} (m n : ℕ) (s t : C) → m ≡ n → s ≡ t → Some (hop_of m s) ≡ Some (hop_of n t)
same_hop {C} m n s t e f = ap (λ (h : ℕ). Some (hop_of h s)) e ∙ ap (λ (c : C). Some (hop_of n c)) f

module _ (f : Framed) (framed : IsFramed f) (level : ℕ → ℕ) (u i : ℕ) (high : level u ≤ length f.cells.levels) (lt : u < f.graph.vertices) (some : 1 ≤ level u) where
  -- a place among the arcs from the vertex to other cells names the arc there
  pub names_across : (at : ℕ) → at ≡ level u → Contains (leaving_at f at u) i → (arc : ℕ) × NamesArc f level u i arc × ((w : ℕ) × IsArc f.graph arc u w)
  names_across at is h =
      let here : Contains (leaving_at f (level u) u) i = subst (λ (l : ℕ). Contains (leaving_at f l u) i) is h in
      let c = framed.out (level u) u i some high lt here in
      (c.0.arc, inr (some, c.0, here, c.1, refl), (c.0.head, c.2))

  module _ (arc : ℕ) (names : NamesArc f level u i arc) where
    -- and what a name names stands there
    pub named_across : Contains (leaving_at f (level u) u) i × ((c : Crossing) × (slice_get f.crossings i ≡ Some c) × (c.arc ≡ arc))
    named_across = elim names [
      | inl p ↦ let zero : level u ≡ 0 = p.0 in absurd (omega arith)
      | inr p ↦ (p.2, (p.1, p.3, p.4))
    ]

    pub across_arc : (c : Crossing) → slice_get f.crossings i ≡ Some c → (c.arc ≡ arc) × IsArc f.graph c.arc u c.head × (¬ ShareCell f.cells level u c.head)
    across_arc c at =
        let n = named_across in
        let same : n.1.0 ≡ c = same_Some n.1.0 c (sym n.1.1 ∙ at) in
        let out = framed.out (level u) u i some high lt n.0 in
        let here : out.0 ≡ c = same_Some out.0 c (sym out.1 ∙ at) in (
          sym (ap (λ (x : Crossing). x.arc) same) ∙ n.1.2,
          subst (λ (x : Crossing). IsArc f.graph x.arc u x.head) here out.2,
          λ share. subst (λ (x : Crossing). ¬ ShareCell f.cells level u x.head) here (λ s. out.3 (s.1.1 ∙ sym s.2.1)) share,
        )
