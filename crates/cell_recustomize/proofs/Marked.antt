-- How marks grow, vertex by vertex and arc by arc.
use Rattle.std.proofs.Common.{◌≡◌, ◌≢◌, ℕ, ◌<◌, ◌⊎◌, inl, inr, Bool, true, List, [], ◌∷◌, ◌++◌, length, Some, sym, ◌∙◌, ap, subst, arith, get_or-set_same, get_or-set_other}
use Rattle.std.specs.List.{slice_get, Contains}
use Rattle.std.proofs.lemmas.Bool.{cases_eq}
use Rattle.std.proofs.lemmas.List.Elements.{Contains-append_cases, Contains-append_left, Contains-append_right}
use Rattle.std.proofs.lemmas.Option.{slice_get_within, same_Some, get_or_from_slice_get}
use Rattle.std.proofs.Math.ListN.{set, length-set}
use Rattle.search_graph.specs.Digraph.{IsArc}
use Rattle.list_lemmas.proofs.Gets.{get_is, get_set, get_Contains}
use Rattle.list_lemmas.proofs.Singles.{Contains_one, only_one}
use Rattle.cell_partition.specs.Partition.{level_at, number_of}
use Rattle.cell_frame.specs.declared.cells.Cell.{Cell}
use Rattle.cell_frame.specs.Borders.{Framed, IsFramed, Holds, IsCell, cell_of}
use Rattle.cell_recustomize.specs.Touched.{IsTouched}
use Rattle.cell_recustomize.specs.Making.{AreMarked}

-- after a write at n
set_here : (marks : List Bool) (n : ℕ) → n < length marks → slice_get (set marks n true) n ≡ Some true
set_here marks n lt = let lt2 : n < length (set marks n true) = omega (arith, length-set marks n true) in get_is (set marks n true) n true lt2 (get_or-set_same marks n true true lt)

-- a mark stays when another is set
set_keeps : (marks : List Bool) (n m : ℕ) → slice_get marks m ≡ Some true → slice_get (set marks n true) m ≡ Some true
set_keeps marks n m e =
    let lt : m < length marks = slice_get_within marks m true e in
    let lt2 : m < length (set marks n true) = omega (arith, length-set marks n true) in
    elim (cases_eq m n) [
      | inl same ↦ subst (λ (i : ℕ). slice_get (set marks n true) i ≡ Some true) (sym same) (set_here marks n (omega (arith, same)))
      | inr apart ↦ get_is (set marks n true) m true lt2 (get_or-set_other marks n m true true apart ∙ get_or_from_slice_get marks m true true e)
    ]

-- nothing is in no list
in_none : {X : Type 0} (x : X) → ¬ Contains [] x
in_none {X} x h = let g = get_Contains [] x h in let lt : g.0 < length {A = X} [] = slice_get_within [] g.0 x g.1 in absurd (omega arith)

module _ (f : Framed) (i j tail head tail2 head2 : ℕ) (same : j ≡ i) (at_j : IsArc f.graph j tail head) (at_i : IsArc f.graph i tail2 head2) where
  ends_same : ◌≡◌ {A = ℕ × ℕ} (tail, head) (tail2, head2)
  ends_same = same_Some {A = ℕ × ℕ} (tail, head) (tail2, head2) (sym at_j ∙ ap (slice_get f.graph.arcs) same ∙ at_i)

  -- one arc has one tail and one head
  tail_same : tail ≡ tail2
  tail_same = ap (λ (q : ℕ × ℕ). q.0) ends_same

  head_same : head ≡ head2
  head_same = ap (λ (q : ℕ × ℕ). q.1) ends_same

module _ (f : Framed) (level : ℕ) where
  -- without changes nothing is marked
  pub AreMarked-none : (marks : List Bool) → length marks ≡ length (level_at f.cells level) → ((n : ℕ) → ¬ (slice_get marks n ≡ Some true)) → AreMarked f [] [] level marks
  AreMarked-none marks size none = record {
    size = size;
    marked = λ n e. absurd (none n e);
    found = λ n low touched. elim touched [
      | inl h ↦ absurd (in_none h.0 h.1)
      | inr h ↦ absurd (in_none h.0 h.3)
    ];
  }

  -- the cell of a vertex holds it
  cell_holds : IsFramed f → (v : ℕ) (k : Cell) → k ≡ cell_of f.cells level v → v < f.graph.vertices → Holds f.cells (record { level = level; number = k.number }) v
  cell_holds framed v k is lt =
      let size : f.cells.vertices ≡ f.graph.vertices = framed.vertices in
      (omega (arith, lt, size), sym (ap (λ (x : Cell). x.number) is))

  cell_low : (v : ℕ) (k : Cell) → k ≡ cell_of f.cells level v → IsCell f.cells k → k.number < length (level_at f.cells level)
  cell_low v k is is_cell = subst (λ (l : ℕ). k.number < length (level_at f.cells l)) (ap (λ (x : Cell). x.level) is) is_cell.2

  module _ (vertices arcs : List ℕ) (marks : List Bool) (marked : AreMarked f vertices arcs level marks) where
    -- one cell more is touched, and marked
    mark_one : (vertices2 arcs2 : List ℕ) (n : ℕ) → n < length (level_at f.cells level) →
        ((m : ℕ) → IsTouched f vertices arcs (record { level = level; number = m }) → IsTouched f vertices2 arcs2 (record { level = level; number = m })) →
        IsTouched f vertices2 arcs2 (record { level = level; number = n }) →
        ((m : ℕ) → IsTouched f vertices2 arcs2 (record { level = level; number = m }) → IsTouched f vertices arcs (record { level = level; number = m }) ⊎ (m ≡ n)) →
        AreMarked f vertices2 arcs2 level (set marks n true)
    mark_one vertices2 arcs2 n low more here less = record {
      size = length-set marks n true ∙ marked.size;
      marked = λ m e. elim (get_set marks n m true true e) [
        | inl q ↦ subst (λ (i : ℕ). IsTouched f vertices2 arcs2 (record { level = level; number = i })) (sym q.0) here
        | inr q ↦ more m (marked.marked m q.1)
      ];
      found = λ m lt touched. elim (less m touched) [
        | inl before ↦ set_keeps marks n m (marked.found m lt before)
        | inr same ↦ subst (λ (i : ℕ). slice_get (set marks n true) i ≡ Some true) (sym same) (set_here marks n (subst (λ (l : ℕ). n < l) (sym marked.size) low))
      ];
    }

    -- the cell of a vertex
    mark_vertex : (v n : ℕ) → n < length (level_at f.cells level) → Holds f.cells (record { level = level; number = n }) v → AreMarked f (vertices ++ v ∷ []) arcs level (set marks n true)
    mark_vertex v n low holds =
        mark_one (vertices ++ v ∷ []) arcs n low
        (λ m touched. elim touched [
          | inl h ↦ inl (h.0, Contains-append_left vertices (v ∷ []) h.0 h.1, h.2)
          | inr h ↦ inr h
        ])
        (inl (v, Contains-append_right vertices (v ∷ []) v (Contains_one v), holds))
        (λ m touched. elim touched [
          | inl h ↦ elim (Contains-append_cases vertices (v ∷ []) h.0 h.1) [
            | inl old ↦ inl (inl (h.0, old, h.2))
            | inr new ↦ inr (sym h.2.1 ∙ ap (number_of (level_at f.cells level)) (only_one v h.0 new) ∙ holds.1)
          ]
          | inr h ↦ inl (inr h)
        ])

    pub AreMarked-vertex : IsFramed f → (v : ℕ) (k : Cell) → k ≡ cell_of f.cells level v → IsCell f.cells k → v < f.graph.vertices → AreMarked f (vertices ++ v ∷ []) arcs level (set marks k.number true)
    AreMarked-vertex framed v k is is_cell lt = mark_vertex v k.number (cell_low v k is is_cell) (cell_holds framed v k is lt)

    -- the cell of both ends of an arc
    mark_arc : (i tail head n : ℕ) → n < length (level_at f.cells level) → IsArc f.graph i tail head → Holds f.cells (record { level = level; number = n }) tail → Holds f.cells (record { level = level; number = n }) head → AreMarked f vertices (arcs ++ i ∷ []) level (set marks n true)
    mark_arc i tail head n low is tail_in head_in =
        mark_one vertices (arcs ++ i ∷ []) n low
        (λ m touched. elim touched [
          | inl h ↦ inl h
          | inr h ↦ inr (h.0, h.1, h.2, Contains-append_left arcs (i ∷ []) h.0 h.3, h.4, h.5, h.6)
        ])
        (inr (i, tail, head, Contains-append_right arcs (i ∷ []) i (Contains_one i), is, tail_in, head_in))
        (λ m touched. elim touched [
          | inl h ↦ inl (inl h)
          | inr h ↦ elim (Contains-append_cases arcs (i ∷ []) h.0 h.3) [
            | inl old ↦ inl (inr (h.0, h.1, h.2, old, h.4, h.5, h.6))
            | inr new ↦ inr (sym h.5.1 ∙ ap (number_of (level_at f.cells level)) (tail_same f i h.0 h.1 h.2 tail head (only_one i h.0 new) h.4 is) ∙ tail_in.1)
          ]
        ])

    pub AreMarked-arc : IsFramed f → (i tail head : ℕ) (k other : Cell) → IsArc f.graph i tail head → k ≡ cell_of f.cells level tail → other ≡ cell_of f.cells level head → k.number ≡ other.number → IsCell f.cells k →
        tail < f.graph.vertices → head < f.graph.vertices → AreMarked f vertices (arcs ++ i ∷ []) level (set marks k.number true)
    AreMarked-arc framed i tail head k other is tail_is head_is same is_cell tail_lt head_lt =
        let head_in = cell_holds framed head other head_is head_lt in
        mark_arc i tail head k.number (cell_low tail k tail_is is_cell) is (cell_holds framed tail k tail_is tail_lt) (head_in.0, head_in.1 ∙ sym same)

    -- an arc between two cells touches neither
    between : (i tail head : ℕ) → IsArc f.graph i tail head → number_of (level_at f.cells level) tail ≢ number_of (level_at f.cells level) head → AreMarked f vertices (arcs ++ i ∷ []) level marks
    between i tail head is apart = record {
      size = marked.size;
      marked = λ m e. elim (marked.marked m e) [
        | inl h ↦ inl h
        | inr h ↦ inr (h.0, h.1, h.2, Contains-append_left arcs (i ∷ []) h.0 h.3, h.4, h.5, h.6)
      ];
      found = λ m lt touched. elim touched [
        | inl h ↦ marked.found m lt (inl h)
        | inr h ↦ elim (Contains-append_cases arcs (i ∷ []) h.0 h.3) [
          | inl old ↦ marked.found m lt (inr (h.0, h.1, h.2, old, h.4, h.5, h.6))
          | inr new ↦
              let same : h.0 ≡ i = only_one i h.0 new in
              absurd (apart (ap (number_of (level_at f.cells level)) (sym (tail_same f i h.0 h.1 h.2 tail head same h.4 is)) ∙ h.5.1 ∙ sym h.6.1 ∙ ap (number_of (level_at f.cells level)) (head_same f i h.0 h.1 h.2 tail head same h.4 is)))
        ]
      ];
    }

    pub AreMarked-between : (i tail head : ℕ) (k other : Cell) → IsArc f.graph i tail head → k ≡ cell_of f.cells level tail → other ≡ cell_of f.cells level head → k.number ≢ other.number → AreMarked f vertices (arcs ++ i ∷ []) level marks
    AreMarked-between i tail head k other is tail_is head_is apart =
        between i tail head is (λ same. apart (ap (λ (x : Cell). x.number) tail_is ∙ same ∙ sym (ap (λ (x : Cell). x.number) head_is)))
