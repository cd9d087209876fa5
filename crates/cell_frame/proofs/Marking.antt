-- How marks and the marked vertices grow, arc by arc and vertex by vertex.
use Rattle.std.proofs.Common.{◌≡◌, ℕ, ◌+◌, ◌<◌, inl, inr, Bool, true, false, true≢false, List, [], ◌∷◌, ◌++◌, length, length-append, Some, sym, ◌∙◌, ap, subst, arith, get_or-set_same, get_or-set_other}
use Rattle.std.specs.List.{slice_get, Contains}
use Rattle.std.proofs.lemmas.Bool.{cases_lt}
use Rattle.std.proofs.lemmas.Bool.Decides.{eqb_tells}
use Rattle.std.proofs.lemmas.Option.{slice_get_within, same_Some, get_or_from_slice_get}
use Rattle.std.proofs.Math.ListN.{set, length-set}
use Rattle.search_graph.specs.Digraph.{Digraph, IsArc}
use Rattle.list_lemmas.proofs.Gets.{get_is, get_set, get_push, get_pushed, Contains_push, Contains_get}
use Rattle.cell_partition.specs.Partition.{Partition, level_at, number_of}
use Rattle.cell_frame.specs.declared.side.Side.{Side}
use Rattle.cell_frame.specs.declared.side.Side.TheVariants.{Entries, Exits}
use Rattle.cell_frame.specs.Marks.{end_of, AreMarked, AreChosen}

-- after a write at i
set_here : (marks : List Bool) (i : ℕ) (b : Bool) → i < length marks → slice_get (set marks i b) i ≡ Some b
set_here marks i b lt = let lt2 : i < length (set marks i b) = omega (arith, length-set marks i b) in get_is (set marks i b) i b lt2 (get_or-set_same marks i b b lt)

-- a mark stays when another is set
set_keeps : (marks : List Bool) (i v : ℕ) → slice_get marks v ≡ Some true → slice_get (set marks i true) v ≡ Some true
set_keeps marks i v e =
    let lt : v < length marks = slice_get_within marks v true e in
    let lt2 : v < length (set marks i true) = omega (arith, length-set marks i true) in
    elim (eqb_tells v i) [
      | inl p ↦ subst (λ (n : ℕ). slice_get (set marks i true) n ≡ Some true) (sym p.1) (set_here marks i true (omega (arith, p.1)))
      | inr p ↦ get_is (set marks i true) v true lt2 (get_or-set_other marks i v true true p.1 ∙ get_or_from_slice_get marks v true true e)
    ]

-- both ends of an arc are below what its vertices are
pub end_below : (side : Side) (n tail head : ℕ) → tail < n → head < n → end_of side tail head < n
end_below Entries n tail head lt lt2 = lt2
end_below Exits n tail head lt lt2 = lt

module _ (g : Digraph) (p : Partition) (level : ℕ) (side : Side) where
  -- without arcs nothing is marked
  pub AreMarked-none : (marks : List Bool) → length marks ≡ g.vertices → ((v : ℕ) → slice_get marks v ≡ Some true → ⊥) → AreMarked g p level side 0 marks
  AreMarked-none marks size none = record {
    size = size;
    marked = λ v e. absurd (none v e);
    found = λ v lt h. let low : h.0 < 0 = h.3 in absurd (omega arith);
  }

  -- the end of an arc between cells is marked
  pub AreMarked-mark : (marks : List Bool) (m tail head e : ℕ) → e ≡ end_of side tail head → e < g.vertices → IsArc g m tail head → (¬ (number_of (level_at p level) tail ≡ number_of (level_at p level) head)) →
      AreMarked g p level side m marks → AreMarked g p level side (m + 1) (set marks e true)
  AreMarked-mark marks m tail head e is lt arc apart h = record {
    size = length-set marks e true ∙ h.size;
    marked = λ v at. elim (get_set marks e v true true at) [
      | inl q ↦ (m, tail, head, omega arith, arc, apart, q.0 ∙ is)
      | inr q ↦ let x = h.marked v q.1 in (x.0, x.1, x.2, omega (arith, x.3), x.4, x.5, x.6)
    ];
    found = λ v below x. elim (cases_lt x.0 m) [
      | inl less ↦ set_keeps marks e v (h.found v below (x.0, x.1, x.2, less, x.4, x.5, x.6))
      | inr le ↦
          let same : x.0 ≡ m = omega (arith, x.3) in
          let both : Some (x.1, x.2) ≡ Some (tail, head) = sym x.4 ∙ ap (slice_get g.arcs) same ∙ arc in
          let pair : (x.1, x.2) ≡ (tail, head) = same_Some {A = ℕ × ℕ} (x.1, x.2) (tail, head) both in
          let here : v ≡ e = x.6 ∙ ap (λ (q : ℕ × ℕ). end_of side q.0 q.1) pair ∙ sym is in
          let size : length marks ≡ g.vertices = h.size in
          subst (λ (n : ℕ). slice_get (set marks e true) n ≡ Some true) (sym here) (set_here marks e true (omega arith))
    ];
  }

  -- an arc inside a cell marks nothing
  pub AreMarked-keep : (marks : List Bool) (m tail head : ℕ) → IsArc g m tail head → number_of (level_at p level) tail ≡ number_of (level_at p level) head →
      AreMarked g p level side m marks → AreMarked g p level side (m + 1) marks
  AreMarked-keep marks m tail head arc joined h = record {
    size = h.size;
    marked = λ v at. let x = h.marked v at in (x.0, x.1, x.2, omega (arith, x.3), x.4, x.5, x.6);
    found = λ v below x. elim (cases_lt x.0 m) [
      | inl less ↦ h.found v below (x.0, x.1, x.2, less, x.4, x.5, x.6)
      | inr le ↦
          let same : x.0 ≡ m = omega (arith, x.3) in
          let both : Some (x.1, x.2) ≡ Some (tail, head) = sym x.4 ∙ ap (slice_get g.arcs) same ∙ arc in
          let pair : (x.1, x.2) ≡ (tail, head) = same_Some {A = ℕ × ℕ} (x.1, x.2) (tail, head) both in
          let t : x.1 ≡ tail = ap (λ (q : ℕ × ℕ). q.0) pair in
          let d : x.2 ≡ head = ap (λ (q : ℕ × ℕ). q.1) pair in
          absurd (x.5 (ap (number_of (level_at p level)) t ∙ joined ∙ ap (number_of (level_at p level)) (sym d)))
    ];
  }

-- at first none is chosen
pub AreChosen-none : (marks : List Bool) → AreChosen marks 0 []
AreChosen-none marks = record {
  few = omega arith;
  is_marked = λ k v e. let lt : k < length {A = ℕ} [] = slice_get_within [] k v e in absurd (omega arith);
  all = λ v lt e. absurd (omega arith);
  rises = λ k l v w lt e f. let r : k < length {A = ℕ} [] = slice_get_within [] k v e in absurd (omega arith);
}

-- a marked vertex more
pub AreChosen-push : (marks : List Bool) (m : ℕ) (chosen : List ℕ) → slice_get marks m ≡ Some true → AreChosen marks m chosen → AreChosen marks (m + 1) (chosen ++ m ∷ [])
AreChosen-push marks m chosen mark h = record {
  few = omega (arith, length-append chosen (m ∷ []), h.few);
  is_marked = λ k v e. elim (get_push chosen m k v e) [
    | inl q ↦ let x = h.is_marked k v q in (omega (arith, x.0), x.1)
    | inr q ↦ (omega (arith, q.1), subst (λ (n : ℕ). slice_get marks n ≡ Some true) (sym q.1) mark)
  ];
  all = λ v lt e. elim (cases_lt v m) [
    | inl less ↦ Contains_push chosen m v (h.all v less e)
    | inr le ↦ let same : m ≡ v = omega arith in subst (λ (n : ℕ). Contains (chosen ++ m ∷ []) n) same (Contains_get (chosen ++ m ∷ []) (length chosen) m (get_pushed chosen m))
  ];
  rises = λ k l v w lt e f. elim (get_push chosen m l w f) [
    | inl fl ↦ elim (get_push chosen m k v e) [
      | inl ek ↦ h.rises k l v w lt ek fl
      | inr ek ↦ let past : l < length chosen = slice_get_within chosen l w fl in absurd (omega (arith, ek.0))
    ]
    | inr fl ↦ elim (get_push chosen m k v e) [
      | inl ek ↦ let x = h.is_marked k v ek in omega (arith, x.0, fl.1)
      | inr ek ↦ absurd (omega (arith, ek.0, fl.0))
    ]
  ];
}

-- or one that isn't marked
pub AreChosen-skip : (marks : List Bool) (m : ℕ) (chosen : List ℕ) → slice_get marks m ≡ Some false → AreChosen marks m chosen → AreChosen marks (m + 1) chosen
AreChosen-skip marks m chosen mark h = record {
  few = omega (arith, h.few);
  is_marked = λ k v e. let x = h.is_marked k v e in (omega (arith, x.0), x.1);
  all = λ v lt e. elim (cases_lt v m) [
    | inl less ↦ h.all v less e
    | inr le ↦
        let same : v ≡ m = omega arith in
        let both : true ≡ false = same_Some true false (sym e ∙ ap (slice_get marks) same ∙ mark) in
        absurd (true≢false both)
  ];
  rises = h.rises;
}
