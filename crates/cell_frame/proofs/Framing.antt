-- How marks, the marked vertices and the lists of cells become the entries and exits of a frame.
use Rattle.std.proofs.Common.{◌≡◌, ℕ, ◌+◌, ◌-◌, ◌<◌, ◌≤◌, ◌↔◌, inl, inr, Bool, Option, List, [], ◌∷◌, ◌++◌, length, length-append, get_or, Some, All, refl, sym, ◌∙◌, ap, subst, arith}
use Rattle.std.specs.List.{slice_get, Contains}
use Rattle.std.specs.List.Sorted.{IsStrictlyIncreasing}
use Rattle.std.proofs.lemmas.Option.{slice_get_within, slice_get-get_or}
use Rattle.search_graph.specs.Digraph.{Digraph, IsArc}
use Rattle.search_graph.specs.Faults.{AllInRange}
use Rattle.list_lemmas.proofs.Gets.{get_some, get_push, get_Contains}
use Rattle.cell_partition.specs.Partition.{Partition, level_at, number_of, IsKept}
use Rattle.cell_frame.specs.declared.side.Side.{Side}
use Rattle.cell_frame.specs.declared.side.Side.TheVariants.{Entries, Exits}
use Rattle.cell_frame.specs.declared.cells.Cell.{Cell}
use Rattle.cell_frame.specs.Borders.{Listed, list_at, list_of, at_cell, IsCell, IsEntry, IsExit, IsFramed}
use Rattle.cell_frame.specs.Marks.{IsEnd, AreMarked, AreChosen}
use Rattle.cell_frame.specs.Listing.{AreListed}
use Rattle.cell_frame.specs.Bordering.{IsBorder, AreBorders}
use Rattle.cell_frame.specs.Spots.{AreSpots}
use Rattle.cell_frame.specs.declared.spots.Spots.{Spots}
use Rattle.cell_frame.proofs.Leaving.{leaving_out, leaving_all}

-- the lists of the marked vertices are those of the ends of arcs between cells
pub IsBorder-listed : (g : Digraph) (p : Partition) (level : ℕ) (side : Side) (marks : List Bool) (chosen : List ℕ) (b : Listed) → p.vertices ≡ g.vertices →
    AreMarked g p level side (length g.arcs) marks → AreChosen marks (length marks) chosen → AreListed p level chosen b → IsBorder g p level side b
IsBorder-listed g p level side marks chosen b same m c l = record {
  has = l.has;
  holds = λ n v lt. (
    λ h.
        let x = (l.holds n v lt).0 h in
        let at = get_Contains chosen v x.0 in
        let q = c.is_marked at.0 v at.1 in
        let size : length marks ≡ g.vertices = m.size in
        (omega (arith, q.0), x.1, m.marked v q.1),
    λ h.
        let size : length marks ≡ g.vertices = m.size in
        let below : v < g.vertices = omega (arith, h.0) in
        (l.holds n v lt).1 (c.all v (omega arith) (m.found v below h.2), h.1),
  );
  ascends = λ n lt k within.
      let first : k < length (list_at b n) = omega arith in
      let e : slice_get (list_at b n) k ≡ Some (get_or (list_at b n) k 0) = slice_get-get_or (list_at b n) k 0 first in
      let f : slice_get (list_at b n) (k + 1) ≡ Some (get_or (list_at b n) (k + 1) 0) = slice_get-get_or (list_at b n) (k + 1) 0 within in
      let o = l.order n k (k + 1) _ _ lt (omega arith) e f in
      c.rises o.0 o.1 _ _ o.2 o.3 o.4;
}

-- the marked vertices are vertices
pub chosen_inside : (marks : List Bool) (chosen : List ℕ) (n : ℕ) → length marks ≡ n → AreChosen marks (length marks) chosen → All (λ v. v < n) chosen
chosen_inside marks chosen n size c k d lt = let r = c.is_marked k _ (slice_get-get_or chosen k d lt) in omega (arith, r.0)

pub AreBorders-none : (g : Digraph) (p : Partition) (side : Side) → AreBorders g p side [] 0
AreBorders-none g p side = record { size = refl; each = λ i b e. let lt : i < length {A = Listed} [] = slice_get_within [] i b e in absurd (omega arith) }

-- a level more
pub AreBorders-push : (g : Digraph) (p : Partition) (side : Side) (borders : List Listed) (m : ℕ) (b : Listed) → IsBorder g p (m + 1) side b → AreBorders g p side borders m → AreBorders g p side (borders ++ b ∷ []) (m + 1)
AreBorders-push g p side borders m b here h = record {
  size = omega (arith, length-append borders (b ∷ []), h.size);
  each = λ i o e. elim (get_push borders b i o e) [
    | inl q ↦ h.each i o q
    | inr q ↦ subst (λ (z : Listed). IsBorder g p (i + 1) side z) (sym q.1) (subst (λ (n : ℕ). IsBorder g p (n + 1) side b) (sym (q.0 ∙ h.size)) here)
  ];
}

module _ (g : Digraph) (p : Partition) where
  -- the border of a cell's level
  pub border_at : (side : Side) (borders : List Listed) → AreBorders g p side borders (length p.levels) → (k : Cell) → IsCell p k → (b : Listed) × (slice_get borders (k.level - 1) ≡ Some b) × IsBorder g p k.level side b
  border_at side borders are k is_cell =
      let size : length borders ≡ length p.levels = are.size in
      let low : 1 ≤ k.level = is_cell.0 in
      let high : k.level ≤ length p.levels = is_cell.1 in
      let b = get_some borders (k.level - 1) (omega arith) in
      let same : k.level - 1 + 1 ≡ k.level = omega arith in
      (b.0, b.1, subst (λ (n : ℕ). IsBorder g p n side b.0) same (are.each (k.level - 1) b.0 b.1))

  -- what is so of the list in its level's border is so of the list of the cell
  at_is : (borders : List Listed) (k : Cell) (b : Listed) → slice_get borders (k.level - 1) ≡ Some b → (P : List ℕ → Type 0) → P (list_at b k.number) → P (at_cell borders k)
  at_is borders k b e P h = subst P (sym (ap (λ (o : Option Listed). list_of o k.number) e)) h

  IsEntry-end : AllInRange g.vertices g.arcs → p.vertices ≡ g.vertices → (k : Cell) (v : ℕ) → ((v < p.vertices) × (number_of (level_at p k.level) v ≡ k.number) × IsEnd g p k.level Entries (length g.arcs) v) ↔ IsEntry g p k v
  IsEntry-end in_range same k v = (
    λ h. let x = h.2 in ((h.0, h.1), x.0, x.1, subst (λ (q : ℕ). IsArc g x.0 x.1 q) (sym x.6) x.4, λ q. x.5 (q.1 ∙ sym h.1 ∙ ap (number_of (level_at p k.level)) x.6)),
    λ h.
        let u : h.2 < p.vertices = let r = in_range h.1 h.2 v h.3 in omega (arith, r.0, same) in
        (h.0.0, h.0.1, (h.1, h.2, v, slice_get_within g.arcs h.1 _ h.3, h.3, (λ q. h.4 (u, q ∙ h.0.1)), refl)),
  )

  IsExit-end : AllInRange g.vertices g.arcs → p.vertices ≡ g.vertices → (k : Cell) (v : ℕ) → ((v < p.vertices) × (number_of (level_at p k.level) v ≡ k.number) × IsEnd g p k.level Exits (length g.arcs) v) ↔ IsExit g p k v
  IsExit-end in_range same k v = (
    λ h. let x = h.2 in ((h.0, h.1), x.0, x.2, subst (λ (q : ℕ). IsArc g x.0 q x.2) (sym x.6) x.4, λ q. x.5 (sym (ap (number_of (level_at p k.level)) x.6) ∙ h.1 ∙ sym q.1)),
    λ h.
        let u : h.2 < p.vertices = let r = in_range h.1 v h.2 h.3 in omega (arith, r.1, same) in
        (h.0.0, h.0.1, (h.1, v, h.2, slice_get_within g.arcs h.1 _ h.3, h.3, (λ q. h.4 (u, sym q ∙ h.0.1)), refl)),
  )

  -- a frame's lists
  pub IsFramed-built : (entries exits : List Listed) (known : Spots) → AllInRange g.vertices g.arcs → p.vertices ≡ g.vertices → IsKept p →
      AreBorders g p Entries entries (length p.levels) → AreBorders g p Exits exits (length p.levels) → AreSpots g p entries known g.vertices →
      IsFramed (record { graph = g; cells = p; entries = entries; exits = exits; crossings = known.crossings.items; spots = known.spots.items; tells = known.tells.items })
  IsFramed-built entries exits known in_range same kept en ex spots = record {
    in_range = in_range;
    vertices = same;
    kept = kept;
    has_entries = λ k is_cell. let b = border_at Entries entries en k is_cell in (b.0, b.1, b.2.has k.number is_cell.2);
    has_exits = λ k is_cell. let b = border_at Exits exits ex k is_cell in (b.0, b.1, b.2.has k.number is_cell.2);
    entries = λ k v is_cell.
        let b = border_at Entries entries en k is_cell in
        let r = IsEntry-end in_range same k v in
        at_is entries k b.0 b.1 (λ (vs : List ℕ). Contains vs v ↔ IsEntry g p k v) ((λ h. r.0 ((b.2.holds k.number v is_cell.2).0 h)), (λ h. (b.2.holds k.number v is_cell.2).1 (r.1 h)));
    exits = λ k v is_cell.
        let b = border_at Exits exits ex k is_cell in
        let r = IsExit-end in_range same k v in
        at_is exits k b.0 b.1 (λ (vs : List ℕ). Contains vs v ↔ IsExit g p k v) ((λ h. r.0 ((b.2.holds k.number v is_cell.2).0 h)), (λ h. (b.2.holds k.number v is_cell.2).1 (r.1 h)));
    entries_ascend = λ k is_cell. let b = border_at Entries entries en k is_cell in at_is entries k b.0 b.1 IsStrictlyIncreasing (b.2.ascends k.number is_cell.2);
    exits_ascend = λ k is_cell. let b = border_at Exits exits ex k is_cell in at_is exits k b.0 b.1 IsStrictlyIncreasing (b.2.ascends k.number is_cell.2);
    arcs = spots.arcs;
    out = λ level v i low high lv h. leaving_out g p entries known spots level v i low high lv h;
    all = λ level v w arc low high lv is apart. leaving_all g p entries known spots level v w arc low high lv is apart;
  }
