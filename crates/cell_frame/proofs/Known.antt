-- What is known beforehand of the vertices.
use Rattle.std.proofs.Common.{◌≡◌, ◌≢◌, ℕ, zero, suc, ◌+◌, ◌-◌, ◌<◌, ◌≤◌, ◌^◌, ◌⊎◌, inl, inr, Option, Some, None, Bool, true, false, not, List, drop, length-drop, get_or, [], ◌∷◌, ◌++◌, length, length-append, append-nil, append_assoc, arith, refl, sym, ◌∙◌, ap, subst}
use Rattle.std.specs.Bool.{OnFalse, OnTrue}
use Rattle.std.specs.List.{Contains, slice_get}
use Rattle.std.specs.List.Sorted.{IsStrictlyIncreasing}
use Rattle.std.specs.Prelude.{slice_index}
use Rattle.std.proofs.lemmas.List.{length-take-le}
use Rattle.std.proofs.lemmas.Bool.{cases_lt}
use Rattle.std.proofs.lemmas.Option.{same_Some, slice_get_within, slice_get-get_or}
use Rattle.list_lemmas.proofs.Gets.{get_append, get_Contains, get_push, get_some}
use Rattle.search_graph.specs.Digraph.{Digraph, IsArc, Leaves}
use Rattle.cell_partition.specs.Partition.{IsKept, Partition, level_at, number_of}
use Rattle.cell_frame.specs.Borders.{AreApart, HasList, Listed, at_cell, cell_of, list_at, list_of, none}
use Rattle.cell_frame.specs.Bordering.{IsBorder}
use Rattle.cell_frame.specs.declared.crossings.Crossing.{Crossing}
use Rattle.cell_frame.specs.declared.side.Side.TheVariants.{Entries}
use Rattle.cell_frame.specs.Marks.{AreUnlisted}
use Rattle.cell_frame.specs.Spots.{AreAcross, AreAcrossOf, AreAllAcross, AreArcs, AreSpots, AreTells, IsAcross, IsCut, IsInner, IsNoEntry, IsSpot, TellsBorder, TellsEntry, TellsLevel, TellsPlace}
use Rattle.cell_frame.specs.declared.spots.Spot.{Spot}
use Rattle.cell_frame.specs.declared.spots.Spots.{Spots}
use Rattle.cell_frame.specs.declared.spots.Tell.{Tell}
use Rattle.cell_frame.proofs.Entering.{unlisted}
use Rattle.cell_frame.proofs.Framing.{border_at}
use Rattle.cell_frame.proofs.Levels.{IsCell-of, same_above}

module _ {X : Type 0} where
  -- an element of a list behind another
  pub get_behind : (xs ys : List X) (k : ℕ) → slice_get (xs ++ ys) (length xs + k) ≡ slice_get ys k
  get_behind [] ys k = ap (slice_get ys) (omega arith)
  get_behind (x ∷ xs) ys k =
      let over : length (x ∷ xs) + k ≡ suc (length xs + k) = omega arith in
      ap (slice_get ((x ∷ xs) ++ ys)) over ∙ get_behind xs ys k

  -- an element of two lists is one of either
  pub get_either : (xs ys : List X) (k : ℕ) (x : X) → slice_get (xs ++ ys) k ≡ Some x → (slice_get xs k ≡ Some x) ⊎ ((j : ℕ) × (slice_get ys j ≡ Some x))
  get_either [] ys k x e = inr (k, e)
  get_either (y ∷ xs) ys zero x e = inl e
  get_either (y ∷ xs) ys (suc k) x e = get_either xs ys k x e

  pub get_none : (k : ℕ) (x : X) (xs : List X) → xs ≡ [] → ¬ (slice_get xs k ≡ Some x)
  get_none k x xs none e = let lt : k < length xs = slice_get_within xs k x e in omega (arith, lt, ap (length {A = X}) none)

-- an arc has one pair of ends
one_head : (g : Digraph) (arc u v w : ℕ) → IsArc g arc u v → IsArc g arc u w → v ≡ w
one_head g arc u v w a b = ap (λ (x : ℕ × ℕ). x.1) (same_Some (u, v) (u, w) (sym a ∙ b))

module _ (g : Digraph) (p : Partition) (level v : ℕ) where
  -- an arc that stays in the cell, and one that doesn't
  pub AreAcross-none : (arc tail head own other : ℕ) → IsArc g arc tail head → Leaves g arc v → own ≡ number_of (level_at p level) v → other ≡ number_of (level_at p level) head → own ≡ other → AreAcross g p level v arc []
  AreAcross-none arc tail head own other is leaves here there same = record {
    out = λ k c e. absurd (get_none k c [] refl e);
    has = λ w along apart.
        let ends : (tail, head) ≡ (v, w) = same_Some (tail, head) (v, w) (sym is ∙ along) in
        absurd (apart (sym here ∙ same ∙ there ∙ ap (λ (x : ℕ × ℕ). number_of (level_at p level) x.1) ends));
  }

  pub AreAcross-one : (arc tail head own other : ℕ) → IsArc g arc tail head → Leaves g arc v → own ≡ number_of (level_at p level) v → other ≡ number_of (level_at p level) head → own ≢ other → AreAcross g p level v arc (record { arc = arc; head = head } ∷ [])
  AreAcross-one arc tail head own other is leaves here there differ = record {
    out = λ k c e. elim (get_push [] (record { arc = arc; head = head }) k c e) [
      | inl q ↦ absurd (get_none k c [] refl q)
      | inr q ↦
          let ends : (tail, head) ≡ (v, leaves.0) = same_Some (tail, head) (v, leaves.0) (sym is ∙ leaves.1) in
          let along : IsArc g arc v head = subst (λ (x : ℕ × ℕ). IsArc g arc x.0 head) ends is in
          subst (IsAcross g p level v) (sym q.1) (along, λ same. differ (here ∙ same ∙ sym there))
    ];
    has = λ w along apart. (0, record { arc = arc; head = head }, refl, refl);
  }

  -- of no arcs, and of one more
  pub AreAcrossOf-none : (arcs : List ℕ) → AreAcrossOf g p level v arcs 0 []
  AreAcrossOf-none arcs = record { out = λ k c e. absurd (get_none k c [] refl e); has = λ n arc w lt at is apart. absurd (omega (arith, lt)) }

  pub AreAcrossOf-push : (arcs : List ℕ) (m arc : ℕ) (more others : List Crossing) → slice_get arcs m ≡ Some arc → AreAcrossOf g p level v arcs m more → AreAcross g p level v arc others → AreAcrossOf g p level v arcs (m + 1) (more ++ others)
  AreAcrossOf-push arcs m arc more others at before here = record {
    out = λ k c e. elim (get_either more others k c e) [ inl q ↦ before.out k c q | inr q ↦ here.out q.0 c q.1 ];
    has = λ n a w lt there is apart. elim (cases_lt n m) [
      | inl less ↦ let c = before.has n a w less there is apart in (c.0, c.1, get_append more others c.0 c.1 c.2, c.3)
      | inr le ↦
          let last : n ≡ m = omega (arith, lt, le) in
          let same : a ≡ arc = same_Some a arc (sym there ∙ ap (slice_get arcs) last ∙ at) in
          let c = here.has w (subst (λ (x : ℕ). IsArc g x v w) same is) apart in
          (length more + c.0, c.1, get_behind more others c.0 ∙ c.2, c.3 ∙ sym same)
    ];
  }

  -- of all arcs out of the vertex
  pub AreAllAcross-of : (arcs : List ℕ) (m : ℕ) (more : List Crossing) → ((i : ℕ) → Leaves g i v → Contains arcs i) → length arcs ≤ m → AreAcrossOf g p level v arcs m more → AreAllAcross g p level v more
  AreAllAcross-of arcs m more all le h = record {
    out = h.out;
    all = λ arc w is apart.
        let n = get_Contains arcs arc (all arc (w, is)) in
        let lt : n.0 < length arcs = slice_get_within arcs n.0 arc n.1 in
        h.has n.0 arc w (omega (arith, lt, le)) n.1 is apart;
  }

-- a list is no longer than all of its border
list_few : (b : Listed) (n : ℕ) → HasList b n → length (list_at b n) < 2 ^ 32
list_few b n has =
    let low : ℕ = slice_index b.first n in
    let high : ℕ = slice_index b.first (n + 1) in
    let rest : length (drop low b.vertex) ≡ length b.vertex - low = length-drop low b.vertex in
    let le : high - low ≤ length (drop low b.vertex) = omega (arith, rest, has.within) in
    let size : length (list_at b n) ≡ high - low = length-take-le (high - low) (drop low b.vertex) le in
    omega (arith, size, has.within, has.few)

-- the list of a vertex's cell is one of its level's
module _ (g : Digraph) (p : Partition) (entries : List Listed) (cut : IsCut g p entries) (v m n : ℕ) (x : Listed) (lv : v < g.vertices) (lm : m < length p.levels) (is : n ≡ number_of (level_at p (m + 1)) v) where
  at_level : slice_get entries m ≡ Some (get_or entries m x)
  at_level = slice_get-get_or entries m x (omega (arith, lm, cut.borders.size))

  border : IsBorder g p (m + 1) Entries (get_or entries m x)
  border = cut.borders.each m (get_or entries m x) at_level

  number : n < length (level_at p (m + 1))
  number = subst (λ (k : ℕ). k < length (level_at p (m + 1))) (sym is) ((cut.kept.level (m + 1) (omega arith) (omega (arith, lm))).placed v (omega (arith, lv, cut.vertices)))

  pub list_has : HasList (get_or entries m x) n
  list_has = border.has n number

  pub list_ascends : IsStrictlyIncreasing (list_at (get_or entries m x) n)
  list_ascends = border.ascends n number

  pub list_small : length (list_at (get_or entries m x) n) < 2 ^ 32
  list_small = list_few (get_or entries m x) n list_has

  -- and a word that tells a place in it tells the place among the entries
  pub tells_entry : (word : ℕ) (vs : List ℕ) → vs ≡ list_at (get_or entries m x) n → TellsPlace vs v word → TellsEntry p entries v (m + 1) word
  tells_entry word vs e tells =
      let k : ℕ = number_of (level_at p (m + 1)) v in
      let same : m + 1 - 1 ≡ m = omega arith in
      let here : at_cell entries (cell_of p (m + 1) v) ≡ list_at (get_or entries m x) k = ap (λ (i : ℕ). list_of (slice_get entries i) k) same ∙ ap (λ (o : Option Listed). list_of o k) at_level in
      subst (λ (xs : List ℕ). TellsPlace xs v word) (e ∙ ap (list_at (get_or entries m x)) is ∙ sym here) tells

module _ (g : Digraph) (p : Partition) (entries : List Listed) (v : ℕ) where
  -- what is told of a level by what was put behind the arcs between cells
  pub TellsLevel-pushed : (crossings all more : List Crossing) (level : ℕ) (tell : Tell) → all ≡ crossings ++ more → AreAllAcross g p level v more → TellsEntry p entries v level tell.place → tell.first ≡ length crossings → tell.first + tell.count ≡ length all → tell.first + tell.count ≤ 2 ^ 32 → TellsLevel g p entries all v level tell
  TellsLevel-pushed crossings all more level tell is across entered first count few =
      let long : length all ≡ length crossings + length more = ap (length {A = Crossing}) is ∙ length-append crossings more in
      record {
        entered = entered;
        few = few;
        out = λ k lt.
            let c = get_some more k (omega (arith, lt, first, count, long)) in
            (c.0, ap (λ (n : ℕ). slice_get all (n + k)) first ∙ ap (λ (cs : List Crossing). slice_get cs (length crossings + k)) is ∙ get_behind crossings more k ∙ c.1, across.out k c.0 c.1);
        all = λ arc w along apart.
            let c = across.all arc w along apart in
            let within : c.0 < length more = slice_get_within more c.0 c.1 c.2 in
            (c.0, c.1, omega (arith, within, first, count, long), ap (λ (n : ℕ). slice_get all (n + c.0)) first ∙ ap (λ (cs : List Crossing). slice_get cs (length crossings + c.0)) is ∙ get_behind crossings more c.0 ∙ c.2, c.3);
      }

  -- more arcs behind the others change nothing
  TellsLevel-more : (crossings more : List Crossing) (level : ℕ) (tell : Tell) → TellsLevel g p entries crossings v level tell → TellsLevel g p entries (crossings ++ more) v level tell
  TellsLevel-more crossings more level tell h = record {
    entered = h.entered;
    few = h.few;
    out = λ k lt. let c = h.out k lt in (c.0, get_append crossings more (tell.first + k) c.0 c.1, c.2);
    all = λ arc w along apart. let c = h.all arc w along apart in (c.0, c.1, c.2, get_append crossings more (tell.first + c.0) c.1 c.3, c.4);
  }

  -- no level yet
  pub AreTells-none : (crossings : List Crossing) → AreTells g p entries crossings v 0 []
  AreTells-none crossings = record { size = refl; each = λ k tell e. absurd (get_none k tell [] refl e) }

  -- one level more
  pub AreTells-push : (crossings all more : List Crossing) (m : ℕ) (tell : Tell) (tells : List Tell) → all ≡ crossings ++ more → AreTells g p entries crossings v m tells → TellsLevel g p entries all v (m + 1) tell → AreTells g p entries all v (m + 1) (tells ++ tell ∷ [])
  AreTells-push crossings all more m tell tells is h here = record {
    size = omega (arith, length-append tells (tell ∷ []), h.size);
    each = λ k t e. elim (get_push tells tell k t e) [
      | inl q ↦ subst (λ (cs : List Crossing). TellsLevel g p entries cs v (k + 1) t) (sym is) (TellsLevel-more crossings more (k + 1) t (h.each k t q))
      | inr q ↦ subst (λ (n : ℕ). TellsLevel g p entries all v (n + 1) t) (sym (q.0 ∙ h.size)) (subst (TellsLevel g p entries all v (m + 1)) (sym q.1) here)
    ];
  }

  -- what is put behind all others tells of the vertex
  TellsBorder-behind : (crossings : List Crossing) (tells more : List Tell) → AreTells g p entries crossings v (length p.levels) more → TellsBorder g p entries (tells ++ more) crossings (length tells) v
  TellsBorder-behind crossings tells more h below lt =
      let t = get_some more below (omega (arith, lt, h.size)) in
      (t.0, get_behind tells more below ∙ t.1, h.each below t.0 t.1)

  IsSpot-more : (crossings others : List Crossing) (tells more : List Tell) (spot : Spot) → IsSpot g p entries tells crossings v spot → IsSpot g p entries (tells ++ more) (crossings ++ others) v spot
  IsSpot-more crossings others tells more spot h = record {
    lowest = h.lowest;
    inner = h.inner;
    border = λ ne. λ below lt. let t = h.border ne below lt in (t.0, get_append tells more (spot.border + below) t.0 t.1, TellsLevel-more crossings others (below + 1) t.0 t.2);
  }

-- arcs behind arcs
pub AreArcs-more : (g : Digraph) (crossings more : List Crossing) → AreArcs g crossings → AreArcs g more → AreArcs g (crossings ++ more)
AreArcs-more g crossings more a b k c e = elim (get_either crossings more k c e) [ inl q ↦ a k c q | inr q ↦ b q.0 c q.1 ]

pub AreArcs-none : (g : Digraph) → AreArcs g []
AreArcs-none g k c e = absurd (get_none k c [] refl e)

pub AreArcs-across : (g : Digraph) (p : Partition) (level v : ℕ) (more : List Crossing) → AreAllAcross g p level v more → AreArcs g more
AreArcs-across g p level v more h k c e = (v, (h.out k c e).0)

-- what is put of a vertex is known of it
module _ (g : Digraph) (p : Partition) (entries : List Listed) (known next : Spots) (n low border : ℕ) (more : List Tell) (others : List Crossing) (h : AreSpots g p entries known n) (lowest : 1 ≤ length p.levels → low ≡ number_of (level_at p 1) n)
    (spots : next.spots.items ≡ known.spots.items ++ record { lowest = low; border = border } ∷ []) (tells : next.tells.items ≡ known.tells.items ++ more) (crossings : next.crossings.items ≡ known.crossings.items ++ others) (arcs : AreArcs g others) where
  abbrev spot : Spot
  spot = record { lowest = low; border = border }

  AreSpots-push : IsSpot g p entries next.tells.items next.crossings.items n spot → AreSpots g p entries next (n + 1)
  AreSpots-push is = record {
    size = omega (arith, ap (length {A = Spot}) spots, length-append known.spots.items (spot ∷ []), h.size);
    arcs = subst (AreArcs g) (sym crossings) (AreArcs-more g known.crossings.items others h.arcs arcs);
    each = λ v x e. elim (get_push known.spots.items spot v x (subst (λ (xs : List Spot). slice_get xs v ≡ Some x) spots e)) [
      | inl q ↦ subst (λ (ts : List Tell). IsSpot g p entries ts next.crossings.items v x) (sym tells) (subst (λ (cs : List Crossing). IsSpot g p entries (known.tells.items ++ more) cs v x) (sym crossings) (IsSpot-more g p entries v known.crossings.items others known.tells.items more x (h.each v x q)))
      | inr q ↦ subst (λ (y : Spot). IsSpot g p entries next.tells.items next.crossings.items v y) (sym q.1) (subst (λ (u : ℕ). IsSpot g p entries next.tells.items next.crossings.items u spot) (sym (q.0 ∙ h.size)) is)
    ];
  }

  pub AreSpots-inner : border ≡ none → IsInner g p entries n → AreSpots g p entries next (n + 1)
  AreSpots-inner e inner = AreSpots-push (record { lowest = lowest; inner = λ _. inner; border = λ ne. absurd (ne e) })

  pub AreSpots-border : border ≡ length known.tells.items → border ≢ none → AreTells g p entries next.crossings.items n (length p.levels) more → AreSpots g p entries next (n + 1)
  AreSpots-border at some are =
      AreSpots-push (record {
        lowest = lowest;
        inner = λ out. absurd (some out);
        border = λ ne. subst (λ (ts : List Tell). TellsBorder g p entries ts next.crossings.items border n) (sym tells) (subst (λ (i : ℕ). TellsBorder g p entries (known.tells.items ++ more) next.crossings.items i n) (sym at) (TellsBorder-behind g p entries n next.crossings.items known.tells.items more are));
      })

-- what isn't marked is no entry
pub IsNoEntry-unmarked : (g : Digraph) (p : Partition) (entries : List Listed) (marks : List Bool) (v : ℕ) → IsCut g p entries → v < g.vertices → AreUnlisted entries (length entries) marks → slice_get marks v ≡ Some false → IsNoEntry p entries v
IsNoEntry-unmarked g p entries marks v cut lv out mark level low high =
    let is_cell = IsCell-of p cut.kept v level (omega (arith, lv, cut.vertices)) low high in
    let b = border_at g p Entries entries cut.borders (cell_of p level v) is_cell in
    unlisted entries marks (cell_of p level v) v b.0 out mark b.1 (b.2.has (number_of (level_at p level) v) is_cell.2)

-- what shares its lowest cell with all heads of the arcs out of it leaves no cell
pub IsInner-unleft : (g : Digraph) (p : Partition) (entries : List Listed) (v : ℕ) → IsCut g p entries → IsNoEntry p entries v →
    (1 ≤ length p.levels → (arc w : ℕ) → IsArc g arc v w → number_of (level_at p 1) v ≡ number_of (level_at p 1) w) → IsInner g p entries v
IsInner-unleft g p entries v cut entered same = record {
  left = λ arc w level along low high apart.
      let r = cut.arcs arc v w along in
      let le : 1 ≤ length p.levels = omega (arith, low, high) in
      apart (same_above p cut.kept v w 1 level (omega (arith, r.0, cut.vertices)) (omega (arith, r.1, cut.vertices)) (omega arith) (same le arc w along) low high);
  entered = entered;
}

-- what a call tells where it answers no
pub on_false : {P Q : Type 0} (b : Bool) → OnFalse b P → (P → Q) → OnFalse b Q
on_false true h f = tt
on_false false h f = f h

pub on_not : {P Q : Type 0} (b : Bool) → OnFalse b P → (P → Q) → OnTrue (not b) Q
on_not true h f = tt
on_not false h f = f h
