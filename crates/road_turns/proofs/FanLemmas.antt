-- The fans of leaving vertices, made in the order of the nodes.
use Rattle.std.proofs.Common.{◌≡◌, ◌≢◌, inl, inr, ℕ, ℤ, zero, suc, ◌+◌, ◌-◌, ◌<◌, ◌≤◌, List, [], ◌∷◌, ◌++◌, length, take, drop, map, filter, set, get_or, Option, Some, Bool, true, false, not, arith, refl, sym, ap, subst, ◌∙◌, ◌&&◌, ◌*◌, append_assoc, length-append, length-drop}
use Rattle.std.specs.Prelude.{◌==◌, option_map}
use Rattle.std.specs.List.{slice_get}
use Rattle.std.specs.List.Sorted.{IsPartitionPoint}
use Rattle.std.specs.Option.{option_map_or}
use Rattle.std.specs.Ordering.{int_eq, is_eq, is_le, is_lt, ordering_index}
use Rattle.std.specs.declared.cmp.Ordering.{Ordering}
use Rattle.std.specs.declared.cmp.Ordering.TheVariants.{Less, Equal, Greater}
use Rattle.std.proofs.lemmas.Bool.{cases_lt}
use Rattle.std.proofs.lemmas.Bool.Decides.{Decides-int_eq}
use Rattle.std.proofs.lemmas.List.{length-map, length-take-le, take_all, take-append-drop}
use Rattle.std.proofs.lemmas.List.Elements.{filter-append}
use Rattle.std.proofs.lemmas.Option.{get_or_from_slice_get, same_Some, slice_get_within}
use Rattle.std.proofs.Math.ListN.{length-set}
use Rattle.list_lemmas.proofs.Fronts.{map-map, take-get}
use Rattle.list_lemmas.proofs.Gets.{All_get, get_Contains, get_append, get_pushed, get_set, get_some}
use Rattle.turn_rules.specs.Rules.{Rule}
use Rattle.road_turns.specs.DepartureParts.{AreDepartures, tail_cmp}
use Rattle.road_turns.specs.Departures.{vertices_from}
use Rattle.road_turns.specs.Fans.{AreFans, AreRestricted, IsFan, fan, is_permitted, leavers}
use Rattle.road_turns.specs.RestrictionParts.{has_via}
use Rattle.road_turns.specs.TurnParts.{turns_onto, turns_onto_all}
use Rattle.road_turns.specs.Turn.{exits, leaves, numbered}
use Rattle.road_segments.specs.Segment.{Segment}
use Rattle.road_segments.specs.Vertex.{Vertex, opposite, vertices}
use Rattle.road_turns.specs.VertexLaws.{both-ways, field-at}
use Rattle.road_turns.proofs.DepartureLemmas.{IsPlace-found, filter-map, le-lower, lt-lower, tail_cmp-vertex}
use Rattle.road_turns.proofs.TurnLemmas.{bit, exits-leaving, filter-both, filter-cong-numbered, turns_onto_all-at}

module _ {X : Type 0} where
  -- the part between a front and a rest
  part-between : (xs ys zs : List X) → take (length ys) (drop (length xs) (xs ++ (ys ++ zs))) ≡ ys
  part-between [] [] zs = refl
  part-between [] (y ∷ ys) zs = ap (λ (l : List X). y ∷ l) (part-between [] ys zs)
  part-between (x ∷ xs) ys zs = part-between xs ys zs

  -- a front is a shorter one and what stands between
  take-between : (xs : List X) (i j : ℕ) → i ≤ j → take j xs ≡ take i xs ++ take (j - i) (drop i xs)
  take-between xs zero j le = let same : j ≡ j - 0 = omega arith in ap (λ (n : ℕ). take n xs) same
  take-between [] (suc i) zero le = absurd (omega arith)
  take-between [] (suc i) (suc j) le = nothing (suc j - suc i)
    where
      nothing : (n : ℕ) → [] ≡ take {A = X} n []
      nothing zero = refl
      nothing (suc n) = refl
  take-between (x ∷ xs) (suc i) zero le = absurd (omega arith)
  take-between (x ∷ xs) (suc i) (suc j) le =
      let same : j - i ≡ suc j - suc i = omega arith in
      ap (λ (l : List X). x ∷ l) (take-between xs i j (omega arith)) ∙ ap (λ (n : ℕ). x ∷ (take i xs ++ take n (drop i xs))) same

  module _ (p : X → Bool) (xs : List X) (i j : ℕ) (le : i ≤ j) where
    front-parts : filter p (take j xs) ≡ filter p (take i xs) ++ filter p (take (j - i) (drop i xs))
    front-parts = ap (filter p) (take-between xs i j le) ∙ filter-append p (take i xs) (take (j - i) (drop i xs))

    all-parts : filter p xs ≡ filter p (take i xs) ++ (filter p (take (j - i) (drop i xs)) ++ filter p (drop j xs))
    all-parts =
        ap (filter p) (sym (take-append-drop j xs))
        ∙ filter-append p (take j xs) (drop j xs)
        ∙ ap (λ (l : List X). l ++ filter p (drop j xs)) front-parts
        ∙ append_assoc (filter p (take i xs)) (filter p (take (j - i) (drop i xs))) (filter p (drop j xs))

    -- what passes a test between two places stands side by side among all that does
    filter-between : take (length (filter p (take j xs)) - length (filter p (take i xs))) (drop (length (filter p (take i xs))) (filter p xs)) ≡ filter p (take (j - i) (drop i xs))
    filter-between =
        let part : List X = filter p (take (j - i) (drop i xs)) in
        let long : length (filter p (take j xs)) - length (filter p (take i xs)) ≡ length part = omega (arith, ap length front-parts, length-append (filter p (take i xs)) part) in
        ap (λ (n : ℕ). take n (drop (length (filter p (take i xs))) (filter p xs))) long
        ∙ ap (λ (l : List X). take (length part) (drop (length (filter p (take i xs))) l)) all-parts
        ∙ part-between (filter p (take i xs)) (filter p (take (j - i) (drop i xs))) (filter p (drop j xs))

    filter-longer : length (filter p (take i xs)) ≤ length (filter p (take j xs))
    filter-longer = omega (arith, ap length front-parts, length-append (filter p (take i xs)) (filter p (take (j - i) (drop i xs))))

    filter-within : length (filter p (take j xs)) ≤ length (filter p xs)
    filter-within =
        omega (
          arith,
          ap length (ap (filter p) (sym (take-append-drop j xs)) ∙ filter-append p (take j xs) (drop j xs)),
          length-append (filter p (take j xs)) (filter p (drop j xs)),
        )

flip : (a b : Bool) → (a && b) ≡ (b && a)
flip true true = refl
flip true false = refl
flip false true = refl
flip false false = refl

-- of all vertices that leave a node, the permitted ones
fan-is : (vs : List Vertex) (node : ℤ) → filter (is_permitted vs) (vertices_from vs node) ≡ fan vs node
fan-is vs node =
    let at : ℕ × Vertex → Bool = λ e. int_eq e.1.tail node in
    let may : ℕ × Vertex → Bool = λ e. is_permitted vs e.0 in
    filter-map (is_permitted vs) (λ (e : ℕ × Vertex). e.0) (filter at (numbered vs))
    ∙ ap (map {A = ℕ × Vertex} {B = ℕ} (λ e. e.0))
    (sym (filter-both at may (numbered vs))
    ∙ filter-cong-numbered vs (λ e. at e && may e) (leaves node)
    (λ n z has. ap (λ (o : Option Vertex). int_eq z.tail node && option_map_or (λ x. x.permitted) o false) has ∙ flip (int_eq z.tail node) z.permitted))

-- an order that is at most `Equal`, and isn't, is `Less`; at least, `Greater`
less-only : (a : Ordering) → ordering_index a ≤ 1 → is_eq a ≡ false → is_lt a ≡ true
less-only Less le ne = refl
less-only Equal le ne = cc
less-only Greater le ne = absurd (omega arith)

greater-only : (a : Ordering) → 1 ≤ ordering_index a → is_eq a ≡ false → is_le a ≡ false
greater-only Less le ne = absurd (omega arith)
greater-only Equal le ne = cc
greater-only Greater le ne = refl

equal-index : (a : Ordering) → is_eq a ≡ true → ordering_index a ≡ 1
equal-index Less is = cc
equal-index Equal is = refl
equal-index Greater is = cc

not-lt : (a : Ordering) → 1 ≤ ordering_index a → is_lt a ≡ false
not-lt Less le = absurd (omega arith)
not-lt Equal le = refl
not-lt Greater le = refl

is-le : (a : Ordering) → ordering_index a ≤ 1 → is_le a ≡ true
is-le Less le = refl
is-le Equal le = refl
is-le Greater le = absurd (omega arith)

greater-up : (a b : Ordering) → ordering_index a ≤ ordering_index b → is_le a ≡ false → is_le b ≡ false
greater-up a Less le h = sym (le-lower a Less le refl) ∙ h
greater-up a Equal le h = sym (le-lower a Equal le refl) ∙ h
greater-up a Greater le h = refl

-- a vertex that is below another, or the same
below_some : (n : ℕ) → 0 < n → (k : ℕ) × (k + 1 ≡ n)
below_some zero h = absurd (omega (arith, h))
below_some (suc n) h = (n, omega arith)

module _ (vs : List Vertex) (order : List ℕ) (are : AreDepartures vs order) where
  vertex_in : (k w : ℕ) → slice_get order k ≡ Some w → (x : Vertex) × (slice_get vs w ≡ Some x)
  vertex_in k w at = get_some vs w (All_get (λ (u : ℕ). u < length vs) order k w are.within at)

  -- how the vertex at a place compares
  eq-at : (node : ℤ) (k w : ℕ) (x : Vertex) (d : ℕ) → slice_get order k ≡ Some w → slice_get vs w ≡ Some x → is_eq (tail_cmp vs node (get_or order k d)) ≡ int_eq x.tail node
  eq-at node k w x d at has =
      ap (λ (n : ℕ). is_eq (tail_cmp vs node n)) (get_or_from_slice_get order k w d at)
      ∙ ap is_eq (tail_cmp-vertex vs node w x.tail (ap (option_map (λ (y : Vertex). y.tail)) has))

  index-at : (node : ℤ) (k w : ℕ) (x : Vertex) (d : ℕ) → slice_get order k ≡ Some w → slice_get vs w ≡ Some x → x.tail ≡ node → ordering_index (tail_cmp vs node (get_or order k d)) ≡ 1
  index-at node k w x d at has is = equal-index (tail_cmp vs node (get_or order k d)) (eq-at node k w x d at has ∙ (Decides-int_eq x.tail node).1 is)

  -- before the first vertex that leaves a node stand those that leave lower ones
  opens : (i v : ℕ) (x : Vertex) → slice_get order i ≡ Some v → slice_get vs v ≡ Some x
      → ((k u : ℕ) (y : Vertex) → k + 1 ≡ i → slice_get order k ≡ Some u → slice_get vs u ≡ Some y → int_eq y.tail x.tail ≡ false)
      → IsPartitionPoint (λ w. is_lt (tail_cmp vs x.tail w) ≡ true) (λ w. is_lt (tail_cmp vs x.tail w) ≡ false) order i
  opens i v x at has apart = (
    λ k d low lt.
        let within : i < length order = slice_get_within order i v at in
        let before = below_some i (omega (arith, lt)) in
        let u = get_some order before.0 (omega (arith, before.1, within)) in
        let y = vertex_in before.0 u.0 u.1 in
        let up = are.rise x.tail before.0 i d (omega (arith, before.1)) within in
        let less : is_lt (tail_cmp vs x.tail (get_or order before.0 d)) ≡ true =
        less-only (tail_cmp vs x.tail (get_or order before.0 d)) (omega (arith, up, index-at x.tail i v x d at has refl)) (eq-at x.tail before.0 u.0 y.0 d u.1 y.1 ∙ apart before.0 u.0 y.0 before.1 u.1 y.1) in
        lt-lower (tail_cmp vs x.tail (get_or order k d)) (tail_cmp vs x.tail (get_or order before.0 d)) (are.rise x.tail k before.0 d (omega (arith, before.1, lt)) (omega (arith, before.1, within))) less,
    λ k d low lt.
        not-lt (tail_cmp vs x.tail (get_or order k d)) (omega (arith, are.rise x.tail i k d low lt, index-at x.tail i v x d at has refl)),
  )

  -- behind the last one stand those that leave higher ones
  closes : (i j u : ℕ) (y : Vertex) → j + 1 ≡ i → slice_get order j ≡ Some u → slice_get vs u ≡ Some y
      → ((v : ℕ) (x : Vertex) → slice_get order i ≡ Some v → slice_get vs v ≡ Some x → int_eq x.tail y.tail ≡ false)
      → IsPartitionPoint (λ w. is_le (tail_cmp vs y.tail w) ≡ true) (λ w. is_le (tail_cmp vs y.tail w) ≡ false) order i
  closes i j u y up at has apart = (
    λ k d low lt.
        let within : j < length order = slice_get_within order j u at in
        is-le (tail_cmp vs y.tail (get_or order k d)) (omega (arith, are.rise y.tail k j d (omega (arith, up, lt)) within, index-at y.tail j u y d at has refl)),
    λ k d low lt.
        let v = get_some order i (omega (arith, low, lt)) in
        let x = vertex_in i v.0 v.1 in
        let above = are.rise y.tail j i d (omega (arith, up)) (omega (arith, low, lt)) in
        let more : is_le (tail_cmp vs y.tail (get_or order i d)) ≡ false =
        greater-only (tail_cmp vs y.tail (get_or order i d)) (omega (arith, above, index-at y.tail j u y d at has refl)) (eq-at y.tail i v.0 x.0 d v.1 x.1 ∙ apart v.0 x.0 v.1 x.1) in
        greater-up (tail_cmp vs y.tail (get_or order i d)) (tail_cmp vs y.tail (get_or order k d)) (are.rise y.tail i k d low lt) more,
  )

-- where the vertices of the node of number g end among all, and among the permitted ones
pub record IsEnded (vs : List Vertex) (order begins : List ℕ) (node : ℤ) (g : ℕ) : Type 0 where
  pub place : ℕ
  pub within : place ≤ length order
  pub to : slice_get begins (g + 1) ≡ Some (length (filter (is_permitted vs) (take place order)))
  pub up_to : IsPartitionPoint (λ w. is_le (tail_cmp vs node w) ≡ true) (λ w. is_le (tail_cmp vs node w) ≡ false) order place

-- where they begin; they have ended unless the node is the last so far
pub record IsBegun (vs : List Vertex) (rules : List Rule) (order begins : List ℕ) (restricted : List Bool) (last node : ℤ) (g : ℕ) : Type 0 where
  pub place : ℕ
  pub within : place ≤ length order
  pub from : slice_get begins g ≡ Some (length (filter (is_permitted vs) (take place order)))
  pub below : IsPartitionPoint (λ w. is_lt (tail_cmp vs node w) ≡ true) (λ w. is_lt (tail_cmp vs node w) ≡ false) order place
  pub rule : slice_get restricted g ≡ Some (has_via rules node)
  pub ended : g + 1 < length begins → IsEnded vs order begins node g
  pub current : g + 1 ≡ length begins → node ≡ last

-- the first i vertices in the order stand at their nodes
pub record AreBegun (vs : List Vertex) (rules : List Rule) (order : List ℕ) (i : ℕ) (last : ℤ) (leaving begins : List ℕ) (restricted : List Bool) (nodes : List ℕ) : Type 0 where
  pub passed : leaving ≡ filter (is_permitted vs) (take i order)
  pub as_many : length nodes ≡ length vs
  pub flags : length restricted ≡ length begins
  pub few : length begins ≤ i
  pub each : (k w g : ℕ) (x : Vertex) → k < i → slice_get order k ≡ Some w → slice_get vs w ≡ Some x → slice_get nodes w ≡ Some g → IsBegun vs rules order begins restricted last x.tail g
  pub latest : (k w g : ℕ) → k + 1 ≡ i → slice_get order k ≡ Some w → slice_get nodes w ≡ Some g → g + 1 ≡ length begins

-- before the first vertex
pub AreBegun-start : (vs : List Vertex) (rules : List Rule) (order : List ℕ) (last : ℤ) (leaving begins : List ℕ) (restricted : List Bool) (nodes : List ℕ)
    → leaving ≡ [] → begins ≡ [] → restricted ≡ [] → length nodes ≡ length vs → AreBegun vs rules order 0 last leaving begins restricted nodes
AreBegun-start vs rules order last leaving begins restricted nodes e f g long = record {
  passed = e;
  as_many = long;
  flags = omega (arith, ap length f, ap length g);
  few = omega (arith, ap length f);
  each = λ k w n x lt at has its. absurd (omega (arith, lt));
  latest = λ k w n up at its. absurd (omega (arith, up));
}

-- the same of the same lists
pub AreBegun-as : (vs : List Vertex) (rules : List Rule) (order : List ℕ) (i : ℕ) (last last' : ℤ) (leaving leaving' begins begins' : List ℕ) (restricted restricted' : List Bool) (nodes nodes' : List ℕ)
    → last' ≡ last → leaving' ≡ leaving → begins' ≡ begins → restricted' ≡ restricted → nodes' ≡ nodes
    → AreBegun vs rules order i last leaving begins restricted nodes → AreBegun vs rules order i last' leaving' begins' restricted' nodes'
AreBegun-as vs rules order i last last' leaving leaving' begins begins' restricted restricted' nodes nodes' a b c d e h = rw (a, b, c, d, e) h

module _ (vs : List Vertex) (rules : List Rule) (order : List ℕ) (are : AreDepartures vs order) (i : ℕ) (last : ℤ) (leaving begins : List ℕ) (restricted : List Bool) (nodes : List ℕ)
    (h : AreBegun vs rules order i last leaving begins restricted nodes) where
  -- the vertex before this place, at the last node
  before-last : 0 < i → i ≤ length order → (j : ℕ) × (u : ℕ) × (y : Vertex) × (g : ℕ) × (j + 1 ≡ i) × (slice_get order j ≡ Some u) × (slice_get vs u ≡ Some y) × (slice_get nodes u ≡ Some g) × (y.tail ≡ last)
  before-last some within =
      let j = below_some i some in
      let u = get_some order j.0 (omega (arith, j.1, within)) in
      let y = vertex_in vs order are j.0 u.0 u.1 in
      let g = get_some nodes u.0 (omega (arith, h.as_many, slice_get_within vs u.0 y.0 y.1)) in
      (j.0, u.0, y.0, g.0, j.1, u.1, y.1, g.1, (h.each j.0 u.0 g.0 y.0 (omega (arith, j.1)) u.1 y.1 g.1).current (h.latest j.0 u.0 g.0 j.1 u.1 g.1))

  -- the last node has a number
  pub AreBegun-some : 0 < i → i ≤ length order → 1 ≤ length restricted
  AreBegun-some some within = let u = before-last some within in omega (arith, h.latest u.0 u.1 u.3 u.4 u.5 u.7, h.flags)

  -- where another node's vertices begin, or none are left, the last node's end
  ends : (begins' : List ℕ) (node : ℤ) (g : ℕ) → i ≤ length order → begins' ≡ begins ++ length leaving ∷ []
      → ((v : ℕ) (x : Vertex) → slice_get order i ≡ Some v → slice_get vs v ≡ Some x → int_eq x.tail last ≡ false)
      → IsBegun vs rules order begins restricted last node g → IsEnded vs order begins' node g
  ends begins' node g within more apart b =
      elim (cases_lt (g + 1) (length begins)) [
        | inl lt ↦
            let e = b.ended lt in
            record {
              place = e.place;
              within = e.within;
              to = ap (λ (l : List ℕ). slice_get l (g + 1)) more ∙ get_append begins (length leaving ∷ []) (g + 1) (length (filter (is_permitted vs) (take e.place order))) e.to;
              up_to = e.up_to;
            }
        | inr past ↦
            let inside : g < length begins = slice_get_within begins g (length (filter (is_permitted vs) (take b.place order))) b.from in
            let at_end : g + 1 ≡ length begins = omega (arith, past, inside) in
            let same : node ≡ last = b.current at_end in
            let u = before-last (omega (arith, inside, h.few)) within in
            let tail : u.2.tail ≡ last = u.8 in
            record {
              place = i;
              within = within;
              to = ap (λ (l : List ℕ). slice_get l (g + 1)) more ∙ ap (slice_get (begins ++ length leaving ∷ [])) at_end ∙ get_pushed begins (length leaving) ∙ ap (λ (l : List ℕ). Some (length l)) h.passed;
              up_to = subst (λ (t : ℤ). IsPartitionPoint (λ w. is_le (tail_cmp vs t w) ≡ true) (λ w. is_le (tail_cmp vs t w) ≡ false) order i) (tail ∙ sym same)
                  (closes vs order are i u.0 u.1 u.2 u.4 u.5 u.6 (λ v x at has. ap (int_eq x.tail) tail ∙ apart v x at has));
            }
      ]

  -- one vertex more, at the node that is now the last
  module _ (v : ℕ) (x : Vertex) (at : slice_get order i ≡ Some v) (has : slice_get vs v ≡ Some x) where
    grown : (last' : ℤ) (begins' : List ℕ) (restricted' : List Bool) (g : ℕ) → g + 1 ≡ length begins' → length restricted' ≡ length begins' → length begins' ≤ i + 1
        → IsBegun vs rules order begins' restricted' last' x.tail g
        → ((node : ℤ) (n : ℕ) → IsBegun vs rules order begins restricted last node n → IsBegun vs rules order begins' restricted' last' node n)
        → AreBegun vs rules order (i + 1) last' (leaving ++ filter (is_permitted vs) (v ∷ [])) begins' restricted' (set nodes v g)
    grown last' begins' restricted' g latest flags few here keep = record {
      passed =
          ap (λ (l : List ℕ). l ++ filter (is_permitted vs) (v ∷ [])) h.passed
          ∙ sym (filter-append (is_permitted vs) (take i order) (v ∷ []))
          ∙ ap (filter (is_permitted vs)) (sym (take-get order i v at));
      as_many = length-set nodes v g ∙ h.as_many;
      flags = flags;
      few = few;
      each = λ k w n y lt its says found.
          elim (get_set nodes v w g n found) [
            | inl same ↦
                let vertex : x ≡ y = same_Some x y (sym has ∙ ap (slice_get vs) (sym same.0) ∙ says) in
                subst (λ (m : ℕ). IsBegun vs rules order begins' restricted' last' y.tail m) (sym same.1) (subst (λ (z : Vertex). IsBegun vs rules order begins' restricted' last' z.tail g) vertex here)
            | inr other ↦ keep y.tail n (h.each k w n y (before-here k w lt its other.0) its says other.1)
          ];
      latest = λ k w n up its found.
          let here : k ≡ i = omega (arith, up) in
          let vertex : w ≡ v = same_Some w v (sym its ∙ ap (slice_get order) here ∙ at) in
          elim (get_set nodes v w g n found) [
            | inl same ↦ omega (arith, same.1, latest)
            | inr other ↦ absurd (other.0 vertex)
          ];
    }
      where
        before-here : (k w : ℕ) → k < i + 1 → slice_get order k ≡ Some w → w ≢ v → k < i
        before-here k w lt its other =
            elim (cases_lt k i) [
              | inl before ↦ before
              | inr past ↦ let here : k ≡ i = omega (arith, lt, past) in absurd (other (same_Some w v (sym its ∙ ap (slice_get order) here ∙ at)))
            ]

    -- it leaves the last node
    pub AreBegun-same : 0 < i → x.tail ≡ last → AreBegun vs rules order (i + 1) last (leaving ++ filter (is_permitted vs) (v ∷ [])) begins restricted (set nodes v (length restricted - 1))
    AreBegun-same some same =
        let u = before-last some (omega (arith, slice_get_within order i v at)) in
        let number : u.3 + 1 ≡ length begins = h.latest u.0 u.1 u.3 u.4 u.5 u.7 in
        let its : length restricted - 1 ≡ u.3 = omega (arith, number, h.flags) in
        let here : IsBegun vs rules order begins restricted last u.2.tail u.3 = h.each u.0 u.1 u.3 u.2 (omega (arith, u.4)) u.5 u.6 u.7 in
        subst (λ (n : ℕ). AreBegun vs rules order (i + 1) last (leaving ++ filter (is_permitted vs) (v ∷ [])) begins restricted (set nodes v n)) (sym its)
        (grown last begins restricted u.3 number h.flags (omega (arith, h.few)) (subst (λ (t : ℤ). IsBegun vs rules order begins restricted last t u.3) (u.8 ∙ sym same) here) (λ node n b. b))

    -- it leaves another node
    pub AreBegun-next : (begins' : List ℕ) (restricted' : List Bool) → (0 < i → int_eq x.tail last ≡ false) → begins' ≡ begins ++ length leaving ∷ [] → restricted' ≡ restricted ++ has_via rules x.tail ∷ []
        → AreBegun vs rules order (i + 1) x.tail (leaving ++ filter (is_permitted vs) (v ∷ [])) begins' restricted' (set nodes v (length restricted' - 1))
    AreBegun-next begins' restricted' apart more flag =
        let within : i < length order = slice_get_within order i v at in
        let long : length begins' ≡ length begins + 1 = omega (arith, ap length more, length-append begins (length leaving ∷ [])) in
        let long2 : length restricted' ≡ length restricted + 1 = omega (arith, ap length flag, length-append restricted (has_via rules x.tail ∷ [])) in
        let its : length restricted' - 1 ≡ length begins = omega (arith, long2, h.flags) in
        let others : (n : ℕ) → n < length begins → ((w : ℕ) (y : Vertex) → slice_get order i ≡ Some w → slice_get vs w ≡ Some y → int_eq y.tail last ≡ false) =
        λ n lt w y its says.
        let vertex : w ≡ v = same_Some w v (sym its ∙ at) in
        let thing : y ≡ x = same_Some y x (sym says ∙ ap (slice_get vs) vertex ∙ has) in
        ap (λ (z : Vertex). int_eq z.tail last) thing ∙ apart (omega (arith, lt, h.few)) in
        subst (λ (n : ℕ). AreBegun vs rules order (i + 1) x.tail (leaving ++ filter (is_permitted vs) (v ∷ [])) begins' restricted' (set nodes v n)) (sym its)
        (grown x.tail begins' restricted' (length begins) (sym long) (omega (arith, long, long2, h.flags)) (omega (arith, long, h.few))
        (record {
          place = i;
          within = omega (arith, within);
          from = ap (λ (l : List ℕ). slice_get l (length begins)) more ∙ get_pushed begins (length leaving) ∙ ap (λ (l : List ℕ). Some (length l)) h.passed;
          below = opens vs order are i v x at has (λ k u y up its says. lower k u y up its says);
          rule = ap (λ (l : List Bool). slice_get l (length begins)) flag ∙ ap (slice_get (restricted ++ has_via rules x.tail ∷ [])) (sym h.flags) ∙ get_pushed restricted (has_via rules x.tail);
          ended = λ lt. absurd (omega (arith, lt, long));
          current = λ e. refl;
        })
        (λ node n b.
        let inside : n < length begins = slice_get_within begins n (length (filter (is_permitted vs) (take b.place order))) b.from in
        record {
          place = b.place;
          within = b.within;
          from = ap (λ (l : List ℕ). slice_get l n) more ∙ get_append begins (length leaving ∷ []) n (length (filter (is_permitted vs) (take b.place order))) b.from;
          below = b.below;
          rule = ap (λ (l : List Bool). slice_get l n) flag ∙ get_append restricted (has_via rules x.tail ∷ []) n (has_via rules node) b.rule;
          ended = λ lt. ends begins' node n (omega (arith, within)) more (others n inside) b;
          current = λ e. absurd (omega (arith, e, long, inside));
        }))
      where
        other-way : (b : Bool) → int_eq last x.tail ≡ b → int_eq x.tail last ≡ false → int_eq last x.tail ≡ false
        other-way true e off = let is : int_eq x.tail last ≡ true = (Decides-int_eq x.tail last).1 (sym ((Decides-int_eq last x.tail).0 e)) in let clash : true ≡ false = sym is ∙ off in cc
        other-way false e off = e

        lower : (k u : ℕ) (y : Vertex) → k + 1 ≡ i → slice_get order k ≡ Some u → slice_get vs u ≡ Some y → int_eq y.tail x.tail ≡ false
        lower k u y up its says =
            let g = get_some nodes u (omega (arith, h.as_many, slice_get_within vs u y says)) in
            let tail : y.tail ≡ last = (h.each k u g.0 y (omega (arith, up)) its says g.1).current (h.latest k u g.0 up its g.1) in
            let off : int_eq x.tail last ≡ false = apart (omega (arith, up)) in
            ap (λ (t : ℤ). int_eq t x.tail) tail ∙ other-way (int_eq last x.tail) refl off

  -- all are added
  begun-at : i ≡ length order → (v g : ℕ) (x : Vertex) → slice_get vs v ≡ Some x → slice_get nodes v ≡ Some g → IsBegun vs rules order begins restricted last x.tail g
  begun-at all v g x has found =
      let k = get_Contains order v (are.every v (slice_get_within vs v x has)) in
      h.each k.0 v g x (omega (arith, all, slice_get_within order k.0 v k.1)) k.1 has found

  module _ (all : i ≡ length order) (begins' : List ℕ) (more : begins' ≡ begins ++ length leaving ∷ []) where
    pub AreFans-all : AreFans vs leaving begins' restricted nodes
    AreFans-all = record {
      as_many = h.as_many;
      flags = omega (arith, ap length more, length-append begins (length leaving ∷ []), h.flags);
      each = λ v g x has found.
          let b = begun-at all v g x has found in
          let e =
          ends begins' x.tail g (omega (arith, all)) more (λ w y its says. absurd (omega (arith, all, slice_get_within order i w its))) b in
          let place = IsPlace-found vs order are x.tail b.place e.place b.below e.up_to b.within e.within in
          let whole : leaving ≡ filter (is_permitted vs) order = h.passed ∙ ap (filter (is_permitted vs)) (take_all i order (omega (arith, all))) in
          record {
            begin = length (filter (is_permitted vs) (take b.place order));
            end = length (filter (is_permitted vs) (take e.place order));
            from = ap (λ (l : List ℕ). slice_get l g) more ∙ get_append begins (length leaving ∷ []) g (length (filter (is_permitted vs) (take b.place order))) b.from;
            to = e.to;
            ordered = filter-longer (is_permitted vs) order b.place e.place place.ordered;
            within = omega (arith, ap length whole, filter-within (is_permitted vs) order b.place e.place place.ordered);
            between =
                ap (λ (l : List ℕ). take (length (filter (is_permitted vs) (take e.place order)) - length (filter (is_permitted vs) (take b.place order))) (drop (length (filter (is_permitted vs) (take b.place order))) l)) whole
                ∙ filter-between (is_permitted vs) order b.place e.place place.ordered
                ∙ ap (filter (is_permitted vs)) place.between
                ∙ fan-is vs x.tail;
          };
    }

  pub AreRestricted-all : i ≡ length order → AreRestricted vs rules restricted nodes
  AreRestricted-all all = record { each = λ v g x has found. (begun-at all v g x has found).rule }

-- what is read at a place
pub read-at : {X : Type 0} (xs : List X) (k i : ℕ) (r g : X) → k ≡ i → slice_get xs i ≡ Some g → r ≡ get_or xs k r → r ≡ g
read-at xs k i r g same at is = is ∙ ap (λ (n : ℕ). get_or xs n r) same ∙ get_or_from_slice_get xs i g r at

-- what is read for a vertex of the node where it ends, by the other direction of its segment
module _ (segments : List Segment) (leaving begins : List ℕ) (restricted : List Bool) (nodes : List ℕ) (are : AreFans (vertices segments) leaving begins restricted nodes)
    (v : ℕ) (lt : v < 2 * length segments) (other : ℕ) (same : other ≡ opposite v) where
  pub number-ahead : (g : ℕ) × (slice_get nodes (opposite v) ≡ Some g)
  number-ahead =
      let w = both-ways segments v lt in
      get_some nodes (opposite v) (omega (arith, are.as_many, slice_get_within (vertices segments) (opposite v) w.1 w.3))

  pub fan-ahead : IsFan (vertices segments) leaving begins (both-ways segments v lt).0.head number-ahead.0
  fan-ahead =
      let w = both-ways segments v lt in
      subst (λ (t : ℤ). IsFan (vertices segments) leaving begins t number-ahead.0) w.4 (are.each (opposite v) number-ahead.0 w.1 w.3 number-ahead.1)

  pub other-within : other < length nodes
  other-within = omega (arith, same, slice_get_within nodes (opposite v) number-ahead.0 number-ahead.1)

  module _ (node : ℕ) (read : node ≡ get_or nodes other node) where
    pub number-is : node ≡ number-ahead.0
    number-is = read-at nodes other (opposite v) node number-ahead.0 same number-ahead.1 read

    pub node-within : node + 1 < length begins
    node-within = omega (arith, number-is, slice_get_within begins (number-ahead.0 + 1) fan-ahead.end fan-ahead.to)

    pub flag-within : node < length restricted
    flag-within = omega (arith, node-within, are.flags)

    pub flag-is : (rules : List Rule) (flag : Bool) → AreRestricted (vertices segments) rules restricted nodes → flag ≡ get_or restricted node flag → flag ≡ has_via rules (both-ways segments v lt).0.head
    flag-is rules flag marks is =
        let w = both-ways segments v lt in
        read-at restricted node number-ahead.0 flag (has_via rules w.1.tail) number-is (marks.each (opposite v) number-ahead.0 w.1 w.3 number-ahead.1) is ∙ ap (has_via rules) w.4

    module _ (first end : ℕ) (first_is : first ≡ get_or begins node first) (end_is : end ≡ get_or begins (node + 1) end) where
      pub first-ahead : first ≡ fan-ahead.begin
      first-ahead = read-at begins node number-ahead.0 first fan-ahead.begin number-is fan-ahead.from first_is

      pub end-ahead : end ≡ fan-ahead.end
      end-ahead = read-at begins (node + 1) (number-ahead.0 + 1) end fan-ahead.end (ap (λ (n : ℕ). n + 1) number-is) fan-ahead.to end_is

      pub ordered-ahead : first ≤ end
      ordered-ahead = omega (arith, first-ahead, end-ahead, fan-ahead.ordered)

      pub within-ahead : end ≤ length leaving
      within-ahead = omega (arith, end-ahead, fan-ahead.within)

      -- the vertices that leave the head stand there
      pub between-ahead : take (end - first) (drop first leaving) ≡ fan (vertices segments) (both-ways segments v lt).0.head
      between-ahead =
          ap (λ (n : ℕ). take (n - first) (drop first leaving)) end-ahead
          ∙ ap (λ (n : ℕ). take (fan-ahead.end - n) (drop n leaving)) first-ahead
          ∙ fan-ahead.between

      -- they are the exits, and the way back where it is permitted
      pub count-ahead : (back : ℕ) (may : Bool) → back ≡ opposite v → option_map (λ x. x.permitted) (slice_get (vertices segments) back) ≡ Some may → end - first ≡ exits (vertices segments) v + bit may
      count-ahead back may is has =
          let vs = vertices segments in
          let w = both-ways segments v lt in
          let its : w.1.permitted ≡ may = field-at (λ (z : Vertex). z.permitted) vs (opposite v) w.1 may w.3 (ap (λ (k : ℕ). option_map (λ (z : Vertex). z.permitted) (slice_get vs k)) (sym is) ∙ has) in
          let enough : end - first ≤ length (drop first leaving) = omega (arith, ordered-ahead, within-ahead, length-drop first leaving) in
          let long : end - first ≡ length (leavers vs w.0.head 0) =
          sym (length-take-le (end - first) (drop first leaving) enough) ∙ ap length between-ahead ∙ length-map (leavers vs w.0.head 0) (λ (e : ℕ × Vertex). e.0) in
          omega (arith, long, exits-leaving vs v w.0 w.1 w.2 w.3 w.4, ap bit its)

-- the turns onto all that leave the head
pub turns_onto-fan : (vs : List Vertex) (v : ℕ) (x : Vertex) → slice_get vs v ≡ Some x → turns_onto v (fan vs x.head) ≡ turns_onto_all vs v
turns_onto-fan vs v x at =
    ap (map {A = ℕ} {B = ℕ × ℕ} (λ e. (v, e))) (filter-map (λ e. not (e == opposite v)) (λ (e : ℕ × Vertex). e.0) (leavers vs x.head 0))
    ∙ map-map {Z = ℕ × ℕ} (λ (e : ℕ). (v, e)) (λ (e : ℕ × Vertex). e.0) (filter (λ (e : ℕ × Vertex). not (e.0 == opposite v)) (leavers vs x.head 0))
    ∙ sym (turns_onto_all-at vs v x at)
