-- The rows of a speeds file by the permitted vertices that they are for.
use Rattle.std.proofs.Common.{◌≡◌, ◌≢◌, ℕ, zero, suc, ◌+◌, ◌*◌, ◌/◌, ◌<◌, ◌≤◌, Bool, true, false, cond, inl, inr, List, [], ◌∷◌, ◌++◌, length, length-append, set, replicate, get_or-set_other, get_or-set_same, take, Option, Some, None, Vec, get_or, arith, refl, sym, subst, ap, ap₂, ◌∙◌}
use Rattle.std.specs.Prelude.{ℤ, int_lt, is_some, not, ◌||◌, option_map, option_and_then}
use Rattle.std.specs.Global.{Global}
use Rattle.std.specs.HashMap.{get}
use Rattle.std.specs.List.{slice_get}
use Rattle.std.proofs.lemmas.Bool.{cases_lt}
use Rattle.std.proofs.lemmas.Int.{ints}
use Rattle.std.proofs.lemmas.List.{take_all}
use Rattle.std.proofs.lemmas.Option.{get_or_from_slice_get, none-some, same_Some, slice_get_past, slice_get_within}
use Rattle.std.proofs.Math.ListN.{length-set}
use Rattle.std.proofs.Math.Nat.{eq-or-lt_of_le}
use Rattle.list_lemmas.proofs.Gets.{get_append, get_is, get_pushed, get_some}
use Rattle.road_segments.specs.Vertex.{Vertex}
use Rattle.metric_make.specs.LastRows.{pair_eq}
use Rattle.metric_make.specs.RowsOfWays.{AreMarked, ArePaired, AreRowsTold, AreWaysTold, at_place, first_or, in_order, known, place, place_of, row_of}
use Rattle.metric_make.specs.TrafficRows.{is_way, last_where, speed_for}
use Rattle.metric_make.specs.declared.rows_of_ways.Pairs.{Pairs}
use Rattle.metric_make.specs.declared.rows_of_ways.RowsOfWays.{RowsOfWays}
use Rattle.metric_make.specs.declared.under_speeds.SpeedTable.{SpeedTable}
use Rattle.metric_make.specs.declared.under_speeds.SpeedTable.TheVariants.{OfRows, OfWays}
use Rattle.metric_make.proofs.LastRowLemmas.{count-step, last_where-push, pair_eq-itself, pair_eq-same, take-push, told-no_rows}
use Rattle.metric_make.proofs.MatchLemmas.{is_way-permitted, matched-closed, nodes_of, way-permitted}
use Rattle.traffic_files.specs.declared.rows.SpeedRow.{SpeedRow}

abbrev two : ℤ → ℤ → ℤ × ℤ
two a b = (a, b)

-- both ways between two nodes are in one order
pub in_order-back : (a b : ℤ) → ◌≡◌ {A = ℤ × ℤ} (in_order (b, a)) (in_order (a, b))
in_order-back a b = by (int_lt b a) (int_lt a b) refl refl where
  by : (s t : Bool) → int_lt b a ≡ s → int_lt a b ≡ t → ◌≡◌ {A = ℤ × ℤ} (cond t (a, b) (b, a)) (cond s (b, a) (a, b))
  by true true back there = absurd (omega (arith, ints))
  by true false back there = refl
  by false true back there = refl
  by false false back there = let same : a ≡ b = omega (arith, ints) in ap (λ (z : ℤ). two b z) same ∙ ap (λ (z : ℤ). two z b) (sym same)

-- of the two ways only one goes to the lesser node
one-way : (p q : ℤ × ℤ) → ◌≡◌ {A = ℤ × ℤ} (in_order p) (in_order q) → int_lt p.1 p.0 ≡ int_lt q.1 q.0 → p ≡ q
one-way p q same side = by (int_lt p.1 p.0) (int_lt q.1 q.0) refl refl where
  by : (s t : Bool) → int_lt p.1 p.0 ≡ s → int_lt q.1 q.0 ≡ t → p ≡ q
  by true true e f =
      let turned : ◌≡◌ {A = ℤ × ℤ} (p.1, p.0) (q.1, q.0) =
      ap (λ (b : Bool). cond b (two p.1 p.0) p) (sym e) ∙ same ∙ ap (λ (b : Bool). cond b (two q.1 q.0) q) f in
      ap (λ (z : ℤ × ℤ). two z.1 z.0) turned
  by false false e f = ap (λ (b : Bool). cond b (two p.1 p.0) p) (sym e) ∙ same ∙ ap (λ (b : Bool). cond b (two q.1 q.0) q) f
  by true false e f = let no : true ≡ false = sym e ∙ side ∙ f in cc
  by false true e f = let no : false ≡ true = sym e ∙ side ∙ f in cc

-- places are apart, of two segments and of both ways along one
place-apart : (f g : ℕ) (p q : ℤ × ℤ) → place f p ≡ place g q → (f ≡ g) × (int_lt p.1 p.0 ≡ int_lt q.1 q.0)
place-apart f g p q same = by (int_lt p.1 p.0) (int_lt q.1 q.0) refl refl where
  by : (s t : Bool) → int_lt p.1 p.0 ≡ s → int_lt q.1 q.0 ≡ t → (f ≡ g) × (int_lt p.1 p.0 ≡ int_lt q.1 q.0)
  by true true e h =
      let at : 2 * f + 1 ≡ 2 * g + 1 = ap (λ (b : Bool). cond b (2 * f + 1) (2 * f)) (sym e) ∙ same ∙ ap (λ (b : Bool). cond b (2 * g + 1) (2 * g)) h in
      (omega (arith, at), e ∙ sym h)
  by false false e h =
      let at : 2 * f ≡ 2 * g = ap (λ (b : Bool). cond b (2 * f + 1) (2 * f)) (sym e) ∙ same ∙ ap (λ (b : Bool). cond b (2 * g + 1) (2 * g)) h in
      (omega (arith, at), e ∙ sym h)
  by true false e h =
      let at : 2 * f + 1 ≡ 2 * g = ap (λ (b : Bool). cond b (2 * f + 1) (2 * f)) (sym e) ∙ same ∙ ap (λ (b : Bool). cond b (2 * g + 1) (2 * g)) h in
      absurd (omega (arith, at))
  by false true e h =
      let at : 2 * f ≡ 2 * g + 1 = ap (λ (b : Bool). cond b (2 * f + 1) (2 * f)) (sym e) ∙ same ∙ ap (λ (b : Bool). cond b (2 * g + 1) (2 * g)) h in
      absurd (omega (arith, at))

place-within : (f n : ℕ) (q : ℤ × ℤ) → f < n → place f q < 2 * n
place-within f n q within = by (int_lt q.1 q.0) where
  by : (s : Bool) → cond s (2 * f + 1) (2 * f) < 2 * n
  by true = omega arith
  by false = omega arith

-- what stands where something was put, and elsewhere
module _ (last : List (Option (Option ℕ))) (i : ℕ) (what : Option (Option ℕ)) where
  put-there : i < length last → at_place (set last i what) i ≡ what
  put-there within =
      let long : i < length (set last i what) = omega (arith, length-set last i what) in
      ap (option_and_then (λ o. o)) (get_is (set last i what) i what long (get_or-set_same last i what what within))

  put-apart : (j : ℕ) → j ≢ i → at_place (set last i what) j ≡ at_place last j
  put-apart j apart = ap (option_and_then (λ o. o)) (elim (cases_lt j (length last)) [
    | inl within ↦
        let x = get_some last j within in
        let long : j < length (set last i what) = omega (arith, length-set last i what) in
        get_is (set last i what) j x.0 long (get_or-set_other last i j what x.0 apart ∙ same-read j x.0 x.1) ∙ sym x.1
    | inr past ↦ slice_get_past (set last i what) j (omega (arith, length-set last i what)) ∙ sym (slice_get_past last j past)
  ])
    where
      same-read : (k : ℕ) (x : Option (Option ℕ)) → slice_get last k ≡ Some x → get_or last k x ≡ x
      same-read k x e = get_or_from_slice_get last k x x e

-- what stands at the place of some nodes is known of them
pub known-at : (pairs : Pairs) (last : List (Option (Option ℕ))) (q : ℤ × ℤ) (i : ℕ) (what : Option (Option ℕ)) → place_of pairs q ≡ Some i → slice_get last i ≡ Some what → known pairs last q ≡ what
known-at pairs last q i what there read = ap (option_and_then (at_place last)) there ∙ ap (option_and_then (λ o. o)) read

-- the place of nodes that are found is one of all
pub place-known : (vs : List Vertex) (n : ℕ) (pairs : Pairs) → ArePaired vs n pairs → (q : ℤ × ℤ) (i : ℕ) → place_of pairs q ≡ Some i → i < 2 * n
place-known vs n pairs paired q i there = by-entry (get pair_eq pairs.entries (in_order q)) refl there where
  by-entry : (o : Option ℕ) → get pair_eq pairs.entries (in_order q) ≡ o → option_map (λ first. place first q) o ≡ Some i → i < 2 * n
  by-entry None e is = absurd (none-some i is)
  by-entry (Some first) e is = subst (λ (k : ℕ). k < 2 * n) (same_Some (place first q) i is) (place-within first n q (paired.between (in_order q) first e).0)

-- other nodes have another place
place-other : (vs : List Vertex) (n : ℕ) (pairs : Pairs) → ArePaired vs n pairs → (p q : ℤ × ℤ) (i : ℕ) → place_of pairs p ≡ Some i → place_of pairs q ≡ Some i → p ≡ q
place-other vs n pairs paired p q i one other = by (get pair_eq pairs.entries (in_order p)) (get pair_eq pairs.entries (in_order q)) refl refl one other where
  by : (f g : Option ℕ) → get pair_eq pairs.entries (in_order p) ≡ f → get pair_eq pairs.entries (in_order q) ≡ g
      → option_map (λ first. place first p) f ≡ Some i → option_map (λ first. place first q) g ≡ Some i → p ≡ q
  by None g e h of-p of-q = absurd (none-some i of-p)
  by (Some f) None e h of-p of-q = absurd (none-some i of-q)
  by (Some f) (Some g) e h of-p of-q =
      let same = place-apart f g p q (same_Some (place f p) i of-p ∙ sym (same_Some (place g q) i of-q)) in
      let mine = paired.between (in_order p) f e in
      let its = paired.between (in_order q) g h in
      let nodes : ◌≡◌ {A = ℤ × ℤ} (in_order p) (in_order q) =
      sym mine.3 ∙ ap (λ (x : Vertex). in_order (x.tail, x.head)) (same_Some mine.1 its.1 (sym mine.2 ∙ ap (λ (k : ℕ). slice_get vs (2 * k)) same.0 ∙ its.2)) ∙ its.3 in
      one-way p q nodes same.1

-- what is known once something is put for the nodes q
pub known-put : (vs : List Vertex) (n : ℕ) (pairs : Pairs) → ArePaired vs n pairs → (q : ℤ × ℤ) (i : ℕ) → place_of pairs q ≡ Some i
    → (last : List (Option (Option ℕ))) → length last ≡ 2 * n → (what : Option (Option ℕ)) → (p : ℤ × ℤ)
    → known pairs (set last i what) p ≡ cond (pair_eq q p) what (known pairs last p)
known-put vs n pairs paired q i there last many what p = by (pair_eq q p) refl where
  by-place : (o : Option ℕ) → place_of pairs p ≡ o → pair_eq q p ≡ false → option_and_then (at_place (set last i what)) o ≡ option_and_then (at_place last) o
  by-place None e apart = refl
  by-place (Some j) e apart = put-apart last i what j elsewhere where
    elsewhere : j ≢ i
    elsewhere same =
        let equal : pair_eq q p ≡ true = ap (pair_eq q) (place-other vs n pairs paired p q i (e ∙ ap Some same) there) ∙ pair_eq-itself q in
        cc

  by : (b : Bool) → pair_eq q p ≡ b → known pairs (set last i what) p ≡ cond b what (known pairs last p)
  by true e =
      let within : i < length last = let under = place-known vs n pairs paired q i there in omega (arith, many, under) in
      ap (known pairs (set last i what)) (sym (pair_eq-same q p e)) ∙ ap (option_and_then (at_place (set last i what))) there ∙ put-there last i what within
  by false e = by-place (place_of pairs p) refl e

-- where nothing is put nothing is known
pub blank : (n : ℕ) (pairs : Pairs) (q : ℤ × ℤ) → known pairs (replicate n None) q ≡ None
blank n pairs q = by-place (place_of pairs q) where
  nothing : (n i : ℕ) → at_place (replicate n None) i ≡ None
  nothing zero i = refl
  nothing (suc n) zero = refl
  nothing (suc n) (suc i) = nothing n i

  by-place : (o : Option ℕ) → option_and_then (at_place (replicate n None)) o ≡ None
  by-place None = refl
  by-place (Some i) = nothing n i

-- the place of a vertex, by the first segment between its nodes
pub place-of-vertex : (vs : List Vertex) (n : ℕ) (pairs : Pairs) → ArePaired vs n pairs → (v : ℕ) (x : Vertex) → slice_get vs v ≡ Some x → v < 2 * n → (tail head : ℤ) → x.tail ≡ tail → x.head ≡ head
    → (first : ℕ) → slice_get pairs.firsts.items (v / 2) ≡ Some first → place_of pairs (tail, head) ≡ Some (place first (tail, head))
place-of-vertex vs n pairs paired v x at small tail head from to first its =
    ap (option_map (λ f. place f (tail, head))) (
    ap (λ (z : ℤ). get pair_eq pairs.entries (in_order (z, head))) (sym from) ∙ ap (λ (z : ℤ). get pair_eq pairs.entries (in_order (x.tail, z))) (sym to) ∙ paired.first v x small at ∙ its
    )

-- one segment more, between the nodes of its vertices
module _ (vs : List Vertex) (s : ℕ) (x y : Vertex) (along : slice_get vs (2 * s) ≡ Some x) (against : slice_get vs (2 * s + 1) ≡ Some y) (tails : y.tail ≡ x.head) (heads : y.head ≡ x.tail)
    (old : Pairs) (paired : ArePaired vs s old) (nodes : ℤ × ℤ) (between : in_order (x.tail, x.head) ≡ nodes) (new : Pairs) (first : ℕ)
    (its : first ≡ first_or s (get pair_eq old.entries nodes)) (pushed : new.firsts.items ≡ old.firsts.items ++ first ∷ [])
    (entries : (q : ℤ × ℤ) → get pair_eq new.entries q ≡ cond (pair_eq nodes q) (Some first) (get pair_eq old.entries q)) where
  at-nodes : get pair_eq new.entries nodes ≡ Some first
  at-nodes = entries nodes ∙ ap (λ (b : Bool). cond b (Some first) (get pair_eq old.entries nodes)) (pair_eq-itself nodes)

  -- what was found is found again
  kept : (q : ℤ × ℤ) (f : ℕ) → get pair_eq old.entries q ≡ Some f → get pair_eq new.entries q ≡ Some f
  kept q f e = by (pair_eq nodes q) refl where
    by : (b : Bool) → pair_eq nodes q ≡ b → get pair_eq new.entries q ≡ Some f
    by true same =
        let at : nodes ≡ q = pair_eq-same nodes q same in
        let is : first ≡ f = its ∙ ap (first_or s) (ap (get pair_eq old.entries) at ∙ e) in
        ap (get pair_eq new.entries) (sym at) ∙ at-nodes ∙ ap Some is
    by false apart = entries q ∙ ap (λ (b : Bool). cond b (Some first) (get pair_eq old.entries q)) apart ∙ e

  last-one : slice_get new.firsts.items s ≡ Some first
  last-one = ap (λ (l : List ℕ). slice_get l s) pushed ∙ ap (slice_get (old.firsts.items ++ first ∷ [])) (sym paired.many) ∙ get_pushed old.firsts.items first

  of-vertex : (v : ℕ) (z : Vertex) → v < 2 * (s + 1) → slice_get vs v ≡ Some z → get pair_eq new.entries (in_order (z.tail, z.head)) ≡ slice_get new.firsts.items (v / 2)
  of-vertex v z small at = elim (cases_lt v (2 * s)) [
    | inl before ↦
        let f = get_some old.firsts.items (v / 2) (omega (arith, paired.many)) in
        kept (in_order (z.tail, z.head)) f.0 (paired.first v z before at ∙ f.1)
        ∙ sym (ap (λ (l : List ℕ). slice_get l (v / 2)) pushed ∙ get_append old.firsts.items (first ∷ []) (v / 2) f.0 f.1)
    | inr late ↦ elim (cases_lt v (2 * s + 1)) [
      | inl here ↦
          let is : v ≡ 2 * s = omega arith in
          let half : v / 2 ≡ s = omega arith in
          let same : z ≡ x = same_Some z x (sym at ∙ ap (slice_get vs) is ∙ along) in
          ap (get pair_eq new.entries) (ap (λ (w : Vertex). in_order (w.tail, w.head)) same ∙ between) ∙ at-nodes ∙ sym (ap (slice_get new.firsts.items) half ∙ last-one)
      | inr there ↦
          let is : v ≡ 2 * s + 1 = omega arith in
          let half : v / 2 ≡ s = omega arith in
          let same : z ≡ y = same_Some z y (sym at ∙ ap (slice_get vs) is ∙ against) in
          let turned : in_order (y.tail, y.head) ≡ in_order (x.tail, x.head) =
          ap (λ (a : ℤ). in_order (a, y.head)) tails ∙ ap (λ (b : ℤ). in_order (x.head, b)) heads ∙ in_order-back x.tail x.head in
          ap (get pair_eq new.entries) (ap (λ (w : Vertex). in_order (w.tail, w.head)) same ∙ turned ∙ between) ∙ at-nodes ∙ sym (ap (slice_get new.firsts.items) half ∙ last-one)
    ]
  ]

  lies : (q : ℤ × ℤ) (f : ℕ) → get pair_eq new.entries q ≡ Some f → (f < s + 1) × (w : Vertex) × (slice_get vs (2 * f) ≡ Some w) × (in_order (w.tail, w.head) ≡ q)
  lies q f e = by (pair_eq nodes q) refl where
    by-old : (o : Option ℕ) → get pair_eq old.entries nodes ≡ o → nodes ≡ q → f ≡ first → (f < s + 1) × (w : Vertex) × (slice_get vs (2 * f) ≡ Some w) × (in_order (w.tail, w.head) ≡ q)
    by-old None was at is =
        let new_one : f ≡ s = is ∙ its ∙ ap (first_or s) was in
        (omega (arith, new_one), x, ap (λ (k : ℕ). slice_get vs (2 * k)) new_one ∙ along, between ∙ at)
    by-old (Some g) was at is =
        let old_one : f ≡ g = is ∙ its ∙ ap (first_or s) was in
        let there = paired.between nodes g was in
        (omega (arith, old_one, there.0), there.1, ap (λ (k : ℕ). slice_get vs (2 * k)) old_one ∙ there.2, there.3 ∙ at)

    by : (b : Bool) → pair_eq nodes q ≡ b → (f < s + 1) × (w : Vertex) × (slice_get vs (2 * f) ≡ Some w) × (in_order (w.tail, w.head) ≡ q)
    by true same =
        let at : nodes ≡ q = pair_eq-same nodes q same in
        by-old (get pair_eq old.entries nodes) refl at (same_Some f first (sym e ∙ ap (get pair_eq new.entries) (sym at) ∙ at-nodes))
    by false apart =
        let there = paired.between q f (sym (ap (λ (b : Bool). cond b (Some first) (get pair_eq old.entries q)) apart) ∙ sym (entries q) ∙ e) in
        (omega (arith, there.0), there.1, there.2, there.3)

  pub paired-push : ArePaired vs (s + 1) new
  paired-push = record {
    many = ap length pushed ∙ length-append old.firsts.items (first ∷ []) ∙ ap (λ (n : ℕ). n + 1) paired.many;
    first = of-vertex;
    between = lies;
  }

either : {A : Type 0} (a b : Bool) (x y : A) → cond b x (cond a x y) ≡ cond (a || b) x y
either {A} true true x y = refl
either {A} true false x y = refl
either {A} false true x y = refl
either {A} false false x y = refl

-- one permitted vertex more
pub marks-push : (vs : List Vertex) (v : ℕ) (x : Vertex) → slice_get vs v ≡ Some x → x.permitted ≡ true → (tail head : ℤ) → x.tail ≡ tail → x.head ≡ head → (old new : ℤ × ℤ → Option (Option ℕ))
    → ((q : ℤ × ℤ) → new q ≡ cond (pair_eq (tail, head) q) (Some None) (old q))
    → ((q : ℤ × ℤ) → old q ≡ cond (is_way (take v vs) q.0 q.1) (Some None) None)
    → (q : ℤ × ℤ) → new q ≡ cond (is_way (take (v + 1) vs) q.0 q.1) (Some None) None
marks-push vs v x at permitted tail head from to old new updates before q =
    let first : Option (Option ℕ) = Some None in
    updates q
    ∙ ap (λ (o : Option (Option ℕ)). cond (pair_eq (tail, head) q) (Some None) o) (before q)
    ∙ either (is_way (take v vs) q.0 q.1) (pair_eq (tail, head) q) first None
    ∙ sym (ap (λ (b : Bool). cond b first None) (is_way-permitted vs v x at permitted tail head from to q))

-- one row more is the last for its nodes
speed_for-push : (rows : List SpeedRow) (i : ℕ) (row : SpeedRow) → slice_get rows i ≡ Some row → (q : ℤ × ℤ)
    → speed_for (take (i + 1) rows) q.0 q.1 ≡ cond (pair_eq (nodes_of row) q) (Some row) (speed_for (take i rows) q.0 q.1)
speed_for-push rows i row here q =
    ap (last_where (λ r. pair_eq (nodes_of r) q)) (take-push rows i row here) ∙ last_where-push (λ r. pair_eq (nodes_of r) q) (take i rows) row

-- something is known of ways alone
known-way : (rows : List SpeedRow) (b : Bool) (row : Option SpeedRow) (known : Option (Option ℕ)) → option_map (row_of rows) known ≡ cond b (Some row) None → b ≡ is_some known
known-way rows true row None e = absurd (none-some row e)
known-way rows false row None e = refl
known-way rows true row (Some number) e = refl
known-way rows false row (Some number) e = absurd (none-some (row_of rows number) (sym e))

module _ (vs : List Vertex) (rows : List SpeedRow) (i : ℕ) (found : RowsOfWays) (told : AreWaysTold vs rows i found) (row : SpeedRow) (here : slice_get rows i ≡ Some row) where
  its-way : is_way vs row.from row.to ≡ is_some (known found.pairs found.last.items (row.from, row.to))
  its-way = known-way rows (is_way vs row.from row.to) (speed_for (take i rows) row.from row.to) (known found.pairs found.last.items (row.from, row.to)) (told.last (row.from, row.to))

  -- a row for no way is counted
  pub told-unmatched : is_some (known found.pairs found.last.items (row.from, row.to)) ≡ false → AreWaysTold vs rows (i + 1) (record { pairs = found.pairs; last = found.last; unmatched = found.unmatched + 1 })
  told-unmatched none = record {
    whole = told.whole;
    paired = told.paired;
    many = told.many;
    last = λ q. told.last q ∙ by-way q (is_way vs q.0 q.1) refl;
    total = count-step (λ r. not (is_way vs r.from r.to)) rows i found.unmatched (found.unmatched + 1) row true here (ap not closed) told.total refl;
  } where
    closed : is_way vs row.from row.to ≡ false
    closed = its-way ∙ none

    apart : (q : ℤ × ℤ) → is_way vs q.0 q.1 ≡ true → (b : Bool) → pair_eq (nodes_of row) q ≡ b → pair_eq (nodes_of row) q ≡ false
    apart q way true e = let open_too : is_way vs row.from row.to ≡ true = ap (λ (p : ℤ × ℤ). is_way vs p.0 p.1) (pair_eq-same (nodes_of row) q e) ∙ way in cc closed
    apart q way false e = e

    by-way : (q : ℤ × ℤ) (b : Bool) → is_way vs q.0 q.1 ≡ b → cond (is_way vs q.0 q.1) (Some (speed_for (take i rows) q.0 q.1)) None ≡ cond (is_way vs q.0 q.1) (Some (speed_for (take (i + 1) rows) q.0 q.1)) None
    by-way q true e =
        let other = apart q e (pair_eq (nodes_of row) q) refl in
        let same : speed_for (take (i + 1) rows) q.0 q.1 ≡ speed_for (take i rows) q.0 q.1 =
        speed_for-push rows i row here q ∙ ap (λ (b : Bool). cond b (Some row) (speed_for (take i rows) q.0 q.1)) other in
        ap (λ (o : Option SpeedRow). cond (is_way vs q.0 q.1) (Some o) None) (sym same)
    by-way q false e = ap (λ (b : Bool). cond b (Some (speed_for (take i rows) q.0 q.1)) None) e ∙ sym (ap (λ (b : Bool). cond b (Some (speed_for (take (i + 1) rows) q.0 q.1)) None) e)

  -- one for a way is the last for it
  pub told-put : (new : Vec (Option (Option ℕ)) Global) → is_some (known found.pairs found.last.items (row.from, row.to)) ≡ true
      → length new.items ≡ length found.last.items
      → ((q : ℤ × ℤ) → known found.pairs new.items q ≡ cond (pair_eq (row.from, row.to) q) (Some (Some i)) (known found.pairs found.last.items q))
      → AreWaysTold vs rows (i + 1) (record { pairs = found.pairs; last = new; unmatched = found.unmatched })
  told-put new there long writes = record {
    whole = told.whole;
    paired = told.paired;
    many = long ∙ told.many;
    last = λ q. by-nodes q (pair_eq (nodes_of row) q) refl;
    total = count-step (λ r. not (is_way vs r.from r.to)) rows i found.unmatched found.unmatched row false here (ap not way) told.total (omega arith);
  } where
    way : is_way vs row.from row.to ≡ true
    way = its-way ∙ there

    at-nodes : (q : ℤ × ℤ) (b : Bool) → pair_eq (nodes_of row) q ≡ b → known found.pairs new.items q ≡ cond b (Some (Some i)) (known found.pairs found.last.items q)
    at-nodes q b e = writes q ∙ ap (λ (c : Bool). cond c (Some (Some i)) (known found.pairs found.last.items q)) e

    speed-at : (q : ℤ × ℤ) (b : Bool) → pair_eq (nodes_of row) q ≡ b → speed_for (take (i + 1) rows) q.0 q.1 ≡ cond b (Some row) (speed_for (take i rows) q.0 q.1)
    speed-at q b e = speed_for-push rows i row here q ∙ ap (λ (c : Bool). cond c (Some row) (speed_for (take i rows) q.0 q.1)) e

    by-nodes : (q : ℤ × ℤ) (b : Bool) → pair_eq (nodes_of row) q ≡ b → option_map (row_of rows) (known found.pairs new.items q) ≡ cond (is_way vs q.0 q.1) (Some (speed_for (take (i + 1) rows) q.0 q.1)) None
    by-nodes q true e =
        let its : is_way vs q.0 q.1 ≡ true = sym (ap (λ (p : ℤ × ℤ). is_way vs p.0 p.1) (pair_eq-same (nodes_of row) q e)) ∙ way in
        ap (option_map (row_of rows)) (at-nodes q true e) ∙ ap Some here ∙ ap Some (sym (speed-at q true e))
        ∙ sym (ap (λ (b : Bool). cond b (Some (speed_for (take (i + 1) rows) q.0 q.1)) None) its)
    by-nodes q false e =
        ap (option_map (row_of rows)) (at-nodes q false e) ∙ told.last q ∙ ap (λ (o : Option SpeedRow). cond (is_way vs q.0 q.1) (Some o) None) (sym (speed-at q false e))

-- what is found before any row
pub told-none : (vs : List Vertex) (rows : List SpeedRow) (pairs : Pairs) (last : Vec (Option (Option ℕ)) Global) (n : ℕ) → length vs ≡ 2 * n → ArePaired vs n pairs → AreMarked vs pairs last.items
    → AreWaysTold vs rows 0 (record { pairs = pairs; last = last; unmatched = 0 })
told-none vs rows pairs last n whole paired marked = record {
  whole = whole ∙ ap (λ (k : ℕ). 2 * k) (sym paired.many);
  paired = subst (λ (k : ℕ). ArePaired vs k pairs) (sym paired.many) paired;
  many = marked.many;
  last = λ q. ap (option_map (row_of rows)) (marked.marks q) ∙ no-row (is_way vs q.0 q.1);
  total = refl;
} where
  no-row : (b : Bool) → option_map (row_of rows) (cond b (Some None) None) ≡ cond b (Some None) None
  no-row true = refl
  no-row false = refl

-- what stands at the place of a permitted vertex, by the first segment between its nodes, when all rows are there
pub way-row : (vs : List Vertex) (rows : List SpeedRow) (found : RowsOfWays) → AreWaysTold vs rows (length rows) found → (v : ℕ) (x : Vertex) → slice_get vs v ≡ Some x → x.permitted ≡ true
    → (tail head : ℤ) → x.tail ≡ tail → x.head ≡ head → (first i : ℕ) (what : Option (Option ℕ)) → first ≡ get_or found.pairs.firsts.items (v / 2) first → i ≡ place first (tail, head)
    → what ≡ get_or found.last.items i what → option_map (row_of rows) what ≡ Some (speed_for rows tail head)
way-row vs rows found told v x at permitted tail head from to first i what its placed read =
    let pairs = found.pairs in
    let n = length pairs.firsts.items in
    let small : v < 2 * n = let within = slice_get_within vs v x at in omega (arith, told.whole, within) in
    let there : place_of pairs (tail, head) ≡ Some i =
    place-of-vertex vs n pairs told.paired v x at small tail head from to first (get_is pairs.firsts.items (v / 2) first (omega (arith, small)) (sym its)) ∙ ap Some (sym placed) in
    let within : i < length found.last.items = let under = place-known vs n pairs told.paired (tail, head) i there in omega (arith, told.many, under) in
    let way : is_way vs tail head ≡ true = ap₂ (is_way vs) (sym from) (sym to) ∙ way-permitted vs v x at permitted in
    ap (option_map (row_of rows)) (sym (known-at pairs found.last.items (tail, head) i what there (get_is found.last.items i what within (sym read))))
    ∙ told.last (tail, head)
    ∙ ap (λ (b : Bool). cond b (Some (speed_for (take (length rows) rows) tail head)) None) way
    ∙ ap (λ (l : List SpeedRow). Some (speed_for l tail head)) (take_all (length rows) rows (omega arith))

-- what a table tells when a vertex is passed that is closed
pub rows-closed : (vs : List Vertex) (v : ℕ) (x : Vertex) → slice_get vs v ≡ Some x → x.permitted ≡ false → (rows : List SpeedRow) (table : SpeedTable) → AreRowsTold vs rows v table → AreRowsTold vs rows (v + 1) table
rows-closed vs v x at closed rows (OfRows last) told = matched-closed vs v x at rows last.entries last.unmatched closed told
rows-closed vs v x at closed rows (OfWays found) told = told

-- and where there are no rows
pub rows-none : (vs : List Vertex) (v : ℕ) (rows : List SpeedRow) (table : SpeedTable) → rows ≡ [] → AreRowsTold vs rows v table → AreRowsTold vs rows (v + 1) table
rows-none vs v rows (OfRows last) none told =
    told-no_rows pair_eq pair_eq-same pair_eq-itself nodes_of rows last.entries last.unmatched (λ q. is_way (take v vs) q.0 q.1) (λ q. is_way (take (v + 1) vs) q.0 q.1) none told
rows-none vs v rows (OfWays found) none told = told
