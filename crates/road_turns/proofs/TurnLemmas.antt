-- The turns from a vertex and its exits, by the vertices that leave its head.
use Rattle.std.proofs.Common.{◌≡◌, ℕ, ℤ, zero, suc, ◌+◌, ◌<◌, ◌≤◌, List, [], ◌∷◌, ◌++◌, length, drop, map, filter, Option, Some, None, Vec, Bool, true, false, cond, not, arith, refl, sym, ap, subst, ◌∙◌, ◌&&◌, ◌||◌}
use Rattle.std.specs.Prelude.{◌==◌}
use Rattle.std.specs.List.{enumerate_from, slice_get, flat_map, list_any}
use Rattle.std.specs.Global.{Global}
use Rattle.std.specs.HashMap.{get}
use Rattle.std.specs.Map.{lookup}
use Rattle.std.specs.Option.{option_map_or}
use Rattle.std.specs.Ordering.{int_eq}
use Rattle.std.proofs.lemmas.Bool.Decides.{nat_tests, Decides-int_eq}
use Rattle.std.proofs.Math.ListN.{drop_of_length-le}
use Rattle.std.proofs.lemmas.List.Sums.{length-filter}
use Rattle.std.proofs.lemmas.Option.{same_Some}
use Rattle.turn_rules.specs.Rules.{Rule, forbids}
use Rattle.road_turns.specs.Fans.{leavers, turns_at}
use Rattle.road_turns.specs.Restrictions.{is_forbidden, is_forbidden_at}
use Rattle.road_turns.specs.Turn.{exits, exits_at, is_turn, is_way_on, leaves, numbered, turns, turns_from}
use Rattle.road_turns.specs.TurnParts.{AreOpenRows, RowMap, may_turn_back, may_turn_on, must_turn_back, opens_back, turns_on, turns_onto, turns_onto_all}
use Rattle.road_turns.specs.Leaving.{RunMap, leaving_at, exits_onto, open_exits}
use Rattle.road_turns.specs.RestrictionParts.{has_via, pair_eq}
use Rattle.road_turns.proofs.DecisionLemmas.{pair-same}
use Rattle.road_segments.specs.Vertex.{Vertex, opposite}
use Rattle.road_turns.specs.DropLaws.{drop-get}

-- 1 for what is true
abbrev pub bit : Bool → ℕ
bit true = 1
bit false = 0

kept : (c d : Bool) → d ≡ false → (c && not d) ≡ c
kept true d e = ap not e
kept false d e = refl

dropped : (c d : Bool) → d ≡ true → (c && not d) ≡ false
dropped true d e = ap not e
dropped false d e = refl

length-cons_if : {X : Type 0} (c : Bool) (x : X) (xs : List X) → length (cond c (x ∷ xs) xs) ≡ length xs + bit c
length-cons_if true x xs = omega arith
length-cons_if false x xs = omega arith

module _ (p : ℕ × Vertex → Bool) where
  -- a number below all others may be left out or not
  filter-above : (vs : List Vertex) (b k : ℕ) → k < b → filter (λ e. p e && not (e.0 == k)) (enumerate_from b vs) ≡ filter p (enumerate_from b vs)
  filter-above [] b k h = refl
  filter-above (x ∷ vs) b k h =
      let apart : (b == k) ≡ false = grind (arith, nat_tests) in
      ap (λ (c : Bool). cond c ((b, x) ∷ filter (λ e. p e && not (e.0 == k)) (enumerate_from (b + 1) vs)) (filter (λ e. p e && not (e.0 == k)) (enumerate_from (b + 1) vs))) (kept (p (b, x)) (b == k) apart)
      ∙ ap (λ (xs : List (ℕ × Vertex)). cond (p (b, x)) ((b, x) ∷ xs) xs) (filter-above vs (b + 1) k (omega arith))

  -- all but one
  pub count-without : (vs : List Vertex) (b k n : ℕ) (y : Vertex) → n ≡ b + k → slice_get vs k ≡ Some y
      → length (filter (λ e. p e && not (e.0 == n)) (enumerate_from b vs)) + bit (p (n, y)) ≡ length (filter p (enumerate_from b vs))
  count-without [] b k n y at e = cc
  count-without (x ∷ vs) b zero n y at e =
      let same : n ≡ b = omega arith in
      let found : (b == n) ≡ true = grind (arith, nat_tests) in
      let left_out : bit (p (b, x) && not (b == n)) ≡ 0 = ap bit (dropped (p (b, x)) (b == n) found) in
      let counted : bit (p (n, y)) ≡ bit (p (b, x)) = ap (λ (k : ℕ). bit (p (k, y))) same ∙ ap (λ (z : Vertex). bit (p (b, z))) (sym (same_Some x y e)) in
      let rest = ap length (ap (λ (k : ℕ). filter (λ e. p e && not (e.0 == k)) (enumerate_from (b + 1) vs)) same ∙ filter-above vs (b + 1) b (omega arith)) in
      omega (
        arith,
        rest,
        left_out,
        counted,
        length-cons_if (p (b, x) && not (b == n)) (b, x) (filter (λ e. p e && not (e.0 == n)) (enumerate_from (b + 1) vs)),
        length-cons_if (p (b, x)) (b, x) (filter p (enumerate_from (b + 1) vs)),
      )
  count-without (x ∷ vs) b (suc k) n y at e =
      let apart : (b == n) ≡ false = grind (arith, nat_tests) in
      let kept_in : bit (p (b, x) && not (b == n)) ≡ bit (p (b, x)) = ap bit (kept (p (b, x)) (b == n) apart) in
      omega (
        arith,
        count-without vs (b + 1) k n y (omega arith) e,
        kept_in,
        length-cons_if (p (b, x) && not (b == n)) (b, x) (filter (λ e. p e && not (e.0 == n)) (enumerate_from (b + 1) vs)),
        length-cons_if (p (b, x)) (b, x) (filter p (enumerate_from (b + 1) vs)),
      )

module _ {X : Type 0} (p q : X → Bool) where
  -- a test of two parts, one after the other
  pub filter-both : (xs : List X) → filter (λ e. p e && q e) xs ≡ filter q (filter p xs)
  filter-both [] = refl
  filter-both (x ∷ xs) =
      let both = filter (λ e. p e && q e) xs in
      let some = filter p xs in
      elim (p x) as (λ b. cond (b && q x) (x ∷ both) both ≡ filter q (cond b (x ∷ some) some)) [
        | true ↦ ap (λ (ys : List X). cond (q x) (x ∷ ys) ys) (filter-both xs)
        | false ↦ filter-both xs
      ]

  pub filter-cong : ((x : X) → p x ≡ q x) → (xs : List X) → filter p xs ≡ filter q xs
  filter-cong h [] = refl
  filter-cong h (x ∷ xs) =
      ap (λ (b : Bool). cond b (x ∷ filter p xs) (filter p xs)) (h x) ∙ ap (λ (ys : List X). cond (q x) (x ∷ ys) ys) (filter-cong h xs)

filter-none : {X : Type 0} (p : X → Bool) → ((x : X) → p x ≡ false) → (xs : List X) → filter p xs ≡ []
filter-none p h [] = refl
filter-none {X} p h (x ∷ xs) = ap (λ (b : Bool). cond b (x ∷ filter p xs) (filter p xs)) (h x) ∙ filter-none p h xs

-- two tests that agree on each vertex and its number
filter-cong-from : (all : List Vertex) (p q : ℕ × Vertex → Bool) → ((n : ℕ) (z : Vertex) → slice_get all n ≡ Some z → p (n, z) ≡ q (n, z))
    → (xs : List Vertex) (b : ℕ) → ((k : ℕ) (z : Vertex) → slice_get xs k ≡ Some z → slice_get all (b + k) ≡ Some z) → filter p (enumerate_from b xs) ≡ filter q (enumerate_from b xs)
filter-cong-from all p q h [] b at = refl
filter-cong-from all p q h (x ∷ xs) b at =
    let here : slice_get all b ≡ Some x = subst (λ (n : ℕ). slice_get all n ≡ Some x) (omega arith) (at 0 x refl) in
    ap (λ (c : Bool). cond c ((b, x) ∷ filter p (enumerate_from (b + 1) xs)) (filter p (enumerate_from (b + 1) xs))) (h b x here)
    ∙ ap (λ (ys : List (ℕ × Vertex)). cond (q (b, x)) ((b, x) ∷ ys) ys)
    (filter-cong-from all p q h xs (b + 1) (λ k z e. subst (λ (n : ℕ). slice_get all n ≡ Some z) (omega arith) (at (suc k) z e)))

pub filter-cong-numbered : (vs : List Vertex) (p q : ℕ × Vertex → Bool) → ((n : ℕ) (z : Vertex) → slice_get vs n ≡ Some z → p (n, z) ≡ q (n, z)) → filter p (numbered vs) ≡ filter q (numbered vs)
filter-cong-numbered vs p q h = filter-cong-from vs p q h vs 0 (λ k z e. subst (λ (n : ℕ). slice_get vs n ≡ Some z) (omega arith) e)

module _ (q : ℕ × Vertex → Bool) where
  -- a number below all others is none of them
  only-above : (vs : List Vertex) (b k : ℕ) → k < b → filter (λ e. (e.0 == k) && q e) (enumerate_from b vs) ≡ []
  only-above [] b k h = refl
  only-above (x ∷ vs) b k h =
      let apart : (b == k) ≡ false = grind (arith, nat_tests) in
      ap (λ (c : Bool). cond (c && q (b, x)) ((b, x) ∷ filter (λ e. (e.0 == k) && q e) (enumerate_from (b + 1) vs)) (filter (λ e. (e.0 == k) && q e) (enumerate_from (b + 1) vs))) apart
      ∙ only-above vs (b + 1) k (omega arith)

  -- the vertex of one number, if it passes the test
  only-one : (vs : List Vertex) (b k n : ℕ) (y : Vertex) → n ≡ b + k → slice_get vs k ≡ Some y
      → filter (λ e. (e.0 == n) && q e) (enumerate_from b vs) ≡ cond (q (n, y)) ((n, y) ∷ []) []
  only-one [] b k n y at e = cc
  only-one (x ∷ vs) b zero n y at e =
      let same : b ≡ n = omega arith in
      let found : (b == n) ≡ true = grind (arith, nat_tests) in
      let its : x ≡ y = same_Some x y e in
      let rest = filter (λ (f : ℕ × Vertex). (f.0 == n) && q f) (enumerate_from (b + 1) vs) in
      ap (λ (c : Bool). cond (c && q (b, x)) ((b, x) ∷ rest) rest) found
      ∙ ap (λ (es : List (ℕ × Vertex)). cond (q (b, x)) ((b, x) ∷ es) es) (only-above vs (b + 1) n (omega arith))
      ∙ ap (λ (m : ℕ). cond (q (m, x)) ((m, x) ∷ []) []) same
      ∙ ap (λ (z : Vertex). cond (q (n, z)) ((n, z) ∷ []) []) its
  only-one (x ∷ vs) b (suc k) n y at e =
      let apart : (b == n) ≡ false = grind (arith, nat_tests) in
      let rest = filter (λ (f : ℕ × Vertex). (f.0 == n) && q f) (enumerate_from (b + 1) vs) in
      ap (λ (c : Bool). cond (c && q (b, x)) ((b, x) ∷ rest) rest) apart ∙ only-one vs (b + 1) k n y (omega arith) e

-- where all but one are left out, that one is left
none-but : (p : ℕ × Vertex → Bool) (k : ℕ) (xs : List (ℕ × Vertex)) → length (filter (λ e. p e && not (e.0 == k)) xs) ≡ 0 → filter p xs ≡ filter (λ e. (e.0 == k) && p e) xs
none-but p k [] h = refl
none-but p k (x ∷ xs) h =
    elim (p x) as (λ c. length (cond (c && not (x.0 == k)) (x ∷ filter (λ e. p e && not (e.0 == k)) xs) (filter (λ e. p e && not (e.0 == k)) xs)) ≡ 0
    → cond c (x ∷ filter p xs) (filter p xs) ≡ cond ((x.0 == k) && c) (x ∷ filter (λ e. (e.0 == k) && p e) xs) (filter (λ e. (e.0 == k) && p e) xs)) [
      | true ↦ elim (x.0 == k) as (λ d. length (cond (not d) (x ∷ filter (λ e. p e && not (e.0 == k)) xs) (filter (λ e. p e && not (e.0 == k)) xs)) ≡ 0
          → x ∷ filter p xs ≡ cond (d && true) (x ∷ filter (λ e. (e.0 == k) && p e) xs) (filter (λ e. (e.0 == k) && p e) xs)) [
            | true ↦ λ g. ap (λ (es : List (ℕ × Vertex)). x ∷ es) (none-but p k xs g)
            | false ↦ λ g. absurd (omega (arith, g))
          ]
      | false ↦ elim (x.0 == k) as (λ d. length (filter (λ e. p e && not (e.0 == k)) xs) ≡ 0
          → filter p xs ≡ cond (d && false) (x ∷ filter (λ e. (e.0 == k) && p e) xs) (filter (λ e. (e.0 == k) && p e) xs)) [
            | true ↦ λ g. none-but p k xs g
            | false ↦ λ g. none-but p k xs g
          ]
    ] h

-- what no rule at the node forbids
pub is_forbidden_at-unruled : (rules : List Rule) (node from to : ℤ) (back : Bool) → list_any (λ rule. int_eq rule.via node) rules ≡ false → is_forbidden_at rules node from to back ≡ false
is_forbidden_at-unruled [] node from to back h = refl
is_forbidden_at-unruled (r ∷ rules) node from to back h =
    elim (int_eq r.via node) as (λ c. (c || list_any (λ rule. int_eq rule.via node) rules) ≡ false → ((c && forbids r from to back) || is_forbidden_at rules node from to back) ≡ false) [
      | true ↦ λ g. cc
      | false ↦ λ g. is_forbidden_at-unruled rules node from to back g
    ] h

and-true : (b : Bool) → (b && true) ≡ b
and-true true = refl
and-true false = refl

-- the turns onto what passes a test of its way, and is not the other direction
pub onto-both : (r : ℤ → Bool) (v : ℕ) (es : List (ℕ × Vertex))
    → turns_onto v (exits_onto r (map (λ e. (e.0, e.1.way)) es)) ≡ map {A = ℕ × Vertex} {B = ℕ × ℕ} (λ e. (v, e.0)) (filter (λ e. not (e.0 == opposite v) && r e.1.way) es)
onto-both r v [] = refl
onto-both r v (e ∷ es) =
    let passed : List ℕ = exits_onto r (map (λ e. (e.0, e.1.way)) es) in
    let left : List ℕ = filter (λ k. not (k == opposite v)) passed in
    let kept_in : List (ℕ × Vertex) = filter (λ e. not (e.0 == opposite v) && r e.1.way) es in
    let same : map {A = ℕ} {B = ℕ × ℕ} (λ k. (v, k)) left ≡ map {A = ℕ × Vertex} {B = ℕ × ℕ} (λ f. (v, f.0)) kept_in = onto-both r v es in
    elim (r e.1.way) as (λ c. turns_onto v (map {A = ℕ × ℤ} {B = ℕ} (λ f. f.0) (cond c ((e.0, e.1.way) ∷ filter (λ f. r f.1) (map (λ e. (e.0, e.1.way)) es)) (filter (λ f. r f.1) (map (λ e. (e.0, e.1.way)) es))))
    ≡ map {A = ℕ × Vertex} {B = ℕ × ℕ} (λ f. (v, f.0)) (cond (not (e.0 == opposite v) && c) (e ∷ kept_in) kept_in)) [
      | true ↦ elim (not (e.0 == opposite v)) as (λ d. map {A = ℕ} {B = ℕ × ℕ} (λ k. (v, k)) (cond d (e.0 ∷ left) left) ≡ map {A = ℕ × Vertex} {B = ℕ × ℕ} (λ f. (v, f.0)) (cond (d && true) (e ∷ kept_in) kept_in)) [
        | true ↦ ap (λ (l : List (ℕ × ℕ)). (v, e.0) ∷ l) same
        | false ↦ same
      ]
      | false ↦ elim (not (e.0 == opposite v)) as (λ d. map {A = ℕ} {B = ℕ × ℕ} (λ k. (v, k)) left ≡ map {A = ℕ × Vertex} {B = ℕ × ℕ} (λ f. (v, f.0)) (cond (d && false) (e ∷ kept_in) kept_in)) [
        | true ↦ same
        | false ↦ same
      ]
    ]

pub turns_onto_all-at : (vs : List Vertex) (v : ℕ) (x : Vertex) → slice_get vs v ≡ Some x → turns_onto_all vs v ≡ map (λ e. (v, e.0)) (filter (λ e. not (e.0 == opposite v)) (leavers vs x.head 0))
turns_onto_all-at vs v x at = ap (λ (o : Option Vertex). option_map_or (λ z. map (λ e. (v, e.0)) (filter (λ e. not (e.0 == opposite v)) (leavers vs z.head 0))) o []) at

module _ (vs : List Vertex) (v : ℕ) (x y : Vertex) (at : slice_get vs v ≡ Some x) (back : slice_get vs (opposite v) ≡ Some y) (joins : y.tail ≡ x.head) where
  pub exits-at : exits vs v ≡ exits_at vs x.head v
  exits-at = ap (λ (o : Option Vertex). option_map_or (λ z. exits_at vs z.head v) o 0) at

  -- the exits, and the way back where it is permitted, are all that leave the head
  pub exits-leaving : exits vs v + bit y.permitted ≡ length (leavers vs x.head 0)
  exits-leaving =
      let leaves_back : leaves x.head (opposite v, y) ≡ y.permitted = ap (λ (b : Bool). y.permitted && b) ((Decides-int_eq y.tail x.head).1 joins) ∙ and-true y.permitted in
      omega (
        arith,
        exits-at,
        length-filter (λ e. leaves x.head e && not (e.0 == opposite v)) (numbered vs),
        ap bit leaves_back,
        count-without (leaves x.head) vs 0 (opposite v) (opposite v) y (omega arith) back,
      )

  -- a vertex that is not permitted has no turns
  pub turns-none : (rules : List Rule) → x.permitted ≡ false → turns_at vs rules v ≡ []
  turns-none rules closed =
      ap (λ (o : Option Vertex). option_map_or (λ z. turns_from vs rules (v, z)) o []) at
      ∙ ap (λ (es : List (ℕ × Vertex)). map (λ e. (v, e.0)) es)
      (filter-none (is_turn vs rules (v, x)) (λ e. ap (λ (b : Bool). b && (leaves x.head e && (is_way_on vs (v, x) e.0 && not (is_forbidden rules (v, x) e)))) closed) (numbered vs))

  module _ (rules : List Rule) where
    -- the turns of a permitted vertex
    turns-from : x.permitted ≡ true → turns_at vs rules v ≡ map (λ e. (v, e.0)) (filter (λ e. leaves x.head e && (is_way_on vs (v, x) e.0 && not (is_forbidden rules (v, x) e))) (numbered vs))
    turns-from opened =
        ap (λ (o : Option Vertex). option_map_or (λ z. turns_from vs rules (v, z)) o []) at
        ∙ ap (λ (b : Bool). map (λ e. (v, e.0)) (filter (λ (e : ℕ × Vertex). b && (leaves x.head e && (is_way_on vs (v, x) e.0 && not (is_forbidden rules (v, x) e)))) (numbered vs))) opened

    must-is : must_turn_back vs v ≡ ((exits_at vs x.head v == 0) || x.closed)
    must-is =
        ap (λ (n : ℕ). (n == 0) || option_map_or (λ z. z.closed) (slice_get vs v) false) exits-at
        ∙ ap (λ (o : Option Vertex). (exits_at vs x.head v == 0) || option_map_or (λ z. z.closed) o false) at

    -- where it need not turn back, it goes on
    way_on-by : (c d : Bool) (n : ℕ) → (exits_at vs x.head v == 0) ≡ c → x.closed ≡ d → (c || d) ≡ false → is_way_on vs (v, x) n ≡ not (n == opposite v)
    way_on-by true d n e f g = cc
    way_on-by false true n e f g = cc
    way_on-by false false n e f g =
        ap (λ (c : Bool). cond (n == opposite v) (c || x.closed) (not x.closed)) e
        ∙ ap (λ (d : Bool). cond (n == opposite v) d (not d)) f
        ∙ negated (n == opposite v)
      where
        negated : (b : Bool) → cond b false true ≡ not b
        negated true = refl
        negated false = refl

    way_on-is : must_turn_back vs v ≡ false → (n : ℕ) → is_way_on vs (v, x) n ≡ not (n == opposite v)
    way_on-is on n = way_on-by (exits_at vs x.head v == 0) x.closed n refl refl (sym must-is ∙ on)

    on-is : (n : ℕ) (z : Vertex) → slice_get vs n ≡ Some z → may_turn_on vs rules v n ≡ (not (n == opposite v) && not (is_forbidden rules (v, x) (n, z)))
    on-is n z has =
        ap (λ (o : Option Vertex). not (n == opposite v) && option_map_or (λ u. option_map_or (λ w. not (is_forbidden rules (v, u) (n, w))) (slice_get vs n) false) o false) at
        ∙ ap (λ (o : Option Vertex). not (n == opposite v) && option_map_or (λ w. not (is_forbidden rules (v, x) (n, w))) o false) has

    turns_on-is : turns_on vs rules v ≡ map (λ e. (v, e.0)) (filter (λ e. may_turn_on vs rules v e.0) (leavers vs x.head 0))
    turns_on-is = ap (λ (o : Option Vertex). option_map_or (λ z. map (λ e. (v, e.0)) (filter (λ e. may_turn_on vs rules v e.0) (leavers vs z.head 0))) o []) at

    pub turns-on : x.permitted ≡ true → must_turn_back vs v ≡ false → turns_at vs rules v ≡ turns_on vs rules v
    turns-on opened on =
        turns-from opened
        ∙ ap (map (λ e. (v, e.0)))
        (filter-cong-numbered vs (λ e. leaves x.head e && (is_way_on vs (v, x) e.0 && not (is_forbidden rules (v, x) e))) (λ e. leaves x.head e && may_turn_on vs rules v e.0)
        (λ n z has. ap (λ (b : Bool). leaves x.head (n, z) && (b && not (is_forbidden rules (v, x) (n, z)))) (way_on-is on n)
        ∙ ap (λ (b : Bool). leaves x.head (n, z) && b) (sym (on-is n z has)))
        ∙ filter-both (leaves x.head) (λ e. may_turn_on vs rules v e.0) (numbered vs))
        ∙ sym turns_on-is

    -- onto what is open from the way at the head, and is not the way back
    by-other : (b : Bool) (f : Bool → Bool) → (not b && not (f b)) ≡ (not b && not (f false))
    by-other true f = refl
    by-other false f = refl

    open-test : (n : ℕ) (z : Vertex) → slice_get vs n ≡ Some z
        → (leaves x.head (n, z) && may_turn_on vs rules v n) ≡ (leaves x.head (n, z) && (not (n == opposite v) && not (is_forbidden_at rules x.head x.way z.way false)))
    open-test n z has = ap (λ (b : Bool). leaves x.head (n, z) && b) (on-is n z has ∙ by-other (n == opposite v) (is_forbidden_at rules x.head x.way z.way))

    pub turns_on-open : turns_on vs rules v ≡ turns_onto v (open_exits rules x.head x.way (map (λ e. (e.0, e.1.way)) (leavers vs x.head 0)))
    turns_on-open =
        let open_test : ℕ × Vertex → Bool = λ e. not (e.0 == opposite v) && not (is_forbidden_at rules x.head x.way e.1.way false) in
        turns_on-is
        ∙ ap (map {A = ℕ × Vertex} {B = ℕ × ℕ} (λ e. (v, e.0)))
        (sym (filter-both (leaves x.head) (λ e. may_turn_on vs rules v e.0) (numbered vs))
        ∙ filter-cong-numbered vs (λ e. leaves x.head e && may_turn_on vs rules v e.0) (λ e. leaves x.head e && open_test e) open-test
        ∙ filter-both (leaves x.head) open_test (numbered vs))
        ∙ sym (onto-both (λ to. not (is_forbidden_at rules x.head x.way to false)) v (leavers vs x.head 0))

    -- where no rule stands, onto all that leave there
    pub turns_on-all : has_via rules x.head ≡ false → turns_on vs rules v ≡ turns_onto_all vs v
    turns_on-all none =
        turns_on-is
        ∙ ap (map {A = ℕ × Vertex} {B = ℕ × ℕ} (λ e. (v, e.0)))
        (sym (filter-both (leaves x.head) (λ e. may_turn_on vs rules v e.0) (numbered vs))
        ∙ filter-cong-numbered vs (λ e. leaves x.head e && may_turn_on vs rules v e.0) (λ e. leaves x.head e && not (e.0 == opposite v))
        (λ n z has. ap (λ (b : Bool). leaves x.head (n, z) && b)
        (on-is n z has
        ∙ ap (λ (b : Bool). not (n == opposite v) && not b) (is_forbidden_at-unruled rules x.head x.way z.way (n == opposite v) none)
        ∙ and-true (not (n == opposite v))))
        ∙ filter-both (leaves x.head) (λ e. not (e.0 == opposite v)) (numbered vs))
        ∙ sym (turns_onto_all-at vs v x at)

    pub leaves-back : leaves x.head (opposite v, y) ≡ y.permitted
    leaves-back = ap (λ (b : Bool). y.permitted && b) ((Decides-int_eq y.tail x.head).1 joins) ∙ and-true y.permitted

    back-is : may_turn_back vs rules v ≡ (y.permitted && not (is_forbidden rules (v, x) (opposite v, y)))
    back-is =
        ap (λ (o : Option Vertex). option_map_or (λ u. option_map_or (λ w. w.permitted && not (is_forbidden rules (v, u) (opposite v, w))) (slice_get vs (opposite v)) false) o false) at
        ∙ ap (λ (o : Option Vertex). option_map_or (λ w. w.permitted && not (is_forbidden rules (v, x) (opposite v, w))) o false) back

    back-found : ((opposite v == opposite v) ≡ true)
    back-found = grind (arith, nat_tests)

    way_back : must_turn_back vs v ≡ true → is_way_on vs (v, x) (opposite v) ≡ true
    way_back must =
        ap (λ (b : Bool). cond b ((exits_at vs x.head v == 0) || x.closed) (not x.closed)) back-found ∙ sym must-is ∙ must

    -- where the head is closed, only the way back is left
    closed-test : x.closed ≡ true → (e : ℕ × Vertex)
        → (leaves x.head e && (is_way_on vs (v, x) e.0 && not (is_forbidden rules (v, x) e))) ≡ ((e.0 == opposite v) && (leaves x.head e && not (is_forbidden rules (v, x) e)))
    closed-test shut e =
        ap (λ (d : Bool). leaves x.head e && (cond (e.0 == opposite v) ((exits_at vs x.head v == 0) || d) (not d) && not (is_forbidden rules (v, x) e))) shut
        ∙ by-back (leaves x.head e) (e.0 == opposite v) (exits_at vs x.head v == 0) (not (is_forbidden rules (v, x) e))
      where
        by-back : (l b d f : Bool) → (l && (cond b (d || true) false && f)) ≡ (b && (l && f))
        by-back true true true f = refl
        by-back true true false f = refl
        by-back true false d f = refl
        by-back false true d f = refl
        by-back false false d f = refl

    -- the way back, by whether it is left
    left-back : (es : List (ℕ × Vertex)) (q : Bool) → es ≡ cond q ((opposite v, y) ∷ []) [] → q ≡ may_turn_back vs rules v → map {A = ℕ × Vertex} {B = ℕ × ℕ} (λ e. (v, e.0)) es ≡ cond (may_turn_back vs rules v) ((v, opposite v) ∷ []) []
    left-back es q e f = ap (map {A = ℕ × Vertex} {B = ℕ × ℕ} (λ e. (v, e.0))) e ∙ pushed q ∙ ap (λ (b : Bool). cond b ((v, opposite v) ∷ []) []) f
      where
        pushed : (b : Bool) → map {A = ℕ × Vertex} {B = ℕ × ℕ} (λ e. (v, e.0)) (cond b ((opposite v, y) ∷ []) []) ≡ cond b ((v, opposite v) ∷ []) []
        pushed true = refl
        pushed false = refl

    turns-closed : x.permitted ≡ true → x.closed ≡ true → turns_at vs rules v ≡ cond (may_turn_back vs rules v) ((v, opposite v) ∷ []) []
    turns-closed opened shut =
        turns-from opened
        ∙ left-back _ (leaves x.head (opposite v, y) && not (is_forbidden rules (v, x) (opposite v, y)))
        (filter-cong (λ (e : ℕ × Vertex). leaves x.head e && (is_way_on vs (v, x) e.0 && not (is_forbidden rules (v, x) e))) (λ e. (e.0 == opposite v) && (leaves x.head e && not (is_forbidden rules (v, x) e)))
        (closed-test shut) (numbered vs)
        ∙ only-one (λ e. leaves x.head e && not (is_forbidden rules (v, x) e)) vs 0 (opposite v) (opposite v) y (omega arith) back)
        (ap (λ (b : Bool). b && not (is_forbidden rules (v, x) (opposite v, y))) leaves-back ∙ sym back-is)

    -- in a dead end nothing but the way back leaves
    turns-dead : x.permitted ≡ true → must_turn_back vs v ≡ true → exits_at vs x.head v ≡ 0 → turns_at vs rules v ≡ cond (may_turn_back vs rules v) ((v, opposite v) ∷ []) []
    turns-dead opened must none =
        let test : ℕ × Vertex → Bool = λ e. is_way_on vs (v, x) e.0 && not (is_forbidden rules (v, x) e) in
        let no_other : length (filter (λ e. leaves x.head e && not (e.0 == opposite v)) (numbered vs)) ≡ 0 = omega (arith, none, length-filter (λ e. leaves x.head e && not (e.0 == opposite v)) (numbered vs)) in
        let left : filter (leaves x.head) (numbered vs) ≡ cond (leaves x.head (opposite v, y)) ((opposite v, y) ∷ []) [] =
        none-but (leaves x.head) (opposite v) (numbered vs) no_other ∙ only-one (leaves x.head) vs 0 (opposite v) (opposite v) y (omega arith) back in
        let passes : test (opposite v, y) ≡ not (is_forbidden rules (v, x) (opposite v, y)) =
        ap (λ (b : Bool). b && not (is_forbidden rules (v, x) (opposite v, y))) (way_back must) in
        turns-from opened
        ∙ left-back _ (leaves x.head (opposite v, y) && test (opposite v, y))
        (filter-both (leaves x.head) test (numbered vs) ∙ ap (filter test) left ∙ kept-by test (leaves x.head (opposite v, y)))
        (ap (λ (b : Bool). b && test (opposite v, y)) leaves-back ∙ ap (λ (b : Bool). y.permitted && b) passes ∙ sym back-is)
      where
        kept-by : (p : ℕ × Vertex → Bool) (b : Bool) → filter p (cond b ((opposite v, y) ∷ []) []) ≡ cond (b && p (opposite v, y)) ((opposite v, y) ∷ []) []
        kept-by p true = refl
        kept-by p false = refl

    turns-back-by : (c d : Bool) → (exits_at vs x.head v == 0) ≡ c → x.closed ≡ d → (c || d) ≡ true → x.permitted ≡ true → must_turn_back vs v ≡ true
        → turns_at vs rules v ≡ cond (may_turn_back vs rules v) ((v, opposite v) ∷ []) []
    turns-back-by true d e f g opened must = turns-dead opened must (grind (arith, nat_tests, e))
    turns-back-by false true e f g opened must = turns-closed opened f
    turns-back-by false false e f g opened must = cc

    -- where it can only turn back, it does so if it may
    pub turns-back : x.permitted ≡ true → must_turn_back vs v ≡ true → turns_at vs rules v ≡ cond (may_turn_back vs rules v) ((v, opposite v) ∷ []) []
    turns-back opened must = turns-back-by (exits_at vs x.head v == 0) x.closed refl refl (sym must-is ∙ must) opened must

-- all turns from number v on are those from v and those from there on
pub turns-step : (vs : List Vertex) (rules : List Rule) (v : ℕ) (x : Vertex) → slice_get vs v ≡ Some x
    → flat_map (turns_from vs rules) (enumerate_from v (drop v vs)) ≡ turns_at vs rules v ++ flat_map (turns_from vs rules) (enumerate_from (v + 1) (drop (v + 1) vs))
turns-step vs rules v x at =
    let up : suc v ≡ v + 1 = omega arith in
    ap (λ (xs : List Vertex). flat_map (turns_from vs rules) (enumerate_from v xs)) (drop-get vs v x at)
    ∙ ap (λ (k : ℕ). turns_from vs rules (v, x) ++ flat_map (turns_from vs rules) (enumerate_from (v + 1) (drop k vs))) up
    ∙ ap (λ (o : Option Vertex). option_map_or (λ z. turns_from vs rules (v, z)) o [] ++ flat_map (turns_from vs rules) (enumerate_from (v + 1) (drop (v + 1) vs))) (sym at)

pub turns-all : (vs : List Vertex) (rules : List Rule) → flat_map (turns_from vs rules) (enumerate_from 0 (drop 0 vs)) ≡ turns vs rules
unfolding turns
turns-all vs rules = refl

pub turns-end : (vs : List Vertex) (rules : List Rule) (v : ℕ) → length vs ≤ v → flat_map (turns_from vs rules) (enumerate_from v (drop v vs)) ≡ []
turns-end vs rules v le = ap (λ (xs : List Vertex). flat_map (turns_from vs rules) (enumerate_from v xs)) (drop_of_length-le vs le)

pub not-true : (b : Bool) → not b ≡ true → b ≡ false
not-true true e = cc
not-true false e = refl

pub not-false : (b : Bool) → not b ≡ false → b ≡ true
not-false true e = refl
not-false false e = cc

module _ (vs : List Vertex) (v : ℕ) (x : Vertex) (at : slice_get vs v ≡ Some x) where
  pub may_turn_back-at : (y : Vertex) → slice_get vs (opposite v) ≡ Some y → (rules : List Rule)
      → may_turn_back vs rules v ≡ (y.permitted && not (is_forbidden_at rules x.head x.way y.way true))
  may_turn_back-at y back rules =
      let found : (opposite v == opposite v) ≡ true = grind (arith, nat_tests) in
      ap (λ (o : Option Vertex). option_map_or (λ u. option_map_or (λ w. w.permitted && not (is_forbidden rules (v, u) (opposite v, w))) (slice_get vs (opposite v)) false) o false) at
      ∙ ap (λ (o : Option Vertex). option_map_or (λ w. w.permitted && not (is_forbidden rules (v, x) (opposite v, w))) o false) back
      ∙ ap (λ (b : Bool). y.permitted && not (is_forbidden_at rules x.head x.way y.way b)) found

-- the same of both ways to turn onto its way
pub opens_back-at : (vs : List Vertex) (v : ℕ) (x : Vertex) → slice_get vs v ≡ Some x → (y : Vertex) → slice_get vs (opposite v) ≡ Some y → (rules : List Rule) (back : Bool)
    → opens_back vs rules v back ≡ (y.permitted && not (is_forbidden_at rules x.head x.way y.way back))
opens_back-at vs v x at y its rules back =
    ap (λ (o : Option Vertex). option_map_or (λ u. option_map_or (λ w. w.permitted && not (is_forbidden_at rules u.head u.way w.way back)) (slice_get vs (opposite v)) false) o false) at
    ∙ ap (λ (o : Option Vertex). option_map_or (λ w. w.permitted && not (is_forbidden_at rules x.head x.way w.way back)) o false) its

-- no row yet
pub no-rows : (rules : List Rule) (runs : RunMap) (rows : RowMap) → rows.entries ≡ [] → AreOpenRows rules runs rows
no-rows rules runs rows empty node way row at =
    let none : get pair_eq rows (node, way) ≡ None = ap (λ (es : List ((ℤ × ℤ) × Vec ℕ Global)). lookup (pair_eq (node, way)) es) empty in
    let clash : None ≡ Some row = sym none ∙ at in
    cc

-- one row more
pub rows-put : (rules : List Rule) (runs : RunMap) (rows rows' : RowMap) (key : ℤ × ℤ) (row : Vec ℕ Global) → AreOpenRows rules runs rows
    → row.items ≡ open_exits rules key.0 key.1 (leaving_at runs key.0) → ((q : ℤ × ℤ) → get pair_eq rows' q ≡ cond (pair_eq key q) (Some row) (get pair_eq rows q))
    → AreOpenRows rules runs rows'
rows-put rules runs rows rows' key row h its put node way found at = by (pair_eq key (node, way)) refl
  where
    by : (b : Bool) → pair_eq key (node, way) ≡ b → found.items ≡ open_exits rules node way (leaving_at runs node)
    by true e =
        let same : row ≡ found = same_Some row found (sym (put (node, way) ∙ ap (λ (b : Bool). cond b (Some row) (get pair_eq rows (node, way))) e) ∙ at) in
        let keys : key ≡ (node, way) = pair-same key (node, way) e in
        ap (λ (r : Vec ℕ Global). r.items) (sym same) ∙ its ∙ ap (λ (k : ℤ × ℤ). open_exits rules k.0 k.1 (leaving_at runs k.0)) keys
    by false e = h node way found (sym (put (node, way) ∙ ap (λ (b : Bool). cond b (Some row) (get pair_eq rows (node, way))) e) ∙ at)
