-- Which rules apply, and the chains of those at a node.
use Rattle.std.proofs.Common.{◌≡◌, ℕ, ℤ, zero, suc, ◌+◌, List, [], ◌∷◌, ◌++◌, length, drop, take, map, filter, Option, Some, None, Bool, true, false, not, cond, arith, refl, sym, ap, ◌∙◌, ◌&&◌, ◌||◌, add-one}
use Rattle.std.specs.Prelude.{option_map, count_by}
use Rattle.std.specs.HashSet.{contains}
use Rattle.std.specs.List.{items_where_true, list_all, list_any, slice_get}
use Rattle.std.specs.Ordering.{int_eq}
use Rattle.std.proofs.lemmas.Bool.Decides.{Decides-int_eq}
use Rattle.std.proofs.lemmas.Grind.{common_steps}
use Rattle.std.proofs.lemmas.List.{map-append}
use Rattle.std.proofs.lemmas.Option.{same_Some}
use Rattle.list_lemmas.proofs.Fronts.{take-get}
use Rattle.turn_rules.specs.Rules.{Rule}
use Rattle.road_turns.specs.Restrictions.{applies, meets}
use Rattle.road_turns.specs.RestrictionParts.{AreMet, NodeSet, PairSet, has_via, pair_eq}
use Rattle.road_segments.specs.Segment.{Segment}
use Rattle.road_segments.specs.Vertex.{Vertex, vertices}
use Rattle.road_turns.specs.DropLaws.{drop-get, list_any-drop}

pub list_all-cong : {X : Type 0} (p q : X → Bool) → ((x : X) → p x ≡ q x) → (xs : List X) → list_all p xs ≡ list_all q xs
list_all-cong p q h [] = refl
list_all-cong p q h (x ∷ xs) = ap (λ (b : Bool). b && list_all p xs) (h x) ∙ ap (λ (b : Bool). q x && b) (list_all-cong p q h xs)

pub list_any-cong : {X : Type 0} (p q : X → Bool) → ((x : X) → p x ≡ q x) → (xs : List X) → list_any p xs ≡ list_any q xs
list_any-cong p q h [] = refl
list_any-cong p q h (x ∷ xs) = ap (λ (b : Bool). b || list_any p xs) (h x) ∙ ap (λ (b : Bool). q x || b) (list_any-cong p q h xs)

pub either : (b was : Bool) → cond b true was ≡ (b || was)
either true was = refl
either false was = refl

-- what the rule of a number has
pub rule-field : {A : Type 0} (f : Rule → A) (rules : List Rule) (i : ℕ) (r : Rule) (t : A) → slice_get rules i ≡ Some r → option_map f (slice_get rules i) ≡ Some t → f r ≡ t
rule-field f rules i r t e h = same_Some (f r) t (sym (ap (option_map f) e) ∙ h)

pub from-option : {A : Type 0} (f : Rule → A) (o : Option Rule) (t : A) → option_map f o ≡ Some t → (r : Rule) × (o ≡ Some r)
from-option f None t h = cc
from-option f (Some r) t h = (r, refl)

-- the node of one more rule is in the set
pub via-step : (rules : List Rule) (i : ℕ) (via node : ℤ) (was now : Bool) → option_map (λ rule. rule.via) (slice_get rules i) ≡ Some via
    → was ≡ has_via (drop (i + 1) rules) node → now ≡ cond (int_eq via node) true was → now ≡ has_via (drop i rules) node
via-step rules i via node was now at h e =
    let r = from-option (λ rule. rule.via) (slice_get rules i) via at in
    let its : r.0.via ≡ via = rule-field (λ rule. rule.via) rules i r.0 via r.1 at in
    e
    ∙ either (int_eq via node) was
    ∙ ap (λ (b : Bool). int_eq via node || b) h
    ∙ ap (λ (z : ℤ). int_eq z node || has_via (drop (i + 1) rules) node) (sym its)
    ∙ sym (list_any-drop (λ rule. int_eq rule.via node) rules i r.0 r.1)

pub has_via-at : (rules : List Rule) (i : ℕ) (via : ℤ) → option_map (λ rule. rule.via) (slice_get rules i) ≡ Some via → has_via rules via ≡ true
has_via-at [] i via at = cc
has_via-at (r ∷ rules) zero via at =
    ap (λ (b : Bool). b || has_via rules via) ((Decides-int_eq r.via via).1 (same_Some r.via via at))
has_via-at (r ∷ rules) (suc i) via at = ap (λ (b : Bool). int_eq r.via via || b) (has_via-at rules i via at) ∙ or-true (int_eq r.via via)
  where
    or-true : (b : Bool) → (b || true) ≡ true
    or-true true = refl
    or-true false = refl

-- a vertex of the way begins at the node
abbrev pub begins : List Vertex → ℤ → ℤ → Bool
begins vs node way = list_any (λ x. int_eq x.tail node && int_eq x.way way) vs

regroup : (t h w rest : Bool) → ((t && w) || ((h && w) || rest)) ≡ ((w && (t || h)) || rest)
regroup true h true rest = refl
regroup true true false rest = refl
regroup true false false rest = refl
regroup false true true rest = refl
regroup false true false rest = refl
regroup false false true rest = refl
regroup false false false rest = refl

-- a segment meets a node where one of its vertices begins there
pub begins-vertices : (segments : List Segment) (node way : ℤ) → begins (vertices segments) node way ≡ meets segments node way
begins-vertices [] node way = refl
begins-vertices (s ∷ segments) node way =
    ap (λ (b : Bool). (int_eq s.tail node && int_eq s.street.way way) || ((int_eq s.head node && int_eq s.street.way way) || b)) (begins-vertices segments node way)
    ∙ regroup (int_eq s.tail node) (int_eq s.head node) (int_eq s.street.way way) (meets segments node way)

-- the vertices from number v on have met the nodes
abbrev pub HaveMet : NodeSet → List Vertex → PairSet → Type 0
HaveMet nodes vs met = (node way : ℤ) → contains int_eq nodes node ≡ true → contains pair_eq met (node, way) ≡ begins vs node way

module _ (vs : List Vertex) (v : ℕ) (x : Vertex) (at : slice_get vs v ≡ Some x) (nodes : NodeSet) where
  -- its tail is one of the nodes
  pub met-add : (met met' : PairSet) → HaveMet nodes (drop (v + 1) vs) met
      → ((q : ℤ × ℤ) → contains pair_eq met' q ≡ cond (pair_eq (x.tail, x.way) q) true (contains pair_eq met q)) → HaveMet nodes (drop v vs) met'
  met-add met met' h new node way among =
      new (node, way)
      ∙ either (int_eq x.tail node && int_eq x.way way) (contains pair_eq met (node, way))
      ∙ ap (λ (b : Bool). (int_eq x.tail node && int_eq x.way way) || b) (h node way among)
      ∙ sym (list_any-drop (λ y. int_eq y.tail node && int_eq y.way way) vs v x at)

  -- it is none of them
  met-by : (node way : ℤ) (b : Bool) → int_eq x.tail node ≡ b → contains int_eq nodes x.tail ≡ false → contains int_eq nodes node ≡ true
      → begins (drop (v + 1) vs) node way ≡ begins (drop v vs) node way
  met-by node way true e out among =
      let same : x.tail ≡ node = (Decides-int_eq x.tail node).0 e in
      let off : contains int_eq nodes node ≡ false = ap (contains int_eq nodes) (sym same) ∙ out in
      cc
  met-by node way false e out among =
      ap (λ (b : Bool). (b && int_eq x.way way) || begins (drop (v + 1) vs) node way) (sym e)
      ∙ sym (list_any-drop (λ y. int_eq y.tail node && int_eq y.way way) vs v x at)

  pub met-skip : (met : PairSet) → HaveMet nodes (drop (v + 1) vs) met → contains int_eq nodes x.tail ≡ false → HaveMet nodes (drop v vs) met
  met-skip met h out node way among = h node way among ∙ met-by node way (int_eq x.tail node) refl out among

-- whether the ways of one rule meet its node
pub flag-step : (segments : List Segment) (rules : List Rule) (i : ℕ) (via : ℤ) (ways : List ℤ) (nodes : NodeSet) (met : PairSet) (flag : Bool) (flags : List Bool)
    → option_map (λ rule. rule.via) (slice_get rules i) ≡ Some via → option_map (λ rule. rule.from ++ rule.to) (slice_get rules i) ≡ Some ways
    → ((node : ℤ) → contains int_eq nodes node ≡ has_via rules node) → AreMet nodes segments met
    → flag ≡ list_all (λ way. contains pair_eq met (via, way)) ways
    → flags ≡ map (applies segments) (take i rules) → flags ++ flag ∷ [] ≡ map (applies segments) (take (i + 1) rules)
flag-step segments rules i via ways nodes met flag flags at on all are is so_far =
    let r = from-option (λ rule. rule.via) (slice_get rules i) via at in
    let its : r.0.via ≡ via = rule-field (λ rule. rule.via) rules i r.0 via r.1 at in
    let has : r.0.from ++ r.0.to ≡ ways = rule-field (λ rule. rule.from ++ rule.to) rules i r.0 ways r.1 on in
    let among : contains int_eq nodes via ≡ true = all via ∙ has_via-at rules i via at in
    let found : flag ≡ applies segments r.0 =
    is
    ∙ list_all-cong (λ way. contains pair_eq met (via, way)) (meets segments via) (λ way. are via way among) ways
    ∙ ap (list_all (meets segments via)) (sym has)
    ∙ ap (λ (z : ℤ). list_all (meets segments z) (r.0.from ++ r.0.to)) (sym its) in
    ap (λ (l : List Bool). l ++ flag ∷ []) so_far
    ∙ ap (λ (b : Bool). map (applies segments) (take i rules) ++ b ∷ []) found
    ∙ sym (map-append (applies segments) (take i rules) (r.0 ∷ []))
    ∙ ap (map (applies segments)) (sym (take-get rules i r.0 r.1))

-- the rules for which a test says true
pub items_where_true-map : {X : Type 0} (p : X → Bool) (xs : List X) → items_where_true (map p xs) xs ≡ filter p xs
items_where_true-map p [] = refl
items_where_true-map {X} p (x ∷ xs) =
    elim (p x) as (λ b. items_where_true (b ∷ map p xs) (x ∷ xs) ≡ cond b (x ∷ filter p xs) (filter p xs)) [
      | true ↦ ap (λ (l : List X). x ∷ l) (items_where_true-map p xs)
      | false ↦ items_where_true-map p xs
    ]

-- those that are true and those that are not are all
pub length-items_where_true : {X : Type 0} (flags : List Bool) (xs : List X) → length flags ≡ length xs → length (items_where_true flags xs) + length (filter (λ flag. not flag) flags) ≡ length flags
length-items_where_true [] xs h = refl
length-items_where_true (b ∷ flags) [] h = absurd (omega arith)
length-items_where_true (true ∷ flags) (x ∷ xs) h = omega (arith, length-items_where_true flags xs (omega (arith, h)))
length-items_where_true (false ∷ flags) (x ∷ xs) h = omega (arith, length-items_where_true flags xs (omega (arith, h)))

-- to map and to count is to count by the map
pub count_by-map : {X : Type 0} (p : X → Bool) (xs : List X) → count_by (λ flag. not flag) (map p xs) ≡ count_by (λ x. not (p x)) xs
count_by-map p [] = refl
count_by-map p (x ∷ xs) = grind (arith, common_steps, count_by-map p xs)

-- the rules from number i on that apply: rule i does
pub chosen-on : (rules : List Rule) (flags : List Bool) (i : ℕ) (r : Rule) → slice_get rules i ≡ Some r → slice_get flags i ≡ Some true
    → items_where_true (drop i flags) (drop i rules) ≡ r ∷ items_where_true (drop (i + 1) flags) (drop (i + 1) rules)
chosen-on rules flags i r at on =
    ap (λ (l : List Bool). items_where_true l (drop i rules)) (drop-get flags i true on)
    ∙ ap (items_where_true (true ∷ drop (suc i) flags)) (drop-get rules i r at)
    ∙ ap (λ (k : ℕ). r ∷ items_where_true (drop k flags) (drop k rules)) (sym (add-one i))

-- it does not
pub chosen-off : (rules : List Rule) (flags : List Bool) (i : ℕ) (r : Rule) → slice_get rules i ≡ Some r → slice_get flags i ≡ Some false
    → items_where_true (drop i flags) (drop i rules) ≡ items_where_true (drop (i + 1) flags) (drop (i + 1) rules)
chosen-off rules flags i r at off =
    ap (λ (l : List Bool). items_where_true l (drop i rules)) (drop-get flags i false off)
    ∙ ap (items_where_true (false ∷ drop (suc i) flags)) (drop-get rules i r at)
    ∙ ap (λ (k : ℕ). items_where_true (drop k flags) (drop k rules)) (sym (add-one i))
