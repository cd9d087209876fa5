-- How many turns leave a vertex.
use Rattle.std.proofs.Common.{◌≡◌, ℕ, ℤ, ◌+◌, ◌*◌, ◌<◌, ◌≤◌, List, [], ◌∷◌, length, drop, map, filter, Option, Some, None, Bool, true, false, cond, not, arith, refl, sym, ap, ◌∙◌, ◌&&◌, length-append}
use Rattle.std.specs.Prelude.{◌==◌, option_map}
use Rattle.std.specs.List.{enumerate_from, slice_get, flat_map}
use Rattle.std.specs.HashMap.{get}
use Rattle.std.specs.Map.{lookup}
use Rattle.std.specs.Option.{option_map_or}
use Rattle.std.proofs.lemmas.List.{length-map}
use Rattle.std.proofs.lemmas.List.FromFn.{length-enumerate_from}
use Rattle.std.proofs.lemmas.List.Sums.{count_by-le-length, length-filter}
use Rattle.std.proofs.lemmas.Option.{same_Some}
use Rattle.list_lemmas.proofs.Gets.{get_some}
use Rattle.turn_rules.specs.Rules.{Rule}
use Rattle.road_turns.specs.Fans.{leavers, turns_at}
use Rattle.road_segments.specs.Laws.{length-vertices}
use Rattle.road_turns.specs.Leaving.{AreLeaving, GroupMap, RunMap, leaving_at, exits_onto, open_exits}
use Rattle.road_turns.specs.RestrictionParts.{has_via, pair_eq}
use Rattle.road_turns.specs.Restrictions.{is_forbidden_at}
use Rattle.road_segments.specs.Segment.{Segment}
use Rattle.road_turns.specs.Turn.{exits, is_turn, leaves, numbered, turns_from}
use Rattle.road_turns.specs.TurnParts.{AreOpenCounts, CountMap, opens_back, turns_on}
use Rattle.road_segments.specs.Vertex.{Vertex, opposite, vertices}
use Rattle.road_turns.proofs.DecisionLemmas.{pair-same}
use Rattle.road_turns.specs.VertexLaws.{both-ways, field-at}
use Rattle.road_turns.proofs.TurnLemmas.{bit, count-without, exits-at, filter-both, filter-cong, leaves-back, onto-both, opens_back-at, turns_on-all, turns_on-open, turns_onto_all-at, turns-step}

-- as many exits pass a test of their ways as vertices do
length-exits_onto : (r : ℤ → Bool) (es : List (ℕ × Vertex)) → length (exits_onto r (map (λ e. (e.0, e.1.way)) es)) ≡ length (filter (λ e. r e.1.way) es)
length-exits_onto r [] = refl
length-exits_onto r (e ∷ es) =
    let rest : List (ℕ × ℤ) = filter (λ f. r f.1) (map {A = ℕ × Vertex} {B = ℕ × ℤ} (λ g. (g.0, g.1.way)) es) in
    let same : length (map {A = ℕ × ℤ} {B = ℕ} (λ f. f.0) rest) ≡ length (filter (λ g. r g.1.way) es) = length-exits_onto r es in
    elim (r e.1.way) as (λ c. length (map {A = ℕ × ℤ} {B = ℕ} (λ f. f.0) (cond c ((e.0, e.1.way) ∷ rest) rest)) ≡ length (cond c (e ∷ filter (λ g. r g.1.way) es) (filter (λ g. r g.1.way) es))) [
      | true ↦ omega (arith, same)
      | false ↦ same
    ]

other-last : (l b r : Bool) → (l && (not b && r)) ≡ ((l && r) && not b)
other-last true true true = refl
other-last true true false = refl
other-last true false true = refl
other-last true false false = refl
other-last false b r = refl

module _ (vs : List Vertex) (v : ℕ) (x y : Vertex) (at : slice_get vs v ≡ Some x) (back : slice_get vs (opposite v) ≡ Some y) (joins : y.tail ≡ x.head) (rules : List Rule) where
  -- where no rule stands, a turn onto each exit
  pub length-turns_on-all : has_via rules x.head ≡ false → length (turns_on vs rules v) ≡ exits vs v
  length-turns_on-all none =
      let other : ℕ × Vertex → Bool = λ e. not (e.0 == opposite v) in
      ap length (turns_on-all vs v x y at back joins rules none ∙ turns_onto_all-at vs v x at)
      ∙ length-map (filter other (leavers vs x.head 0)) (λ e. (v, e.0))
      ∙ ap length (sym (filter-both (leaves x.head) other (numbered vs)))
      ∙ length-filter (λ e. leaves x.head e && other e) (numbered vs)
      ∙ sym (exits-at vs v x y at back joins)

  -- elsewhere onto what is open from the way, without the way back
  pub length-turns_on-open : length (turns_on vs rules v) + bit (y.permitted && not (is_forbidden_at rules x.head x.way y.way false))
      ≡ length (open_exits rules x.head x.way (map (λ e. (e.0, e.1.way)) (leavers vs x.head 0)))
  length-turns_on-open =
      let r : ℤ → Bool = λ to. not (is_forbidden_at rules x.head x.way to false) in
      let other : ℕ × Vertex → Bool = λ e. not (e.0 == opposite v) && r e.1.way in
      let p : ℕ × Vertex → Bool = λ e. leaves x.head e && r e.1.way in
      let onto : length (turns_on vs rules v) ≡ length (filter (λ e. p e && not (e.0 == opposite v)) (numbered vs)) =
      ap length (turns_on-open vs v x y at back joins rules ∙ onto-both r v (leavers vs x.head 0))
      ∙ length-map (filter other (leavers vs x.head 0)) (λ e. (v, e.0))
      ∙ ap length (sym (filter-both (leaves x.head) other (numbered vs))
      ∙ filter-cong (λ e. leaves x.head e && other e) (λ e. p e && not (e.0 == opposite v)) (λ e. other-last (leaves x.head e) (e.0 == opposite v) (r e.1.way)) (numbered vs)) in
      let ahead : length (open_exits rules x.head x.way (map (λ e. (e.0, e.1.way)) (leavers vs x.head 0))) ≡ length (filter p (numbered vs)) =
      length-exits_onto r (leavers vs x.head 0) ∙ ap length (sym (filter-both (leaves x.head) (λ e. r e.1.way) (numbered vs))) in
      let its : p (opposite v, y) ≡ (y.permitted && r y.way) = ap (λ (b : Bool). b && r y.way) (leaves-back vs v x y at back joins rules) in
      omega (arith, onto, ahead, ap bit its, count-without p vs 0 (opposite v) (opposite v) y (omega arith) back)

-- the same by what is found at the node and the way of its end
pub turns_on-counted : (segments : List Segment) (rules : List Rule) (runs : RunMap) (groups : GroupMap) (v ahead : ℕ) (node way : ℤ) → v < 2 * length segments → AreLeaving (vertices segments) rules runs groups
    → option_map (λ x. x.head) (slice_get (vertices segments) v) ≡ Some node → option_map (λ x. x.way) (slice_get (vertices segments) v) ≡ Some way → has_via rules node ≡ true
    → ahead ≡ length (open_exits rules node way (leaving_at runs node)) → length (turns_on (vertices segments) rules v) + bit (opens_back (vertices segments) rules v false) ≡ ahead
turns_on-counted segments rules runs groups v ahead node way lt leaving is_head is_way ruled its =
    let vs = vertices segments in
    let w = both-ways segments v lt in
    let head = field-at (λ z. z.head) vs v w.0 node w.2 is_head in
    let from = field-at (λ z. z.way) vs v w.0 way w.2 is_way in
    let same : length (open_exits rules node way (leaving_at runs node)) ≡ length (open_exits rules w.0.head w.0.way (map {A = ℕ × Vertex} {B = ℕ × ℤ} (λ e. (e.0, e.1.way)) (leavers vs w.0.head 0))) =
    ap (λ (z : ℤ). length (open_exits rules z way (leaving_at runs z))) (sym head)
    ∙ ap (λ (z : ℤ). length (open_exits rules w.0.head z (leaving_at runs w.0.head))) (sym from)
    ∙ ap (λ (l : List (ℕ × ℤ)). length (open_exits rules w.0.head w.0.way l)) (leaving.exits w.0.head (ap (has_via rules) head ∙ ruled)) in
    omega (arith, its, same, ap bit (opens_back-at vs v w.0 w.2 w.1 w.3 rules false), length-turns_on-open vs v w.0 w.1 w.2 w.3 w.4 rules)

-- no vertex has more turns than there are vertices
pub turns_at-few : (vs : List Vertex) (rules : List Rule) (v : ℕ) → length (turns_at vs rules v) ≤ length vs
turns_at-few vs rules v = by (slice_get vs v)
  where
    by : (o : Option Vertex) → length (option_map_or (λ x. turns_from vs rules (v, x)) o []) ≤ length vs
    by None = omega arith
    by (Some x) =
        let passed : List (ℕ × Vertex) = filter (is_turn vs rules (v, x)) (numbered vs) in
        omega (
          arith,
          length-map {A = ℕ × Vertex} {B = ℕ × ℕ} passed (λ e. (v, e.0)),
          length-filter (is_turn vs rules (v, x)) (numbered vs),
          count_by-le-length (is_turn vs rules (v, x)) (numbered vs),
          length-enumerate_from 0 vs,
        )

-- the turns from one more vertex are counted
pub counted-step : (segments : List Segment) (rules : List Rule) (v count n total : ℕ) → v < 2 * length segments → n ≡ length (turns_at (vertices segments) rules v)
    → count + length (flat_map (turns_from (vertices segments) rules) (enumerate_from v (drop v (vertices segments)))) ≡ total
    → (count + n) + length (flat_map (turns_from (vertices segments) rules) (enumerate_from (v + 1) (drop (v + 1) (vertices segments)))) ≡ total
counted-step segments rules v count n total lt its so_far =
    let vs = vertices segments in
    let within : v < length vs = omega (arith, length-vertices segments) in
    let x = get_some vs v within in
    let rest = flat_map (turns_from vs rules) (enumerate_from (v + 1) (drop (v + 1) vs)) in
    omega (arith, its, so_far, ap length (turns-step vs rules v x.0 x.1), length-append (turns_at vs rules v) rest)

-- no count yet
pub no-counts : (rules : List Rule) (runs : RunMap) (counts : CountMap) → counts.entries ≡ [] → AreOpenCounts rules runs counts
no-counts rules runs counts empty node way n at =
    let none : get pair_eq counts (node, way) ≡ None = ap (λ (es : List ((ℤ × ℤ) × ℕ)). lookup (pair_eq (node, way)) es) empty in
    let clash : None ≡ Some n = sym none ∙ at in
    cc

-- one count more
pub counts-put : (rules : List Rule) (runs : RunMap) (counts counts' : CountMap) (key : ℤ × ℤ) (count : ℕ) → AreOpenCounts rules runs counts
    → count ≡ length (open_exits rules key.0 key.1 (leaving_at runs key.0)) → ((q : ℤ × ℤ) → get pair_eq counts' q ≡ cond (pair_eq key q) (Some count) (get pair_eq counts q))
    → AreOpenCounts rules runs counts'
counts-put rules runs counts counts' key count h its put node way found at = by (pair_eq key (node, way)) refl
  where
    by : (b : Bool) → pair_eq key (node, way) ≡ b → found ≡ length (open_exits rules node way (leaving_at runs node))
    by true e =
        let same : count ≡ found = same_Some count found (sym (put (node, way) ∙ ap (λ (b : Bool). cond b (Some count) (get pair_eq counts (node, way))) e) ∙ at) in
        let keys : key ≡ (node, way) = pair-same key (node, way) e in
        sym same ∙ its ∙ ap (λ (k : ℤ × ℤ). length (open_exits rules k.0 k.1 (leaving_at runs k.0))) keys
    by false e = h node way found (sym (put (node, way) ∙ ap (λ (b : Bool). cond b (Some count) (get pair_eq counts (node, way))) e) ∙ at)
