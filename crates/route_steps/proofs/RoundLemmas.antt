-- Runs of round vertices, vertex by vertex, and the exits that are counted on them.
use Rattle.std.proofs.Common.{◌≡◌, ℕ, ℤ, ◌+◌, ◌-◌, ◌<◌, ◌≤◌, ◌&&◌, Bool, true, false, cond, List, [], ◌∷◌, Option, None, Some, ap, ap₂, arith, get_or, length, reverse, take, ◌∙◌}
use Rattle.std.specs.Prelude.{if◌then◌else◌, option_map}
use Rattle.std.specs.List.{count_by, list_all, list_any, slice_get, take_while}
use Rattle.std.specs.Option.{option_map_or}
use Rattle.std.proofs.lemmas.List.{reverse-append}
use Rattle.std.proofs.lemmas.List.Sums.{sum_by-cons, take_while-cons}
use Rattle.std.proofs.lemmas.Option.{slice_get-get_or}
use Rattle.list_lemmas.proofs.Fronts.{take-get}
use Rattle.road_turns.specs.Departures.{vertices_from}
use Rattle.edge_graph.specs.NetworkView.{NetworkView, vertices_of}
use Rattle.road_segments.specs.Vertex.{Vertex}
use Rattle.route_steps.specs.Roundabouts.{exit_behind, exit_number, has_exit, is_round, leads_off}
use Rattle.route_steps.proofs.WayLemmas.{some-told}

-- a front of a list from behind
pub reverse-take : (walk : List ℕ) (k : ℕ) → 0 < k → k ≤ length walk → reverse (take k walk) ≡ get_or walk (k - 1) 0 ∷ reverse (take (k - 1) walk)
reverse-take walk k some within =
    let up : k ≡ k - 1 + 1 = omega arith in
    let lt : k - 1 < length walk = omega arith in
    let x = get_or walk (k - 1) 0 in
    ap (λ n. reverse (take n walk)) up ∙ ap reverse (take-get walk (k - 1) x (slice_get-get_or walk (k - 1) 0 lt)) ∙ reverse-append (take (k - 1) walk) (x ∷ [])

module _ (network : NetworkView) where
  -- what leads off where vertex v ends
  pub has_exit-head : (v : ℕ) (node : ℤ) → option_map (λ (x : Vertex). x.head) (slice_get (vertices_of network) v) ≡ Some node
      → has_exit network v ≡ list_any (leads_off network) (vertices_from (vertices_of network) node)
  unfolding has_exit
  has_exit-head v node e =
      let at = some-told (λ (x : Vertex). x.head) (slice_get (vertices_of network) v) node e in
      ap (λ (o : Option Vertex). option_map_or (λ x. list_any (leads_off network) (vertices_from (vertices_of network) x.head)) o false) at.1
      ∙ ap (λ n. list_any (leads_off network) (vertices_from (vertices_of network) n)) at.2

  -- a vertex adds no more than one
  pub added-few : (v : ℕ) → cond (has_exit network v) 1 0 ≤ 1
  added-few v = by (has_exit network v)
    where
      by : (b : Bool) → cond b 1 0 ≤ 1
      by true = omega arith
      by false = omega arith

  -- the exit behind the run with which these vertices begin, where so many are counted before
  abbrev pub number_with : ℕ → List ℕ → ℕ
  number_with count vs = exit_number (count + count_by (has_exit network) (take_while (is_round network) vs))

  -- the same; None where there are no others
  abbrev pub ahead_with : ℕ → List ℕ → Option ℕ
  ahead_with count vs = if list_all (is_round network) vs then None else Some (number_with count vs)

  pub number-all : (vs : List ℕ) → number_with 0 vs ≡ exit_behind network (take_while (is_round network) vs)
  number-all vs = ap exit_number (omega arith)

  pub number-none : (count : ℕ) → number_with count [] ≡ exit_number count
  number-none count = ap exit_number (omega arith)

  pub ahead-all : (vs : List ℕ) → ahead_with 0 vs ≡ (if list_all (is_round network) vs then None else Some (exit_behind network (take_while (is_round network) vs)))
  ahead-all vs = ap (λ (n : ℕ). if list_all (is_round network) vs then None else Some n) (number-all vs)

  counted : (count v : ℕ) (vs : List ℕ) → exit_number (count + count_by (has_exit network) (v ∷ vs)) ≡ exit_number (count + cond (has_exit network v) 1 0 + count_by (has_exit network) vs)
  counted count v vs =
      let front = sum_by-cons (λ u. cond (has_exit network u) 1 0) v vs in
      ap exit_number (omega (arith, front))

  module _ (count v : ℕ) (vs : List ℕ) where
    run-front : (b : Bool) → is_round network v ≡ b → take_while (is_round network) (v ∷ vs) ≡ cond b (v ∷ take_while (is_round network) vs) []
    run-front b e = take_while-cons (is_round network) v vs ∙ ap (λ (c : Bool). cond c (v ∷ take_while (is_round network) vs) []) e

    -- a round vertex belongs to the run
    pub number-round : is_round network v ≡ true → number_with count (v ∷ vs) ≡ number_with (count + cond (has_exit network v) 1 0) vs
    number-round e =
        ap (λ (l : List ℕ). exit_number (count + count_by (has_exit network) l)) (run-front true e) ∙ counted count v (take_while (is_round network) vs)

    -- another one ends it
    pub number-other : is_round network v ≡ false → number_with count (v ∷ vs) ≡ exit_number count
    number-other e =
        ap (λ (l : List ℕ). exit_number (count + count_by (has_exit network) l)) (run-front false e) ∙ ap exit_number (omega arith)

    pub ahead-round : is_round network v ≡ true → ahead_with count (v ∷ vs) ≡ ahead_with (count + cond (has_exit network v) 1 0) vs
    ahead-round e =
        ap₂ {C = Option ℕ} (λ (b : Bool) (n : ℕ). if b then None else Some n) (ap (λ (b : Bool). b && list_all (is_round network) vs) e) (number-round e)

    pub ahead-other : is_round network v ≡ false → ahead_with count (v ∷ vs) ≡ Some (exit_number count)
    ahead-other e =
        ap₂ {C = Option ℕ} (λ (b : Bool) (n : ℕ). if b then None else Some n) (ap (λ (b : Bool). b && list_all (is_round network) vs) e) (number-other e)
