-- How many units walks over small weights cost: two for each of their vertices, less one. So a walk on which no vertex stands
-- twice is within two units for each vertex of the graph, less one.
use Rattle.std.proofs.Common.{ℕ, ◌+◌, ◌-◌, ◌*◌, ◌<◌, ◌≤◌, List, ◌∷◌, ◌++◌, [], length, length-append, arith, refl, subst, sym}
use Rattle.std.specs.List.{AllByRecursion, Contains, IsDistinct}
use Rattle.std.proofs.Math.Dec.{eqb}
use Rattle.list_lemmas.proofs.Distinct.{length-lt_from_distinct}
use Rattle.search_graph.specs.declared.ends.Start.{Start}
use Rattle.search_graph.specs.declared.ends.Target.{Target}
use Rattle.search_graph.specs.Costs.{CostOps, CostLaws}
use Rattle.search_graph.specs.Digraph.{Digraph, Weighting, IsOpen}
use Rattle.search_graph.specs.Walks.{Walk, IsBetween, IsMove, Paying}
use Rattle.search_graph.specs.Weighted.{AreSmall}
use Rattle.search_graph.specs.ChainLaws.{Chain-below, Chain-push, Chain-units}
use Rattle.search_graph.specs.WeightLaws.{move_below, move_valid, open_below, small_move_units}

-- no vertex stands twice on the walk
abbrev pub IsSimple : List ℕ → Type 0
IsSimple walk = IsDistinct eqb walk

-- a unit, and two for each of fewer than n
one_and_twos : (n l : ℕ) → l < n → 1 + l * 2 ≤ 2 * n - 1
one_and_twos n l lt = omega arith

-- the same with one more at the end, which takes two units
twos_between : (n : ℕ) (middle : List ℕ) (v : ℕ) → length (middle ++ v ∷ []) < n → 1 + length middle * 2 + 1 + 1 ≤ 2 * n - 1
twos_between n middle v lt = omega (arith, length-append middle (v ∷ []))

module _ {C : Type 0} {ops : CostOps C} (laws : CostLaws ops) (g : Digraph) (w : Weighting C) (small : AreSmall ops g w) where
  -- what is paid on a walk of so many moves from where no more than one unit was paid
  paid_units : (u z : ℕ) (c d : C) (vs : List ℕ) → ops.units c 1 → Walk ops g w u c vs z d → ops.units d (1 + length vs * 2)
  paid_units u z c d vs unit h = Chain-units laws (move_valid laws g w small) 2 (small_move_units laws g w small) u z 1 c d vs unit h

  -- a walk on which no vertex stands twice has fewer moves than the graph has vertices
  simple_moves : (u z : ℕ) (x c d : C) (vs : List ℕ) → IsOpen w u x → Walk ops g w u c vs z d → IsSimple (u ∷ vs) → length vs < g.vertices
  simple_moves u z x c d vs o h apart =
      let below : AllByRecursion (λ y. y < g.vertices) vs = Chain-below laws (move_valid laws g w small) g.vertices (move_below laws g w small) u z c d vs h in
      length-lt_from_distinct g.vertices u vs (open_below laws g w small u x o) below apart

  -- a walk from an open vertex, with no more than one unit paid there
  pub simple-path-units : (u z : ℕ) (x c d : C) (vs : List ℕ) → IsOpen w u x → ops.units c 1 → Walk ops g w u c vs z d → IsSimple (u ∷ vs) → ops.units d (2 * g.vertices - 1)
  simple-path-units u z x c d vs o unit h apart =
      laws.units_more d (1 + length vs * 2) (2 * g.vertices - 1) (paid_units u z c d vs unit h) (one_and_twos g.vertices (length vs) (simple_moves u z x c d vs o h apart))

  module _ (starts : List (Start C)) (t : Target C) (units : (s : Start C) → Contains starts s → ops.units s.cost 1) (unit : ops.units t.cost 1) where
    -- a walk from a start to the target, whether there are cheaper ones or not
    pub simple-walk-units : (walk : List ℕ) (d : C) → IsBetween ops g w starts t walk d → IsSimple walk → ops.units d (2 * g.vertices - 1)
    simple-walk-units walk d h apart =
        let u : ℕ = h.start.vertex in
        let whole : Walk ops g w u h.start.cost (h.middle ++ t.vertex ∷ []) t.vertex (ops.plus h.paid (ops.plus h.arc h.target_open.0)) =
        Chain-push (Paying ops (IsMove ops g w)) u h.last t.vertex h.start.cost h.paid (ops.plus h.paid (ops.plus h.arc h.target_open.0)) h.middle h.goes
        (ops.plus h.arc h.target_open.0, (h.arc, h.target_open.0, h.joins, h.target_open.1, refl), refl) in
        let few : length (h.middle ++ t.vertex ∷ []) < g.vertices = simple_moves u t.vertex h.start_open.0 h.start.cost _ (h.middle ++ t.vertex ∷ []) h.start_open.1 whole (subst IsSimple h.is_walk apart) in
        let paid : ops.units h.paid (1 + length h.middle * 2) = paid_units u h.last h.start.cost h.paid h.middle (units h.start h.among) h.goes in
        let sum : ops.units (ops.plus (ops.plus h.paid h.arc) t.cost) (1 + length h.middle * 2 + 1 + 1) =
        laws.plus_units (ops.plus h.paid h.arc) t.cost _ 1 (laws.plus_units h.paid h.arc _ 1 paid (small.arc_unit h.joins.0 h.arc h.joins.2)) unit in
        subst (λ x. ops.units x (2 * g.vertices - 1)) (sym h.is_cost) (laws.units_more _ (1 + length h.middle * 2 + 1 + 1) (2 * g.vertices - 1) sum (twos_between g.vertices h.middle t.vertex few))
