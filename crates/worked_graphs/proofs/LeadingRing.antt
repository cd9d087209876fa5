-- The ring whose rows lead on: its hops cost at most one unit, so that its paths fit, and nothing but arcs leads out of its exits.
use Rattle.std.proofs.Common.{◌≡◌, ℕ, ◌+◌, ◌*◌, ◌%◌, ◌^◌, ◌<◌, inl, inr, arith, Bool, true, false, cond, nat_lt, List, [], ◌∷◌, Some, length, sym, ◌∙◌, ap, subst}
use Rattle.std.specs.List.{Contains, slice_get}
use Rattle.std.proofs.lemmas.Bool.Decides.{nat_tests}
use Rattle.std.proofs.lemmas.Option.{slice_get_within}
use Rattle.std.proofs.lemmas.List.Elements.{All-cons, All-nil}
use Rattle.list_lemmas.proofs.Gets.{All_get}
use Rattle.search_graph.specs.OrderLaws.{same_from_le}
use Rattle.search_graph.specs.declared.costs.WeightDurLen.{WeightDurLen}
use Rattle.search_graph.specs.RoadCosts.{road_cost_ops, road_cost_laws}
use Rattle.search_graph.specs.ChainLaws.{Chain-short}
use Rattle.step_search.specs.Spaces.{HasHop, IsHeadAt, IsSpace, LeadsBy}
use Rattle.worked_graphs.specs.LeadingRing.{exits, through, leading_ring}

below_six : (v w : ℕ) → v ≡ w % 6 → v < 6
below_six v w e = omega arith

row_below : (b : Bool) (j v : ℕ) → slice_get (cond b exits []) j ≡ Some v → v < 6
row_below true j v e =
    let P : ℕ → Type 0 = λ x. x < 6 in
    All_get P exits j v (All-cons P 1 (2 ∷ []) (omega arith) (All-cons P 2 [] (omega arith) (All-nil P))) e
row_below false j v e = All_get (λ x. x < 6) [] j v (All-nil (λ x. x < 6)) e

head_below : (u v : ℕ) (s : WeightDurLen) → HasHop leading_ring u v s → v < 6
head_below u v s h = elim h [ inl k ↦ below_six v (u + 1) k.1.1 | inr k ↦ row_below (nat_lt u 3) k.0 v k.1 ]

arc_units : road_cost_ops.units (record { weight = 3; duration = 3; length = 1 }) 1
arc_units = (omega arith, omega arith, omega arith)

through_units : road_cost_ops.units through 1
through_units = (omega arith, omega arith, omega arith)

hop_within : (u v : ℕ) (s : WeightDurLen) → HasHop leading_ring u v s → road_cost_ops.units s 1
hop_within u v s h = elim h [
  | inl k ↦ subst (λ (x : WeightDurLen). road_cost_ops.units x 1) (sym k.1.2) arc_units
  | inr k ↦ subst (λ (x : WeightDurLen). road_cost_ops.units x 1) (sym k.2.2) through_units
]

pub leading_space : IsSpace road_cost_ops leading_ring
leading_space = record {
  heads = head_below;
  hop_units = λ u v s h. road_cost_laws.units_more s 1 (2 ^ 29) (hop_within u v s h) (omega arith);
  least_units = λ u z d vs may p least.
      let r = Chain-short road_cost_laws {Hop = HasHop leading_ring} (λ u v s h. tt) 6 1 head_below hop_within u z d vs may p in
      let few : length r.0 < 6 = r.4 in
      subst (λ x. road_cost_ops.units x (2 ^ 28)) (same_from_le road_cost_laws r.1 d tt tt r.3 (least r.0 r.1 r.2)) (road_cost_laws.units_more r.1 (length r.0 * 1) (2 ^ 28) r.5 (omega arith));
}

-- the name of a row of the cell, and of one outside
abbrev name_of : Bool → ℕ × ℕ
name_of b = cond b (1, 0) (0, 0)

-- a row that has a head is the cell's
name_of_head : (b : Bool) (name : ℕ × ℕ) (j v : ℕ) → name_of b ≡ name → slice_get (cond b exits []) j ≡ Some v → name ≡ name_of true
name_of_head true name j v is at = sym is
name_of_head false name j v is at = absurd (omega (arith, slice_get_within [] j v at))

name_within : (v : ℕ) → v < 3 → name_of (nat_lt v 3) ≡ name_of true
name_within v less = let test : nat_lt v 3 ≡ true = grind (arith, nat_tests) in ap name_of test

-- out of a vertex of the cell but 0 lead its arcs alone
pub leads_by : (name : ℕ × ℕ) (j v : ℕ) (arcs : List ℕ) → 0 < v → v < 3 → IsHeadAt leading_ring name j v →
    ((i : ℕ) → Contains arcs i → leading_ring.Name v i) → ((i w : ℕ) (s : WeightDurLen) → leading_ring.Arc v i w s → Contains arcs i) → LeadsBy leading_ring name v arcs
leads_by name j v arcs more less h named all = record {
  row = name_of_head (nat_lt h.0 3) name j v h.2 h.3 ∙ sym (name_within v less);
  no_costs = λ k s c. omega (arith, c.0, more);
  named = named;
  all = all;
}
