-- Sums of costs: a part of a sum is no larger than the whole.
use Rattle.std.proofs.Common.{◌≡◌, ℕ, ◌+◌, ◌-◌, ◌^◌, ◌≤◌, List, [], ◌∷◌, Some, arith, ap, drop, refl, subst, sym, take, take-append-drop, ◌∙◌}
use Rattle.std.specs.Prelude.{slice_range}
use Rattle.std.specs.List.{slice_get}
use Rattle.list_lemmas.proofs.Fronts.{take-get}
use Rattle.search_graph.specs.declared.costs.WeightDurLen.{WeightDurLen}
use Rattle.search_graph.specs.RoadCosts.{road_cost_laws, road_cost_ops}
use Rattle.road_places.specs.Paid.{total_of}
use Rattle.road_places.specs.PaidLaws.{total_of-append}

-- neither of two numbers is above their sum
first-part : (whole first second bound : ℕ) → whole ≡ first + second → whole ≤ bound → first ≤ bound
first-part whole first second bound e h = omega arith

second-part : (whole first second bound : ℕ) → whole ≡ first + second → whole ≤ bound → second ≤ bound
second-part whole first second bound e h = omega arith

-- the first and the second part of what is within n units are within them too
first-units : (whole first second : WeightDurLen) (n : ℕ) → whole ≡ road_cost_ops.plus first second → road_cost_ops.units whole n → road_cost_ops.units first n
first-units whole first second n e h =
    (first-part _ _ _ _ (ap (λ (x : WeightDurLen). x.weight) e) h.0, first-part _ _ _ _ (ap (λ (x : WeightDurLen). x.duration) e) h.1, first-part _ _ _ _ (ap (λ (x : WeightDurLen). x.length) e) h.2)

second-units : (whole first second : WeightDurLen) (n : ℕ) → whole ≡ road_cost_ops.plus first second → road_cost_ops.units whole n → road_cost_ops.units second n
second-units whole first second n e h =
    (second-part _ _ _ _ (ap (λ (x : WeightDurLen). x.weight) e) h.0, second-part _ _ _ _ (ap (λ (x : WeightDurLen). x.duration) e) h.1, second-part _ _ _ _ (ap (λ (x : WeightDurLen). x.length) e) h.2)

-- so is what is added up of a front of a list
total-front : (costs : List WeightDurLen) (k n : ℕ) → road_cost_ops.units (total_of costs) n → road_cost_ops.units (total_of (take k costs)) n
total-front costs k n h =
    first-units (total_of costs) (total_of (take k costs)) (total_of (drop k costs)) n
    (ap total_of (sym (take-append-drop k costs)) ∙ total_of-append (take k costs) (drop k costs)) h

total-rest : (costs : List WeightDurLen) (k n : ℕ) → road_cost_ops.units (total_of costs) n → road_cost_ops.units (total_of (drop k costs)) n
total-rest costs k n h =
    second-units (total_of costs) (total_of (take k costs)) (total_of (drop k costs)) n
    (ap total_of (sym (take-append-drop k costs)) ∙ total_of-append (take k costs) (drop k costs)) h

-- and of any part of it
pub total-part : (costs : List WeightDurLen) (i j n : ℕ) → road_cost_ops.units (total_of costs) n → road_cost_ops.units (total_of (slice_range costs i j)) n
total-part costs i j n h = total-front (drop i costs) (j - i) n (total-rest costs i n h)

-- one cost more
total-more : (costs : List WeightDurLen) (k : ℕ) (cost : WeightDurLen) → slice_get costs k ≡ Some cost → total_of (take (k + 1) costs) ≡ road_cost_ops.plus (total_of (take k costs)) cost
total-more costs k cost e =
    ap total_of (take-get costs k cost e) ∙ total_of-append (take k costs) (cost ∷ []) ∙ ap (road_cost_ops.plus (total_of (take k costs))) (road_cost_laws.neutral cost tt)

-- a cost more on a front of a list
pub front-next : (costs : List WeightDurLen) (k : ℕ) (cost sum : WeightDurLen) → slice_get costs k ≡ Some cost → sum ≡ total_of (take k costs) → road_cost_ops.plus sum cost ≡ total_of (take (k + 1) costs)
front-next costs k cost sum e before = ap (λ x. road_cost_ops.plus x cost) before ∙ sym (total-more costs k cost e)

pub next-units : (costs : List WeightDurLen) (k : ℕ) (cost sum : WeightDurLen) → slice_get costs k ≡ Some cost → sum ≡ total_of (take k costs) → road_cost_ops.units (total_of costs) (2 ^ 30) → road_cost_ops.units (road_cost_ops.plus sum cost) (2 ^ 31)
next-units costs k cost sum e before h =
    road_cost_laws.units_more (road_cost_ops.plus sum cost) (2 ^ 30) (2 ^ 31)
    (subst (λ (x : WeightDurLen). road_cost_ops.units x (2 ^ 30)) (sym (front-next costs k cost sum e before)) (total-front costs (k + 1) (2 ^ 30) h)) (omega arith)

-- what is paid at vertices, and what is paid at turns, where both together are within 2^30 units
pub paid-units : (all paid turns : List WeightDurLen) → all ≡ paid → road_cost_ops.units (road_cost_ops.plus (total_of paid) (total_of turns)) (2 ^ 30) → road_cost_ops.units (total_of all) (2 ^ 30)
paid-units all paid turns e h =
    subst (λ (l : List WeightDurLen). road_cost_ops.units (total_of l) (2 ^ 30)) (sym e) (first-units (road_cost_ops.plus (total_of paid) (total_of turns)) (total_of paid) (total_of turns) (2 ^ 30) refl h)

pub turns-units : (all paid turns : List WeightDurLen) → all ≡ turns → road_cost_ops.units (road_cost_ops.plus (total_of paid) (total_of turns)) (2 ^ 30) → road_cost_ops.units (total_of all) (2 ^ 30)
turns-units all paid turns e h =
    subst (λ (l : List WeightDurLen). road_cost_ops.units (total_of l) (2 ^ 30)) (sym e) (second-units (road_cost_ops.plus (total_of paid) (total_of turns)) (total_of paid) (total_of turns) (2 ^ 30) refl h)
