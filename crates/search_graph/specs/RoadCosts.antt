-- `WeightDurLen` as a cost: weight, duration and length add up apart, and the order looks at them one after the other.
use Rattle.std.specs.Prelude.{◌≡◌, ℕ, ◌+◌, ◌*◌, ◌^◌, ◌≤◌, false, refl}
use Rattle.std.proofs.Common.{arith, ap, sym}
use Rattle.std.proofs.lemmas.Bool.Decides.{nat_tests}
use Rattle.std.proofs.lemmas.Cmp.{ranked, nat_cmp_total, on_total, then_total}
use Rattle.std.specs.declared.cmp.Ordering.{Ordering}
use Rattle.std.specs.declared.cmp.Ordering.TheVariants.{Less, Equal, Greater}
use Rattle.std.specs.Ordering.{ordering_then, nat_cmp, is_gt}
use Rattle.search_graph.specs.declared.costs.WeightDurLen.{WeightDurLen}
use Rattle.search_graph.specs.Costs.{CostOps, CostLaws}

-- Any three numbers are valid. They are within n units where no part is above n * 2^32.
abbrev pub road_cost_ops : CostOps WeightDurLen
road_cost_ops = record {
  valid = λ a. Unit {0};
  units = λ a n. (a.weight ≤ n * 2 ^ 32) × (a.duration ≤ n * 2 ^ 32) × (a.length ≤ n * 2 ^ 32);
  zero = record { weight = 0; duration = 0; length = 0 };
  plus = λ a b. record { weight = a.weight + b.weight; duration = a.duration + b.duration; length = a.length + b.length };
  cmp = λ a b. ordering_then (nat_cmp a.weight b.weight) (ordering_then (nat_cmp a.duration b.duration) (nat_cmp a.length b.length));
}

-- costs of equal parts are equal
pub parts-same : {a b c d e f : ℕ} → a ≡ b → c ≡ d → e ≡ f → ◌≡◌ {A = WeightDurLen} (record { weight = a; duration = c; length = e }) (record { weight = b; duration = d; length = f })
parts-same g h k = cc

nat-assoc : (a b c : ℕ) → (a + b) + c ≡ a + (b + c)
nat-assoc a b c = omega arith

nat-comm : (a b : ℕ) → a + b ≡ b + a
nat-comm a b = omega arith

nat-neutral : (a : ℕ) → a + 0 ≡ a
nat-neutral a = omega arith

nat-cancels : (a b c : ℕ) → a + c ≡ b + c → a ≡ b
nat-cancels a b c e = omega arith

nat_cmp-plus : (a b c : ℕ) → nat_cmp (a + c) (b + c) ≡ nat_cmp a b
nat_cmp-plus a b c = grind (arith, nat_tests)

nat_cmp-zero : (a : ℕ) → is_gt (nat_cmp 0 a) ≡ false
nat_cmp-zero a = grind (arith, nat_tests)

nat_cmp-same : (a b : ℕ) → nat_cmp a b ≡ Equal → a ≡ b
nat_cmp-same a b e = ranked a b Equal (sym e)

then_not_gt : (p q : Ordering) → is_gt p ≡ false → is_gt q ≡ false → is_gt (ordering_then p q) ≡ false
then_not_gt Less q h k = refl
then_not_gt Equal q h k = k
then_not_gt Greater q h k = h

then_equal_first : (p q : Ordering) → ordering_then p q ≡ Equal → p ≡ Equal
then_equal_first Less q e = e
then_equal_first Equal q e = refl
then_equal_first Greater q e = e

then_equal_second : (p q : Ordering) → ordering_then p q ≡ Equal → q ≡ Equal
then_equal_second Less q e = cc
then_equal_second Equal q e = e
then_equal_second Greater q e = cc

pub road_cost_laws : CostLaws road_cost_ops
road_cost_laws = record {
  total = then_total (on_total (λ (a : WeightDurLen). a.weight) nat_cmp_total) (then_total (on_total (λ (a : WeightDurLen). a.duration) nat_cmp_total) (on_total (λ (a : WeightDurLen). a.length) nat_cmp_total));
  zero_valid = tt;
  plus_valid = λ a b h k. tt;
  assoc = λ a b c h k l. parts-same (nat-assoc a.weight b.weight c.weight) (nat-assoc a.duration b.duration c.duration) (nat-assoc a.length b.length c.length);
  comm = λ a b h k. parts-same (nat-comm a.weight b.weight) (nat-comm a.duration b.duration) (nat-comm a.length b.length);
  neutral = λ a h. parts-same (nat-neutral a.weight) (nat-neutral a.duration) (nat-neutral a.length);
  zero_least = λ a h. then_not_gt _ _ (nat_cmp-zero a.weight) (then_not_gt _ _ (nat_cmp-zero a.duration) (nat_cmp-zero a.length));
  keeps_order = λ a b c h k l e. rw (nat_cmp-plus a.weight b.weight c.weight, nat_cmp-plus a.duration b.duration c.duration, nat_cmp-plus a.length b.length c.length) e;
  cancels = λ a b c h k l e. parts-same (nat-cancels a.weight b.weight c.weight (ap (λ (x : WeightDurLen). x.weight) e)) (nat-cancels a.duration b.duration c.duration (ap (λ (x : WeightDurLen). x.duration) e)) (nat-cancels a.length b.length c.length (ap (λ (x : WeightDurLen). x.length) e));
  same = λ a b h k e. let rest = then_equal_second _ _ e in parts-same (nat_cmp-same _ _ (then_equal_first _ _ e)) (nat_cmp-same _ _ (then_equal_first _ _ rest)) (nat_cmp-same _ _ (then_equal_second _ _ rest));
  units_valid = λ a n h. tt;
  zero_units = (omega arith, omega arith, omega arith);
  units_more = λ a n m h k. (omega (arith, h.0, k), omega (arith, h.1, k), omega (arith, h.2, k));
  plus_units = λ a b n m h k. (omega (arith, h.0, k.0), omega (arith, h.1, k.1), omega (arith, h.2, k.2));
}
