-- Groups of five bits, written and read.
use Rattle.std.proofs.Common.{◌≡◌, ◌≢◌, ℕ, suc, zero, ◌+◌, ◌-◌, ◌*◌, ◌/◌, ◌%◌, ◌^◌, ◌<◌, ◌≤◌, true, false, List, [], ◌∷◌, ◌++◌, refl, sym, ap, ◌∙◌, subst, arith, append_assoc, nat_lt}
use Rattle.std.proofs.lemmas.Bool.Decides.{nat_tests}
use Rattle.std.proofs.lemmas.Bool.{cond-true, cond-false}
use Rattle.std.proofs.Math.Nat.{pow-suc, pow-le-pow_right}
use Rattle.polyline_text.specs.Encoding.{groups_text}

pub groups_text-last : (k n : ℕ) → n < 32 → groups_text (suc k) n ≡ (63 + n) ∷ []
unfolding groups_text
groups_text-last k n small =
    let test : nat_lt n 32 ≡ true = grind (arith, nat_tests) in
    cond-true _ _ _ test

pub groups_text-more : (k n : ℕ) → 32 ≤ n → groups_text (suc k) n ≡ (95 + n % 32) ∷ groups_text k (n / 32)
unfolding groups_text
groups_text-more k n large =
    let test : nat_lt n 32 ≡ false = grind (arith, nat_tests) in
    cond-false _ _ _ test

-- one group written, and the others still to come
pub group_written : (k n : ℕ) (text next all : List ℕ) → 32 ≤ n → n < 32 ^ suc k → next ≡ text ++ (95 + n % 32) ∷ [] → text ++ groups_text (suc k) n ≡ all
    → (j : ℕ) × (n / 32 < 32 ^ suc j) × (next ++ groups_text (suc j) (n / 32) ≡ all)
group_written zero n text next all large small pushed is = absurd (omega arith)
group_written (suc j) n text next all large small pushed is =
    let power = pow-suc 32 (suc j) in
    let smaller : n / 32 < 32 ^ suc j = omega (arith, power) in
    (j, smaller, rw pushed (append_assoc text ((95 + n % 32) ∷ []) (groups_text (suc j) (n / 32)) ∙ ap (λ (t : List ℕ). text ++ t) (sym (groups_text-more (suc j) n large)) ∙ is))

-- the last group written
pub last_group_written : (k n : ℕ) (text next all : List ℕ) → n < 32 → next ≡ text ++ (63 + n) ∷ [] → text ++ groups_text (suc k) n ≡ all → next ≡ all
last_group_written k n text next all small pushed is = pushed ∙ ap (λ (t : List ℕ). text ++ t) (sym (groups_text-last k n small)) ∙ is

-- a value of seven groups at most is below 2 ^ 35
pub below_seven_groups : (groups n : ℕ) → groups ≤ 7 → n < 32 ^ groups → n < 34359738368
below_seven_groups groups n few small =
    let most : 32 ^ groups ≤ 32 ^ 7 = pow-le-pow_right (omega arith) few in
    omega arith

-- a value of one group more
pub behind_group-lt : (groups bits n : ℕ) → groups ≢ 0 → bits < 32 → n < 32 ^ (groups - 1) → bits + 32 * n < 32 ^ groups
behind_group-lt zero bits n some small less = absurd (some refl)
behind_group-lt (suc k) bits n some small less =
    let same : suc k - 1 ≡ k = omega arith in
    let below : n < 32 ^ k = subst (λ (x : ℕ). n < 32 ^ x) same less in
    omega (arith, pow-suc 32 k)

pub one_group-lt : (groups bits : ℕ) → groups ≢ 0 → bits < 32 → bits < 32 ^ groups
one_group-lt zero bits some small = absurd (some refl)
one_group-lt (suc k) bits some small =
    let one : 1 ≤ suc k = omega arith in
    let least : 32 ^ 1 ≤ 32 ^ suc k = pow-le-pow_right (omega arith) one in
    omega arith
