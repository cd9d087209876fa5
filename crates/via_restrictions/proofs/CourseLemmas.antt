-- Courses of rules over via ways, one rule more.
use Rattle.std.proofs.Common.{◌≡◌, ℕ, ℤ, suc, ◌+◌, ◌==◌, ◌&&◌, ◌||◌, List, drop, length, Option, Some, Vec, Bool, true, false, not, cond, arith, refl, sym, ap, subst, ◌∙◌}
use Rattle.std.specs.Cmp.Lexicographic.{pointwise}
use Rattle.std.specs.Global.{Global}
use Rattle.std.specs.HashMap.{get}
use Rattle.std.specs.List.{list_any, slice_get}
use Rattle.std.specs.Option.{option_map_or}
use Rattle.std.specs.Ordering.{int_eq}
use Rattle.std.proofs.Math.Seq.{drop-length}
use Rattle.turn_rules.specs.Rules.{ViaRule}
use Rattle.via_restrictions.specs.ViaParts.{AreNumbers, CourseMap, number_in, shut_in, ways_eq}
use Rattle.via_restrictions.specs.ViaWays.{course, first_like, shuts}
use Rattle.via_restrictions.specs.WaySets.{FirstMap, MemberSet, has_other, has_way}
use Rattle.road_turns.specs.DropLaws.{drop-get, list_any-drop}

-- what is added, or was there
pub cond-or : (b was : Bool) → cond b true was ≡ (was || b)
cond-or true true = refl
cond-or true false = refl
cond-or false true = refl
cond-or false false = refl

-- what one of two sets gains
pub more-first : (a b k : Bool) → ((a || k) || b) ≡ ((a || b) || k)
more-first true true true = refl
more-first true true false = refl
more-first true false true = refl
more-first true false false = refl
more-first false true true = refl
more-first false true false = refl
more-first false false true = refl
more-first false false false = refl

pub more-second : (a b k : Bool) → (a || (b || k)) ≡ ((a || b) || k)
more-second true b k = refl
more-second false b k = refl

-- the first of a course among the rules from number i on
first_like-step : (all : List ViaRule) (i : ℕ) (r : ViaRule) (ways : List ℤ) → slice_get all i ≡ Some r
    → first_like (drop i all) ways ≡ cond (pointwise int_eq (course r) ways) 0 (1 + first_like (drop (i + 1) all) ways)
first_like-step all i r ways at =
    let up : suc i ≡ i + 1 = omega arith in
    ap (λ (l : List ViaRule). first_like l ways) (drop-get all i r at)
    ∙ turned (pointwise int_eq (course r) ways) (first_like (drop (suc i) all) ways)
    ∙ ap (λ (k : ℕ). cond (pointwise int_eq (course r) ways) 0 (1 + first_like (drop k all) ways)) up
  where
    turned : (b : Bool) (n : ℕ) → cond (not b) (1 + n) 0 ≡ cond b 0 (1 + n)
    turned true n = refl
    turned false n = refl

-- one course more has a number
pub numbers-step : (all : List ViaRule) (i : ℕ) (r : ViaRule) (old new : CourseMap) (key q : Vec ℤ Global) → slice_get all i ≡ Some r → key.items ≡ course r
    → get ways_eq new q ≡ cond (ways_eq key q) (Some i) (get ways_eq old q) → number_in old (length all) q ≡ (i + 1) + first_like (drop (i + 1) all) q.items
    → number_in new (length all) q ≡ i + first_like (drop i all) q.items
numbers-step all i r old new key q at its put was =
    let test : Bool = pointwise int_eq (course r) q.items in
    let same : ways_eq key q ≡ test = ap (λ (l : List ℤ). pointwise int_eq l q.items) its in
    ap (λ (o : Option ℕ). option_map_or (λ number. number) o (length all)) (put ∙ ap (λ (b : Bool). cond b (Some i) (get ways_eq old q)) same)
    ∙ by test
    ∙ ap (λ (n : ℕ). i + n) (sym (first_like-step all i r q.items at))
  where
    by : (b : Bool) → option_map_or (λ number. number) (cond b (Some i) (get ways_eq old q)) (length all) ≡ i + cond b 0 (1 + first_like (drop (i + 1) all) q.items)
    by true = omega arith
    by false = was ∙ omega arith

-- what these of all rules forbid
abbrev pub AreShutFrom : List ViaRule → List ViaRule → MemberSet → FirstMap → Type 0
AreShutFrom all rest forbidden only = (number : ℕ) (way : ℤ) → shut_in forbidden only number way ≡ list_any (λ rule. (first_like all (course rule) == number) && shuts rule way) rest

-- one rule more
pub shut-step : (all : List ViaRule) (i : ℕ) (r : ViaRule) (forbidden forbidden' : MemberSet) (only only' : FirstMap) → slice_get all i ≡ Some r
    → ((number : ℕ) (way : ℤ) → shut_in forbidden' only' number way ≡ (shut_in forbidden only number way || ((first_like all (course r) == number) && shuts r way)))
    → AreShutFrom all (drop (i + 1) all) forbidden only → AreShutFrom all (drop i all) forbidden' only'
shut-step all i r forbidden forbidden' only only' at more h = λ number way.
    more number way
    ∙ ap (λ (b : Bool). b || ((first_like all (course r) == number) && shuts r way)) (h number way)
    ∙ flip (list_any (λ rule. (first_like all (course rule) == number) && shuts rule way) (drop (i + 1) all)) ((first_like all (course r) == number) && shuts r way)
    ∙ sym (list_any-drop (λ rule. (first_like all (course rule) == number) && shuts rule way) all i r at)
  where
    flip : (a b : Bool) → (a || b) ≡ (b || a)
    flip true true = refl
    flip true false = refl
    flip false true = refl
    flip false false = refl

module _ (all : List ViaRule) (rule : ViaRule) (its number : ℕ) (way to : ℤ) where
  -- a way that a rule forbids is added
  pub added-first : (forbidden forbidden' : MemberSet) (only : FirstMap) → rule.only ≡ false → to ≡ rule.to → its ≡ first_like all (course rule)
      → has_way forbidden' number way ≡ (has_way forbidden number way || ((its == number) && int_eq to way))
      → shut_in forbidden' only number way ≡ (shut_in forbidden only number way || ((first_like all (course rule) == number) && shuts rule way))
  added-first forbidden forbidden' only off onto at more =
      ap (λ (b : Bool). b || has_other only number way) more
      ∙ more-first (has_way forbidden number way) (has_other only number way) ((its == number) && int_eq to way)
      ∙ ap (λ (n : ℕ). shut_in forbidden only number way || ((n == number) && int_eq to way)) at
      ∙ ap (λ (t : ℤ). shut_in forbidden only number way || ((first_like all (course rule) == number) && int_eq t way)) onto
      ∙ ap (λ (b : Bool). shut_in forbidden only number way || ((first_like all (course rule) == number) && cond b (not (int_eq rule.to way)) (int_eq rule.to way))) (sym off)

  -- a way is added besides which a rule forbids all others
  pub added-second : (forbidden : MemberSet) (only only' : FirstMap) → rule.only ≡ true → to ≡ rule.to → its ≡ first_like all (course rule)
      → has_other only' number way ≡ (has_other only number way || ((its == number) && not (int_eq to way)))
      → shut_in forbidden only' number way ≡ (shut_in forbidden only number way || ((first_like all (course rule) == number) && shuts rule way))
  added-second forbidden only only' on onto at more =
      ap (λ (b : Bool). has_way forbidden number way || b) more
      ∙ more-second (has_way forbidden number way) (has_other only number way) ((its == number) && not (int_eq to way))
      ∙ ap (λ (n : ℕ). shut_in forbidden only number way || ((n == number) && not (int_eq to way))) at
      ∙ ap (λ (t : ℤ). shut_in forbidden only number way || ((first_like all (course rule) == number) && not (int_eq t way))) onto
      ∙ ap (λ (b : Bool). shut_in forbidden only number way || ((first_like all (course rule) == number) && cond b (not (int_eq rule.to way)) (int_eq rule.to way))) (sym on)

-- no rule is added yet
pub shut-none : (all : List ViaRule) (forbidden : MemberSet) (only : FirstMap) → ((number : ℕ) (way : ℤ) → has_way forbidden number way ≡ false) → ((number : ℕ) (way : ℤ) → has_other only number way ≡ false)
    → AreShutFrom all (drop (length all) all) forbidden only
shut-none all forbidden only none nothing = λ number way.
    ap (λ (b : Bool). b || has_other only number way) (none number way)
    ∙ nothing number way
    ∙ ap (list_any (λ rule. (first_like all (course rule) == number) && shuts rule way)) (sym (drop-length all))

pub numbers-kept : (all : List ViaRule) (numbers numbers' : CourseMap) → numbers ≡ numbers' → AreNumbers all numbers → AreNumbers all numbers'
numbers-kept all numbers numbers' same h = subst (AreNumbers all) same h
