-- The tails of each set, and how much they cost at most.
use Rattle.std.proofs.Common.{◌≡◌, ℕ, suc, ◌+◌, ◌-◌, ◌*◌, ◌%◌, ◌^◌, ◌<◌, ◌≤◌, List, [], ◌∷◌, ◌++◌, Option, Some, None, Vec, length, slice_index_or, true, inl, inr, refl, sym, subst, ap, ◌∙◌, arith, length-append}
use Rattle.std.specs.Global.{Global}
use Rattle.std.specs.Int.{bit_at}
use Rattle.std.specs.List.{slice_get, list_any}
use Rattle.std.proofs.Math.Dec.{eqb}
use Rattle.std.proofs.lemmas.Bool.{cases_lt}
use Rattle.std.proofs.lemmas.Map.Steps.{length-le_from_distinct_below}
use Rattle.std.proofs.lemmas.Nat.Bits.{bit_at_above}
use Rattle.std.proofs.lemmas.Option.{same_Some}
use Rattle.std.proofs.Math.Nat.{eq-or-lt_of_le}
use Rattle.std.proofs.Math.Pow.{pow_mono}
use Rattle.list_lemmas.proofs.Gets.{get_append, get_push, get_pushed, get_some}
use Rattle.search_graph.specs.Costs.{CostOps, CostLaws}
use Rattle.trip_query.specs.Tails.{AreReady, AreRowsOfTails, AreWithin, Goes, IsTail, onward}
use Rattle.trip_query.specs.Trips.{leg, lists_of}
use Rattle.trip_query.proofs.Arranged.{goes_once, members_in}
use Rattle.trip_query.proofs.Going.{both_some}
use Rattle.trip_query.proofs.Reading.{leg_at, leg_within, lists-length}

-- a list that goes through a set of places below n has no more than n
goes_short : (n set : ℕ) (order : List ℕ) → set < 2 ^ n → Goes set order → length order ≤ n
goes_short n set order few goes = length-le_from_distinct_below order n (goes_once set order goes) (λ q h. below q (members_in set order goes q h)) where
  below : (q : ℕ) → bit_at set q ≡ 1 → q < n
  below q h = elim (cases_lt q n) [
    | inl lt ↦ lt
    | inr ge ↦ let z = bit_at_above set n q few ge in absurd (omega (arith, z, h))
  ]

module _ {C : Type 0} {ops : CostOps C} (laws : CostLaws ops) {rows : List (Vec (Option C) Global)} {begins ends : List (Option C)} (ready : AreReady ops rows begins ends) where
  one_part : (l : ℕ) → 2 ^ 27 + (l + 1) * 2 ^ 27 ≤ (suc l + 1) * 2 ^ 27
  one_part l = omega arith

  onward_units : (k : ℕ) (rest : List ℕ) (c : C) → onward ops (lists_of rows) ends k rest ≡ Some c → ops.units c ((length rest + 1) * 2 ^ 27)
  onward_units k [] c e = ready.end_units k c e
  onward_units k (j ∷ rest) c e =
      let p = both_some ops (leg (lists_of rows) k j) (onward ops (lists_of rows) ends j rest) c e in
      laws.units_more c (2 ^ 27 + (length rest + 1) * 2 ^ 27) ((suc (length rest) + 1) * 2 ^ 27)
      (subst (λ x. ops.units x (2 ^ 27 + (length rest + 1) * 2 ^ 27)) (sym p.4) (laws.plus_units p.0 p.1 (2 ^ 27) ((length rest + 1) * 2 ^ 27) (ready.units k j p.0 p.2) (onward_units j rest p.1 p.3)))
      (one_part (length rest))

  ten_parts : (l n : ℕ) → l ≤ n → n ≤ 9 → (l + 1) * 2 ^ 27 ≤ 10 * 2 ^ 27
  ten_parts l n h k = omega arith

  tail_units : (n set k : ℕ) (v : Option C) (c : C) → n ≤ 9 → set < 2 ^ n → IsTail ops (lists_of rows) ends set k v → v ≡ Some c → ops.units c (10 * 2 ^ 27)
  tail_units n set k None c few lt h e = cc
  tail_units n set k (Some d) c few lt h e =
      let same : d ≡ c = same_Some d c e in
      subst (λ x. ops.units x (10 * 2 ^ 27)) same
      (laws.units_more d ((length h.0 + 1) * 2 ^ 27) (10 * 2 ^ 27) (onward_units k h.0 d h.1.costs) (ten_parts (length h.0) n (goes_short n set h.0 lt h.1.admitted) few))

  pub tails_units : {below : ℕ} {tails : List (Vec (Option C) Global)} → below ≤ 2 ^ length rows → AreRowsOfTails ops rows ends below tails → AreWithin ops (10 * 2 ^ 27) (lists_of tails)
  tails_units {below} {tails} most h set k c e =
      let w = leg_within (length rows) tails set k c h.wide e in
      let count = h.count in
      let lt : set < below = omega (arith, w.0, count) in
      let len = lists-length rows in
      let inside : k < length (lists_of rows) = omega (arith, w.1, len) in
      tail_units (length rows) set k (leg (lists_of tails) set k) c ready.few (omega (arith, lt, most)) (h.are set k lt inside) e

  -- the tails of one set more
  pub tails_more : (below : ℕ) (tails : List (Vec (Option C) Global)) (values : Vec (Option C) Global) → AreRowsOfTails ops rows ends below tails → length values.items ≡ length rows
      → ((k : ℕ) → k < length rows → IsTail ops (lists_of rows) ends below k (slice_index_or values.items k None)) → AreRowsOfTails ops rows ends (below + 1) (tails ++ values ∷ [])
  tails_more below tails values h size each =
      let count = h.count in
      let last : slice_get (tails ++ values ∷ []) below ≡ Some values = subst (λ n. slice_get (tails ++ values ∷ []) n ≡ Some values) count (get_pushed tails values) in
      record {
        count = let e = length-append tails (values ∷ []) in omega (arith, e, count);
        wide = λ i row e. elim (get_push tails values i row e) [
          | inl there ↦ h.wide i row there
          | inr at ↦ subst (λ (v : Vec (Option C) Global). length v.items ≡ length rows) (sym at.1) size
        ];
        are = λ set k lt inside.
            let le : set ≤ below = omega (arith, lt) in
            let len = lists-length rows in
            let place : k < length rows = omega (arith, inside, len) in
            elim (eq-or-lt_of_le le) [
              | inl same ↦
                  let at : slice_get (tails ++ values ∷ []) set ≡ Some values = subst (λ n. slice_get (tails ++ values ∷ []) n ≡ Some values) (sym same) last in
                  subst (λ v. IsTail ops (lists_of rows) ends set k v) (sym (leg_at (tails ++ values ∷ []) set k values (slice_index_or values.items k None) at refl))
                  (subst (λ n. IsTail ops (lists_of rows) ends n k (slice_index_or values.items k None)) (sym same) (each k place))
              | inr less ↦
                  let r = get_some tails set (omega (arith, less, count)) in
                  let before = leg_at tails set k r.0 (slice_index_or r.0.items k None) r.1 refl in
                  let after = leg_at (tails ++ values ∷ []) set k r.0 (slice_index_or r.0.items k None) (get_append tails (values ∷ []) set r.0 r.1) refl in
                  subst (λ v. IsTail ops (lists_of rows) ends set k v) (before ∙ sym after) (h.are set k less inside)
            ];
      }

  -- at first there are none
  pub tails_none : (tails : List (Vec (Option C) Global)) → tails ≡ [] → AreRowsOfTails ops rows ends 0 tails
  tails_none tails e = record {
    count = ap length e;
    wide = λ i row h. let n : slice_get {X = Vec (Option C) Global} [] i ≡ Some row = subst (λ (l : List (Vec (Option C) Global)). slice_get l i ≡ Some row) e h in cc;
    are = λ set k lt inside. absurd (omega (arith, lt));
  }

-- how many sets of n places there are, as the code computes it
pub sets_are : (n : ℕ) → n ≤ 9 → 1 * 2 ^ n % 18446744073709551616 ≡ 2 ^ n
sets_are n few = let most : 2 ^ n ≤ 2 ^ 9 = pow_mono few in omega (arith, most)
