-- The first of the cheapest orders by their parts is the best trip.
use Rattle.std.proofs.Common.{◌≡◌, ℕ, zero, suc, ◌+◌, ◌-◌, ◌*◌, ◌^◌, ◌<◌, ◌≤◌, List, [], ◌∷◌, ◌++◌, Option, Some, None, Bool, true, false, not, ◌&&◌, ◌||◌, ◌==◌, if◌then◌else◌, IsTrue, MatchOption, Result, Ok, Err, IfOk, IfSome, All, Vec, length, slice_index_or, refl, sym, subst, ap, ◌∙◌, arith}
use Rattle.std.specs.Global.{Global}
use Rattle.std.specs.List.{Contains}
use Rattle.std.specs.Option.{ForSome}
use Rattle.std.proofs.lemmas.List.Elements.{Contains-push}
use Rattle.std.proofs.lemmas.Option.{same_Some}
use Rattle.search_graph.specs.Costs.{CostOps, CostLaws}
use Rattle.trip_query.specs.Orders.{HasNone, IsFirst, IsFirstOf}
use Rattle.trip_query.specs.Tails.{AreReady, AreWithin, Goes, IsListOf, IsWithin, begin_at, end_at, onward, through}
use Rattle.trip_query.specs.Trips.{IsAdmitted, IsArrangement, IsBestTrip, begins_at_first, both, cost_of, is_first, is_last, leg, lists_of, sum_along}
use Rattle.trip_query.specs.declared.rules.Rule.{Rule}
use Rattle.trip_query.specs.declared.trips.Trip.{Trip}
use Rattle.trip_query.proofs.Arranged.{arrangement_goes, goes_arrangement, length-arrangement}
use Rattle.trip_query.proofs.Costing.{last_or, last_same, onward-sum, parts_are_sum, parts_begin, parts_end, split_last}
use Rattle.trip_query.proofs.Ending.{all_valid}
use Rattle.trip_query.proofs.Going.{AreValid}
use Rattle.trip_query.proofs.Reading.{lists-length, some_within, wide_from_all, within_from_all}

pub of_ok : {V E : Type 0} (r : Result V E) (P Q : V → Type 0) → IfOk r P → ((v : V) → P v → Q v) → IfOk r Q
of_ok (Ok v) P Q h f = f v h
of_ok (Err e) P Q h f = tt

-- two ways to tell the same orders with the same costs have the same first
pub first_same : {C : Type 0} (ops : CostOps C) (P Q : List ℕ → Type 0) (f h : List ℕ → Option C)
    → ((order : List ℕ) (d : C) → P order → f order ≡ Some d → Q order × (h order ≡ Some d)) → ((order : List ℕ) (d : C) → Q order → h order ≡ Some d → P order × (f order ≡ Some d))
    → (answer : Option (Trip C)) → IsFirstOf ops P f answer → IsFirstOf ops Q h answer
first_same ops P Q f h to from None none = λ order d q e. let b = from order d q e in none order d b.0 b.1
first_same ops P Q f h to from (Some trip) first =
    let t = to trip.order trip.cost first.admitted first.costs in
    record { admitted = t.0; costs = t.1; least = λ other d q e. let b = from other d q e in first.least other d b.0 b.1 }

-- what the list has at a place is what f says
within_by : {C : Type 0} (ops : CostOps C) (n : ℕ) (list : List (Option C)) (f : ℕ → Option C) → IsListOf f n list → ((k : ℕ) (c : C) → f k ≡ Some c → ops.units c (2 ^ 27)) → IsWithin ops (2 ^ 27) list
within_by ops n list f h within k c e =
    let size = h.size in
    let inside = some_within list k c e in
    within k c (sym (h.each k (omega (arith, size, inside))) ∙ e)

module _ {C : Type 0} {ops : CostOps C} (laws : CostLaws ops) (rows : List (List (Option C))) (units : AreWithin ops (2 ^ 27) rows) (rule : Rule) where
  zero_within : (c : C) → Some ops.zero ≡ Some c → ops.units c (2 ^ 27)
  zero_within c e = subst (λ x. ops.units x (2 ^ 27)) (same_Some ops.zero c e) (laws.units_more ops.zero 0 (2 ^ 27) laws.zero_units (omega arith))

  begin_by_bools : (k : ℕ) (b z r : Bool) (c : C) → (if b then (if z then Some ops.zero else None) else (if r then leg rows (length rows - 1) k else Some ops.zero)) ≡ Some c → ops.units c (2 ^ 27)
  begin_by_bools k true true r c e = zero_within c e
  begin_by_bools k true false r c e = cc
  begin_by_bools k false z true c e = units (length rows - 1) k c e
  begin_by_bools k false z false c e = zero_within c e

  end_by_bools : (k : ℕ) (t r : Bool) (c : C) → (if t then None else (if r then leg rows k 0 else Some ops.zero)) ≡ Some c → ops.units c (2 ^ 27)
  end_by_bools k true r c e = cc
  end_by_bools k false true c e = units k 0 c e
  end_by_bools k false false c e = zero_within c e

  -- what is paid at the beginning and at the end is within bounds
  pub begins_within : (n : ℕ) (list : List (Option C)) → IsListOf (begin_at ops rows rule) n list → IsWithin ops (2 ^ 27) list
  begins_within n list h = within_by ops n list (begin_at ops rows rule) h (λ k c e. begin_by_bools k (begins_at_first rule) (k == 0) rule.roundtrip c e)

  pub ends_within : (n : ℕ) (list : List (Option C)) → IsListOf (end_at ops rows rule) n list → IsWithin ops (2 ^ 27) list
  ends_within n list h = within_by ops n list (end_at ops rows rule) h (λ k c e. end_by_bools k (is_last rule.destination && not (k == length rows - 1)) (rule.roundtrip && begins_at_first rule) c e)

-- a table within bounds and what a rule makes be paid at the ends are ready for the search
pub ready_for : {C : Type 0} {ops : CostOps C} (laws : CostLaws ops) (rule : Rule) {rows : List (Vec (Option C) Global)} {begins ends : List (Option C)}
    → length rows ≤ 9 → All (λ row. length row.items ≡ length rows) rows → All (λ row. All (λ leg. ForSome leg (λ cost. ops.units cost (2 ^ 27))) row.items) rows
    → IsListOf (begin_at ops (lists_of rows) rule) (length rows) begins → IsListOf (end_at ops (lists_of rows) rule) (length rows) ends
    → AreReady ops rows begins ends
ready_for {C} {ops} laws rule {rows} {begins} {ends} few square units is_begins is_ends =
    let wide = wide_from_all (length rows) rows square in
    let within = within_from_all ops (2 ^ 27) (length rows) rows wide units in
    record {
      few = few;
      square = wide;
      units = within;
      begin_each = is_begins.size;
      begin_units = begins_within laws (lists_of rows) within rule (length rows) begins is_begins;
      end_each = is_ends.size;
      end_units = ends_within laws (lists_of rows) within rule (length rows) ends is_ends;
    }

head_or : ℕ → List ℕ → ℕ
head_or d [] = d
head_or d (x ∷ xs) = x

same_head : (f : ℕ) (rest : List ℕ) (k : ℕ) (more : List ℕ) → f ∷ rest ≡ k ∷ more → f ≡ k
unfolding head_or
same_head f rest k more e = ap (head_or 0) e

-- a round trip that needn't begin at the first place ends at the last
link : (s r t : Bool) → (s || (r && not t)) ≡ false → r ≡ true → t ≡ true
link true r t h e = cc
link false false t h e = cc
link false true true h e = refl
link false true false h e = cc

module _ {C : Type 0} {ops : CostOps C} (laws : CostLaws ops) {rows : List (Vec (Option C) Global)} {begins ends : List (Option C)} (ready : AreReady ops rows begins ends) (rule : Rule) (some : 0 < length rows)
    (is_begins : IsListOf (begin_at ops (lists_of rows) rule) (length rows) begins) (is_ends : IsListOf (end_at ops (lists_of rows) rule) (length rows) ends) where
  valid : AreValid ops (lists_of rows) ends
  valid = all_valid laws ready

  -- an order of all places costs by its parts what they cost by the rule
  through_is : (f : ℕ) (rest : List ℕ) → IsArrangement (length (lists_of rows)) (f ∷ rest)
      → through ops (lists_of rows) ends begins (f ∷ rest) ≡ both ops (begin_at ops (lists_of rows) rule f) (both ops (sum_along ops (lists_of rows) (f ∷ rest)) (end_at ops (lists_of rows) rule (last_or f rest)))
  through_is f rest all =
      let len = lists-length rows in
      let s = split_last f rest in
      let first : f < length rows = let lt = all.only f (0, omega arith, refl) in omega (arith, lt, len) in
      let last : last_or f rest < length rows = let lt = all.only (last_or f rest) (subst (λ (l : List ℕ). Contains l (last_or f rest)) (sym s.1) (Contains-push s.0 (last_or f rest))) in omega (arith, lt, len) in
      ap (λ x. both ops x (onward ops (lists_of rows) ends f rest)) (is_begins.each f first)
      ∙ ap (both ops (begin_at ops (lists_of rows) rule f)) (onward-sum laws (lists_of rows) valid.leg_valid ends valid.end_valid f rest)
      ∙ ap (λ x. both ops (begin_at ops (lists_of rows) rule f) (both ops (sum_along ops (lists_of rows) (f ∷ rest)) x)) (is_ends.each (last_or f rest) last)

  sum_is : (f : ℕ) (rest : List ℕ) → (begins_at_first rule ≡ true → f ≡ 0) → ((is_last rule.destination) ≡ true → last_or f rest ≡ length (lists_of rows) - 1)
      → both ops (begin_at ops (lists_of rows) rule f) (both ops (sum_along ops (lists_of rows) (f ∷ rest)) (end_at ops (lists_of rows) rule (last_or f rest))) ≡ cost_of ops (lists_of rows) rule (f ∷ rest)
  sum_is f rest first last =
      parts_are_sum laws (lists_of rows) valid.leg_valid (begins_at_first rule) rule.roundtrip (is_last rule.destination) (length (lists_of rows) - 1) f rest (link (is_first rule.source) rule.roundtrip (is_last rule.destination)) first last

  to_trip : (order : List ℕ) (d : C) → Goes (2 ^ length rows - 1) order → through ops (lists_of rows) ends begins order ≡ Some d → IsAdmitted rule (length (lists_of rows)) order × (cost_of ops (lists_of rows) rule order ≡ Some d)
  to_trip [] d goes e = cc
  to_trip (f ∷ rest) d goes e =
      let all : IsArrangement (length (lists_of rows)) (f ∷ rest) = goes_arrangement (length (lists_of rows)) (f ∷ rest) (subst (λ n. Goes (2 ^ n - 1) (f ∷ rest)) (sym (lists-length rows)) goes) in
      let parts = sym (through_is f rest all) ∙ e in
      let S = sum_along ops (lists_of rows) (f ∷ rest) in
      let first : begins_at_first rule ≡ true → f ≡ 0 = λ h.
      parts_begin laws (lists_of rows) valid.leg_valid (begins_at_first rule) rule.roundtrip (length (lists_of rows) - 1) f (both ops S (end_at ops (lists_of rows) rule (last_or f rest))) d parts h in
      let last : (is_last rule.destination) ≡ true → last_or f rest ≡ length (lists_of rows) - 1 = λ h.
      parts_end laws (lists_of rows) valid.leg_valid (begins_at_first rule) rule.roundtrip (is_last rule.destination) (length (lists_of rows) - 1) (last_or f rest) (begin_at ops (lists_of rows) rule f) S d parts h in (
        record {
          all = all;
          begins = λ h. (rest, ap (λ k. k ∷ rest) (first h));
          ends = λ h. let s = split_last f rest in (s.0, s.1 ∙ ap (λ k. s.0 ++ k ∷ []) (last h));
        },
        sym (sum_is f rest first last) ∙ parts,
      )

  from_trip : (order : List ℕ) (d : C) → IsAdmitted rule (length (lists_of rows)) order → cost_of ops (lists_of rows) rule order ≡ Some d → Goes (2 ^ length rows - 1) order × (through ops (lists_of rows) ends begins order ≡ Some d)
  from_trip [] d h e = let len = lists-length rows in let there = h.all.every 0 (omega (arith, some, len)) in let lt = there.1 in absurd (omega (arith, lt))
  from_trip (f ∷ rest) d h e =
      let first : begins_at_first rule ≡ true → f ≡ 0 = λ t. let b = h.begins t in same_head f rest 0 b.0 b.1 in
      let last : (is_last rule.destination) ≡ true → last_or f rest ≡ length (lists_of rows) - 1 = λ t. let b = h.ends t in last_same f rest b.0 (length (lists_of rows) - 1) b.1 in
      (subst (λ n. Goes (2 ^ n - 1) (f ∷ rest)) (lists-length rows) (arrangement_goes (length (lists_of rows)) (f ∷ rest) h.all), through_is f rest h.all ∙ sum_is f rest first last ∙ e)

  pub best_is : (answer : Option (Trip C)) → IsFirstOf ops (Goes (2 ^ length rows - 1)) (through ops (lists_of rows) ends begins) answer → IsBestTrip ops (lists_of rows) rule answer
  best_is answer h = first_same ops (Goes (2 ^ length rows - 1)) (IsAdmitted rule (length (lists_of rows))) (through ops (lists_of rows) ends begins) (cost_of ops (lists_of rows) rule) to_trip from_trip answer h

-- a trip has as many places as the table
pub trip_all : {C : Type 0} (ops : CostOps C) (rows : List (Vec (Option C) Global)) (rule : Rule) (answer : Option (Trip C)) → IsBestTrip ops (lists_of rows) rule answer → IfSome answer (λ trip. length trip.order ≡ length rows)
trip_all ops rows rule None h = tt
trip_all ops rows rule (Some trip) h = length-arrangement (length (lists_of rows)) trip.order h.admitted.all ∙ lists-length rows

-- what the search answers over the rows that it was given is what is asked
pub answered : {C E : Type 0} {ops : CostOps C} (laws : CostLaws ops) (rule : Rule) {rows given : List (Vec (Option C) Global)} {begins ends : List (Option C)} → AreReady ops rows begins ends → given ≡ rows → 2 ≤ length rows
    → IsListOf (begin_at ops (lists_of rows) rule) (length rows) begins → IsListOf (end_at ops (lists_of rows) rule) (length rows) ends
    → (r : Result (Option (Trip C)) E) → IfOk r (IsFirstOf ops (Goes (2 ^ length given - 1)) (through ops (lists_of given) ends begins)) → IfOk r (IsBestTrip ops (lists_of rows) rule)
answered {C} {E} {ops} laws rule {rows} {given} {begins} {ends} ready same some is_begins is_ends r h =
    let positive : 0 < length rows = omega (arith, some) in
    of_ok r (IsFirstOf ops (Goes (2 ^ length rows - 1)) (through ops (lists_of rows) ends begins)) (IsBestTrip ops (lists_of rows) rule)
    (subst (λ l. IfOk r (IsFirstOf ops (Goes (2 ^ length l - 1)) (through ops (lists_of l) ends begins))) same h)
    (best_is laws ready rule positive is_begins is_ends)
