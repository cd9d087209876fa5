-- What a step tells, over the code's lists.
use Rattle.std.proofs.Common.{◌≡◌, ℕ, ◌-◌, ◌*◌, ◌%◌, ◌^◌, ◌<◌, ◌≤◌, List, [], ◌∷◌, ◌++◌, Option, Some, None, MatchOption, Vec, length, slice_index_or, refl, sym, subst, ap, ◌∙◌, arith, append-nil, append_assoc}
use Rattle.std.specs.Global.{Global}
use Rattle.std.specs.Int.{bit_at}
use Rattle.std.specs.List.{slice_get}
use Rattle.std.proofs.lemmas.Nat.{pow_pos}
use Rattle.std.proofs.lemmas.Nat.Bits.{bit_at-zero}
use Rattle.std.proofs.Math.Pow.{pow_mono}
use Rattle.search_graph.specs.Costs.{CostOps, CostLaws}
use Rattle.search_graph.specs.OrderLaws.{same_from_le}
use Rattle.trip_query.specs.Orders.{HasNone, IsFirst}
use Rattle.trip_query.specs.Tails.{AreReady, AreRowsOfTails, Goes, IsFirstStep, IsStep, IsTail, IsWithin, onward, through, via}
use Rattle.trip_query.specs.Trips.{leg, lists_of}
use Rattle.trip_query.specs.declared.steps.Step.{Step}
use Rattle.trip_query.proofs.Bits.{power_within, shifted}
use Rattle.trip_query.proofs.Choosing.{first_through, none_onward, none_through, order_of_step, step_parts, tail_of_step, to_onward}
use Rattle.trip_query.proofs.Going.{AreValid, onward_valid}
use Rattle.trip_query.proofs.Reading.{lists-length, row_at}

-- A step goes to a place of the set, the tail behind it costs t, and each first of the cheapest orders behind it is one with
-- it in front.
pub record Leads {C : Type 0} (ops : CostOps C) (rows : List (List (Option C))) (ends : List (Option C)) (tails : List (List (Option C))) (set : ℕ) (f : List ℕ → Option C) (step : Step C) : Type 0 where
  pub there : bit_at set step.place ≡ 1
  pub tail : C
  pub is_tail : leg tails (set - 2 ^ step.place) step.place ≡ Some tail
  pub rest : List ℕ
  pub is_rest : IsFirst ops (Goes (set - 2 ^ step.place)) (onward ops rows ends step.place) rest tail
  pub each : (more : List ℕ) → IsFirst ops (Goes (set - 2 ^ step.place)) (onward ops rows ends step.place) more tail → IsFirst ops (Goes set) f (step.place ∷ more) step.cost

-- an order so far: it begins with a place, and behind it comes each first of the cheapest ways on through what is left
pub record GoesOn {C : Type 0} (ops : CostOps C) (rows : List (List (Option C))) (ends : List (Option C)) (tails : List (List (Option C))) (all place : ℕ) (order : List ℕ) (set at : ℕ) : Type 0 where
  pub front : List ℕ
  pub items : order ≡ place ∷ front
  pub whole : C
  pub is_whole : leg tails all place ≡ Some whole
  pub left : C
  pub is_left : leg tails set at ≡ Some left
  pub each : (rest : List ℕ) → IsFirst ops (Goes set) (onward ops rows ends at) rest left → IsFirst ops (Goes all) (onward ops rows ends place) (front ++ rest) whole

module _ {C : Type 0} {ops : CostOps C} (laws : CostLaws ops) {rows : List (Vec (Option C) Global)} {begins ends : List (Option C)} (ready : AreReady ops rows begins ends) where
  -- what is within bounds is valid
  pub all_valid : AreValid ops (lists_of rows) ends
  all_valid = record {
    leg_valid = λ i j c e. laws.units_valid c (2 ^ 27) (ready.units i j c e);
    end_valid = λ k c e. laws.units_valid c (2 ^ 27) (ready.end_units k c e);
  }

  -- two firsts of the same orders cost the same
  pub same_first : (P : List ℕ → Type 0) (k : ℕ) (a b : List ℕ) (c d : C) → IsFirst ops P (onward ops (lists_of rows) ends k) a c → IsFirst ops P (onward ops (lists_of rows) ends k) b d → c ≡ d
  same_first P k a b c d f e = same_from_le laws c d (onward_valid laws all_valid k a c f.costs) (onward_valid laws all_valid k b d e.costs) (f.least b d e.admitted e.costs).0 (e.least a c f.admitted f.costs).0

  module _ {tails : List (Vec (Option C) Global)} {below : ℕ} (set : ℕ) (h : AreRowsOfTails ops rows ends below tails) (filled : set ≤ below) (few : set < 2 ^ length rows) where
    few_lists : set < 2 ^ length (lists_of rows)
    few_lists = subst (λ (n : ℕ). set < 2 ^ n) (sym (lists-length rows)) few

    module _ (row : List (Option C)) (row_units : IsWithin ops (2 ^ 27) row) where
      row_valid : (k : ℕ) (c : C) → slice_index_or row k None ≡ Some c → ops.valid c
      row_valid k c e = laws.units_valid c (2 ^ 27) (row_units k c e)

      pub leads : (n : ℕ) (step : Step C) → n ≡ length rows → IsFirstStep ops (via ops (lists_of tails) set row) n step → Leads ops (lists_of rows) ends (lists_of tails) set (through ops (lists_of rows) ends row) step
      leads n step size first =
          let f : IsFirstStep ops (via ops (lists_of tails) set row) (length (lists_of rows)) step = subst (λ (m : ℕ). IsFirstStep ops (via ops (lists_of tails) set row) m step) (size ∙ sym (lists-length rows)) first in
          let t = tail_of_step laws all_valid (lists_of tails) below set row row_valid h.are filled few_lists step f in
          let p = step_parts laws all_valid (lists_of tails) below set row row_valid h.are filled few_lists step f in
          record {
            there = p.0;
            tail = t.0;
            is_tail = t.1;
            rest = t.2;
            is_rest = t.3;
            each = λ more m. first_through laws all_valid (lists_of tails) below set row row_valid h.are filled few_lists step f more t.0 t.1 m;
          }

      pub leads_nowhere : (n : ℕ) → n ≡ length rows → ((k : ℕ) (d : C) → k < n → ¬ (via ops (lists_of tails) set row k ≡ Some d)) → HasNone (Goes set) (through ops (lists_of rows) ends row)
      leads_nowhere n size none =
          let len = lists-length rows in
          none_through laws all_valid (lists_of tails) below set row row_valid h.are filled few_lists (λ k d lt e. none k d (omega (arith, lt, len, size)) e)

    -- the tail of a set from a place, by the table
    pub tail_is : (place : ℕ) (left : C) → place < length rows → set < below → leg (lists_of tails) set place ≡ Some left → (rest : List ℕ) × IsFirst ops (Goes set) (onward ops (lists_of rows) ends place) rest left
    tail_is place left inside lt is_left =
        let len = lists-length rows in
        subst (λ v. IsTail ops (lists_of rows) ends set place v) is_left (h.are set place lt (omega (arith, inside, len)))

    -- nothing is left to go through at the empty set
    pub finished : (all from place : ℕ) (order : List ℕ) → place < length rows → set < below → set ≡ 0 → (so : GoesOn ops (lists_of rows) ends (lists_of tails) all from order set place)
        → IsFirst ops (Goes all) (onward ops (lists_of rows) ends from) so.front so.whole
    finished all from place order inside lt nothing so = let t = tail_is place so.left inside lt so.is_left in by_rest t.0 t.1 where
      by_rest : (rest : List ℕ) → IsFirst ops (Goes set) (onward ops (lists_of rows) ends place) rest so.left → IsFirst ops (Goes all) (onward ops (lists_of rows) ends from) so.front so.whole
      by_rest [] f = subst (λ xs. IsFirst ops (Goes all) (onward ops (lists_of rows) ends from) xs so.whole) (append-nil so.front) (so.each [] f)
      by_rest (k ∷ more) f = let here : bit_at 0 k ≡ 1 = subst (λ n. bit_at n k ≡ 1) nothing f.admitted.0 in let z = bit_at-zero k in absurd (omega (arith, here, z))

    -- the same where the row is that of a place, and the set isn't empty
    module _ (place : ℕ) (row : Vec (Option C) Global) (at : slice_get rows place ≡ Some row) (row_units : IsWithin ops (2 ^ 27) row.items) (some : 0 < set) where
      pub on : (order : List ℕ) (c : C) → IsFirst ops (Goes set) (through ops (lists_of rows) ends row.items) order c → IsFirst ops (Goes set) (onward ops (lists_of rows) ends place) order c
      on order c f = to_onward laws all_valid set place order c some
          (subst (λ r. IsFirst ops (Goes set) (through ops (lists_of rows) ends r) order c) (sym (row_at rows place row at)) f)

      pub nowhere : HasNone (Goes set) (through ops (lists_of rows) ends row.items) → HasNone (Goes set) (onward ops (lists_of rows) ends place)
      nowhere none = none_onward laws all_valid set place some
          (subst (λ r. HasNone (Goes set) (through ops (lists_of rows) ends r)) (sym (row_at rows place row at)) none)

      -- where no step leads on, nothing is left to go through
      pub ended : (n : ℕ) (left : C) → n ≡ length rows → place < length rows → set < below → leg (lists_of tails) set place ≡ Some left
          → ((k : ℕ) (d : C) → k < n → ¬ (via ops (lists_of tails) set row.items k ≡ Some d)) → ⊥
      ended n left size inside lt is_left none =
          let len = lists-length rows in
          let tail : IsTail ops (lists_of rows) ends set place (Some left) = subst (λ v. IsTail ops (lists_of rows) ends set place v) is_left (h.are set place lt (omega (arith, inside, len))) in
          nowhere (leads_nowhere row.items row_units n size none) tail.0 left tail.1.admitted tail.1.costs

      -- one step on
      pub goes_on : (all from : ℕ) (order : List ℕ) (step : Step C) → place < length rows → set < below → GoesOn ops (lists_of rows) ends (lists_of tails) all from order set place
          → Leads ops (lists_of rows) ends (lists_of tails) set (through ops (lists_of rows) ends row.items) step
          → GoesOn ops (lists_of rows) ends (lists_of tails) all from (order ++ step.place ∷ []) (set - 2 ^ step.place) step.place
      goes_on all from order step inside lt so l = record {
        front = so.front ++ step.place ∷ [];
        items = ap (λ xs. xs ++ step.place ∷ []) so.items;
        whole = so.whole;
        is_whole = so.is_whole;
        left = l.tail;
        is_left = l.is_tail;
        each = λ rest f.
            let here : IsFirst ops (Goes set) (onward ops (lists_of rows) ends place) (step.place ∷ rest) step.cost = on (step.place ∷ rest) step.cost (l.each rest f) in
            let t = tail_is place so.left inside lt so.is_left in
            let same : step.cost ≡ so.left = same_first (Goes set) place (step.place ∷ rest) t.0 step.cost so.left here t.1 in
            subst (λ xs. IsFirst ops (Goes all) (onward ops (lists_of rows) ends from) xs so.whole) (sym (append_assoc so.front (step.place ∷ []) rest))
            (so.each (step.place ∷ rest) (subst (λ c. IsFirst ops (Goes set) (onward ops (lists_of rows) ends place) (step.place ∷ rest) c) same here));
      }

  -- the first step of all, by the table of all sets
  module _ {tails : List (Vec (Option C) Global)} (h : AreRowsOfTails ops rows ends (2 ^ length rows) tails) where
    all_few : 2 ^ length rows - 1 < 2 ^ length rows
    all_few = let positive = pow_pos (length rows) in omega (arith, positive)

    all_filled : 2 ^ length rows - 1 ≤ 2 ^ length rows
    all_filled = omega arith

    pub first_leads : (step : Step C) → IsFirstStep ops (via ops (lists_of tails) (2 ^ length rows - 1) begins) (length begins) step
        → Leads ops (lists_of rows) ends (lists_of tails) (2 ^ length rows - 1) (through ops (lists_of rows) ends begins) step
    first_leads step first = leads (2 ^ length rows - 1) h all_filled all_few begins ready.begin_units (length begins) step ready.begin_each first

    pub first_leads_nowhere : IsStep ops (via ops (lists_of tails) (2 ^ length rows - 1) begins) (length begins) None → HasNone (Goes (2 ^ length rows - 1)) (through ops (lists_of rows) ends begins)
    first_leads_nowhere none = leads_nowhere (2 ^ length rows - 1) h all_filled all_few begins ready.begin_units (length begins) ready.begin_each none

    -- the places behind the first step, as the code computes their set
    pub others_are : {f : List ℕ → Option C} (step : Step C) → Leads ops (lists_of rows) ends (lists_of tails) (2 ^ length rows - 1) f step → (n : ℕ) → n ≡ 2 ^ length rows - 1
        → n - 1 * 2 ^ step.place % 18446744073709551616 ≡ 2 ^ length rows - 1 - 2 ^ step.place
    others_are step l n same =
        let w = power_within (2 ^ length rows - 1) step.place l.there in
        let most = pow_mono ready.few in
        let p = shifted step.place (2 ^ length rows - 1) w (omega (arith, all_few, most)) in
        omega (arith, p, same)

-- a step over what is equal
pub step_over : {C : Type 0} (ops : CostOps C) {given tails : List (Vec (Option C) Global)} {n set : ℕ} {start row : List (Option C)} (step : Option (Step C))
    → given ≡ tails → n ≡ set → start ≡ row → IsStep ops (via ops (lists_of given) n start) (length start) step → IsStep ops (via ops (lists_of tails) set row) (length row) step
step_over ops {given} {tails} {n} {set} {start} {row} step e same r h =
    subst (λ l. IsStep ops (via ops (lists_of l) set row) (length row) step) e
    (subst (λ k. IsStep ops (via ops (lists_of given) k row) (length row) step) same
    (subst (λ l. IsStep ops (via ops (lists_of given) n l) (length l) step) r h))
