-- The first of the cheapest steps leads to the first of the cheapest orders.
use Rattle.std.proofs.Common.{◌≡◌, ℕ, ◌-◌, ◌^◌, ◌<◌, ◌≤◌, List, [], ◌∷◌, Option, Some, None, MatchOption, length, slice_index_or, inl, inr, refl, sym, subst, ap, ◌∙◌, eq-eqb, arith, if◌then◌else◌, ◌==◌, true}
use Rattle.std.specs.Int.{bit_at}
use Rattle.std.proofs.lemmas.Bool.{cases_lt}
use Rattle.std.proofs.lemmas.Nat.Bits.{bit_at_above, bit_at-zero}
use Rattle.std.proofs.lemmas.Option.{same_Some}
use Rattle.std.proofs.Math.Nat.{eq-or-lt_of_le}
use Rattle.search_graph.specs.Costs.{CostOps, CostLaws, NoDearer}
use Rattle.search_graph.specs.OrderLaws.{le_refl, le_trans, plus_le_left, same_from_le, le_from_same}
use Rattle.trip_query.specs.Orders.{HasNone, IsFirst, IsNoLater}
use Rattle.trip_query.specs.Tails.{AreTails, Goes, IsFirstStep, IsStep, IsTail, onward, through, via}
use Rattle.trip_query.specs.Trips.{both, leg}
use Rattle.trip_query.specs.declared.steps.Step.{Step}
use Rattle.trip_query.proofs.Bits.{power_within, without_smaller}
use Rattle.trip_query.proofs.Going.{AreValid, both_are, both_some, if_some, onward_valid, same_number}

module _ {C : Type 0} {ops : CostOps C} (laws : CostLaws ops) {rows : List (List (Option C))} {ends : List (Option C)} (valid : AreValid ops rows ends) where
  -- an order that goes on has a tail that is no dearer
  tail_within : (set k : ℕ) (v : Option C) (rest : List ℕ) (b : C) → IsTail ops rows ends set k v → Goes set rest → onward ops rows ends k rest ≡ Some b → (t : C) × (v ≡ Some t) × NoDearer ops t b
  tail_within set k None rest b h goes e = absurd (h rest b goes e)
  tail_within set k (Some t) rest b h goes e = (t, refl, (h.1.least rest b goes e).0)

  tail_valid : (set k : ℕ) (v : Option C) (t : C) → IsTail ops rows ends set k v → v ≡ Some t → ops.valid t
  tail_valid set k None t h e = cc
  tail_valid set k (Some c) t h e = subst ops.valid (same_Some c t e) (onward_valid laws valid k h.0 c h.1.costs)

  -- the empty set has one order, which is empty
  pub empty_tail : (k : ℕ) (v : Option C) → slice_index_or ends k None ≡ v → IsTail ops rows ends 0 k v
  empty_tail k None e = λ order c goes f. none_at order c goes f where
    none_at : (order : List ℕ) (c : C) → Goes 0 order → onward ops rows ends k order ≡ Some c → ⊥
    none_at [] c goes f = let g : None ≡ Some c = sym e ∙ f in cc
    none_at (j ∷ rest) c goes f = let z = bit_at-zero j in absurd (omega (arith, z, goes.0))
  empty_tail k (Some t) e = ([], record { admitted = refl; costs = e; least = least_at }) where
    least_at : (other : List ℕ) (d : C) → Goes 0 other → onward ops rows ends k other ≡ Some d → NoDearer ops t d × (t ≡ d → IsNoLater [] other)
    least_at [] d goes f = (le_from_same laws t d (same_Some t d (sym e ∙ f)), λ _. tt)
    least_at (j ∷ rest) d goes f = let z = bit_at-zero j in absurd (omega (arith, z, goes.0))

  -- where a set isn't empty, the orders that begin with a leg from a place are those that go on from there
  pub to_onward : (set k : ℕ) (order : List ℕ) (c : C) → 0 < set → IsFirst ops (Goes set) (through ops rows ends (slice_index_or rows k [])) order c → IsFirst ops (Goes set) (onward ops rows ends k) order c
  to_onward set k [] c some h = let z = h.admitted in absurd (omega (arith, some, z))
  to_onward set k (j ∷ rest) c some h = record { admitted = h.admitted; costs = h.costs; least = least_at } where
    least_at : (other : List ℕ) (d : C) → Goes set other → onward ops rows ends k other ≡ Some d → NoDearer ops c d × (c ≡ d → IsNoLater (j ∷ rest) other)
    least_at [] d goes f = let z = goes in absurd (omega (arith, some, z))
    least_at (i ∷ more) d goes f = h.least (i ∷ more) d goes f

  pub none_onward : (set k : ℕ) → 0 < set → HasNone (Goes set) (through ops rows ends (slice_index_or rows k [])) → HasNone (Goes set) (onward ops rows ends k)
  none_onward set k some h [] c goes e = let z = goes in absurd (omega (arith, some, z))
  none_onward set k some h (j ∷ rest) c goes e = h (j ∷ rest) c goes e

  module _ (tails : List (List (Option C))) (below set : ℕ) (row : List (Option C)) (row_valid : (k : ℕ) (c : C) → slice_index_or row k None ≡ Some c → ops.valid c)
      (are : AreTails ops rows ends below tails) (filled : set ≤ below) (few : set < 2 ^ length rows) where
    within : (k : ℕ) → bit_at set k ≡ 1 → k < length rows
    within k h = elim (cases_lt k (length rows)) [
      | inl lt ↦ lt
      | inr ge ↦ let z = bit_at_above set (length rows) k few ge in absurd (omega (arith, z, h))
    ]

    tail_at : (k : ℕ) → bit_at set k ≡ 1 → IsTail ops rows ends (set - 2 ^ k) k (leg tails (set - 2 ^ k) k)
    tail_at k h = let s = without_smaller set k h in let lt : set - 2 ^ k < below = omega (arith, s, filled) in are (set - 2 ^ k) k lt (within k h)

    via_some : (k : ℕ) (d : C) → via ops tails set row k ≡ Some d → (bit_at set k ≡ 1) × (both ops (slice_index_or row k None) (leg tails (set - 2 ^ k) k) ≡ Some d)
    via_some k d e = let p = if_some (bit_at set k == 1) (both ops (slice_index_or row k None) (leg tails (set - 2 ^ k) k)) d e in (same_number (bit_at set k) 1 p.0, p.1)

    via_is : (k : ℕ) (a t : C) → bit_at set k ≡ 1 → slice_index_or row k None ≡ Some a → leg tails (set - 2 ^ k) k ≡ Some t → via ops tails set row k ≡ Some (ops.plus a t)
    via_is k a t h e f = ap (λ b. if b then both ops (slice_index_or row k None) (leg tails (set - 2 ^ k) k) else None) (eq-eqb (bit_at set k) 1 h) ∙ both_are ops (slice_index_or row k None) (leg tails (set - 2 ^ k) k) a t e f

    -- an order has a step of the same beginning that is no dearer
    step_within : (k : ℕ) (rest : List ℕ) (d : C) → bit_at set k ≡ 1 → Goes (set - 2 ^ k) rest → both ops (slice_index_or row k None) (onward ops rows ends k rest) ≡ Some d
        → (e : C) × (via ops tails set row k ≡ Some e) × NoDearer ops e d × ops.valid e
    step_within k rest d h goes e =
        let p = both_some ops (slice_index_or row k None) (onward ops rows ends k rest) d e in
        let a : C = p.0 in
        let b : C = p.1 in
        let t = tail_within (set - 2 ^ k) k (leg tails (set - 2 ^ k) k) rest b (tail_at k h) goes p.3 in
        let va : ops.valid a = row_valid k a p.2 in
        let vb : ops.valid b = onward_valid laws valid k rest b p.3 in
        let vt : ops.valid t.0 = tail_valid (set - 2 ^ k) k (leg tails (set - 2 ^ k) k) t.0 (tail_at k h) t.1 in
        (ops.plus a t.0, via_is k a t.0 h p.2 t.1, subst (λ x. NoDearer ops (ops.plus a t.0) x) (sym p.4) (plus_le_left laws t.0 b a vt vb va t.2), laws.plus_valid a t.0 va vt)

    through_valid : (order : List ℕ) (d : C) → through ops rows ends row order ≡ Some d → ops.valid d
    through_valid [] d e = cc
    through_valid (k ∷ rest) d e =
        let p = both_some ops (slice_index_or row k None) (onward ops rows ends k rest) d e in
        subst ops.valid (sym p.4) (laws.plus_valid p.0 p.1 (row_valid k p.0 p.2) (onward_valid laws valid k rest p.1 p.3))

    pub none_through : ((k : ℕ) (d : C) → k < length rows → ¬ (via ops tails set row k ≡ Some d)) → HasNone (Goes set) (through ops rows ends row)
    none_through h [] c goes e = cc
    none_through h (k ∷ rest) c goes e = let s = step_within k rest c goes.0 goes.1 e in h k s.0 (within k goes.0) s.1

    module _ (step : Step C) (first : IsFirstStep ops (via ops tails set row) (length rows) step) where
      -- after the step to k comes t, the cost of a tail
      pub step_parts : (bit_at set step.place ≡ 1) × (a : C) × (t : C) × (slice_index_or row step.place None ≡ Some a) × (leg tails (set - 2 ^ step.place) step.place ≡ Some t) × (step.cost ≡ ops.plus a t)
      step_parts =
          let v = via_some step.place step.cost first.costs in
          let p = both_some ops (slice_index_or row step.place None) (leg tails (set - 2 ^ step.place) step.place) step.cost v.1 in
          (v.0, p.0, p.1, p.2, p.3, p.4)

      module _ (rest : List ℕ) (t : C) (is_tail : leg tails (set - 2 ^ step.place) step.place ≡ Some t) (h : IsFirst ops (Goes (set - 2 ^ step.place)) (onward ops rows ends step.place) rest t) where
        cost_is : step.cost ≡ ops.plus (step_parts.1) t
        cost_is = let p = step_parts in p.5 ∙ ap (ops.plus p.1) (same_Some p.2 t (sym p.4 ∙ is_tail))

        -- an order that begins with the same step goes on no earlier
        later : (more : List ℕ) (d : C) → Goes (set - 2 ^ step.place) more → both ops (slice_index_or row step.place None) (onward ops rows ends step.place more) ≡ Some d → step.cost ≡ d → IsNoLater rest more
        later more d goes e same =
            let p = both_some ops (slice_index_or row step.place None) (onward ops rows ends step.place more) d e in
            let a : C = step_parts.1 in
            let one : p.0 ≡ a = same_Some p.0 a (sym p.2 ∙ step_parts.3) in
            let va : ops.valid a = row_valid step.place a step_parts.3 in
            let vt : ops.valid t = onward_valid laws valid step.place rest t h.costs in
            let vb : ops.valid p.1 = onward_valid laws valid step.place more p.1 p.3 in
            let sums : ops.plus a t ≡ ops.plus a p.1 = sym cost_is ∙ same ∙ p.4 ∙ ap (λ x. ops.plus x p.1) one in
            let swapped : ops.plus t a ≡ ops.plus p.1 a = laws.comm t a vt va ∙ sums ∙ laws.comm a p.1 va vb in
            (h.least more p.1 goes p.3).1 (laws.cancels t p.1 a vt vb va swapped)

        later_at : (k : ℕ) (more : List ℕ) (d : C) → step.place ≡ k → Goes (set - 2 ^ k) more → both ops (slice_index_or row k None) (onward ops rows ends k more) ≡ Some d → step.cost ≡ d → IsNoLater rest more
        later_at k more d at goes e same =
            later more d (subst (λ q. Goes (set - 2 ^ q) more) (sym at) goes) (subst (λ q. both ops (slice_index_or row q None) (onward ops rows ends q more) ≡ Some d) (sym at) e) same

        least_at : (other : List ℕ) (d : C) → Goes set other → through ops rows ends row other ≡ Some d → NoDearer ops step.cost d × (step.cost ≡ d → IsNoLater (step.place ∷ rest) other)
        least_at [] d goes e = cc
        least_at (k ∷ more) d goes e =
            let s = step_within k more d goes.0 goes.1 e in
            let l = first.least k s.0 (within k goes.0) s.1 in (
              le_trans laws step.cost s.0 d l.0 s.2,
              λ same.
                  let back : NoDearer ops s.0 step.cost = subst (λ x. NoDearer ops s.0 x) (sym same) s.2 in
                  let vd : ops.valid step.cost = subst ops.valid (sym same) (through_valid (k ∷ more) d e) in
                  let equal : step.cost ≡ s.0 = same_from_le laws step.cost s.0 vd s.3 l.0 back in
                  elim (eq-or-lt_of_le (l.1 equal)) [
                    | inl at ↦ inr (at, later_at k more d at goes.1 e same)
                    | inr lt ↦ inl lt
                  ],
            )

        -- the step and the first of the cheapest tails behind it are the first of the cheapest orders
        pub first_through : IsFirst ops (Goes set) (through ops rows ends row) (step.place ∷ rest) step.cost
        first_through = record {
          admitted = (step_parts.0, h.admitted);
          costs = both_are ops (slice_index_or row step.place None) (onward ops rows ends step.place rest) step_parts.1 t step_parts.3 h.costs ∙ ap Some (sym cost_is);
          least = least_at;
        }

      -- there is such a tail
      pub tail_of_step : (t : C) × (leg tails (set - 2 ^ step.place) step.place ≡ Some t) × (rest : List ℕ) × IsFirst ops (Goes (set - 2 ^ step.place)) (onward ops rows ends step.place) rest t
      tail_of_step =
          let p = step_parts in
          let tail : IsTail ops rows ends (set - 2 ^ step.place) step.place (Some p.2) = subst (λ v. IsTail ops rows ends (set - 2 ^ step.place) step.place v) p.4 (tail_at step.place p.0) in
          (p.2, p.4, tail.0, tail.1)

      pub order_of_step : (order : List ℕ) × IsFirst ops (Goes set) (through ops rows ends row) order step.cost
      order_of_step = let t = tail_of_step in (step.place ∷ t.2, first_through t.2 t.0 t.1 t.3)
