-- What offers along a row leave of the list of values, place by place, and so of what is kept of each row.
use Rattle.std.proofs.Common.{◌≡◌, ℕ, ◌+◌, ◌-◌, ◌^◌, ◌<◌, ◌≤◌, ◌%◌, min, inl, inr, Bool, true, false, Option, Some, None, List, [], ◌∷◌, ◌++◌, length, Result, Ok, Err, OnOk, refl, sym, ◌∙◌, ap, subst, arith, get_or-set_same, get_or-set_other}
use Rattle.std.proofs.Math.ListN.{set}
use Rattle.std.proofs.lemmas.Bool.{cases_eq, cases_lt}
use Rattle.std.proofs.lemmas.Bool.Decides.{nat_tests}
use Rattle.std.specs.Bool.{OnTrue}
use Rattle.std.specs.List.{Contains, slice_get}
use Rattle.std.specs.Ordering.{is_lt, nat_cmp}
use Rattle.std.specs.declared.cmp.Ordering.{Ordering}
use Rattle.std.proofs.lemmas.List.Elements.{Contains-push_cases}
use Rattle.std.proofs.lemmas.Option.{same_Some, none-some, slice_get_within, get_or_from_slice_get}
use Rattle.list_lemmas.proofs.Gets.{Contains_get, Contains_push, get_pushed}
use Rattle.search_graph.specs.Costs.{CostOps, CostLaws, NoDearer}
use Rattle.search_graph.specs.Ranks.{AreRanks, AreOwnRanks}
use Rattle.search_graph.specs.OrderLaws.{le_from_not_less}
use Rattle.row_labels.specs.Worded.{IsWithinRank}
use Rattle.row_labels.specs.Rowed.{LowersRow}
use Rattle.row_labels.specs.Lowered.{value_on, AreAdded, IsToldOver, IsNoLess, IsOver, IsOffered, LowersAt, Lowers}
use Rattle.row_labels.specs.Lowered.IsOffered.{left, lowered}
use Rattle.row_labels.specs.Lowered.LowersAt.{closed, offered}

-- what follows of a fact where a call was good
pub on_ok : {V E : Type 0} {P Q : Type 0} (r : Result V E) → OnOk r P → (P → Q) → OnOk r Q
on_ok (Ok v) h f = f h
on_ok (Err e) h f = h

last_in : {X : Type 0} (xs : List X) (x : X) → Contains (xs ++ x ∷ []) x
last_in xs x = Contains_get (xs ++ x ∷ []) (length xs) x (get_pushed xs x)

none_in : {X : Type 0} (x : X) → Contains [] x → ⊥
none_in x h = let lt : h.0 < 0 = h.1 in omega arith

not_less : (r t : ℕ) → t ≤ r → is_lt (nat_cmp r t) ≡ false
not_less r t h = grind (arith, nat_tests)

-- an offer that isn't less than the value
pub left_alone : {C : Type 0} {ops : CostOps C} (laws : CostLaws ops) (cmp : C → C → Ordering) → ops.cmp ≡ cmp → (values : List (Option C)) (i : ℕ) (offer d : C) (place : ℕ) (improved : List ℕ) →
    value_on values i ≡ Some d → is_lt (cmp offer d) ≡ false → IsOffered ops values values i offer place improved improved
left_alone {C} laws cmp same values i offer d place improved at not = left d refl refl at (le_from_not_less laws offer d (ap (λ (f : C → C → Ordering). is_lt (f offer d)) same ∙ not))

-- a value whose rank is no more than those of what is paid and of the cost is no dearer than the offer
no_dearer : {C : Type 0} {ops : CostOps C} (laws : CostLaws ops) {ranked : C → Option ℕ} {unranked : ℕ → C} → AreRanks ops ranked unranked → (values : List (Option C)) (i : ℕ) (paid : C) (costs : List (Option C)) (place : ℕ) (s : C) →
    slice_get costs place ≡ Some (Some s) → IsNoLess ranked values i paid costs place → (d : C) × (value_on values i ≡ Some d) × NoDearer ops d (ops.plus paid s)
no_dearer {C} {ops} laws ranks values i paid costs place s at over =
    let cost : over.0 ≡ s = same_Some over.0 s (same_Some (Some over.0) (Some s) (sym over.3 ∙ at)) in
    let r = over.1 in
    let n = over.2 in
    let within = over.6 in
    let d = within.0 in
    let t = within.1 in
    let order = ranks.sums paid over.0 d r n t over.4 over.5 within.3 in
    let le : NoDearer ops d (ops.plus paid over.0) = le_from_not_less laws (ops.plus paid over.0) d (subst (λ o. is_lt o ≡ false) (sym order) (not_less (r + n) t within.4)) in
    (d, get_or_from_slice_get values i (Some d) None within.2, subst (λ x. NoDearer ops d (ops.plus paid x)) cost le)

-- an offer that became the value
pub put_there : {C : Type 0} (ops : CostOps C) (first : ℕ) (old new : List (Option C)) (paid : C) (costs : List (Option C)) (place : ℕ) (before after : List ℕ) →
    (s : C) × (slice_get costs place ≡ Some (Some s)) × (new ≡ set old (first + place) (Some (ops.plus paid s))) → after ≡ before ++ place ∷ [] → LowersAt ops first old new paid costs place before after
put_there ops first old new paid costs place before after h e = offered h.0 h.1 (lowered h.2 e)

-- what follows of a fact that holds where a test is true
pub on_true : {P Q : Type 0} (b : Bool) → OnTrue b P → (P → Q) → OnTrue b Q
on_true true h f = f h
on_true false h f = tt

below_most : (w m : ℕ) → w < 2 ^ 64 - 1 → (w + 1) % 2 ^ 64 ≤ m → w < m
below_most w m lt le = omega (arith, lt, le)

least_sum : (rank w value : ℕ) → rank < 2 ^ 62 → w < 2 ^ 62 → value ≤ min (rank + w) (2 ^ 64 - 1) → value ≤ rank + w
least_sum rank w value h k e = grind (arith, nat_tests)

-- where the words of a place tell that its offer is no less than its value, it is so
pub told_over : {C : Type 0} {narrowed ranked : C → Option ℕ} {most : ℕ} → AreOwnRanks narrowed ranked most → most ≤ 2 ^ 62 → (values : List (Option C)) (i : ℕ) (paid : C) (costs : List (Option C)) (place rank ranks word value : ℕ) →
    AreAdded ranked most paid rank ranks → word < 2 ^ 64 → (word < 2 ^ 63 → (s : C) × (slice_get costs place ≡ Some (Some s)) × (narrowed s ≡ Some word)) → (word ≡ 2 ^ 64 - 1 → slice_get costs place ≡ Some None) →
    (value < 2 ^ 63 → IsWithinRank ranked values i value) → IsToldOver word value rank ranks → IsOver ranked values i paid costs place
told_over own few values i paid costs place rank ranks word value added fits at none within told = elim (cases_eq word (2 ^ 64 - 1)) [
  | inl last ↦ inl (none last)
  | inr other ↦
      let lt : word < ranks = below_most word ranks (omega (arith, fits, other)) told.0 in
      let a = added word lt in
      let less : word < 2 ^ 62 = omega (arith, a.0, few) in
      let s = at (omega (arith, less)) in
      let le : value ≤ rank + word = least_sum rank word value a.2 less told.1 in
      let is = within (omega (arith, le, a.2, less)) in
      inr (s.0, rank, word, s.1, a.1, own s.0 word s.2 a.0, (is.0, is.1, is.2, is.3, omega (arith, is.4, le)))
]

-- where the word of a cost is a rank and so is the sum with that of what is paid, it is the rank of the offer
pub summed : {C : Type 0} {ops : CostOps C} {narrowed ranked : C → Option ℕ} {unranked : ℕ → C} {most : ℕ} → AreRanks ops ranked unranked → AreOwnRanks narrowed ranked most → most ≤ 2 ^ 62 → (paid : C) (costs : List (Option C)) (place rank ranks w sum : ℕ) (found : Option ℕ) →
    AreAdded ranked most paid rank ranks → w < ranks → (w < 2 ^ 63 → (s : C) × (slice_get costs place ≡ Some (Some s)) × (narrowed s ≡ Some w)) → ((a b : C) → ranked a ≡ Some rank → ranked b ≡ Some w → ranked (ops.plus a b) ≡ found) → found ≡ Some sum →
    (s : C) × (slice_get costs place ≡ Some (Some s)) × (ranked (unranked sum) ≡ Some sum) × (unranked sum ≡ ops.plus paid s)
summed {C} {ops} {narrowed} {ranked} {unranked} {most} ranks own few paid costs place rank below w sum found added lt at add is =
    let a = added w lt in
    let less : w < most = a.0 in
    let s = at (omega (arith, less, few)) in
    let total : ranked (ops.plus paid s.0) ≡ Some sum = add paid s.0 a.1 (own s.0 w s.2 less) ∙ is in
    let back : unranked sum ≡ ops.plus paid s.0 = ranks.back (ops.plus paid s.0) sum total in
    (s.0, s.1, ap ranked back ∙ total, back)

module _ {C : Type 0} (ops : CostOps C) (first : ℕ) (old : List (Option C)) (paid : C) (costs : List (Option C)) where
  -- before the first place
  pub Lowers-none : (improved : List ℕ) → improved ≡ [] → Lowers ops first old old paid costs 0 improved
  Lowers-none improved none = record {
    kept = λ i d v. inl v;
    found = λ j s lt e. absurd (omega arith);
    within = λ j h. absurd (none_in j (subst (λ (xs : List ℕ). Contains xs j) none h));
  }

  -- at a place without a cost
  Lowers-closed : (mid : List (Option C)) (place : ℕ) (improved : List ℕ) → slice_get costs place ≡ Some None → Lowers ops first old mid paid costs place improved → Lowers ops first old mid paid costs (place + 1) improved
  Lowers-closed mid place improved none h = record {
    kept = h.kept;
    found = λ j s lt e. elim (cases_lt j place) [
      | inl less ↦ h.found j s less e
      | inr past ↦
          let same : j ≡ place = omega arith in
          absurd (none-some s (same_Some None (Some s) (sym none ∙ ap (slice_get costs) (sym same) ∙ e)))
    ];
    within = λ j k. let lt : j < place = h.within j k in omega arith;
  }

  -- at a place with a cost
  Lowers-more : (mid new : List (Option C)) (place : ℕ) (before after : List ℕ) (s : C) → first + place < length mid → slice_get costs place ≡ Some (Some s) → Lowers ops first old mid paid costs place before →
      IsOffered ops mid new (first + place) (ops.plus paid s) place before after → Lowers ops first old new paid costs (place + 1) after
  Lowers-more mid new place before after s room at h (left d e q v le) =
      subst (λ (xs : List (Option C)). Lowers ops first old xs paid costs (place + 1) after) (sym e) (subst (λ (xs : List ℕ). Lowers ops first old mid paid costs (place + 1) xs) (sym q) (record {
        kept = h.kept;
        found = λ j t lt k. elim (cases_lt j place) [
          | inl less ↦ h.found j t less k
          | inr past ↦
              let same : j ≡ place = omega arith in
              let cost : s ≡ t = same_Some s t (same_Some (Some s) (Some t) (sym at ∙ ap (slice_get costs) (sym same) ∙ k)) in
              inr (d, ap (λ (x : ℕ). value_on mid (first + x)) same ∙ v, subst (λ (x : C). NoDearer ops d (ops.plus paid x)) cost le)
        ];
        within = λ j k. let lt : j < place = h.within j k in omega arith;
      }))
  Lowers-more mid new place before after s room at h (lowered e q) =
      let put : List (Option C) = set mid (first + place) (Some (ops.plus paid s)) in
      subst (λ (xs : List (Option C)). Lowers ops first old xs paid costs (place + 1) after) (sym e) (subst (λ (xs : List ℕ). Lowers ops first old put paid costs (place + 1) xs) (sym q) (record {
        kept = λ i d v. elim (cases_eq i (first + place)) [
          | inl same ↦ inr (
            place,
            same,
            (last_in before place, s, at, same_Some d (ops.plus paid s) (sym v ∙ ap (value_on put) same ∙ get_or-set_same mid (first + place) (Some (ops.plus paid s)) None room)),
          )
          | inr other ↦ elim (h.kept i d (sym (get_or-set_other mid (first + place) i (Some (ops.plus paid s)) None other) ∙ v)) [ inl o ↦ inl o | inr k ↦ inr (k.0, k.1, (Contains_push before place k.0 k.2.0, k.2.1, k.2.2, k.2.3)) ]
        ];
        found = λ j t lt k. elim (cases_eq j place) [
          | inl same ↦ inl (subst (λ (x : ℕ). Contains (before ++ place ∷ []) x) (sym same) (last_in before place))
          | inr other ↦
              let less : j < place = omega arith in
              let apart : first + j ≡ first + place → ⊥ = λ e. omega (arith, e, less) in
              elim (h.found j t less k) [ inl i ↦ inl (Contains_push before place j i) | inr f ↦ inr (f.0, get_or-set_other mid (first + place) (first + j) (Some (ops.plus paid s)) None apart ∙ f.1, f.2) ]
        ];
        within = λ j k. elim (Contains-push_cases before place j k) [ inl i ↦ let lt : j < place = h.within j i in omega arith | inr same ↦ omega arith ];
      }))

  -- at any place
  pub Lowers-at : (mid new : List (Option C)) (place : ℕ) (before after : List ℕ) → first + place < length mid → Lowers ops first old mid paid costs place before →
      LowersAt ops first mid new paid costs place before after → Lowers ops first old new paid costs (place + 1) after
  Lowers-at mid new place before after room h (closed none e q) =
      subst (λ (xs : List (Option C)). Lowers ops first old xs paid costs (place + 1) after) (sym e) (subst (λ (xs : List ℕ). Lowers ops first old mid paid costs (place + 1) xs) (sym q) (Lowers-closed mid place before none h))
  Lowers-at mid new place before after room h (offered s at o) = Lowers-more mid new place before after s room at h o

-- and behind places that are passed over
pub Lowers-over : {C : Type 0} {ops : CostOps C} (laws : CostLaws ops) {ranked : C → Option ℕ} {unranked : ℕ → C} → AreRanks ops ranked unranked → (first : ℕ) (old mid : List (Option C)) (paid : C) (costs : List (Option C)) (from to : ℕ) (improved : List ℕ) →
    from ≤ to → ((j : ℕ) → from ≤ j → j < to → IsOver ranked mid (first + j) paid costs j) → Lowers ops first old mid paid costs from improved → Lowers ops first old mid paid costs to improved
Lowers-over laws ranks first old mid paid costs from to improved le over h = record {
  kept = h.kept;
  found = λ j s lt e. elim (cases_lt j from) [
    | inl less ↦ h.found j s less e
    | inr past ↦ elim (over j past lt) [
      | inl none ↦ absurd (none-some s (same_Some None (Some s) (sym none ∙ e)))
      | inr more ↦ inr (no_dearer laws ranks mid (first + j) paid costs j s e more)
    ]
  ];
  within = λ j k. let lt : j < from = h.within j k in omega (arith, lt, le);
}

-- past the last cost there is none
pub LowersRow-all : {C : Type 0} {ops : CostOps C} {old new : ℕ × ℕ → ℕ → Option C} {name : ℕ × ℕ} {paid : C} (costs : List (Option C)) (least count : ℕ) {improved : List ℕ} → least ≤ count → ((j : ℕ) → j < count → j < length costs → j < least) →
    LowersRow ops old new name paid costs least improved → LowersRow ops old new name paid costs count improved
LowersRow-all costs least count le all h = record {
  kept = h.kept;
  found = λ j s lt e. h.found j s (all j lt (slice_get_within costs j (Some s) e)) e;
  within = λ j k. let lt : j < least = h.within j k in omega (arith, lt, le);
}
