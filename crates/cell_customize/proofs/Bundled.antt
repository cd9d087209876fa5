-- How leaps are gathered, and that all together they are those of the space.
use Rattle.std.proofs.Common.{◌≡◌, ◌≢◌, ℕ, ◌+◌, ◌-◌, ◌<◌, ◌≤◌, ◌⊎◌, inl, inr, List, [], ◌∷◌, ◌++◌, length, Some, true, false, refl, sym, ◌∙◌, ap, subst, arith, length-append}
use Rattle.std.specs.declared.cmp.Ordering.{Ordering}
use Rattle.std.specs.declared.cmp.Ordering.TheVariants.{Less, Equal, Greater}
use Rattle.std.specs.List.{Contains, slice_get, range_with_len}
use Rattle.std.specs.Ordering.{is_gt, is_lt}
use Rattle.std.proofs.Math.ListN.{set, length-set}
use Rattle.std.proofs.lemmas.Bool.{true≢false}
use Rattle.std.proofs.lemmas.Option.{same_Some, slice_get_within}
use Rattle.list_lemmas.proofs.Gets.{get_some, get_append, get_push, get_pushed, get_set}
use Rattle.search_graph.specs.Costs.{CostOps, CostLaws, NoDearer}
use Rattle.search_graph.specs.OrderLaws.{le_refl, le_trans, le_from_not_less}
use Rattle.step_search.specs.Spaces.{Space}
use Rattle.step_search.specs.declared.hops.Hop.{Hop}
use Rattle.cell_customize.specs.declared.leaps.Bundle.{Bundle}
use Rattle.cell_customize.specs.Leaping.{Leap, Gathers, IsBundle, AreBundles, IsLeapOf, leap_space}
use Rattle.cell_customize.proofs.Leapt.{IsLeaping}
use Rattle.cell_customize.proofs.Numbered.{set_here, set_other}
use Rattle.cell_customize.proofs.Ranges.{range_within, within_range}

le_from_lt : (r : Ordering) → is_lt r ≡ true → is_gt r ≡ false
le_from_lt Less h = refl
le_from_lt Equal h = absurd (true≢false (sym h))
le_from_lt Greater h = absurd (true≢false (sym h))

module _ {C : Type 0} {ops : CostOps C} (laws : CostLaws ops) (from : ℕ) where
  -- nothing is given
  pub Gathers-none : (hops : List (Hop C)) (Given : ℕ → C → Type 0) → ((v : ℕ) (c : C) → ¬ Given v c) → Gathers ops hops hops from Given
  Gathers-none hops Given none = record {
    kept = λ i h lt e. e;
    longer = omega arith;
    came = λ i v c le e. inl e;
    stays = λ i v c le e. (c, e, le_refl laws c);
    found = λ v c given. absurd (none v c given);
  }

  -- one after the other
  pub Gathers-both : (old mid new : List (Hop C)) (First Second Given : ℕ → C → Type 0) → ((v : ℕ) (c : C) → First v c → Given v c) → ((v : ℕ) (c : C) → Second v c → Given v c) →
      ((v : ℕ) (c : C) → Given v c → First v c ⊎ Second v c) → Gathers ops old mid from First → Gathers ops mid new from Second → Gathers ops old new from Given
  Gathers-both old mid new First Second Given one two split a b = record {
    kept = λ i h lt e. b.kept i h lt (a.kept i h lt e);
    longer = let x : length old ≤ length mid = a.longer in let y : length mid ≤ length new = b.longer in omega arith;
    came = λ i v c le e. elim (b.came i v c le e) [
      | inl before ↦ elim (a.came i v c le before) [ inl first ↦ inl first | inr given ↦ inr (one v c given) ]
      | inr given ↦ inr (two v c given)
    ];
    stays = λ i v c le e.
        let x = a.stays i v c le e in
        let y = b.stays i v x.0 le x.1 in
        (y.0, y.1, le_trans laws y.0 x.0 c y.2 x.2);
    found = λ v c given. elim (split v c given) [
      | inl first ↦
          let x = a.found v c first in
          let y = b.stays x.0 v x.2 x.1 x.3 in
          (x.0, x.1, y.0, y.1, le_trans laws y.0 x.2 c y.2 x.4)
      | inr second ↦ b.found v c second
    ];
  }

  -- the same, told otherwise
  pub Gathers-as : (old new : List (Hop C)) (Given Other : ℕ → C → Type 0) → ((v : ℕ) (c : C) → Given v c → Other v c) → ((v : ℕ) (c : C) → Other v c → Given v c) →
      Gathers ops old new from Given → Gathers ops old new from Other
  Gathers-as old new Given Other f g h = record {
    kept = h.kept;
    longer = h.longer;
    came = λ i v c le e. elim (h.came i v c le e) [ inl before ↦ inl before | inr given ↦ inr (f v c given) ];
    stays = h.stays;
    found = λ v c other. h.found v c (g v c other);
  }

  -- one hop more at the end
  pub Gathers-push : (hops : List (Hop C)) (head : ℕ) (cost : C) → from ≤ length hops → Gathers ops hops (hops ++ record { head = head; cost = cost } ∷ []) from (λ v c. (v ≡ head) × (c ≡ cost))
  Gathers-push hops head cost within = record {
    kept = λ i h lt e. get_append hops (record { head = head; cost = cost } ∷ []) i h e;
    longer = omega (arith, length-append hops (record { head = head; cost = cost } ∷ []));
    came = λ i v c le e. elim (get_push hops (record { head = head; cost = cost }) i (record { head = v; cost = c }) e) [
      | inl before ↦ inl before
      | inr last ↦ inr (ap (λ (h : Hop C). h.head) last.1, ap (λ (h : Hop C). h.cost) last.1)
    ];
    stays = λ i v c le e. (c, get_append hops (record { head = head; cost = cost } ∷ []) i (record { head = v; cost = c }) e, le_refl laws c);
    found = λ v c given.
        let is : ◌≡◌ {A = Hop C} (record { head = head; cost = cost }) (record { head = v; cost = cost }) = ap (λ (x : ℕ). record { head = x; cost = cost }) (sym given.0) in
        (length hops, within, cost, subst (λ (h : Hop C). slice_get (hops ++ record { head = head; cost = cost } ∷ []) (length hops) ≡ Some h) is (get_pushed hops (record { head = head; cost = cost })), subst (λ x. NoDearer ops cost x) (sym given.1) (le_refl laws cost));
  }

  -- one that stands there is cheap enough
  pub Gathers-stays : (hops : List (Hop C)) (at head : ℕ) (cost paid : C) → from ≤ at → slice_get hops at ≡ Some (record { head = head; cost = paid }) → NoDearer ops paid cost → Gathers ops hops hops from (λ v c. (v ≡ head) × (c ≡ cost))
  Gathers-stays hops at head cost paid within here le = record {
    kept = λ i h lt e. e;
    longer = omega arith;
    came = λ i v c below e. inl e;
    stays = λ i v c below e. (c, e, le_refl laws c);
    found = λ v c given. (at, within, paid, subst (λ (x : ℕ). slice_get hops at ≡ Some (record { head = x; cost = paid })) (sym given.0) here, subst (λ x. NoDearer ops paid x) (sym given.1) le);
  }

  -- one that stands there became cheaper
  pub Gathers-lower : (hops : List (Hop C)) (at head : ℕ) (cost paid : C) → from ≤ at → slice_get hops at ≡ Some (record { head = head; cost = paid }) → NoDearer ops cost paid →
      Gathers ops hops (set hops at (record { head = head; cost = cost })) from (λ v c. (v ≡ head) × (c ≡ cost))
  Gathers-lower hops at head cost paid within here le =
      let lt : at < length hops = slice_get_within hops at (record { head = head; cost = paid }) here in
      let now : slice_get (set hops at (record { head = head; cost = cost })) at ≡ Some (record { head = head; cost = cost }) = set_here hops at (record { head = head; cost = cost }) lt in
      record {
        kept = λ i h less e. let other : i ≢ at = omega (arith, less, within) in set_other hops at i (record { head = head; cost = cost }) h other e;
        longer = omega (arith, length-set hops at (record { head = head; cost = cost }));
        came = λ i v c below e. elim (get_set hops at i (record { head = head; cost = cost }) (record { head = v; cost = c }) e) [
          | inl same ↦ inr (ap (λ (h : Hop C). h.head) same.1, ap (λ (h : Hop C). h.cost) same.1)
          | inr other ↦ inl other.1
        ];
        stays = λ i v c below e.
            let few : i < length hops = slice_get_within hops i (record { head = v; cost = c }) e in
            let long : i < length (set hops at (record { head = head; cost = cost })) = omega (arith, few, length-set hops at (record { head = head; cost = cost })) in
            let g = get_some (set hops at (record { head = head; cost = cost })) i long in
            elim (get_set hops at i (record { head = head; cost = cost }) g.0 g.1) [
              | inl same ↦
                  let was : record { head = head; cost = paid } ≡ record { head = v; cost = c } = same_Some (record { head = head; cost = paid }) (record { head = v; cost = c }) (sym here ∙ ap (slice_get hops) (sym same.0) ∙ e) in
                  let is : ◌≡◌ {A = Hop C} g.0 (record { head = v; cost = cost }) = same.1 ∙ ap (λ (x : ℕ). record { head = x; cost = cost }) (ap (λ (h : Hop C). h.head) was) in
                  (cost, subst (λ (h : Hop C). slice_get (set hops at (record { head = head; cost = cost })) i ≡ Some h) is g.1, subst (λ x. NoDearer ops cost x) (ap (λ (h : Hop C). h.cost) was) le)
              | inr other ↦
                  let is : ◌≡◌ {A = Hop C} g.0 (record { head = v; cost = c }) = same_Some g.0 (record { head = v; cost = c }) (sym other.1 ∙ e) in
                  (c, subst (λ (h : Hop C). slice_get (set hops at (record { head = head; cost = cost })) i ≡ Some h) is g.1, le_refl laws c)
            ];
        found = λ v c given. (at, within, cost, subst (λ (x : ℕ). slice_get (set hops at (record { head = head; cost = cost })) at ≡ Some (record { head = x; cost = cost })) (sym given.0) now, subst (λ x. NoDearer ops cost x) (sym given.1) (le_refl laws cost));
      }

  module _ (cmp : C → C → Ordering) (same : ops.cmp ≡ cmp) (hops : List (Hop C)) (at head : ℕ) (cost : C) (hop : Hop C) (within : from ≤ at) (here : (c : C) × (slice_get hops at ≡ Some (record { head = head; cost = c }))) (is : slice_get hops at ≡ Some hop) where
    paid : here.0 ≡ hop.cost
    paid = ap (λ (h : Hop C). h.cost) (same_Some (record { head = head; cost = here.0 }) hop (sym here.1 ∙ is))

    asked : is_lt (ops.cmp cost here.0) ≡ is_lt (cmp cost hop.cost)
    asked = ap (λ (f : C → C → Ordering). is_lt (f cost here.0)) same ∙ ap (λ (x : C). is_lt (cmp cost x)) paid

    pub Gathers-cheaper : is_lt (cmp cost hop.cost) ≡ true → Gathers ops hops (set hops at (record { head = head; cost = cost })) from (λ v c. (v ≡ head) × (c ≡ cost))
    Gathers-cheaper e = Gathers-lower hops at head cost here.0 within here.1 (le_from_lt (ops.cmp cost here.0) (asked ∙ e))

    pub Gathers-dearer : is_lt (cmp cost hop.cost) ≡ false → Gathers ops hops hops from (λ v c. (v ≡ head) × (c ≡ cost))
    Gathers-dearer e = Gathers-stays hops at head cost here.0 within here.1 (le_from_not_less laws cost here.0 (asked ∙ e))

module _ {C : Type 0} (ops : CostOps C) (S : Space C) (Goal : ℕ → Type 0) where
  -- what is gathered behind a bundle leaves it as it was
  pub IsBundle-kept : (u : ℕ) (old new : List (Hop C)) (from : ℕ) (Given : ℕ → C → Type 0) (bundle : Bundle) → bundle.end ≤ from → Gathers ops old new from Given → IsBundle ops S Goal u old bundle → IsBundle ops S Goal u new bundle
  IsBundle-kept u old new from Given bundle before g h = record {
    rises = h.rises;
    within = let a : bundle.end ≤ length old = h.within in let b : length old ≤ length new = g.longer in omega arith;
    there = λ i v c le lt e.
        let few : bundle.end ≤ length old = h.within in
        let was = get_some old i (omega (arith, lt, few)) in
        let same : ◌≡◌ {A = Hop C} was.0 (record { head = v; cost = c }) = same_Some was.0 (record { head = v; cost = c }) (sym (g.kept i was.0 (omega (arith, lt, before)) was.1) ∙ e) in
        h.there i v c le lt (subst (λ (x : Hop C). slice_get old i ≡ Some x) same was.1);
    back = λ v c leap.
        let r = h.back v c leap in
        (r.0, r.1, r.2, r.3, g.kept r.0 (record { head = v; cost = r.3 }) (omega (arith, r.2, before)) r.4, r.5);
  }

  -- what is gathered from the end of a list on is a bundle
  pub IsBundle-gathered : (u : ℕ) (old new : List (Hop C)) (from end : ℕ) (Given : ℕ → C → Type 0) → from ≡ length old → end ≡ length new → ((v : ℕ) (c : C) → Given v c → Leap ops S Goal u v c) → ((v : ℕ) (c : C) → Leap ops S Goal u v c → Given v c) →
      Gathers ops old new from Given → IsBundle ops S Goal u new (record { from = from; end = end })
  IsBundle-gathered u old new from end Given begins ends one other g = record {
    rises = let l : length old ≤ length new = g.longer in omega (arith, begins, ends);
    within = omega (arith, ends);
    there = λ i v c le lt e. elim (g.came i v c le e) [
      | inl before ↦ let few : i < length old = slice_get_within old i (record { head = v; cost = c }) before in absurd (omega (arith, few, le, begins))
      | inr given ↦ one v c given
    ];
    back = λ v c leap.
        let r = g.found v c (other v c leap) in
        let lt : r.0 < length new = slice_get_within new r.0 (record { head = v; cost = r.2 }) r.3 in
        (r.0, r.1, omega (arith, lt, ends), r.2, r.3, r.4);
  }

  -- one vertex more
  pub AreBundles-push : (old new : List (Hop C)) (bundles : List Bundle) (u from end : ℕ) (Given : ℕ → C → Type 0) → from ≡ length old → end ≡ length new → ((v : ℕ) (c : C) → Given v c → Leap ops S Goal u v c) → ((v : ℕ) (c : C) → Leap ops S Goal u v c → Given v c) →
      Gathers ops old new from Given → AreBundles ops S Goal bundles old u → AreBundles ops S Goal (bundles ++ record { from = from; end = end } ∷ []) new (u + 1)
  AreBundles-push old new bundles u from end Given begins ends one other g h = record {
    size = let n : length bundles ≡ u = h.size in omega (arith, n, length-append bundles (record { from = from; end = end } ∷ []));
    each = λ x bundle e. elim (get_push bundles (record { from = from; end = end }) x bundle e) [
      | inl before ↦
          let b = h.each x bundle before in
          let within : bundle.end ≤ length old = b.within in
          IsBundle-kept x old new from Given bundle (omega (arith, within, begins)) g b
      | inr last ↦
          let at : x ≡ u = last.0 ∙ h.size in
          subst (λ (y : ℕ). IsBundle ops S Goal y new bundle) (sym at) (subst (λ (y : Bundle). IsBundle ops S Goal u new y) (sym last.1) (IsBundle-gathered u old new from end Given begins ends one other g))
    ];
  }

  pub AreBundles-none : (hops : List (Hop C)) → AreBundles ops S Goal [] hops 0
  AreBundles-none hops = record {
    size = refl;
    each = λ u bundle e. let lt : u < length {A = Bundle} [] = slice_get_within [] u bundle e in absurd (omega (arith, lt));
  }

  -- all together they are the leaps of the space
  pub IsLeaping-made : (bundles : List Bundle) (hops : List (Hop C)) → AreBundles ops S Goal bundles hops S.vertices → IsLeaping ops S (leap_space S bundles hops) Goal
  IsLeaping-made bundles hops h = record {
    size = refl;
    may = λ u m. m;
    begins = λ u m. m;
    there = λ u v c hop. elim hop [
      | inl p ↦ (h.each u p.1.0.0 p.1.0.1).there p.0 v c p.1.0.2 p.1.0.3 p.1.1
      | inr p ↦ absurd p.2
    ];
    back = λ u v c lt leap.
        let size : length bundles ≡ S.vertices = h.size in
        let b = get_some bundles u (omega (arith, lt, size)) in
        let r = (h.each u b.0 b.1).back v c leap in
        (r.3, inl (r.0, ((b.0, b.1, r.1, r.2), r.4)), r.5);
  }

  module _ (bundles : List Bundle) (hops : List (Hop C)) (n u : ℕ) (h : AreBundles ops S Goal bundles hops n) (bundle : Bundle) (at : slice_get bundles u ≡ Some bundle) where
    -- the places of a bundle are those of its vertex's leaps
    pub bundle_places : (i : ℕ) → Contains (range_with_len bundle.from (bundle.end - bundle.from)) i → IsLeapOf bundles u i
    bundle_places i c = let r = range_within bundle.from bundle.end i (h.each u bundle at).rises c in (bundle, at, r.0, r.1)

    pub places_bundle : (i : ℕ) → IsLeapOf bundles u i → Contains (range_with_len bundle.from (bundle.end - bundle.from)) i
    places_bundle i p =
        let same : p.0 ≡ bundle = same_Some p.0 bundle (sym p.1 ∙ at) in
        within_range bundle.from bundle.end i (subst (λ (b : Bundle). b.from ≤ i) same p.2) (subst (λ (b : Bundle). i < b.end) same p.3)
