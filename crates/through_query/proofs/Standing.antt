-- What the sums behind the first legs tell of chains through those, and through any legs more.
use Rattle.std.proofs.Common.{◌≡◌, ℕ, ◌+◌, ◌*◌, ◌<◌, ◌&&◌, nat_lt, if◌then◌else◌, Bool, true, false, List, [], ◌∷◌, ◌++◌, Option, Some, None, Vec, length, slice_index_or, refl, sym, subst, ap, ◌∙◌, append-nil, append_assoc}
use Rattle.std.specs.Global.{Global}
use Rattle.std.specs.List.{slice_get}
use Rattle.std.specs.Option.{option_map}
use Rattle.std.proofs.lemmas.Bool.{ltb-true}
use Rattle.std.proofs.lemmas.Option.{same_Some}
use Rattle.search_graph.specs.Costs.{NoDearer}
use Rattle.search_graph.specs.OrderLaws.{le_from_same, le_trans, plus_le, zero_plus}
use Rattle.search_graph.specs.RoadCosts.{road_cost_ops, road_cost_laws}
use Rattle.search_graph.specs.declared.costs.WeightDurLen.{WeightDurLen}
use Rattle.through_query.specs.ChainLaws.{both_are, both_some}
use Rattle.through_query.specs.Chains.{HasChain, IsLeastChain, both, chain_cost, leg_cost}
use Rattle.through_query.specs.Layers.{AreArrivals, GoesBack, IsArrival, IsStart, back, by_leg, plain, sum_at}
use Rattle.through_query.specs.declared.legs.LegCosts.{LegCosts}
use Rattle.through_query.specs.declared.sums.Sum.{Sum}
use Rattle.through_query.proofs.Back.{back_more, goes_more}
use Rattle.through_query.proofs.Reading.{sum_within, told_some}

-- what it costs to go on from a state by its sum, through the rest of the legs
abbrev pub from : List (Option Sum) → List LegCosts → List ℕ → Option WeightDurLen
from sums rest [] = None
from sums rest (y ∷ more) = both (sum_at sums y) (chain_cost rest (y ∷ more))

-- Each chain through the legs that are done and the rest has one from the sums that is no dearer, and each from the sums
-- is one through all of them with the states before it.
pub record Stands (starts : ℕ) (done : List LegCosts) (sums : List (Option Sum)) (befores : List (Vec ℕ Global)) : Type 0 where
  pub down : (rest : List LegCosts) (x : ℕ) (more : List ℕ) (d : WeightDurLen) → x < starts → chain_cost (done ++ rest) (x ∷ more) ≡ Some d
      → (tail : List ℕ) × (e : WeightDurLen) × (from sums rest tail ≡ Some e) × NoDearer road_cost_ops e d
  pub up : (rest : List LegCosts) (tail : List ℕ) (e : WeightDurLen) → from sums rest tail ≡ Some e → chain_cost (done ++ rest) (back (length befores) befores tail) ≡ Some e
  pub goes : (y : ℕ) (c : WeightDurLen) → sum_at sums y ≡ Some c → GoesBack (length befores) befores y

-- ---- no leg yet
module _ (starts : ℕ) (sums : List (Option Sum)) (h : IsStart starts sums) where
  start_up : (rest : List LegCosts) (tail : List ℕ) (e : WeightDurLen) → from sums rest tail ≡ Some e → chain_cost rest tail ≡ Some e
  start_up rest [] e k = cc
  start_up rest (y ∷ more) e k =
      let p = both_some (sum_at sums y) (chain_cost rest (y ∷ more)) e k in
      let within = sum_within sums y p.0 p.2 in
      let nothing : p.0 ≡ road_cost_ops.zero = same_Some p.0 road_cost_ops.zero (sym p.2 ∙ h.each y (subst (λ n. y < n) h.size within)) in
      p.3 ∙ ap Some (sym (p.4 ∙ ap (λ z. road_cost_ops.plus z p.1) nothing ∙ zero_plus road_cost_laws p.1 tt))

  pub stands_none : Stands starts [] sums []
  stands_none = record {
    down = λ rest x more d lt e. (
      x ∷ more,
      road_cost_ops.plus road_cost_ops.zero d,
      both_are (sum_at sums x) (chain_cost rest (x ∷ more)) road_cost_ops.zero d (h.each x lt) e,
      le_from_same road_cost_laws (road_cost_ops.plus road_cost_ops.zero d) d (zero_plus road_cost_laws d tt),
    );
    up = start_up;
    goes = λ y c e. tt;
  }

-- ---- one leg more
if_some : {C : Type 0} (b : Bool) (x : Option C) (d : C) → (if b then x else None) ≡ Some d → b ≡ true
if_some true x d e = refl
if_some false x d e = cc

both_true : (a b : Bool) → (a && b) ≡ true → (a ≡ true) × (b ≡ true)
both_true true b e = (refl, e)
both_true false b e = cc

-- where a leg has a cost there are its states
pub leg_within : (leg : LegCosts) (x y : ℕ) (d : WeightDurLen) → leg_cost leg x y ≡ Some d → (x < leg.starts) × (y < leg.ends)
leg_within leg x y d e =
    let t = both_true (nat_lt x leg.starts) (nat_lt y leg.ends) (if_some (nat_lt x leg.starts && nat_lt y leg.ends) (slice_index_or leg.costs.items (x * leg.ends + y) None) d e) in
    (ltb-true x leg.starts t.0, ltb-true y leg.ends t.1)

arrives : (sums : List (Option Sum)) (leg : LegCosts) (y : ℕ) (v : Option Sum) (b x : ℕ) (d : WeightDurLen) → IsArrival sums leg y v b → by_leg sums leg y x ≡ Some d
    → (s : WeightDurLen) × (option_map plain v ≡ Some s) × NoDearer road_cost_ops s d
arrives sums leg y None b x d h e = absurd (h x d e)
arrives sums leg y (Some t) b x d h e = (plain t, refl, h.1 x d e)

arrived : (sums : List (Option Sum)) (leg : LegCosts) (y : ℕ) (v : Option Sum) (b : ℕ) (t : Sum) → IsArrival sums leg y v b → v ≡ Some t → by_leg sums leg y b ≡ Some (plain t)
arrived sums leg y None b t h e = cc
arrived sums leg y (Some u) b t h e = h.0 ∙ ap (λ w. Some (plain w)) (same_Some u t e)

abbrev before : Vec ℕ Global → ℕ → ℕ
before row y = slice_index_or row.items y 0

module _ (starts : ℕ) (done : List LegCosts) (sums : List (Option Sum)) (befores : List (Vec ℕ Global)) (h : Stands starts done sums befores)
    (leg : LegCosts) (reached : List (Option Sum)) (row : Vec ℕ Global) (arrivals : AreArrivals sums leg leg.ends reached row.items) where
  -- a sum behind the leg is one before it, and the leg from there
  parts : (y : ℕ) (s : WeightDurLen) → sum_at reached y ≡ Some s → (a : WeightDurLen) × (b : WeightDurLen) × (sum_at sums (before row y) ≡ Some a) × (leg_cost leg (before row y) y ≡ Some b) × (s ≡ road_cost_ops.plus a b)
  parts y s e =
      let t = told_some (slice_index_or reached y None) s e in
      let within = sum_within reached y s e in
      let inside : y < leg.ends = subst (λ n. y < n) arrivals.sums_size within in
      let is = arrived sums leg y (slice_index_or reached y None) (before row y) t.0 (arrivals.each y inside) t.1 in
      let p = both_some (sum_at sums (before row y)) (leg_cost leg (before row y) y) (plain t.0) is in
      (p.0, p.1, p.2, p.3, sym t.2 ∙ p.4)

  on_down : (rest : List LegCosts) (tail : List ℕ) (e : WeightDurLen) → from sums (leg ∷ rest) tail ≡ Some e → (more : List ℕ) × (f : WeightDurLen) × (from reached rest more ≡ Some f) × NoDearer road_cost_ops f e
  on_down rest [] e k = cc
  on_down rest (x ∷ []) e k = let p = both_some (sum_at sums x) None e k in let no : None ≡ Some p.1 = p.3 in cc
  on_down rest (x ∷ y ∷ more) e k =
      let p = both_some (sum_at sums x) (both (leg_cost leg x y) (chain_cost rest (y ∷ more))) e k in
      let q = both_some (leg_cost leg x y) (chain_cost rest (y ∷ more)) p.1 p.3 in
      let a : WeightDurLen = p.0 in
      let b : WeightDurLen = q.0 in
      let c : WeightDurLen = q.1 in
      let inside = (leg_within leg x y b q.2).1 in
      let s = arrives sums leg y (slice_index_or reached y None) (before row y) x (road_cost_ops.plus a b) (arrivals.each y inside) (both_are (sum_at sums x) (leg_cost leg x y) a b p.2 q.2) in
      let whole : road_cost_ops.plus (road_cost_ops.plus a b) c ≡ e = road_cost_laws.assoc a b c tt tt tt ∙ sym (p.4 ∙ ap (road_cost_ops.plus a) q.4) in (
        y ∷ more,
        road_cost_ops.plus s.0 c,
        both_are (sum_at reached y) (chain_cost rest (y ∷ more)) s.0 c s.1 q.3,
        subst (λ z. NoDearer road_cost_ops (road_cost_ops.plus s.0 c) z) whole (plus_le road_cost_laws s.0 (road_cost_ops.plus a b) c tt tt tt s.2),
      )

  on_up : (rest : List LegCosts) (tail : List ℕ) (e : WeightDurLen) → from reached rest tail ≡ Some e → chain_cost ((done ++ leg ∷ []) ++ rest) (back (length (befores ++ row ∷ [])) (befores ++ row ∷ []) tail) ≡ Some e
  on_up rest [] e k = cc
  on_up rest (y ∷ more) e k =
      let p = both_some (sum_at reached y) (chain_cost rest (y ∷ more)) e k in
      let q = parts y p.0 p.2 in
      let a : WeightDurLen = q.0 in
      let b : WeightDurLen = q.1 in
      let c : WeightDurLen = p.1 in
      let whole : road_cost_ops.plus a (road_cost_ops.plus b c) ≡ e = sym (road_cost_laws.assoc a b c tt tt tt) ∙ sym (p.4 ∙ ap (λ z. road_cost_ops.plus z c) q.4) in
      let is : from sums (leg ∷ rest) (before row y ∷ y ∷ more) ≡ Some e =
      both_are (sum_at sums (before row y)) (both (leg_cost leg (before row y) y) (chain_cost rest (y ∷ more))) a (road_cost_ops.plus b c) q.2 (both_are (leg_cost leg (before row y) y) (chain_cost rest (y ∷ more)) b c q.3 p.3) ∙ ap Some whole in
      ap (λ l. chain_cost l (back (length (befores ++ row ∷ [])) (befores ++ row ∷ []) (y ∷ more))) (append_assoc done (leg ∷ []) rest)
      ∙ ap (λ s. chain_cost (done ++ leg ∷ rest) s) (back_more befores row y more)
      ∙ h.up (leg ∷ rest) (before row y ∷ y ∷ more) e is

  pub stands_more : Stands starts (done ++ leg ∷ []) reached (befores ++ row ∷ [])
  stands_more = record {
    down = λ rest x more d lt e.
        let t = h.down (leg ∷ rest) x more d lt (ap (λ l. chain_cost l (x ∷ more)) (sym (append_assoc done (leg ∷ []) rest)) ∙ e) in
        let o = on_down rest t.0 t.1 t.2 in
        (o.0, o.1, o.2, le_trans road_cost_laws o.1 t.1 d o.3 t.3);
    up = on_up;
    goes = λ y c e.
        let q = parts y c e in
        let within = sum_within reached y c e in
        goes_more befores row y (subst (λ n. y < n) (arrivals.sums_size ∙ sym arrivals.befores_size) within) (h.goes (before row y) q.0 q.2);
  }

-- ---- all legs
-- the sum is least at this state
pub record IsLast (sums : List (Option Sum)) (last : ℕ) : Type 0 where
  pub cost : WeightDurLen
  pub is : sum_at sums last ≡ Some cost
  pub least : (y : ℕ) (d : WeightDurLen) → sum_at sums y ≡ Some d → NoDearer road_cost_ops cost d

-- a chain begins in a state of the first leg
first_inside : (legs : List LegCosts) (first : LegCosts) (states : List ℕ) (d : WeightDurLen) → slice_get legs 0 ≡ Some first → chain_cost legs states ≡ Some d → (x : ℕ) × (more : List ℕ) × (states ≡ x ∷ more) × (x < first.starts)
first_inside [] first states d at e = cc
first_inside (leg ∷ legs) first [] d at e = cc
first_inside (leg ∷ legs) first (x ∷ []) d at e = cc
first_inside (leg ∷ legs) first (x ∷ y ∷ more) d at e =
    let p = both_some (leg_cost leg x y) (chain_cost legs (y ∷ more)) d e in
    (x, y ∷ more, refl, subst (λ (l : LegCosts). x < l.starts) (same_Some leg first at) (leg_within leg x y p.0 p.2).0)

-- what ends at the sums ends at one of them
ends_at : (sums : List (Option Sum)) (tail : List ℕ) (e : WeightDurLen) → from sums [] tail ≡ Some e → (y : ℕ) × (a : WeightDurLen) × (sum_at sums y ≡ Some a) × (e ≡ road_cost_ops.plus a road_cost_ops.zero)
ends_at sums [] e k = cc
ends_at sums (y ∷ []) e k =
    let p = both_some (sum_at sums y) (Some road_cost_ops.zero) e k in
    (y, p.0, p.2, p.4 ∙ ap (road_cost_ops.plus p.0) (sym (same_Some road_cost_ops.zero p.1 p.3)))
ends_at sums (y ∷ z ∷ more) e k = let p = both_some (sum_at sums y) None e k in let no : None ≡ Some p.1 = p.3 in cc

module _ (first : LegCosts) (done : List LegCosts) (sums : List (Option Sum)) (befores : List (Vec ℕ Global)) (h : Stands first.starts done sums befores) where
  ended_at : (x : ℕ) (more : List ℕ) (d : WeightDurLen) → x < first.starts → chain_cost done (x ∷ more) ≡ Some d → (y : ℕ) × (a : WeightDurLen) × (sum_at sums y ≡ Some a) × NoDearer road_cost_ops (road_cost_ops.plus a road_cost_ops.zero) d
  ended_at x more d lt e =
      let t = h.down [] x more d lt (ap (λ l. chain_cost l (x ∷ more)) (append-nil done) ∙ e) in
      let o = ends_at sums t.0 t.1 t.2 in
      (o.0, o.1, o.2, subst (λ z. NoDearer road_cost_ops z d) o.3 t.3)

  ended : (states : List ℕ) (d : WeightDurLen) → slice_get done 0 ≡ Some first → chain_cost done states ≡ Some d → (y : ℕ) × (a : WeightDurLen) × (sum_at sums y ≡ Some a) × NoDearer road_cost_ops (road_cost_ops.plus a road_cost_ops.zero) d
  ended states d at e = let f = first_inside done first states d at e in ended_at f.0 f.1 d f.3 (ap (chain_cost done) (sym f.2) ∙ e)

  chain_back : (y : ℕ) (c : WeightDurLen) → sum_at sums y ≡ Some c → chain_cost done (back (length befores) befores (y ∷ [])) ≡ Some (road_cost_ops.plus c road_cost_ops.zero)
  chain_back y c e =
      ap (λ l. chain_cost l (back (length befores) befores (y ∷ []))) (sym (append-nil done))
      ∙ h.up [] (y ∷ []) (road_cost_ops.plus c road_cost_ops.zero) (both_are (sum_at sums y) (Some road_cost_ops.zero) c road_cost_ops.zero e refl)

  -- a sum tells of a chain
  pub chain_left : (y : ℕ) (c : WeightDurLen) → sum_at sums y ≡ Some c → HasChain done
  chain_left y c e = (back (length befores) befores (y ∷ []), road_cost_ops.plus c road_cost_ops.zero, chain_back y c e)

  -- and without any sum there is none
  pub none_left : slice_get done 0 ≡ Some first → ((y : ℕ) (d : WeightDurLen) → y < length sums → ¬ (sum_at sums y ≡ Some d)) → ¬ HasChain done
  none_left at none = λ chain. let t = ended chain.0 chain.1 at chain.2 in none t.0 t.1 (sum_within sums t.0 t.1 t.2) t.2

  -- the way back from the least sum is a least chain
  pub least_back : (last : ℕ) → slice_get done 0 ≡ Some first → IsLast sums last → IsLeastChain done (back (length befores) befores (last ∷ []))
  least_back last at is = record {
    cost = road_cost_ops.plus is.cost road_cost_ops.zero;
    costs = chain_back last is.cost is.is;
    least = λ others d e.
        let t = ended others d at e in
        le_trans road_cost_laws (road_cost_ops.plus is.cost road_cost_ops.zero) (road_cost_ops.plus t.1 road_cost_ops.zero) d (plus_le road_cost_laws is.cost t.1 road_cost_ops.zero tt tt tt (is.least t.0 t.1 t.2)) t.3;
  }
