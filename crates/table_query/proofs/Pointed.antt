-- The points of targets, each as its target.
use Rattle.std.proofs.Common.{◌≡◌, ◌<◌, ℕ, suc, List, [], ◌∷◌, Option, Some, length, inl, inr, arith, refl, sym, ap, subst}
use Rattle.std.specs.List.{AllZip, Contains, slice_get}
use Rattle.list_lemmas.proofs.Gets.{Contains_get, get_Contains}
use Rattle.search_graph.specs.declared.ends.Start.{Start}
use Rattle.search_graph.specs.declared.ends.Target.{Target}
use Rattle.search_graph.specs.Costs.{CostOps}
use Rattle.search_graph.specs.Digraph.{Weighting}
use Rattle.cell_frame.specs.Borders.{Framed}
use Rattle.overlay_query.specs.Answers.{IsLeastCost}
use Rattle.column_query.specs.Columns.{AreColumns}
use Rattle.column_query.specs.declared.columns.TargetPoint.{TargetPoint}
use Rattle.table_query.specs.Columns.{AreMade, ArePoints, IsPoint}
use Rattle.table_query.proofs.JoinedLists.{all_zip-first_at, all_zip-second_at}

all_zip-length : {A B : Type 0} (R : A → B → Type 0) (xs : List A) (ys : List B) → AllZip R xs ys → length ys ≡ length xs
all_zip-length R [] [] h = refl
all_zip-length R [] (y ∷ ys) h = absurd h
all_zip-length R (x ∷ xs) [] h = absurd h
all_zip-length R (x ∷ xs) (y ∷ ys) h = ap suc (all_zip-length R xs ys h.1)

module _ {C : Type 0} (ops : CostOps C) (f : Framed) (w : Weighting C) (all : List (Target C)) (points : List (TargetPoint C)) where
  -- some that were made are those of all targets
  pub made-points : AreMade ops f w all points → 0 < length points → ArePoints ops f w all points
  made-points (inl none) some = let zero : length points ≡ 0 = ap length none in absurd (omega (arith, zero, some))
  made-points (inr made) some = made

  module _ (are : ArePoints ops f w all points) where
    pub length-points : length points ≡ length all
    length-points = all_zip-length (IsPoint ops f w) all points are

    -- each is the point of one of the targets
    pub point-of : (p : TargetPoint C) → Contains points p → (t : Target C) × Contains all t × IsPoint ops f w t p
    point-of p h =
        let at = get_Contains points p h in
        let r = all_zip-first_at (IsPoint ops f w) all points at.0 p are at.1 in
        (r.0, Contains_get all at.0 r.0 r.1, r.2)

    -- what is said of the vertices and costs of targets is said of the points'
    pub point-fits : (P : Target C → Type 0) → ((t : Target C) → Contains all t → P t) → (p : TargetPoint C) → Contains points p → P p.target
    point-fits P fit p h = let r = point-of p h in subst P (sym r.2.target) (fit r.0 r.1)

    pub point-columns : (p : TargetPoint C) → Contains points p → AreColumns ops f w p.target.vertex p.columns
    point-columns p h = let r = point-of p h in subst (λ (t : Target C). AreColumns ops f w t.vertex p.columns) (sym r.2.target) r.2.columns

    -- what cheapest walks to the points cost is what those to the targets do
    pub least-of-points : (starts : List (Start C)) (costs : List (Option C)) →
        ((k : ℕ) (p : TargetPoint C) (cost : Option C) → slice_get points k ≡ Some p → slice_get costs k ≡ Some cost → IsLeastCost ops f w starts p.target cost) →
        (k : ℕ) (t : Target C) (cost : Option C) → slice_get all k ≡ Some t → slice_get costs k ≡ Some cost → IsLeastCost ops f w starts t cost
    least-of-points starts costs least k t cost at paid =
        let r = all_zip-second_at (IsPoint ops f w) all points k t are at in
        subst (λ (t : Target C). IsLeastCost ops f w starts t cost) r.2.target (least k r.0 cost r.1 paid)
