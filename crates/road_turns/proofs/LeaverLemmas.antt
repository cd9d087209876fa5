-- The permitted vertices that leave a node, from one number on.
use Rattle.std.proofs.Common.{◌≡◌, ℕ, ℤ, suc, ◌+◌, List, [], ◌∷◌, length, drop, filter, Some, Bool, true, false, cond, arith, ap, ◌∙◌, ◌&&◌}
use Rattle.std.proofs.Math.Seq.{drop-length}
use Rattle.std.specs.List.{enumerate_from, slice_get}
use Rattle.std.specs.Ordering.{int_eq}
use Rattle.road_turns.specs.DropLaws.{drop-get}
use Rattle.road_turns.specs.Fans.{leavers}
use Rattle.road_turns.specs.Turn.{leaves}
use Rattle.road_segments.specs.Vertex.{Vertex}

module _ (vs : List Vertex) (v : ℕ) (x : Vertex) (at : slice_get vs v ≡ Some x) (node : ℤ) where
  -- those from number v on are v, if it is one of them, and those behind it
  leavers-at : (b : Bool) → (x.permitted && int_eq x.tail node) ≡ b → leavers vs node v ≡ cond b ((v, x) ∷ leavers vs node (v + 1)) (leavers vs node (v + 1))
  leavers-at b e =
      let up : suc v ≡ v + 1 = omega arith in
      ap (λ (ys : List Vertex). filter (leaves node) (enumerate_from v ys)) (drop-get vs v x at)
      ∙ ap (λ (k : ℕ). cond (leaves node (v, x)) ((v, x) ∷ filter (leaves node) (enumerate_from (v + 1) (drop k vs))) (filter (leaves node) (enumerate_from (v + 1) (drop k vs)))) up
      ∙ ap (λ (c : Bool). cond c ((v, x) ∷ leavers vs node (v + 1)) (leavers vs node (v + 1))) e

  -- v is none of them
  pub leavers-skip : (x.permitted && int_eq x.tail node) ≡ false → leavers vs node v ≡ leavers vs node (v + 1)
  leavers-skip e = leavers-at false e

  pub leavers-add : (x.permitted && int_eq x.tail node) ≡ true → leavers vs node v ≡ (v, x) ∷ leavers vs node (v + 1)
  leavers-add e = leavers-at true e

-- behind the last vertex there are none
pub leavers-end : (vs : List Vertex) (n : ℕ) (node : ℤ) → n ≡ length vs → leavers vs node n ≡ []
leavers-end vs n node all =
    ap (λ (k : ℕ). leavers vs node k) all ∙ ap (λ (ys : List Vertex). filter (leaves node) (enumerate_from (length vs) ys)) (drop-length vs)
