-- Each step keeps the rule of a shared board.
use Rattle.std.proofs.Common.{◌≡◌, ℕ, ◌≢◌, List, [], ◌∷◌, ◌++◌, set, refl, subst, ⊎_elim}
use mathlib.Core.Option.{some}
use mathlib.Core.List.{IsPrefix}
use lib.ListN.{get_elem?}
use Rattle.left_right.specs.Register.{Admits, TurnsAt}
use Rattle.atomic_table.proofs.Lists.{at_set, at_snoc}
use Rattle.metric_publish.specs.Board.{Keeps, Sits, Sees, newcomer}
use Rattle.metric_publish.specs.declared.entry.Entry.{Entry}
use Rattle.metric_publish.specs.declared.entry.View.{View}
use Rattle.metric_publish.proofs.Fronts.{prefix_self, prefix_trans}

-- T is what is shown, which has a list and a number
module _ {V T : Type 0} (list : T → List (Entry V)) where
  abbrev pub Held : T → List (View V) → Type 0
  Held x = Keeps (list x)

  set_keep : (xs : List (Entry V)) (views : List (View V)) (seat : ℕ) (w : View V) → Keeps xs views → IsPrefix w.seen xs → Keeps xs (set views seat w)
  set_keep xs views seat w h k j u e = ⊎_elim (λ (t : (j ≡ seat) × (w ≡ u)). subst (λ (z : View V). IsPrefix z.seen xs) t.1 k) (λ (t : (j ≢ seat) × (get_elem? views j ≡ some u)). h j u t.1) (at_set views seat j w u e)

  pub admits : Admits Held newcomer
  admits x views h j u e = ⊎_elim (h j u) (λ (same : newcomer ≡ u). subst (λ (z : View V). IsPrefix z.seen (list x)) same (list x, refl)) (at_snoc views newcomer u j e)

  pub begins : (x : T) → Held x (newcomer ∷ [])
  begins x j u e = ⊎_elim (λ (t : get_elem? [] j ≡ some u). absurd (cc t)) (λ (same : newcomer ≡ u). subst (λ (z : View V). IsPrefix z.seen (list x)) same (list x, refl)) (at_snoc [] newcomer u j e)

  pub sits : (seat : ℕ) (v : View V) (x : T) → TurnsAt Held seat v x x (λ v x y w. Sits v (list y) w)
  sits seat v x views h at =
      let k = h seat v at in
      let w : View V = record { seen = list x; reads = v.reads } in
      (w, set_keep (list x) views seat w h (prefix_self (list x)), record { later = k; all = refl; reads = refl })

  pub enters : (number : T → ℕ) (seat : ℕ) (v : View V) (x : T) → TurnsAt Held seat v x x (λ v x y w. Sees v (list y) (number y) w)
  enters number seat v x views h at =
      let k = h seat v at in
      let w : View V = record { seen = list x; reads = v.reads ++ number x ∷ [] } in
      (w, set_keep (list x) views seat w h (prefix_self (list x)), record { later = k; all = refl; reads = refl })

  pub adds : (seat : ℕ) (v : View V) (x y : T) → IsPrefix (list x) (list y) → TurnsAt Held seat v x y (λ v x y w. w ≡ v)
  adds seat v x y more views h at =
      let longer : Keeps (list y) views = λ j u e. prefix_trans u.seen (list x) (list y) (h j u e) more in
      (v, set_keep (list y) views seat v longer (longer seat v at), refl)
