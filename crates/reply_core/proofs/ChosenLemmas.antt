-- The chosen ones of a list.
use Rattle.std.proofs.Common.{◌≡◌, ℕ, zero, suc, ◌<◌, ◌+◌, true, List, [], ◌∷◌, ◌++◌, length, length-append, take, get_or, sym, ap, refl, ◌∙◌, arith}
use Rattle.std.specs.Prelude.{Option, Some, None, nat_lt}
use Rattle.std.specs.List.{flat_map, list_all, slice_get}
use Rattle.std.specs.Option.{option_to_list}
use Rattle.std.proofs.lemmas.Bool.{ltb-true}
use Rattle.std.proofs.lemmas.Grind.{flat_map-append}
use Rattle.std.proofs.lemmas.List.{take_more}
use Rattle.std.proofs.lemmas.List.Sums.{AllPass-from_list_all}
use Rattle.road_base.specs.declared.segments.Place.{Place}
use Rattle.edge_graph.specs.NetworkView.{NetworkView}
use Rattle.road_places.specs.Places.{ArePlacesOn, IsPlaceOn}
use Rattle.option_values.specs.declared.option_types.Chosen.{Chosen}
use Rattle.option_values.specs.declared.option_types.Chosen.TheVariants.{All, Only}
use Rattle.reply_core.specs.Asked.{chosen_from}

-- each number is below the count
pub index-within : (indexes : List ℕ) (count k d : ℕ) → list_all (λ i. nat_lt i count) indexes ≡ true → k < length indexes → get_or indexes k d < count
index-within indexes count k d all lt = ltb-true (get_or indexes k d) count (AllPass-from_list_all (λ i. nat_lt i count) indexes all k d lt)

module _ {A : Type 0} (all : List A) where
  abbrev pub picked : List ℕ → List A
  picked indexes = flat_map (λ i. option_to_list (slice_get all i)) indexes

  -- one number more picks one element more
  pub picked-more : (indexes : List ℕ) (k d : ℕ) (x : A) → k < length indexes → slice_get all (get_or indexes k d) ≡ Some x → picked (take (k + 1) indexes) ≡ picked (take k indexes) ++ x ∷ []
  picked-more indexes k d x lt at =
      ap picked (take_more indexes k d lt)
      ∙ flat_map-append (λ i. option_to_list (slice_get all i)) (take k indexes) (get_or indexes k d ∷ [])
      ∙ ap (λ (o : Option A). picked (take k indexes) ++ (option_to_list o ++ [])) at

module _ {A : Type 0} (P : A → Type 0) (all : List A) (each : (k : ℕ) (x : A) → slice_get all k ≡ Some x → P x) where
  picked-one : (x : A) (rest : List A) (i : ℕ) (o : Option A) → slice_get all i ≡ o → ((k : ℕ) → slice_get rest k ≡ Some x → P x) → (k : ℕ) → slice_get (option_to_list o ++ rest) k ≡ Some x → P x
  picked-one x rest i None is inner k at = inner k at
  picked-one x rest i (Some y) is inner zero at = each i x (is ∙ at)
  picked-one x rest i (Some y) is inner (suc k) at = inner k at

  picked-each : (indexes : List ℕ) (k : ℕ) (x : A) → slice_get (picked all indexes) k ≡ Some x → P x
  picked-each [] k x at = cc
  picked-each (i ∷ more) k x at = picked-one x (picked all more) i (slice_get all i) refl (λ n there. picked-each more n x there) k at

  -- what holds of each element of a list holds of each of the chosen ones
  pub chosen-each : (which : Chosen) (k : ℕ) (x : A) → slice_get (chosen_from which all) k ≡ Some x → P x
  chosen-each All k x at = each k x at
  chosen-each (Only indexes) k x at = picked-each indexes k x at

-- the chosen places are on the network where all are
pub chosen-placed : (network : NetworkView) (which : Chosen) (places given chosen : List Place) → ArePlacesOn network places → given ≡ places → chosen ≡ chosen_from which given
    → ArePlacesOn network chosen
chosen-placed network which places given chosen placed same is k place at =
    chosen-each (IsPlaceOn network) places placed which k place (sym (ap (λ (xs : List Place). slice_get xs k) (is ∙ ap (chosen_from which) same)) ∙ at)

module _ {A B : Type 0} where
  -- there is an element of a number in both of two equally long lists or in none
  one-size : (xs : List A) (ys : List B) (i : ℕ) → length xs ≡ length ys → length (option_to_list (slice_get xs i)) ≡ length (option_to_list (slice_get ys i))
  one-size [] [] i same = refl
  one-size [] (y ∷ ys) i same = absurd (omega (arith, same))
  one-size (x ∷ xs) [] i same = absurd (omega (arith, same))
  one-size (x ∷ xs) (y ∷ ys) zero same = refl
  one-size (x ∷ xs) (y ∷ ys) (suc i) same = let less : length xs ≡ length ys = omega (arith, same) in one-size xs ys i less

  picked-size : (xs : List A) (ys : List B) → length xs ≡ length ys → (indexes : List ℕ) → length (picked xs indexes) ≡ length (picked ys indexes)
  picked-size xs ys same [] = refl
  picked-size xs ys same (i ∷ more) =
      let first = one-size xs ys i same in
      let rest = picked-size xs ys same more in
      let left = length-append (option_to_list (slice_get xs i)) (picked xs more) in
      let right = length-append (option_to_list (slice_get ys i)) (picked ys more) in
      omega (arith, first, rest, left, right)

  -- as many are chosen of equally long lists
  pub chosen-size : (which : Chosen) (xs : List A) (ys : List B) → length xs ≡ length ys → length (chosen_from which xs) ≡ length (chosen_from which ys)
  chosen-size All xs ys same = same
  chosen-size (Only indexes) xs ys same = picked-size xs ys same indexes
