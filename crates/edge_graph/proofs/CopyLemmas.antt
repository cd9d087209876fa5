-- The copies of vertices by the vertices that they stand for.
use Rattle.std.proofs.Common.{◌≡◌, ℕ, zero, suc, ◌+◌, ◌-◌, ◌≤◌, ◌==◌, Bool, true, false, List, [], ◌∷◌, ◌++◌, Vec, Some, cond, filter, get_or, length, map, sym, refl, ap, ◌∙◌, add-one, arith}
use Rattle.std.specs.Global.{Global}
use Rattle.std.specs.List.{range_with_len, slice_get}
use Rattle.std.specs.Map.{lookup}
use Rattle.std.specs.Option.{option_map_or}
use Rattle.std.proofs.lemmas.Bool.{le-ltb}
use Rattle.std.proofs.lemmas.List.Elements.{filter-append}
use Rattle.std.proofs.lemmas.Option.{get_or_from_slice_get}
use Rattle.via_paths.specs.Copies.{copies_of}
use Rattle.via_paths.specs.Expansion.{expanded_arcs, onward, standing}
use Rattle.via_paths.specs.Forbidden.{last_of}
use Rattle.road_turns.specs.Limits.{most_turns}
use Rattle.edge_graph.specs.NetworkParts.{AreArcsOf, CopyMap, copies_in_map}

-- one number more
range-more : (a n : ℕ) → range_with_len a (suc n) ≡ range_with_len a n ++ (a + n) ∷ []
range-more a zero = let here : a ≡ a + 0 = omega arith in ap (λ (k : ℕ). k ∷ []) here
range-more a (suc n) =
    let later : a + 1 + n ≡ a + suc n = omega arith in
    ap (λ (l : List ℕ). a ∷ l) (range-more (a + 1) n ∙ ap (λ (k : ℕ). range_with_len (a + 1) n ++ k ∷ []) later)

module _ (n : ℕ) (stands_for : List ℕ) where
  -- the map has those of the first k
  abbrev pub AreCopiesUpTo : CopyMap → ℕ → Type 0
  AreCopiesUpTo map k = (v : ℕ) → copies_in_map map v ≡ filter (λ q. standing n stands_for q == v) (range_with_len n k)

  pub copies-none : (map : CopyMap) → map.entries ≡ [] → AreCopiesUpTo map 0
  copies-none map empty v = ap (λ (l : List (ℕ × Vec ℕ Global)). option_map_or (λ (list : Vec ℕ Global). list.items) (lookup (λ (a : ℕ). v == a) l) []) empty

  copy-stands : (k x : ℕ) → slice_get stands_for k ≡ Some x → standing n stands_for (n + k) ≡ x
  copy-stands k x at =
      let behind : n ≤ n + k = omega arith in
      let place : n + k - n ≡ k = omega arith in
      ap (λ (b : Bool). cond b (n + k) (get_or stands_for (n + k - n) 0)) (le-ltb (n + k) n behind)
      ∙ ap (λ (j : ℕ). get_or stands_for j 0) place
      ∙ get_or_from_slice_get stands_for k x 0 at

  -- one more
  pub copies-added : (old new : CopyMap) (k x : ℕ) → slice_get stands_for k ≡ Some x
      → ((w : ℕ) → copies_in_map new w ≡ cond (x == w) (copies_in_map old w ++ (n + k) ∷ []) (copies_in_map old w))
      → AreCopiesUpTo old k → AreCopiesUpTo new (k + 1)
  copies-added old new k x at put are v =
      put v
      ∙ ap (λ (l : List ℕ). cond (x == v) (l ++ (n + k) ∷ []) l) (are v)
      ∙ by (x == v)
      ∙ ap (λ (y : ℕ). filter p (range_with_len n k) ++ cond (y == v) ((n + k) ∷ []) []) (sym (copy-stands k x at))
      ∙ sym (filter-append p (range_with_len n k) ((n + k) ∷ []))
      ∙ ap (filter p) (sym (range-more n k))
      ∙ ap (λ (j : ℕ). filter p (range_with_len n j)) (sym (add-one k))
    where
      p : ℕ → Bool
      p q = standing n stands_for q == v

      end : (l : List ℕ) → l ≡ l ++ []
      end [] = refl
      end (y ∷ l) = ap (λ (m : List ℕ). y ∷ m) (end l)

      by : (b : Bool) → cond b (filter p (range_with_len n k) ++ (n + k) ∷ []) (filter p (range_with_len n k)) ≡ filter p (range_with_len n k) ++ cond b ((n + k) ∷ []) []
      by true = refl
      by false = end (filter p (range_with_len n k))

arcs-of_none : (n : ℕ) (arcs : List (ℕ × ℕ)) → map {A = ℕ × ℕ} {B = ℕ × ℕ} (λ turn. (turn.0, onward n [] (turn.0 ∷ []) turn.1)) arcs ++ [] ≡ arcs
arcs-of_none n [] = refl
arcs-of_none n (a ∷ arcs) = ap (λ (l : List (ℕ × ℕ)). a ∷ l) (arcs-of_none n arcs)

-- without sequences the arcs are the turns
pub arcs-plain : (n : ℕ) (turns : List (ℕ × ℕ)) (forbidden : List (List ℕ)) (stands_for : List ℕ) → forbidden ≡ [] → stands_for ≡ [] → length turns ≤ most_turns → AreArcsOf n turns forbidden stands_for turns
arcs-plain n turns forbidden stands_for none alone few = record {
  is = sym (arcs-of_none n turns) ∙ ap (λ (l : List (List ℕ)). expanded_arcs n l (copies_of l) turns) (sym none);
  stand = alone ∙ ap (λ (l : List (List ℕ)). map last_of (copies_of l)) (sym none);
  few = few;
}
