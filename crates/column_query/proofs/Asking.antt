-- The starts of a row as its parts have them.
use Rattle.std.proofs.Common.{◌≡◌, ℕ, zero, suc, ◌<◌, Some, All, get_or, map, List, [], ◌∷◌, length, arith, sym, subst, ap}
use Rattle.std.specs.List.{Contains, slice_get}
use Rattle.std.proofs.lemmas.Option.{same_Some, slice_get_within, slice_get-get_or}
use Rattle.std.proofs.lemmas.List.Elements.{All-map}
use Rattle.list_lemmas.proofs.Gets.{Contains_get, get_Contains}
use Rattle.search_graph.specs.declared.ends.Start.{Start}

map_get : {X Y : Type 0} (f : X → Y) (xs : List X) (k : ℕ) (x : X) → slice_get xs k ≡ Some x → slice_get (map f xs) k ≡ Some (f x)
map_get {X} f [] k x e = let lt : k < length {A = X} [] = slice_get_within [] k x e in absurd (omega arith)
map_get f (y ∷ xs) zero x e = ap (λ z. Some (f z)) (same_Some y x e)
map_get f (y ∷ xs) (suc k) x e = map_get f xs k x e

all_from_contains : {X : Type 0} (P : X → Type 0) (xs : List X) → ((x : X) → Contains xs x → P x) → All P xs
all_from_contains P xs h = λ k d lt. h (get_or xs k d) (Contains_get xs k (get_or xs k d) (slice_get-get_or xs k d lt))

module _ {C : Type 0} (starts : List (Start C)) (vertices : List ℕ) (are : vertices ≡ map (λ s. s.vertex) starts) where
  -- each start's vertex is among them
  pub start_in : (s : Start C) → Contains starts s → Contains vertices s.vertex
  start_in s h =
      let g = get_Contains starts s h in
      subst (λ (xs : List ℕ). Contains xs s.vertex) (sym are) (Contains_get (map (λ (x : Start C). x.vertex) starts) g.0 s.vertex (map_get (λ (x : Start C). x.vertex) starts g.0 s g.1))

  -- and each of them is a vertex
  pub vertices_below : (n : ℕ) → ((s : Start C) → Contains starts s → s.vertex < n) → All (λ v. v < n) vertices
  vertices_below n below = subst (λ (xs : List ℕ). All (λ v. v < n) xs) (sym are) (All-map (λ v. v < n) (λ (s : Start C). s.vertex) starts (all_from_contains (λ (s : Start C). s.vertex < n) starts below))
