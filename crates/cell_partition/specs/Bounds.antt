-- Parts one behind another in one list, and where each ends.
use Rattle.std.specs.Prelude.{ℕ, ◌+◌, ◌-◌, List, [], ◌∷◌, length, take, drop, slice_index_or}
use Rattle.std.specs.List.{flat_map}

-- the parts one behind another
abbrev pub joined : {X : Type 0} → List (List X) → List X
joined parts = flat_map (λ part. part) parts

-- where each part ends, the first beginning at `start`
abbrev pub ends : {X : Type 0} → ℕ → List (List X) → List ℕ
ends start [] = []
ends start (part ∷ parts) = (start + length part) ∷ ends (start + length part) parts

-- where the first part begins and where each part ends
abbrev pub bounds_of : {X : Type 0} → List (List X) → List ℕ
bounds_of parts = 0 ∷ ends 0 parts

-- the parts of a list that end there, the first beginning at `start`
abbrev pub parts_from : {X : Type 0} → ℕ → List ℕ → List X → List (List X)
parts_from start [] xs = []
parts_from start (end ∷ ends) xs = take (end - start) xs ∷ parts_from end ends (drop (end - start) xs)

-- the parts of a list at these bounds
abbrev pub parts_at : {X : Type 0} → List ℕ → List X → List (List X)
parts_at [] xs = []
parts_at (start ∷ ends) xs = parts_from start ends xs

-- the part of this number, counted from 0
abbrev pub cell_at : {X : Type 0} → List (List X) → ℕ → List X
cell_at parts number = slice_index_or parts number []
