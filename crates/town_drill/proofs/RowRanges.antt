-- A drill's rows are in the ranges of traffic files.
use Rattle.std.proofs.Common.{◌≡◌, ◌<◌, ◌-◌, ◌*◌, ◌==◌, ℕ, Bool, true, false, zero, suc, List, [], ◌∷◌, arith, inl, inr, length, None, refl, subst, sym}
use Rattle.std.specs.Prelude.{if◌then◌else◌}
use Rattle.std.specs.List.{All, flat_map, range_with_len, slice_index_or}
use Rattle.std.specs.Option.{ForSome}
use Rattle.std.proofs.lemmas.List.Concat.{flat_map-cons}
use Rattle.std.proofs.lemmas.List.Elements.{All-append}
use Rattle.traffic_files.specs.Ranges.{AreSpeedsInRange, IsRate, IsRowSpeed, IsSpeedInRange}
use Rattle.town_text.specs.Town.{all_of}
use Rattle.town_drill.specs.Asked.{has_row, row_at, rows_along, speed_row, speed_rows}

-- what holds of no element, of one, and of all pieces
none-all : {X : Type 0} (P : X → Type 0) → All P []
none-all P = λ k d lt. absurd (omega arith)

one-all : {X : Type 0} (P : X → Type 0) (x : X) → P x → (k : ℕ) (d : X) → k < length (x ∷ []) → P (slice_index_or (x ∷ []) k d)
one-all P x h zero d lt = h
one-all P x h (suc k) d lt = absurd (omega arith)

pieces-all : {X : Type 0} (P : X → Type 0) (f : ℕ → List X) → ((i : ℕ) → All P (f i)) → (is : List ℕ) → All P (flat_map f is)
pieces-all P f each [] = none-all P
pieces-all {X} P f each (i ∷ is) = subst (λ (xs : List X). All P xs) (sym (flat_map-cons f i is)) (All-append P (f i) (flat_map f is) (each i) (pieces-all P f each is))

row-speed : (k : ℕ) → k < 4 → IsRowSpeed (10000 * k)
row-speed zero small = inl refl
row-speed (suc k) small = inr (omega arith, omega arith)

no-rate : ForSome None IsRate
no-rate = λ rate e. cc

at-all : (n k : ℕ) → k < 4 → (y x : ℕ) → All IsSpeedInRange (row_at n k x y)
at-all n k small y x = go (has_row k x y)
  where
    go : (t : Bool) → All IsSpeedInRange (if t then speed_row n k x y ∷ [] else [])
    go true = one-all IsSpeedInRange (speed_row n k x y) (row-speed k small, no-rate)
    go false = none-all IsSpeedInRange

along-all : (n k : ℕ) → k < 4 → (y : ℕ) → All IsSpeedInRange (rows_along n k y)
along-all n k small y = pieces-all IsSpeedInRange (λ x. row_at n k x y) (at-all n k small y) (range_with_len 0 (n - 1))

pub speeds-in_range : (n k : ℕ) → k < 4 → AreSpeedsInRange (speed_rows n k)
unfolding speed_rows
speeds-in_range n k small = go (k == 0)
  where
    go : (t : Bool) → All IsSpeedInRange (if t then [] else flat_map (λ y. rows_along n k y) (all_of n))
    go true = none-all IsSpeedInRange
    go false = pieces-all IsSpeedInRange (λ y. rows_along n k y) (along-all n k small) (all_of n)
