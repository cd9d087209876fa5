-- Lists that are made element by element.
use Rattle.std.proofs.Common.{◌≡◌, ℕ, suc, ◌+◌, ◌-◌, ◌<◌, ◌≤◌, List, [], ◌∷◌, ◌++◌, Option, Some, length, map, take, drop, get_or, append_assoc, arith, refl, ap, ap₂, sym, ◌∙◌}
use Rattle.std.specs.List.{cons_option, filter_map, slice_get}
use Rattle.std.proofs.lemmas.List.{map-append, take_all}
use Rattle.std.proofs.lemmas.List.Elements.{filter_map-append}
use Rattle.std.proofs.lemmas.Option.{slice_get-get_or}
use Rattle.list_lemmas.proofs.Fronts.{slice_get-rest, slice_get-zip, take-get}
use Rattle.road_places.specs.Paid.{steps_of}

module _ {X Y : Type 0} (h : X → Option Y) where
  -- what h gives of a front, and of one element more
  filter_map-take : (xs : List X) (k : ℕ) (x : X) (y : Y) → slice_get xs k ≡ Some x → h x ≡ Some y → filter_map h (take (k + 1) xs) ≡ filter_map h (take k xs) ++ y ∷ []
  filter_map-take xs k x y at e =
      ap (filter_map h) (take-get xs k x at) ∙ filter_map-append h (take k xs) (x ∷ []) ∙ ap (λ (o : Option Y). filter_map h (take k xs) ++ cons_option o []) e

  -- where a list has what h gives of a front behind another list, one element more is pushed
  pub filter_map-push : (front : List Y) (xs : List X) (k : ℕ) (x : X) (y : Y) (old new : List Y) → slice_get xs k ≡ Some x → h x ≡ Some y
      → old ≡ front ++ filter_map h (take k xs) → new ≡ old ++ y ∷ [] → new ≡ front ++ filter_map h (take (k + 1) xs)
  filter_map-push front xs k x y old new at e before pushed =
      pushed ∙ ap (λ l. l ++ y ∷ []) before ∙ append_assoc front (filter_map h (take k xs)) (y ∷ []) ∙ ap (λ l. front ++ l) (sym (filter_map-take xs k x y at e))

pub none-there : (xs : List ℕ) → length xs < 1 → xs ≡ []
none-there [] h = refl
none-there (x ∷ xs) h = absurd (omega arith)

-- a list of one element is that
pub one-there : (xs : List ℕ) → 1 ≤ length xs → length xs < 2 → xs ≡ get_or xs 0 0 ∷ []
one-there [] h k = absurd (omega arith)
one-there (x ∷ []) h k = refl
one-there (x ∷ y ∷ more) h k = absurd (omega arith)

last-apart : (xs : List ℕ) → 0 < length xs → xs ≡ take (length xs - 1) xs ++ get_or xs (length xs - 1) 0 ∷ []
last-apart xs h =
    let lt : length xs - 1 < length xs = omega arith in
    let up : length xs - 1 + 1 ≡ length xs = omega arith in
    let same : length xs ≤ length xs = omega arith in
    sym (take_all (length xs) xs same) ∙ ap (λ n. take n xs) (sym up) ∙ take-get xs (length xs - 1) (get_or xs (length xs - 1) 0) (slice_get-get_or xs (length xs - 1) 0 lt)

-- a list of two elements or more: the first, those in the middle, and the last
pub ends-apart : (xs : List ℕ) → 2 ≤ length xs → xs ≡ get_or xs 0 0 ∷ (take (length xs - 1 - 1) (drop 1 xs) ++ get_or xs (length xs - 1) 0 ∷ [])
ends-apart [] h = absurd (omega arith)
ends-apart (x ∷ xs) h =
    let some : 0 < length xs = omega arith in
    let count : length xs - 1 ≡ length (x ∷ xs) - 1 - 1 = omega arith in
    let place : suc (length xs - 1) ≡ length (x ∷ xs) - 1 = omega arith in
    ap (λ l. x ∷ l) (last-apart xs some ∙ ap₂ (λ n y. take n xs ++ y ∷ []) count (ap (λ k. get_or (x ∷ xs) k 0) place))

-- one element more of a list that is mapped
pub map-more : {X Y : Type 0} (f : X → Y) (xs : List X) (k : ℕ) (x : X) (front old new : List Y) (y : Y) → slice_get xs k ≡ Some x → y ≡ f x → old ≡ front ++ map f (take k xs) → new ≡ old ++ y ∷ []
    → new ≡ front ++ map f (take (k + 1) xs)
map-more f xs k x front old new y at is before pushed =
    pushed ∙ ap₂ (λ l z. l ++ z ∷ []) before is ∙ append_assoc front (map f (take k xs)) (f x ∷ [])
    ∙ ap (λ l. front ++ l) (sym (ap (map f) (take-get xs k x at) ∙ map-append f (take k xs) (x ∷ [])))

-- the turn behind place k
pub steps_of-at : (walk : List ℕ) (k : ℕ) → k + 1 < length walk → slice_get (steps_of walk) k ≡ Some (get_or walk k 0, get_or walk (k + 1) 0)
steps_of-at walk k h =
    slice_get-zip walk (drop 1 walk) k (get_or walk k 0) (get_or walk (k + 1) 0) (slice_get-get_or walk k 0 (omega arith))
    (slice_get-rest walk k ∙ slice_get-get_or walk (k + 1) 0 h)
