-- Fronts of lists, and what holds of the elements of two lists place by place.
use Rattle.std.proofs.Common.{◌≡◌, ℕ, ◌+◌, ◌<◌, zero, suc, List, [], ◌∷◌, ◌++◌, length, take, drop, refl, sym, subst, ap, arith, ◌∙◌, add-one}
use Rattle.std.specs.Prelude.{Some, map, fold, sum_by}
use Rattle.std.specs.List.{AllZip, slice_get, zip}
use Rattle.std.proofs.lemmas.List.{take_more}
use Rattle.std.proofs.lemmas.Option.{slice_get_within, get_or_from_slice_get}

-- one more element of a front
pub take-get : {X : Type 0} (xs : List X) (k : ℕ) (x : X) → slice_get xs k ≡ Some x → take (k + 1) xs ≡ take k xs ++ x ∷ []
take-get xs k x h = take_more xs k x (slice_get_within xs k x h) ∙ ap (λ y. take k xs ++ y ∷ []) (get_or_from_slice_get xs k x x h)

-- what a front of a list has
pub slice_get-take : {A : Type 0} (xs : List A) (n k : ℕ) → k < n → slice_get (take n xs) k ≡ slice_get xs k
slice_get-take [] zero k lt = refl
slice_get-take [] (suc n) k lt = refl
slice_get-take (a ∷ xs) zero k lt = absurd (omega arith)
slice_get-take (a ∷ xs) (suc n) zero lt = refl
slice_get-take (a ∷ xs) (suc n) (suc k) lt = slice_get-take xs n k (omega arith)

module _ {A B : Type 0} (R : A → B → Type 0) where
  all_zip-push : (xs : List A) (ys : List B) (x : A) (y : B) → AllZip R xs ys → R x y → AllZip R (xs ++ x ∷ []) (ys ++ y ∷ [])
  all_zip-push [] [] x y h r = (r, tt)
  all_zip-push [] (b ∷ ys) x y h r = absurd h
  all_zip-push (a ∷ xs) [] x y h r = absurd h
  all_zip-push (a ∷ xs) (b ∷ ys) x y h r = (h.0, all_zip-push xs ys x y h.1 r)

  -- one more pair
  pub all_zip-more : (xs : List A) (ys : List B) (k : ℕ) (x : A) (y : B) → AllZip R (take k xs) ys → slice_get xs k ≡ Some x → R x y → AllZip R (take (k + 1) xs) (ys ++ y ∷ [])
  all_zip-more xs ys k x y h at r = subst (λ (front : List A). AllZip R front (ys ++ y ∷ [])) (sym (take-get xs k x at)) (all_zip-push (take k xs) ys x y h r)

  pub all_zip-length : (xs : List A) (ys : List B) → AllZip R xs ys → length ys ≡ length xs
  all_zip-length [] [] h = refl
  all_zip-length [] (b ∷ ys) h = absurd h
  all_zip-length (a ∷ xs) [] h = absurd h
  all_zip-length (a ∷ xs) (b ∷ ys) h = let e = all_zip-length xs ys h.1 in omega (arith, e)

  -- the element beside one
  pub all_zip-second : (xs : List A) (ys : List B) (k : ℕ) (x : A) → AllZip R xs ys → slice_get xs k ≡ Some x → (y : B) × R x y
  all_zip-second [] ys k x h at = cc
  all_zip-second (a ∷ xs) [] k x h at = absurd h
  all_zip-second (a ∷ xs) (b ∷ ys) zero x h at = (b, subst (λ (z : A). R z b) (let e : a ≡ x = cc in e) h.0)
  all_zip-second (a ∷ xs) (b ∷ ys) (suc k) x h at = all_zip-second xs ys k x h.1 at

  pub all_zip-first : (xs : List A) (ys : List B) (k : ℕ) (y : B) → AllZip R xs ys → slice_get ys k ≡ Some y → (x : A) × R x y
  all_zip-first xs [] k y h at = cc
  all_zip-first [] (b ∷ ys) k y h at = absurd h
  all_zip-first (a ∷ xs) (b ∷ ys) zero y h at = (a, subst (λ (z : B). R a z) (let e : b ≡ y = cc in e) h.0)
  all_zip-first (a ∷ xs) (b ∷ ys) (suc k) y h at = all_zip-first xs ys k y h.1 at

-- what holds of each pair by one relation holds by each that follows from it
pub all_zip-each : {A B : Type 0} (R S : A → B → Type 0) → ((a : A) (b : B) → R a b → S a b) → (xs : List A) (ys : List B) → AllZip R xs ys → AllZip S xs ys
all_zip-each R S f [] [] h = h
all_zip-each R S f [] (b ∷ ys) h = absurd h
all_zip-each R S f (a ∷ xs) [] h = absurd h
all_zip-each R S f (a ∷ xs) (b ∷ ys) h = (f a b h.0, all_zip-each R S f xs ys h.1)

-- a pair of two lists
pub slice_get-zip : {A B : Type 0} (xs : List A) (ys : List B) (k : ℕ) (x : A) (y : B) → slice_get xs k ≡ Some x → slice_get ys k ≡ Some y → slice_get (zip xs ys) k ≡ Some (x, y)
slice_get-zip [] ys k x y h i = cc
slice_get-zip (a ∷ xs) [] k x y h i = cc
slice_get-zip (a ∷ xs) (b ∷ ys) zero x y h i = let e : a ≡ x = cc in let f : b ≡ y = cc in cc
slice_get-zip (a ∷ xs) (b ∷ ys) (suc k) x y h i = slice_get-zip xs ys k x y h i

-- what stands behind the first element
pub slice_get-rest : {A : Type 0} (xs : List A) (k : ℕ) → slice_get (drop 1 xs) k ≡ slice_get xs (k + 1)
slice_get-rest [] k = refl
slice_get-rest (a ∷ xs) k = rw add-one refl

fold-map : {X Y Z : Type 0} (f : Z → Y → Z) (g : X → Y) (a : Z) (xs : List X) → fold f a (map g xs) ≡ fold (λ z x. f z (g x)) a xs
fold-map f g a [] = refl
fold-map f g a (x ∷ xs) = fold-map f g (f a (g x)) xs

pub sum_by-map : {X Y : Type 0} (f : Y → ℕ) (g : X → Y) (xs : List X) → sum_by f (map g xs) ≡ sum_by (λ x. f (g x)) xs
sum_by-map f g xs = fold-map (λ a y. a + f y) g 0 xs

pub map-map : {X Y Z : Type 0} (f : Y → Z) (g : X → Y) (xs : List X) → map f (map g xs) ≡ map (λ x. f (g x)) xs
map-map f g [] = refl
map-map f g (x ∷ xs) = ap (λ ys. f (g x) ∷ ys) (map-map f g xs)
