-- All entries of a value read, and whether they can be.
use Rattle.std.proofs.Common.{◌≡◌, ℕ, Bool, ◌&&◌, eqb, List, [], ◌∷◌, map, Option, Some, None, option_map, refl, sym, ◌∙◌, ap}
use Rattle.std.specs.List.{list_all, slice_split}
use Rattle.std.specs.Option.{is_some}
use Rattle.option_values.specs.Values.{all_read, all_some, hint_of}

is_some-behind : {B : Type 0} (y : B) (r : Option (List B)) → is_some (option_map (λ ys. y ∷ ys) r) ≡ is_some r
is_some-behind y (Some ys) = refl
is_some-behind y None = refl

list_all-head : {B : Type 0} (o : Option B) (os : List (Option B)) (rest : Bool) → rest ≡ is_some (all_some os) → (is_some o && rest) ≡ is_some (all_some (o ∷ os))
list_all-head None os rest h = refl
list_all-head (Some y) os rest h = h ∙ sym (is_some-behind y (all_some os))

-- all are read where each can be
pub list_all-read : {A B : Type 0} (read : A → Option B) (xs : List A) → list_all (λ x. is_some (read x)) xs ≡ is_some (all_some (map read xs))
list_all-read read [] = refl
list_all-read read (x ∷ xs) = list_all-head (read x) (map read xs) (list_all (λ y. is_some (read y)) xs) (list_all-read read xs)

-- a hint is its entry
all_some-hints : (xs : List (List ℕ)) → all_some (map hint_of xs) ≡ Some xs
all_some-hints [] = refl
all_some-hints (x ∷ xs) = ap (option_map (λ ys. x ∷ ys)) (all_some-hints xs)

pub all_read-hints : (value : List ℕ) (hints : List (List ℕ)) → hints ≡ slice_split (λ b. eqb b 59) value → all_read hint_of value ≡ Some hints
all_read-hints value hints h = all_some-hints (slice_split (λ b. eqb b 59) value) ∙ ap Some (sym h)
