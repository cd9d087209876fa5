-- The first key of several.
use Rattle.std.proofs.Common.{◌≡◌, ℕ, List, [], ◌∷◌, ◌++◌, Option, Some, None, refl, ap, ◌∙◌, sym}
use Rattle.std.specs.List.{AllByRecursion}
use Rattle.vehicle_settings.specs.SettingsData.{first_of}

-- the first key, and where there is none the second
abbrev pub or_else : Option (List ℕ) → Option (List ℕ) → Option (List ℕ)
or_else (Some key) other = Some key
or_else None other = other

-- the first key of a list, and where it has none that of the next
first_of-append : (xs ys : List (Option (List ℕ))) → first_of (xs ++ ys) ≡ or_else (first_of xs) (first_of ys)
first_of-append [] ys = refl
first_of-append (Some key ∷ xs) ys = refl
first_of-append (None ∷ xs) ys = first_of-append xs ys

-- the first key of lists that follow each other, each known by its own first key
pub first_of-next : (xs ys : List (Option (List ℕ))) (x y : Option (List ℕ)) → x ≡ first_of xs → y ≡ first_of ys → or_else x y ≡ first_of (xs ++ ys)
first_of-next xs ys x y first next = ap (λ z. or_else z y) first ∙ ap (or_else (first_of xs)) next ∙ sym (first_of-append xs ys)

-- the same where the first list is one key
pub first_of-then : (o : Option (List ℕ)) (ys : List (Option (List ℕ))) (x y : Option (List ℕ)) → x ≡ o → y ≡ first_of ys → or_else x y ≡ first_of (o ∷ ys)
first_of-then None ys x y first next = ap (λ z. or_else z y) first ∙ next
first_of-then (Some key) ys x y first next = ap (λ z. or_else z y) first

-- where there is no first key, each place is empty
pub none_of : (xs : List (Option (List ℕ))) → first_of xs ≡ None → AllByRecursion (λ x. x ≡ None) xs
none_of [] h = tt
none_of (None ∷ xs) h = (refl, none_of xs h)
none_of (Some key ∷ xs) h = cc

pub first_of-one : (o : Option (List ℕ)) → o ≡ first_of (o ∷ [])
first_of-one None = refl
first_of-one (Some key) = refl
