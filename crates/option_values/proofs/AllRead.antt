-- All the values of a list, read one by one.
use Rattle.std.proofs.Common.{◌≡◌, ℕ, ◌+◌, ◌<◌, ◌≤◌, List, [], ◌∷◌, ◌++◌, length, drop, get_or, map, Option, Some, None, option_map, refl, sym, ◌∙◌, ap, append-nil}
use Rattle.std.proofs.lemmas.List.{append_assoc, at_drop_more, at_drop_all}
use Rattle.option_values.specs.Values.{all_some}

-- these values in front of what is read of the rest
abbrev pub onto : {B : Type 0} → List B → Option (List B) → Option (List B)
onto found (Some more) = Some (found ++ more)
onto found None = None

onto-behind : {B : Type 0} (found : List B) (y : B) (r : Option (List B)) → onto found (option_map (λ ys. y ∷ ys) r) ≡ onto (found ++ y ∷ []) r
onto-behind found y (Some more) = ap Some (sym (append_assoc found (y ∷ []) more))
onto-behind found y None = refl

onto-nothing : {B : Type 0} (r : Option (List B)) → onto [] r ≡ r
onto-nothing (Some more) = refl
onto-nothing None = refl

module _ {A B : Type 0} where
  abbrev pub read_of : (A → Option B) → List A → Option (List B)
  read_of f xs = all_some (map f xs)

  read_of-step : (f : A → Option B) (found : List B) (x : A) (xs : List A) (y : B) → f x ≡ Some y → onto found (read_of f (x ∷ xs)) ≡ onto (found ++ y ∷ []) (read_of f xs)
  read_of-step f found x xs y h = ap (λ o. onto found (all_some (o ∷ map f xs))) h ∙ onto-behind found y (read_of f xs)

  read_of-stop : (f : A → Option B) (found : List B) (x : A) (xs : List A) → f x ≡ None → onto found (read_of f (x ∷ xs)) ≡ None
  read_of-stop f found x xs h = ap (λ o. onto found (all_some (o ∷ map f xs))) h

  -- the first values, and what is read of the rest, are what is read of the list
  pub record IsFound (f : A → Option B) (xs : List A) (found : List B) (count : ℕ) : Type 0 where
    pub whole : onto found (read_of f (drop count xs)) ≡ read_of f xs

  module _ (f : A → Option B) (xs : List A) where
    pub IsFound-start : (found : List B) → found ≡ [] → IsFound f xs found 0
    IsFound-start found h = record { whole = ap (λ ys. onto ys (read_of f xs)) h ∙ onto-nothing (read_of f xs) }

    -- one value more
    pub IsFound-more : (found : List B) (count : ℕ) (y : B) (d : A) → IsFound f xs found count → count < length xs → f (get_or xs count d) ≡ Some y → IsFound f xs (found ++ y ∷ []) (count + 1)
    IsFound-more found count y d before lt h = record {
      whole = sym (read_of-step f found (get_or xs count d) (drop (count + 1) xs) y h)
          ∙ sym (at_drop_more (λ rest. onto found (read_of f rest)) xs count d lt)
          ∙ before.whole;
    }

    -- a place without a value
    pub IsFound-stop : (found : List B) (count : ℕ) (d : A) → IsFound f xs found count → count < length xs → f (get_or xs count d) ≡ None → read_of f xs ≡ None
    IsFound-stop found count d before lt h =
        sym before.whole
        ∙ at_drop_more (λ rest. onto found (read_of f rest)) xs count d lt
        ∙ read_of-stop f found (get_or xs count d) (drop (count + 1) xs) h

    -- all are there
    pub IsFound-all : (found : List B) (count : ℕ) → IsFound f xs found count → length xs ≤ count → read_of f xs ≡ Some found
    IsFound-all found count before past =
        sym before.whole
        ∙ at_drop_all (λ rest. onto found (read_of f rest)) xs count past
        ∙ ap Some (append-nil found)
