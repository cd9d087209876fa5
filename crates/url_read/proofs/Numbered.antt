-- All the values of a list, found one by one.
use Rattle.std.proofs.Common.{◌≡◌, ℕ, ◌+◌, ◌<◌, ◌≤◌, List, [], ◌∷◌, ◌++◌, length, drop, get_or, map, Option, Some, None, Result, Ok, Err, refl, sym, ◌∙◌, ap, append-nil, arith, length-append}
use Rattle.std.proofs.lemmas.List.{append_assoc, at_drop_more, at_drop_all}
use Rattle.url_read.specs.Coordinates.{all_or_first, behind_one}

-- these values in front of what is found in the rest
abbrev pub onto : {B : Type 0} → List B → Result (List B) ℕ → Result (List B) ℕ
onto found (Ok more) = Ok (found ++ more)
onto found (Err number) = Err (length found + number)

onto-behind_one : {B : Type 0} (found : List B) (y : B) (r : Result (List B) ℕ) → onto found (behind_one y r) ≡ onto (found ++ y ∷ []) r
onto-behind_one found y (Ok more) = ap Ok (sym (append_assoc found (y ∷ []) more))
onto-behind_one found y (Err number) = let size = length-append found (y ∷ []) in ap Err (omega arith)

onto-nothing : {B : Type 0} (r : Result (List B) ℕ) → onto [] r ≡ r
onto-nothing (Ok more) = refl
onto-nothing (Err number) = ap Err (omega arith)

module _ {A B : Type 0} where
  abbrev pub found_in : (A → Option B) → List A → Result (List B) ℕ
  found_in f xs = all_or_first (map f xs)

  found_in-step : (f : A → Option B) (found : List B) (x : A) (xs : List A) (y : B) → f x ≡ Some y → onto found (found_in f (x ∷ xs)) ≡ onto (found ++ y ∷ []) (found_in f xs)
  found_in-step f found x xs y h = ap (λ o. onto found (all_or_first (o ∷ map f xs))) h ∙ onto-behind_one found y (found_in f xs)

  found_in-stop : (f : A → Option B) (found : List B) (x : A) (xs : List A) → f x ≡ None → onto found (found_in f (x ∷ xs)) ≡ Err (length found)
  found_in-stop f found x xs h = ap (λ o. onto found (all_or_first (o ∷ map f xs))) h ∙ ap Err (omega arith)

  -- the first values, and what is found in the rest, are what is found in the list
  pub record IsFound (f : A → Option B) (xs : List A) (found : List B) (count : ℕ) : Type 0 where
    pub size : length found ≡ count
    pub whole : onto found (found_in f (drop count xs)) ≡ found_in f xs

  module _ (f : A → Option B) (xs : List A) where
    pub IsFound-start : (found : List B) → found ≡ [] → IsFound f xs found 0
    IsFound-start found h = record {
      size = ap length h;
      whole = ap (λ ys. onto ys (found_in f xs)) h ∙ onto-nothing (found_in f xs);
    }

    -- one value more
    pub IsFound-more : (found : List B) (count : ℕ) (y : B) (d : A) → IsFound f xs found count → count < length xs → f (get_or xs count d) ≡ Some y → IsFound f xs (found ++ y ∷ []) (count + 1)
    IsFound-more found count y d before lt h =
        let size = length-append found (y ∷ []) in
        let old = before.size in
        record {
          size = omega arith;
          whole = sym (found_in-step f found (get_or xs count d) (drop (count + 1) xs) y h)
              ∙ sym (at_drop_more (λ rest. onto found (found_in f rest)) xs count d lt)
              ∙ before.whole;
        }

    -- a place without a value
    pub IsFound-stop : (found : List B) (count : ℕ) (d : A) → IsFound f xs found count → count < length xs → f (get_or xs count d) ≡ None → found_in f xs ≡ Err (length found)
    IsFound-stop found count d before lt h =
        sym before.whole
        ∙ at_drop_more (λ rest. onto found (found_in f rest)) xs count d lt
        ∙ found_in-stop f found (get_or xs count d) (drop (count + 1) xs) h

    -- all are there
    pub IsFound-all : (found : List B) (count : ℕ) → IsFound f xs found count → length xs ≤ count → found_in f xs ≡ Ok found
    IsFound-all found count before past =
        sym before.whole
        ∙ at_drop_all (λ rest. onto found (found_in f rest)) xs count past
        ∙ ap Ok (append-nil found)
