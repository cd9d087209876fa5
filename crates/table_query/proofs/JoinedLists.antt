-- Lists joined to one, and what stands to the items of the one list.
use Rattle.std.proofs.Common.{◌≡◌, inl, inr, ℕ, zero, suc, ◌+◌, ◌-◌, ◌≤◌, List, [], ◌∷◌, ◌++◌, length, take, drop, Some, arith, refl, sym, subst, ap, ◌∙◌, length-append, append-nil, append_assoc}
use Rattle.std.specs.Prelude.{flat_map}
use Rattle.std.specs.List.{AllZip, Contains, slice_get}
use Rattle.std.proofs.lemmas.List.Elements.{Contains-append_cases, Contains-append_right}
use Rattle.std.proofs.lemmas.Option.{same_Some}
use Rattle.list_lemmas.proofs.Fronts.{take-get}

abbrev pub joined : {A : Type 0} → List (List A) → List A
joined lists = flat_map (λ list. list) lists

-- what stands to an item stands at its place
pub all_zip-second_at : {A B : Type 0} (R : A → B → Type 0) (xs : List A) (ys : List B) (k : ℕ) (x : A) → AllZip R xs ys → slice_get xs k ≡ Some x → (y : B) × (slice_get ys k ≡ Some y) × R x y
all_zip-second_at R [] [] k x h at = cc
all_zip-second_at R [] (b ∷ ys) k x h at = absurd h
all_zip-second_at R (a ∷ xs) [] k x h at = absurd h
all_zip-second_at R (a ∷ xs) (b ∷ ys) zero x h at = (b, refl, subst (λ z. R z b) (same_Some a x at) h.0)
all_zip-second_at R (a ∷ xs) (b ∷ ys) (suc k) x h at = all_zip-second_at R xs ys k x h.1 at

pub all_zip-first_at : {A B : Type 0} (R : A → B → Type 0) (xs : List A) (ys : List B) (k : ℕ) (y : B) → AllZip R xs ys → slice_get ys k ≡ Some y → (x : A) × (slice_get xs k ≡ Some x) × R x y
all_zip-first_at R [] [] k y h at = cc
all_zip-first_at R [] (b ∷ ys) k y h at = absurd h
all_zip-first_at R (a ∷ xs) [] k y h at = absurd h
all_zip-first_at R (a ∷ xs) (b ∷ ys) zero y h at = (a, refl, subst (λ z. R a z) (same_Some b y at) h.0)
all_zip-first_at R (a ∷ xs) (b ∷ ys) (suc k) y h at = all_zip-first_at R xs ys k y h.1 at

-- what holds of the items at each place holds of the lists
pub all_zip-from_each : {A B : Type 0} (R : A → B → Type 0) (xs : List A) (ys : List B) → length ys ≡ length xs → ((k : ℕ) (x : A) (y : B) → slice_get xs k ≡ Some x → slice_get ys k ≡ Some y → R x y) → AllZip R xs ys
all_zip-from_each R [] [] size h = tt
all_zip-from_each R [] (y ∷ ys) size h = absurd (omega arith)
all_zip-from_each R (x ∷ xs) [] size h = absurd (omega arith)
all_zip-from_each R (x ∷ xs) (y ∷ ys) size h = (h 0 x y refl refl, all_zip-from_each R xs ys (omega arith) (λ k a b at there. h (suc k) a b at there))

front : {A B : Type 0} (R : A → B → Type 0) (xs more : List A) (ys : List B) → AllZip R (xs ++ more) ys → AllZip R xs (take (length xs) ys)
front R [] more ys h = tt
front R (x ∷ xs) more [] h = absurd h
front R (x ∷ xs) more (y ∷ ys) h = (h.0, front R xs more ys h.1)

behind : {A B : Type 0} (R : A → B → Type 0) (xs more : List A) (ys : List B) → AllZip R (xs ++ more) ys → AllZip R more (drop (length xs) ys)
behind R [] more ys h = h
behind R (x ∷ xs) more [] h = absurd h
behind R (x ∷ xs) more (y ∷ ys) h = behind R xs more ys h.1

drop-nil : {B : Type 0} (n : ℕ) → drop {A = B} n [] ≡ []
drop-nil zero = refl
drop-nil (suc n) = refl

drops : {A B : Type 0} (xs more : List A) (ys : List B) → drop (length more) (drop (length xs) ys) ≡ drop (length (xs ++ more)) ys
drops [] more ys = refl
drops (x ∷ xs) more [] = drop-nil (length more)
drops (x ∷ xs) more (y ∷ ys) = drops xs more ys

-- to a list among them stands the part that begins behind the lists before it
pub all_zip-part : {A B : Type 0} (R : A → B → Type 0) (lists : List (List A)) (ys : List B) (k : ℕ) (list : List A) → AllZip R (joined lists) ys → slice_get lists k ≡ Some list
    → AllZip R list (take (length list) (drop (length (joined (take k lists))) ys))
all_zip-part R [] ys k list h at = cc
all_zip-part R (xs ∷ lists) ys zero list h at = subst (λ l. AllZip R l (take (length l) ys)) (same_Some xs list at) (front R xs (joined lists) ys h)
all_zip-part {A} {B} R (xs ∷ lists) ys (suc k) list h at =
    let rest = all_zip-part R lists (drop (length xs) ys) k list (behind R xs (joined lists) ys h) at in
    let n = length (joined (take k lists)) in
    let same : drop n (drop (length xs) ys) ≡ drop (length (xs ++ joined (take k lists))) ys = drops xs (joined (take k lists)) ys in
    subst (λ (l : List B). AllZip R list (take (length list) l)) same rest

joined-push : {A : Type 0} (lists : List (List A)) (list : List A) → joined (lists ++ list ∷ []) ≡ joined lists ++ list
joined-push [] list = append-nil list
joined-push (xs ∷ lists) list = ap (λ l. xs ++ l) (joined-push lists list) ∙ sym (append_assoc xs (joined lists) list)

-- one list more joins to what the lists before it do, with it behind
pub joined-more : {A : Type 0} (lists : List (List A)) (k : ℕ) (list : List A) → slice_get lists k ≡ Some list → joined (take (k + 1) lists) ≡ joined (take k lists) ++ list
joined-more lists k list at = ap joined (take-get lists k list at) ∙ joined-push (take k lists) list

-- and so has as many items more as it has
pub length-joined_more : {A : Type 0} (lists : List (List A)) (k : ℕ) (list : List A) → slice_get lists k ≡ Some list → length (joined (take (k + 1) lists)) ≡ length (joined (take k lists)) + length list
length-joined_more lists k list at = ap length (joined-more lists k list at) ∙ length-append (joined (take k lists)) list

-- and no more than all have
length-joined_within : {A : Type 0} (lists : List (List A)) (k : ℕ) (list : List A) → slice_get lists k ≡ Some list → length (joined (take k lists)) + length list ≤ length (joined lists)
length-joined_within [] k list at = cc
length-joined_within (xs ∷ lists) zero list at = let e = ap length (same_Some xs list at) in let one = length-append xs (joined lists) in omega (arith, e, one)
length-joined_within (xs ∷ lists) (suc k) list at =
    let rest = length-joined_within lists k list at in
    let one = length-append xs (joined (take k lists)) in
    let two = length-append xs (joined lists) in
    omega (arith, rest, one, two)

-- where the part of a list ends
pub part-within : {A B : Type 0} (lists : List (List A)) (all : List A) (ys : List B) (k from : ℕ) (list shown : List A) → all ≡ joined lists → length ys ≡ length all → from ≡ length (joined (take k lists)) → slice_get lists k ≡ Some list → shown ≡ list
    → from + length shown ≤ length ys
part-within lists all ys k from list shown is size begins at same =
    let within = length-joined_within lists k list at in
    omega (arith, within, ap length is, size, begins, ap length same)

-- the part of a list, however its ends are told
pub part-same : {B : Type 0} (ys shown : List B) (from begins n m : ℕ) → shown ≡ ys → from ≡ begins → m ≡ n → take (from + m - from) (drop from shown) ≡ take n (drop begins ys)
part-same ys shown from begins n m is begun size =
    let many : from + m - from ≡ n = omega (arith, size) in
    ap (λ k. take k (drop from shown)) many ∙ ap (λ k. take n (drop k shown)) begun ∙ ap (λ l. take n (drop begins l)) is

-- what is among all items is among those of a list
pub joined-inside : {A : Type 0} (lists : List (List A)) (x : A) → Contains (joined lists) x → (list : List A) × Contains lists list × Contains list x
joined-inside [] x h = absurd (omega (arith, h.1))
joined-inside (xs ∷ lists) x h = elim (Contains-append_cases xs (joined lists) x h) [
  | inl a ↦ (xs, (0, omega arith, refl), a)
  | inr b ↦ let rest = joined-inside lists x b in (rest.0, Contains-append_right (xs ∷ []) lists rest.0 rest.1, rest.2)
]
