-- Parts one behind another, and their bounds.
use Rattle.std.proofs.Common.{◌≡◌, ℕ, ◌+◌, ◌-◌, ◌<◌, ◌≤◌, List, [], ◌∷◌, ◌++◌, length, take, drop, get_or, map, All, refl, sym, ap, ◌∙◌, subst, arith, zero, suc, add-one, length-append}
use Rattle.std.proofs.lemmas.List.{append-nil, append_assoc, take_at, drop_at, map-append}
use Rattle.std.proofs.lemmas.List.Concat.{flat_map-append}
use Rattle.std.proofs.lemmas.List.Elements.{All-head, All-tail}
use Rattle.cell_partition.specs.Bounds.{joined, ends, bounds_of, parts_from, parts_at, cell_at}

pub joined-append : {X : Type 0} (xs ys : List (List X)) → joined (xs ++ ys) ≡ joined xs ++ joined ys
joined-append xs ys = flat_map-append (λ part. part) xs ys

pub joined-map : {X Y : Type 0} (f : X → Y) (parts : List (List X)) → joined (map (λ part. map f part) parts) ≡ map f (joined parts)
joined-map f [] = refl
joined-map f (part ∷ parts) = ap (λ rest. map f part ++ rest) (joined-map f parts) ∙ sym (map-append f part (joined parts))

pub length-ends : {X : Type 0} (start : ℕ) (parts : List (List X)) → length (ends start parts) ≡ length parts
length-ends start [] = refl
length-ends start (part ∷ parts) = ap suc (length-ends (start + length part) parts)

pub ends-append : {X : Type 0} (start : ℕ) (xs ys : List (List X)) → ends start (xs ++ ys) ≡ ends start xs ++ ends (start + length (joined xs)) ys
ends-append start [] ys = ap (λ n. ends n ys) (omega arith)
ends-append start (x ∷ xs) ys =
    let at : start + length x + length (joined xs) ≡ start + length (x ++ joined xs) = omega (arith, length-append x (joined xs)) in
    ap (λ rest. (start + length x) ∷ rest) (ends-append (start + length x) xs ys ∙ ap (λ n. ends (start + length x) xs ++ ends n ys) at)

-- each bound is what lies before it
pub bound_is : {X : Type 0} (start : ℕ) (parts : List (List X)) (k : ℕ) → k ≤ length parts → get_or (start ∷ ends start parts) k 0 ≡ start + length (joined (take k parts))
bound_is start parts zero h = omega arith
bound_is start [] (suc k) h = absurd (omega arith)
bound_is start (part ∷ parts) (suc k) h =
    let rest : get_or ((start + length part) ∷ ends (start + length part) parts) k 0 ≡ start + length part + length (joined (take k parts)) = bound_is (start + length part) parts k (omega arith) in
    omega (arith, rest, length-append part (joined (take k parts)))

pub joined_split : {X : Type 0} (parts : List (List X)) (k : ℕ) → k < length parts → joined parts ≡ joined (take k parts) ++ (cell_at parts k ++ joined (drop (suc k) parts))
joined_split [] k h = absurd (omega arith)
joined_split (part ∷ parts) zero h = refl
joined_split (part ∷ parts) (suc k) h =
    ap (λ rest. part ++ rest) (joined_split parts k (omega arith)) ∙ sym (append_assoc part (joined (take k parts)) (cell_at parts k ++ joined (drop (suc k) parts)))

pub joined_more : {X : Type 0} (parts : List (List X)) (k : ℕ) → k < length parts → joined (take (suc k) parts) ≡ joined (take k parts) ++ cell_at parts k
joined_more [] k h = absurd (omega arith)
joined_more (part ∷ parts) zero h = append-nil part
joined_more (part ∷ parts) (suc k) h =
    ap (λ rest. part ++ rest) (joined_more parts k (omega arith)) ∙ sym (append_assoc part (joined (take k parts)) (cell_at parts k))

-- what lies between two bounds
pub record IsBetween {X : Type 0} (parts : List (List X)) (xs : List X) (k start end : ℕ) : Type 0 where
  pub ordered : start ≤ end
  pub inside : end ≤ length xs
  pub part : take (end - start) (drop start xs) ≡ cell_at parts k
  pub before : start ≡ length (joined (take k parts))
  pub size : end ≡ start + length (cell_at parts k)

is_between : {X : Type 0} (parts : List (List X)) (k start end : ℕ) → k < length parts → start ≡ get_or (bounds_of parts) k 0 → end ≡ get_or (bounds_of parts) (k + 1) 0
    → IsBetween parts (joined parts) k start end
is_between parts k start end h s e =
    let s' : start ≡ length (joined (take k parts)) = omega (arith, s, bound_is 0 parts k (omega arith)) in
    let e1 : get_or (bounds_of parts) (k + 1) 0 ≡ length (joined (take (k + 1) parts)) = omega (arith, bound_is 0 parts (k + 1) (omega arith)) in
    let e2 : end ≡ length (joined (take (suc k) parts)) = e ∙ e1 ∙ ap (λ n. length (joined (take n parts))) (add-one k) in
    let more : length (joined (take (suc k) parts)) ≡ length (joined (take k parts)) + length (cell_at parts k) = ap length (joined_more parts k h) ∙ length-append (joined (take k parts)) (cell_at parts k) in
    let all : length (joined parts) ≡ length (joined (take k parts)) + (length (cell_at parts k) + length (joined (drop (suc k) parts))) =
    ap length (joined_split parts k h) ∙ length-append (joined (take k parts)) (cell_at parts k ++ joined (drop (suc k) parts)) ∙ ap (λ n. length (joined (take k parts)) + n) (length-append (cell_at parts k) (joined (drop (suc k) parts))) in
    let size : end - start ≡ length (cell_at parts k) = omega arith in
    let dropped : drop start (joined parts) ≡ cell_at parts k ++ joined (drop (suc k) parts) =
    ap (drop start) (joined_split parts k h) ∙ drop_at (joined (take k parts)) (cell_at parts k ++ joined (drop (suc k) parts)) start (sym s') in
    record {
      ordered = omega arith;
      inside = omega arith;
      part = ap (λ xs. take (end - start) xs) dropped ∙ take_at (cell_at parts k) (joined (drop (suc k) parts)) (end - start) (sym size);
      before = s';
      size = omega arith;
    }

pub between_bounds : {X : Type 0} (parts : List (List X)) (bounds : List ℕ) (xs : List X) (k : ℕ) → bounds ≡ bounds_of parts → xs ≡ joined parts → k < length parts
    → IsBetween parts xs k (get_or bounds k 0) (get_or bounds (k + 1) 0)
between_bounds parts bounds xs k b x h =
    let P : List ℕ → Type 0 = λ (bs : List ℕ). IsBetween parts xs k (get_or bs k 0) (get_or bs (k + 1) 0) in
    let at : IsBetween parts (joined parts) k (get_or (bounds_of parts) k 0) (get_or (bounds_of parts) (k + 1) 0) = is_between parts k (get_or (bounds_of parts) k 0) (get_or (bounds_of parts) (k + 1) 0) h refl refl in
    subst P (sym b) (subst (λ ys. IsBetween parts ys k (get_or (bounds_of parts) k 0) (get_or (bounds_of parts) (k + 1) 0)) (sym x) at)

-- a bound more than parts
pub length-bounds : {X : Type 0} (parts : List (List X)) (bounds : List ℕ) → bounds ≡ bounds_of parts → length bounds ≡ length parts + 1
length-bounds parts bounds b = ap length b ∙ ap suc (length-ends 0 parts) ∙ sym (add-one (length parts))

parts_from-ends : {X : Type 0} (start : ℕ) (parts : List (List X)) → parts_from start (ends start parts) (joined parts) ≡ parts
parts_from-ends start [] = refl
parts_from-ends start (part ∷ parts) =
    let size : start + length part - start ≡ length part = omega arith in
    let first : take (start + length part - start) (part ++ joined parts) ≡ part = take_at part (joined parts) (start + length part - start) (sym size) in
    let rest : drop (start + length part - start) (part ++ joined parts) ≡ joined parts = drop_at part (joined parts) (start + length part - start) (sym size) in
    ap (λ p. p ∷ parts_from (start + length part) (ends (start + length part) parts) (drop (start + length part - start) (part ++ joined parts))) first
    ∙ ap (λ xs. part ∷ parts_from (start + length part) (ends (start + length part) parts) xs) rest
    ∙ ap (λ ps. part ∷ ps) (parts_from-ends (start + length part) parts)

-- the parts of a list are found again by their bounds
pub parts_at-bounds_of : {X : Type 0} (parts : List (List X)) → parts_at (bounds_of parts) (joined parts) ≡ parts
parts_at-bounds_of parts = parts_from-ends 0 parts

-- parts that each hold something are no more than what they hold
pub length-le-joined : {X : Type 0} (parts : List (List X)) → All (λ part. 0 < length part) parts → length parts ≤ length (joined parts)
length-le-joined [] all = omega arith
length-le-joined (part ∷ parts) all =
    let some : 0 < length part = All-head (λ part. 0 < length part) part parts all in
    let rest : length parts ≤ length (joined parts) = length-le-joined parts (All-tail (λ part. 0 < length part) part parts all) in
    omega (arith, length-append part (joined parts))
