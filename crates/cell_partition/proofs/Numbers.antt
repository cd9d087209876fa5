-- The number of the cell that holds a vertex.
use Rattle.std.proofs.Common.{◌≡◌, ℕ, ◌+◌, ◌<◌, ◌≤◌, Bool, true, false, ◌||◌, cond, eqb, List, [], ◌∷◌, ◌++◌, length, drop, get_or, Contains, refl, sym, ap, ◌∙◌, subst, arith, zero, suc, add-one, inl, inr, ◌⊎◌, ⊎_elim}
use Rattle.std.specs.List.{list_any, count_by}
use Rattle.std.proofs.lemmas.List.{drop_more}
use Rattle.std.proofs.lemmas.List.Folds.{list_any-append}
use Rattle.std.proofs.lemmas.List.Sums.{sum_by-append, sum_by-cons}
use Rattle.std.proofs.lemmas.Bool.Decides.{nat_tests}
use Rattle.std.proofs.lemmas.Map.Views.{Contains-from_any, list_any-from_Contains}
use Rattle.std.proofs.lemmas.Cmp.{nat_eq_equiv}
use Rattle.cell_partition.specs.Bounds.{joined, cell_at}
use Rattle.cell_partition.specs.Partition.{number_of}

-- whether a vertex is in a list
abbrev pub has : ℕ → List ℕ → Bool
has vertex xs = list_any (eqb vertex) xs

pub or_false : (a b : Bool) → (a || b) ≡ false → (a ≡ false) × (b ≡ false)
or_false false b h = (refl, h)
or_false true b h = absurd (cc h)

pub or_rest : (a b : Bool) → a ≡ false → (a || b) ≡ true → b ≡ true
or_rest a b h e = rw h at e

or_first : (a b : Bool) → a ≡ true → (a || b) ≡ true
or_first a b h = rw h refl

pub has_joined : (vertex : ℕ) (cell : List ℕ) (cells : List (List ℕ)) → has vertex (joined (cell ∷ cells)) ≡ (has vertex cell || has vertex (joined cells))
has_joined vertex cell cells = list_any-append (eqb vertex) cell (joined cells)

-- the two cases of the first cell
pub number_here : (vertex : ℕ) (cell : List ℕ) (cells : List (List ℕ)) → has vertex cell ≡ true → number_of (cell ∷ cells) vertex ≡ 0
number_here vertex cell cells h = rw h refl

pub number_later : (vertex : ℕ) (cell : List ℕ) (cells : List (List ℕ)) → has vertex cell ≡ false → number_of (cell ∷ cells) vertex ≡ number_of cells vertex + 1
number_later vertex cell cells h = rw h refl

abbrev pub Cases : Bool → Type 0
Cases b = (b ≡ true) ⊎ (b ≡ false)

pub cases : (b : Bool) → Cases b
cases true = inl refl
cases false = inr refl

pub number_inside : (vertex : ℕ) (cells : List (List ℕ)) → has vertex (joined cells) ≡ true → number_of cells vertex < length cells
number_inside vertex [] h = absurd (cc h)
number_inside vertex (cell ∷ cells) h =
    ⊎_elim
    (λ (here : has vertex cell ≡ true). omega (arith, number_here vertex cell cells here))
    (λ (later : has vertex cell ≡ false).
    let rest : number_of cells vertex < length cells = number_inside vertex cells (or_rest (has vertex cell) (has vertex (joined cells)) later (sym (has_joined vertex cell cells) ∙ h)) in
    omega (arith, number_later vertex cell cells later))
    (cases (has vertex cell))

pub number-append_inside : (vertex : ℕ) (xs ys : List (List ℕ)) → has vertex (joined xs) ≡ true → number_of (xs ++ ys) vertex ≡ number_of xs vertex
number-append_inside vertex [] ys h = absurd (cc h)
number-append_inside vertex (cell ∷ xs) ys h =
    ⊎_elim
    (λ (here : has vertex cell ≡ true). number_here vertex cell (xs ++ ys) here ∙ sym (number_here vertex cell xs here))
    (λ (later : has vertex cell ≡ false).
    number_later vertex cell (xs ++ ys) later
    ∙ ap (λ n. n + 1) (number-append_inside vertex xs ys (or_rest (has vertex cell) (has vertex (joined xs)) later (sym (has_joined vertex cell xs) ∙ h)))
    ∙ sym (number_later vertex cell xs later))
    (cases (has vertex cell))

pub number-append_outside : (vertex : ℕ) (xs ys : List (List ℕ)) → has vertex (joined xs) ≡ false → number_of (xs ++ ys) vertex ≡ length xs + number_of ys vertex
number-append_outside vertex [] ys h = omega arith
number-append_outside vertex (cell ∷ xs) ys h =
    let none = or_false (has vertex cell) (has vertex (joined xs)) (sym (has_joined vertex cell xs) ∙ h) in
    let rest : number_of (xs ++ ys) vertex ≡ length xs + number_of ys vertex = number-append_outside vertex xs ys none.1 in
    number_later vertex cell (xs ++ ys) none.0 ∙ omega arith

or_second : (a b : Bool) → b ≡ true → (a || b) ≡ true
or_second true b h = refl
or_second false b h = h

same_from_eqb : (x y : ℕ) → eqb x y ≡ true → x ≡ y
same_from_eqb x y e = grind (arith, nat_tests)

pub contains_has : (vertex : ℕ) (xs : List ℕ) → has vertex xs ≡ true → Contains xs vertex
contains_has vertex xs h = Contains-from_any {eq = eqb} (λ (x : ℕ) (y : ℕ) (e : eqb x y ≡ true). same_from_eqb x y e) vertex xs h

pub has_contains : (vertex : ℕ) (xs : List ℕ) → Contains xs vertex → has vertex xs ≡ true
has_contains vertex xs h = list_any-from_Contains nat_eq_equiv vertex xs h

pub number_member : (vertex : ℕ) (cells : List (List ℕ)) → has vertex (joined cells) ≡ true → Contains (cell_at cells (number_of cells vertex)) vertex
number_member vertex [] h = absurd (cc h)
number_member vertex (cell ∷ cells) h =
    ⊎_elim
    (λ (here : has vertex cell ≡ true).
    let P : ℕ → Type 0 = λ n. Contains (cell_at (cell ∷ cells) n) vertex in
    subst P (sym (number_here vertex cell cells here)) (contains_has vertex cell here))
    (λ (later : has vertex cell ≡ false).
    let P : ℕ → Type 0 = λ n. Contains (cell_at (cell ∷ cells) n) vertex in
    subst P (sym (number_later vertex cell cells later ∙ add-one (number_of cells vertex)))
    (number_member vertex cells (or_rest (has vertex cell) (has vertex (joined cells)) later (sym (has_joined vertex cell cells) ∙ h))))
    (cases (has vertex cell))

-- how often a vertex is in a list
abbrev pub times : ℕ → List ℕ → ℕ
times vertex xs = count_by (eqb vertex) xs

pub times-append : (vertex : ℕ) (xs ys : List ℕ) → times vertex (xs ++ ys) ≡ times vertex xs + times vertex ys
times-append vertex xs ys = sum_by-append (λ x. cond (eqb vertex x) 1 0) xs ys

pub times-cons : (vertex x : ℕ) (xs : List ℕ) → times vertex (x ∷ xs) ≡ cond (eqb vertex x) 1 0 + times vertex xs
times-cons vertex x xs = sum_by-cons (λ x. cond (eqb vertex x) 1 0) x xs

has_once : (b r : Bool) (n m : ℕ) → m ≡ cond b 1 0 + n → (b || r) ≡ true → (r ≡ true → 1 ≤ n) → 1 ≤ m
has_once true r n m e h rest = omega (arith, e)
has_once false r n m e h rest = omega (arith, e, rest h)

pub times_has : (vertex : ℕ) (xs : List ℕ) → has vertex xs ≡ true → 1 ≤ times vertex xs
times_has vertex [] h = absurd (cc h)
times_has vertex (x ∷ xs) h = has_once (eqb vertex x) (has vertex xs) (times vertex xs) (times vertex (x ∷ xs)) (times-cons vertex x xs) h (times_has vertex xs)

pub has_joined_at : (vertex : ℕ) (cells : List (List ℕ)) (k : ℕ) → Contains (cell_at cells k) vertex → has vertex (joined cells) ≡ true
has_joined_at vertex [] k h = absurd (omega (arith, h.1))
has_joined_at vertex (cell ∷ cells) zero h = has_joined vertex cell cells ∙ or_first (has vertex cell) (has vertex (joined cells)) (has_contains vertex cell h)
has_joined_at vertex (cell ∷ cells) (suc k) h = has_joined vertex cell cells ∙ or_second (has vertex cell) (has vertex (joined cells)) (has_joined_at vertex cells k h)

-- a vertex that stands once has the number of the cell that it stands in
pub number_only : (vertex : ℕ) (cells : List (List ℕ)) (k : ℕ) → times vertex (joined cells) ≤ 1 → Contains (cell_at cells k) vertex → number_of cells vertex ≡ k
number_only vertex [] k once h = absurd (omega (arith, h.1))
number_only vertex (cell ∷ cells) zero once h = number_here vertex cell cells (has_contains vertex cell h)
number_only vertex (cell ∷ cells) (suc k) once h =
    let two : times vertex (cell ++ joined cells) ≡ times vertex cell + times vertex (joined cells) = times-append vertex cell (joined cells) in
    let later : 1 ≤ times vertex (joined cells) = times_has vertex (joined cells) (has_joined_at vertex cells k h) in
    ⊎_elim
    (λ (here : has vertex cell ≡ true). absurd (omega (arith, times_has vertex cell here)))
    (λ (none : has vertex cell ≡ false).
    let rest : number_of cells vertex ≡ k = number_only vertex cells k (omega arith) h in
    number_later vertex cell cells none ∙ add-one (number_of cells vertex) ∙ ap suc rest)
    (cases (has vertex cell))

-- one more cell has its number written at its members
pub numbered_more : (cells : List (List ℕ)) (k : ℕ) (members old new : List ℕ) → k < length cells → members ≡ cell_at cells k
    → ((vertex : ℕ) → has vertex members ≡ true → get_or new vertex 0 ≡ k)
    → ((vertex : ℕ) → has vertex members ≡ false → get_or new vertex 0 ≡ get_or old vertex 0)
    → ((vertex : ℕ) → has vertex (joined (drop (k + 1) cells)) ≡ true → get_or old vertex 0 ≡ k + 1 + number_of (drop (k + 1) cells) vertex)
    → (vertex : ℕ) → has vertex (joined (drop k cells)) ≡ true → get_or new vertex 0 ≡ k + number_of (drop k cells) vertex
numbered_more cells k members old new h is here there rest vertex any =
    let cell = cell_at cells k in
    let others = drop (k + 1) cells in
    let split : drop k cells ≡ cell ∷ others = drop_more cells k [] h in
    let inside : has vertex (joined (cell ∷ others)) ≡ true = ap (λ cs. has vertex (joined cs)) (sym split) ∙ any in
    ap-goal cells k new vertex cell others split
    (⊎_elim
    (λ (yes : has vertex cell ≡ true).
    let at : get_or new vertex 0 ≡ k = here vertex (ap (has vertex) is ∙ yes) in
    omega (arith, at, number_here vertex cell others yes))
    (λ (no : has vertex cell ≡ false).
    let same : get_or new vertex 0 ≡ get_or old vertex 0 = there vertex (ap (has vertex) is ∙ no) in
    let so : get_or old vertex 0 ≡ k + 1 + number_of others vertex = rest vertex (or_rest (has vertex cell) (has vertex (joined others)) no (sym (has_joined vertex cell others) ∙ inside)) in
    omega (arith, same, so, number_later vertex cell others no))
    (cases (has vertex cell)))
  where
    ap-goal : (cells : List (List ℕ)) (k : ℕ) (new : List ℕ) (vertex : ℕ) (cell : List ℕ) (others : List (List ℕ)) → drop k cells ≡ cell ∷ others → get_or new vertex 0 ≡ k + number_of (cell ∷ others) vertex → get_or new vertex 0 ≡ k + number_of (drop k cells) vertex
    ap-goal cells k new vertex cell others split e = e ∙ ap (λ (cs : List (List ℕ)). k + number_of cs vertex) (sym split)
