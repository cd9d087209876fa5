-- Lists of values that may be none, read by their places; sums where both parts are there.
use Rattle.std.proofs.Common.{◌≡◌, ℕ, ◌+◌, ◌<◌, ◌≤◌, List, [], ◌∷◌, ◌++◌, Option, Some, None, Vec, length, slice_index_or, get_or, ◌⊎◌, inl, inr, refl, sym, ap, ◌∙◌, arith, map, length-append}
use Rattle.std.specs.Global.{Global}
use Rattle.std.specs.List.{slice_get}
use Rattle.std.specs.Option.{option_map}
use Rattle.std.proofs.lemmas.Bool.{cases_lt}
use Rattle.std.proofs.lemmas.List.{get_or_past}
use Rattle.std.proofs.Math.Nat.{eq-or-lt_of_le}
use Rattle.std.proofs.lemmas.Option.{get_or_from_slice_get, same_Some, slice_get-map, slice_get_read}
use Rattle.list_lemmas.proofs.Gets.{get_append, get_pushed, get_some}
use Rattle.search_graph.specs.declared.costs.WeightDurLen.{WeightDurLen}
use Rattle.through_query.specs.Layers.{befores_at, plain, sum_at}
use Rattle.through_query.specs.declared.sums.Sum.{Sum}

-- an element that was read, by any other value past the end
pub read_or : {X : Type 0} (xs : List X) (k : ℕ) (x d : X) → k < length xs → x ≡ get_or xs k x → get_or xs k d ≡ x
read_or xs k x d lt e = get_or_from_slice_get xs k x d (slice_get_read xs (length xs) k x refl lt e)

-- a list with one value more, read in front of it and at it
pub read_front : {X : Type 0} (none : X) (list : List X) (v : X) (k : ℕ) → k < length list → slice_index_or (list ++ v ∷ []) k none ≡ slice_index_or list k none
read_front none list v k lt =
    let g = get_some list k lt in
    get_or_from_slice_get (list ++ v ∷ []) k g.0 none (get_append list (v ∷ []) k g.0 g.1) ∙ sym (get_or_from_slice_get list k g.0 none g.1)

pub read_last : {X : Type 0} (none : X) (list : List X) (v : X) (k : ℕ) → k ≡ length list → slice_index_or (list ++ v ∷ []) k none ≡ v
read_last none list v k e = ap (λ i. slice_index_or (list ++ v ∷ []) i none) e ∙ get_or_from_slice_get (list ++ v ∷ []) (length list) v none (get_pushed list v)

pub longer : {X : Type 0} (list : List X) (v : X) (n : ℕ) → length list ≡ n → length (list ++ v ∷ []) ≡ n + 1
longer list v n e = let l = length-append list (v ∷ []) in omega (arith, l, e)

pub at_or_before : (n k : ℕ) → k < n + 1 → (k ≡ n) ⊎ (k < n)
at_or_before n k lt = let le : k ≤ n = omega arith in eq-or-lt_of_le le

-- past the end there is no value
pub some_within : {X : Type 0} (xs : List (Option X)) (k : ℕ) (x : X) → slice_index_or xs k None ≡ Some x → k < length xs
some_within {X} xs k x e = elim (cases_lt k (length xs)) [
  | inl lt ↦ lt
  | inr ge ↦ let z : slice_index_or xs k None ≡ None = get_or_past xs k None ge in absurd (let f : None ≡ Some x = sym z ∙ e in cc)
]

-- a cost at a state is that of a sum
pub told_some : (s : Option Sum) (c : WeightDurLen) → option_map plain s ≡ Some c → (t : Sum) × (s ≡ Some t) × (plain t ≡ c)
told_some None c e = cc
told_some (Some t) c e = (t, refl, same_Some (plain t) c e)

pub sum_within : (sums : List (Option Sum)) (x : ℕ) (c : WeightDurLen) → sum_at sums x ≡ Some c → x < length sums
sum_within sums x c e = let t = told_some (slice_index_or sums x None) c e in some_within sums x t.0 t.1

-- the states before those behind a leg, read from their vector
pub befores_read : (befores : List (Vec ℕ Global)) (k : ℕ) (row : Vec ℕ Global) → slice_get befores k ≡ Some row → befores_at befores k ≡ row.items
befores_read befores k row h =
    let f : Vec ℕ Global → List ℕ = λ v. v.items in
    get_or_from_slice_get (map f befores) k row.items [] (slice_get-map f befores k ∙ ap (option_map f) h)
