-- The first element of a list that lacks something.
use Rattle.std.specs.Prelude.{◌≡◌, ℕ, ◌<◌, List, Some, take}
use Rattle.std.specs.List.{AllZip, slice_get}
use Rattle.std.proofs.Common.{◌∙◌}
use Rattle.list_lemmas.proofs.Fronts.{all_zip-second, slice_get-take}

-- number n is that of the first of the list, from 0, that fails; those before it pass
pub record IsFirstFailure {A : Type 0} (Passes Fails : A → Type 0) (all : List A) (n : ℕ) : Type 0 where
  pub it : A
  pub is_there : slice_get all n ≡ Some it
  pub fails : Fails it
  pub before : (k : ℕ) (one : A) → k < n → slice_get all k ≡ Some one → Passes one

-- where those before it have what was asked of each, and it fails, it is the first that fails
pub first_failure : {A B : Type 0} (R : A → B → Type 0) (Passes Fails : A → Type 0) (xs : List A) (ys : List B) (n : ℕ) (x : A) → ((a : A) (b : B) → R a b → Passes a)
    → AllZip R (take n xs) ys → slice_get xs n ≡ Some x → Fails x → IsFirstFailure Passes Fails xs n
first_failure R Passes Fails xs ys n x passes h at fails = record {
  it = x;
  is_there = at;
  fails = fails;
  before = λ k one lt there. let pair = all_zip-second R (take n xs) ys k one h (slice_get-take xs n k lt ∙ there) in passes one pair.0 pair.1;
}
