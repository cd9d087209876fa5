-- One result is not two.
use Rattle.std.proofs.Common.{◌≡◌, ℕ, Result, Ok, Err}

pub same_ok : {A : Type 0} (x y : A) (r : Result A ℕ) → r ≡ Ok x → r ≡ Ok y → x ≡ y
same_ok x y r first second = cc

pub same_err : {A : Type 0} (o p : ℕ) (r : Result A ℕ) → r ≡ Err o → r ≡ Err p → o ≡ p
same_err o p r first second = cc

pub not_both : {A : Type 0} (x : A) (o : ℕ) (r : Result A ℕ) → r ≡ Ok x → r ≡ Err o → ⊥
not_both x o r first second = cc
