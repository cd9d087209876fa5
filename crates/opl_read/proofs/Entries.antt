-- The entries of a field, one by one.
use Rattle.std.proofs.Common.{◌≡◌, ℕ, eqb, List, [], ◌∷◌, ◌++◌, append_assoc, map, Result, Ok, Err, refl, sym, ◌∙◌, ap}
use Rattle.std.specs.List.{slice_split}
use Rattle.opl_read.specs.Faults.{mapped, all_of}
use Rattle.opl_read.specs.declared.line_faults.FaultKind.{FaultKind}

-- these values in front of what the entries of a text are
abbrev pub onto : {A : Type 0} → (List ℕ → Result A FaultKind) → List A → List ℕ → Result (List A) FaultKind
onto f values text = mapped (λ more. values ++ more) (all_of (map f (slice_split (λ b. eqb b 44) text)))

Ok-same : {A : Type 0} (xs ys : A) → ◌≡◌ {A = Result A FaultKind} (Ok xs) (Ok ys) → xs ≡ ys
Ok-same xs ys e = cc

module _ {A : Type 0} (values kept : List A) where
  two_steps : (x : A) (r : Result (List A) FaultKind) → values ++ x ∷ [] ≡ kept → mapped (λ more. kept ++ more) r ≡ mapped (λ more. values ++ more) (mapped (λ xs. x ∷ xs) r)
  two_steps x (Ok xs) e = ap (λ front. Ok (front ++ xs)) (sym e) ∙ ap Ok (append_assoc values (x ∷ []) xs)
  two_steps x (Err kind) e = refl

  one_more : (r : Result A FaultKind) (more : List (Result A FaultKind)) → mapped (λ x. values ++ x ∷ []) r ≡ Ok kept
      → mapped (λ all. kept ++ all) (all_of more) ≡ mapped (λ all. values ++ all) (all_of (r ∷ more))
  one_more (Ok x) more e = two_steps x (all_of more) (Ok-same (values ++ x ∷ []) kept e)
  one_more (Err kind) more e = cc

  last_one : (r : Result A FaultKind) → mapped (λ x. values ++ x ∷ []) r ≡ Ok kept → mapped (λ all. values ++ all) (all_of (r ∷ [])) ≡ Ok kept
  last_one (Ok x) e = e
  last_one (Err kind) e = cc

  module _ (f : List ℕ → Result A FaultKind) where
    -- one entry more
    pub onto-more : (text entry more : List ℕ) → slice_split (λ b. eqb b 44) text ≡ entry ∷ slice_split (λ b. eqb b 44) more
        → mapped (λ x. values ++ x ∷ []) (f entry) ≡ Ok kept → onto f kept more ≡ onto f values text
    onto-more text entry more split e =
        one_more (f entry) (map f (slice_split (λ b. eqb b 44) more)) e ∙ ap (λ parts. mapped (λ all. values ++ all) (all_of (map f parts))) (sym split)

    -- the last entry
    pub onto-last : (text : List ℕ) → slice_split (λ b. eqb b 44) text ≡ text ∷ [] → mapped (λ x. values ++ x ∷ []) (f text) ≡ Ok kept → onto f values text ≡ Ok kept
    onto-last text split e = ap (λ parts. mapped (λ all. values ++ all) (all_of (map f parts))) split ∙ last_one (f text) e
