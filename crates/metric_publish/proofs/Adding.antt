-- The exchange that adds an entry keeps the rule.
use Rattle.std.proofs.Common.{◌≡◌, ℕ, ◌+◌, ◌<◌, ◌==◌, Bool, true, false, List, [], ◌∷◌, ◌++◌, length, refl, ap, sym, subst, arith, inl, length-append, None}
use Rattle.std.proofs.lemmas.List.{append-nil}
use Rattle.std.proofs.lemmas.Bool.Decides.{nat_tests}
use mathlib.Core.List.{IsPrefix}
use prog.Atomic.{either}
use Rattle.logbook.specs.Pages.{Cell, cell, keeps, no_nib, step, Moves, Goes}
use Rattle.metric_publish.specs.declared.entry.Entry.{Entry}
use Rattle.metric_publish.specs.History.{IsKept, IsRun, AreKin, MayFollow, Adds}
use Rattle.metric_publish.proofs.Fronts.{prefix_whole}

module _ {V : Type 0} (kin : V → V → Type 0) where
  abbrev pub shown : List (Entry V) → List (Entry V)
  shown log = []

  abbrev pub moved : List (Entry V) → List (Entry V) → ℕ → Type 0
  moved xs ys n = Unit {0}

  pub adds_goes : (log v : List (Entry V)) (e : Entry V) (old : ℕ) → length v ≡ old → MayFollow v e → AreKin kin (v ++ e ∷ []) → IsRun log → AreKin kin log → IsPrefix v log
      → (b : Bool) → (length log == old) ≡ b
      → Goes (IsKept kin) shown moved 0 (v, (no_nib, None)) (λ n. either (n == old) (old + 1) n) (Adds (step 0 old (old + 1) e) (v, (no_nib, None))) ((length log, true) ∷ (0, true) ∷ []) log
  adds_goes log v e old len may same_kin runs kin_is pre true is =
      let here : length log ≡ old = grind (arith, nat_tests) in
      let same : v ≡ log = prefix_whole v log pre (omega arith) in
      let runs' : IsRun (log ++ e ∷ []) = subst (λ (l : List (Entry V)). IsRun (l ++ e ∷ [])) same may in
      let kin' : AreKin kin (log ++ e ∷ []) = subst (λ (l : List (Entry V)). AreKin kin (l ++ e ∷ [])) same same_kin in
      let n : either (length log == old) (old + 1) (length log) ≡ length (log ++ e ∷ []) = rw is (omega (arith, length-append log (e ∷ []))) in (
        keeps,
        e ∷ [],
        None,
        tt,
        record { words = ap (λ (k : ℕ). (k, true) ∷ (0, true) ∷ []) n; runs = runs'; kin_is = kin' },
        inl (refl, refl),
        rw is (ap (λ (w : List (Entry V)). w ++ e ∷ []) (sym same)),
      )
  adds_goes log v e old len may same_kin runs kin_is pre false is =
      let all : log ++ [] ≡ log = append-nil log in
      let runs' : IsRun (log ++ []) = subst IsRun (sym all) runs in
      let kin' : AreKin kin (log ++ []) = subst (AreKin kin) (sym all) kin_is in
      let n : either (length log == old) (old + 1) (length log) ≡ length (log ++ []) = rw is (ap length (sym all)) in (
        keeps,
        [],
        None,
        tt,
        record { words = ap (λ (k : ℕ). (k, true) ∷ (0, true) ∷ []) n; runs = runs'; kin_is = kin' },
        inl (refl, refl),
        rw is (ap length all),
      )

  -- whatever the history is, the exchange adds the entry to all that was seen, or finds that it is longer
  pub adds_moves : (v : List (Entry V)) (e : Entry V) (old : ℕ) → length v ≡ old → MayFollow v e → AreKin kin (v ++ e ∷ [])
      → Moves (IsKept kin) shown moved 0 (v, (no_nib, None)) (λ n. either (n == old) (old + 1) n) (Adds (step 0 old (old + 1) e) (v, (no_nib, None)))
  adds_moves v e old len may same_kin cs log kept pre away =
      let P : List Cell → Type 0 = λ c. (0 < length c) × ((cell c 0).1 ≡ true) × Goes (IsKept kin) shown moved 0 (v, (no_nib, None)) (λ n. either (n == old) (old + 1) n) (Adds (step 0 old (old + 1) e) (v, (no_nib, None))) c log in
      subst P (sym kept.words) (omega arith, refl, adds_goes log v e old len may same_kin kept.runs kept.kin_is pre (length log == old) refl)
