-- What one read of a shared board gives its seat.
use Rattle.std.proofs.Common.{◌≡◌, ℕ, List, [], ◌∷◌, ◌++◌, Option, Some, Result, Ok, Err, IfOk, MatchBool, ◌==◌, true, Bool, sym, ap, ◌∙◌, subst, inr, arith}
use Rattle.std.proofs.lemmas.Option.{same_Some}
use Rattle.std.proofs.lemmas.Bool.Decides.{nat_tests}
use mathlib.Core.List.{IsPrefix}
use Rattle.std.specs.declared.alloc.AllocError.{AllocError}
use Rattle.metric_publish.specs.declared.entry.Entry.{Entry}
use Rattle.metric_publish.specs.declared.entry.View.{View}
use Rattle.metric_publish.specs.History.{last_of, IsKin, AreKin}
use Rattle.metric_publish.specs.Board.{Sees}
use Rattle.metric_publish.specs.Calls.{IsLast, ReadsOne, EnterGives, Entered, ReadGives}
use Rattle.metric_publish.proofs.Fronts.{prefix_trans}
use Rattle.metric_publish.proofs.Kin.{held_kin}

-- a word that was found as expected was exchanged
pub exchanged : (found len : ℕ) (P Q : Type 0) → found ≡ len → MatchBool (found == len) P Q → P
exchanged found len P Q same h =
    let is : (found == len) ≡ true = grind (arith, nat_tests) in subst (λ (b : Bool). MatchBool b P Q) is h

module _ {V : Type 0} where
  -- the step's tidings, by a copy of the front
  pub entered_at : (v w w' : View V) (list front : List (Entry V)) (e : Entry V) → Sees v list e.number w → last_of list ≡ Some e → front ≡ list → w' ≡ w → Entered v w' front
  entered_at v w w' list front e sees last same view = record {
    later = subst (λ (l : List (Entry V)). IsPrefix v.seen l) (sym same) sees.later;
    all = ap (λ (u : View V). u.seen) view ∙ (sees.all ∙ sym same);
    last = e;
    is_last = ap last_of same ∙ last;
    reads = ap (λ (u : View V). u.reads) view ∙ sees.reads;
  }

  pub given : {P : Type 0} (v w : View V) (list : P → List (Entry V)) (held : P → Result (Entry V) AllocError) (r : Option P) (p : P) → r ≡ Some p → ReadGives v w list held r → ReadGives v w list held (Some p)
  given {P} v w list held r p is h = subst (λ (o : Option P). ReadGives v w list held o) is h

  -- the beginning of what was seen before the read begins what is seen after it
  seen_before : (v w : View V) (seen front : List (Entry V)) → IsPrefix seen v.seen → Entered v w front → IsPrefix seen front
  seen_before v w seen front ahead h = prefix_trans seen v.seen front ahead h.later

  pub reads_one : (v w : View V) (seen learned front : List (Entry V)) (reads : List ℕ) → IsPrefix seen v.seen → IsPrefix learned v.seen → v.reads ≡ reads → Entered v w front → ReadsOne seen learned front (Some reads) (Some w.reads)
  reads_one v w seen learned front reads ahead known same h = (
    seen_before v w seen front ahead h,
    seen_before v w learned front known h,
    (h.last, h.is_last, ap Some (h.reads ∙ ap (λ (l : List ℕ). l ++ h.last.number ∷ []) same)),
  )

  -- an Enter by a reader that has caught up with what was learned
  pub enter_gives : (v w : View V) (seen learned front : List (Entry V)) (reads : List ℕ) (held : Result (Entry V) AllocError) → IsPrefix seen v.seen → IsPrefix learned v.seen → v.reads ≡ reads → Entered v w front → IfOk held (λ h. IsLast front h) → EnterGives seen learned front (Some reads) (Some w.reads) held
  enter_gives v w seen learned front reads (Ok held) ahead known same h last =
      let number : h.last.number ≡ held.number = ap (λ (u : Entry V). u.number) (same_Some _ _ (sym h.is_last ∙ last)) in (
        seen_before v w seen front ahead h,
        seen_before v w learned front known h,
        last,
        ap Some (h.reads ∙ (ap (λ (l : List ℕ). l ++ h.last.number ∷ []) same ∙ ap (λ (n : ℕ). reads ++ n ∷ []) number)),
      )
  enter_gives v w seen learned front reads (Err e) ahead known same h last = inr (reads_one v w seen learned front reads ahead known same h)

  -- what it holds is akin to what was seen before
  pub enter_kin : (akin : V → V → Type 0) (v w : View V) (seen front : List (Entry V)) (held : Result (Entry V) AllocError) → IsPrefix seen v.seen → Entered v w front → IfOk held (λ h. IsLast front h) → AreKin akin front → IfOk held (λ h. IsKin akin seen h.value)
  enter_kin akin v w seen front (Ok held) ahead h last kin =
      held_kin akin seen front held (seen_before v w seen front ahead h) last kin
  enter_kin akin v w seen front (Err e) ahead h last kin = tt
