-- Going through the lines from the first one finds the first faulty one, or the objects of all.
use Rattle.std.proofs.Common.{◌≡◌, ℕ, zero, suc, ◌+◌, ◌<◌, ◌≤◌, ◌⊎◌, inl, inr, Bool, true, false, cond, ◌||◌, List, [], ◌∷◌, ◌++◌, length, take, drop, get_or, Option, Some, None, Result, Ok, Err, refl, sym, ◌∙◌, ap, subst, arith, append_assoc, length-drop, take_all, ◌-◌}
use Rattle.std.specs.List.{list_any}
use Rattle.std.proofs.lemmas.Bool.{cases_lt, or_cases, false≢true}
use Rattle.std.proofs.lemmas.List.{append-nil, drop_more, take_more}
use Rattle.std.proofs.lemmas.List.Folds.{list_any-append}
use Rattle.road_base.specs.declared.osm_objects.Object.{Object}
use Rattle.opl_read.specs.LineText.{line_of}
use Rattle.opl_read.specs.Objects.{is_same, at_line, after_line, objects_after, opl_objects, lines_of}
use Rattle.opl_read.specs.ReadLines.{object_on, objects_on, HasEarlier, IsFaultAt, AreFaultless, AreObjectsOf, IsReadAs, IsFirstFaultOf}
use Rattle.opl_read.specs.Faults.{IsFaultOf}
use Rattle.opl_read.specs.declared.line_faults.FaultKind.{FaultKind}
use Rattle.opl_read.specs.declared.line_faults.FaultKind.TheVariants.{Duplicate}
use Rattle.opl_read.specs.declared.line_faults.LineFault.{LineFault}
use Rattle.opl_read.specs.declared.line_faults.ReadFault.{ReadFault}
use Rattle.opl_read.specs.declared.line_faults.ReadFault.TheVariants.{Line, Memory}

-- whether one of the objects is of this one's kind and id
abbrev stood : Object → List Object → Bool
stood object objects = list_any (λ earlier. is_same earlier object) objects

objects_on-push : (lines : List (List ℕ)) (line : List ℕ) → objects_on (lines ++ line ∷ []) ≡ objects_on lines ++ object_on (line_of line)
objects_on-push [] line = append-nil (object_on (line_of line))
objects_on-push (first ∷ lines) line =
    ap (λ more. object_on (line_of first) ++ more) (objects_on-push lines line) ∙ sym (append_assoc (object_on (line_of first)) (objects_on lines) (object_on (line_of line)))

on_line : (r : Result (Option Object) FaultKind) (object : Object) → stood object (object_on r) ≡ true → (earlier : Object) × (r ≡ Ok (Some earlier)) × (is_same earlier object ≡ true)
on_line (Ok (Some earlier)) object h = (
  earlier,
  refl,
  elim (or_cases (is_same earlier object) false h) [
    | inl same ↦ same
    | inr wrong ↦ cc
  ],
)
on_line (Ok None) object h = cc
on_line (Err kind) object h = cc

-- an object that stood in front has a line there
any-earlier : (lines : List (List ℕ)) (k : ℕ) (object : Object) → stood object (objects_on (take k lines)) ≡ true → HasEarlier lines k object
any-earlier lines zero object h = cc
any-earlier [] (suc k) object h = cc
any-earlier (line ∷ lines) (suc k) object h =
    elim (or_cases (stood object (object_on (line_of line))) (stood object (objects_on (take k lines))) (sym (list_any-append (λ earlier. is_same earlier object) (object_on (line_of line)) (objects_on (take k lines))) ∙ h)) [
      | inl here ↦ let found = on_line (line_of line) object here in (0, found.0, omega arith, found.1, found.2)
      | inr later ↦ let found = any-earlier lines k object later in let lt = found.2 in (suc found.0, found.1, omega arith, found.3, found.4)
    ]

either : (a b : Bool) → (a ≡ true) ⊎ (b ≡ true) → (a || b) ≡ true
either true b h = refl
either false true h = refl
either false false h = elim h [
  | inl wrong ↦ wrong
  | inr wrong ↦ wrong
]

-- and one whose line is there stood in front
earlier-any : (lines : List (List ℕ)) (k : ℕ) (object : Object) → k ≤ length lines → HasEarlier lines k object → stood object (objects_on (take k lines)) ≡ true
earlier-any lines zero object within h = let lt = h.2 in absurd (omega arith)
earlier-any [] (suc k) object within h = absurd (omega arith)
earlier-any (line ∷ lines) (suc k) object within (zero, earlier, lt, here, same) =
    list_any-append (λ earlier. is_same earlier object) (object_on (line_of line)) (objects_on (take k lines))
    ∙ either (stood object (object_on (line_of line))) (stood object (objects_on (take k lines)))
    (inl (ap (λ r. stood object (object_on r)) here ∙ either (is_same earlier object) false (inl same)))
earlier-any (line ∷ lines) (suc k) object within (suc j, earlier, lt, here, same) =
    list_any-append (λ earlier. is_same earlier object) (object_on (line_of line)) (objects_on (take k lines))
    ∙ either (stood object (object_on (line_of line))) (stood object (objects_on (take k lines)))
    (inr (earlier-any lines k object (omega arith) (j, earlier, omega arith, here, same)))

faultless-more : (lines : List (List ℕ)) (k : ℕ) → AreFaultless lines k → ((kind : FaultKind) → ¬ (IsFaultAt lines k kind)) → AreFaultless lines (k + 1)
faultless-more lines k before here i lt kind fault = elim (cases_lt i k) [
  | inl less ↦ before i less kind fault
  | inr least ↦ let same : i ≡ k = omega arith in here kind (subst (λ (n : ℕ). IsFaultAt lines n kind) same fault)
]

-- a line without an object has no fault
no_fault-None : (lines : List (List ℕ)) (k : ℕ) → line_of (get_or lines k []) ≡ Ok None → (kind : FaultKind) → ¬ (IsFaultAt lines k kind)
no_fault-None lines k e kind fault = elim fault [
  | inl own ↦ cc
  | inr twice ↦ let h = twice.2 in cc
]

same_object : (r : Result (Option Object) FaultKind) (a b : Object) → r ≡ Ok (Some a) → r ≡ Ok (Some b) → b ≡ a
same_object r a b h e = cc

-- nor has one whose object wasn't there
no_fault-Some : (lines : List (List ℕ)) (k : ℕ) (object : Object) → k ≤ length lines → line_of (get_or lines k []) ≡ Ok (Some object) → stood object (objects_on (take k lines)) ≡ false
    → (kind : FaultKind) → ¬ (IsFaultAt lines k kind)
no_fault-Some lines k object within e fresh kind fault = elim fault [
  | inl own ↦ cc
  | inr twice ↦
      let same = same_object (line_of (get_or lines k [])) object twice.0 e twice.2 in
      let earlier = subst (λ (o : Object). HasEarlier lines k o) same twice.3 in
      false≢true (sym fresh ∙ earlier-any lines k object within earlier)
]

module _ (lines : List (List ℕ)) (k : ℕ) (objects : List Object) (within : k < length lines) (same : objects ≡ objects_on (take k lines)) (faultless : AreFaultless lines k) where
  abbrev line : List ℕ
  line = get_or lines k []

  kept : (r : Result (Option Object) FaultKind) → line_of line ≡ r → objects ++ object_on r ≡ objects_on (take (k + 1) lines)
  kept r e = ap (λ os. os ++ object_on r) same ∙ ap (λ found. objects_on (take k lines) ++ object_on found) (sym e) ∙ sym (objects_on-push (take k lines) line) ∙ ap objects_on (sym (take_more lines k [] within))

  with_object : (object : Object) (b : Bool) → stood object objects ≡ b → line_of line ≡ Ok (Some object) → (next : List Object → Result (List Object) LineFault)
      → ((more : List Object) → more ≡ objects_on (take (k + 1) lines) → AreFaultless lines (k + 1) → IsReadAs lines (next more))
      → IsReadAs lines (cond b (at_line (k + 1) Duplicate) (next (objects ++ object ∷ [])))
  with_object object true there e next then =
      (k, within, refl, faultless, inr (object, refl, e, any-earlier lines k object (ap (stood object) (sym same) ∙ there)))
  with_object object false fresh e next then =
      then (objects ++ object ∷ []) (kept (Ok (Some object)) e) (faultless-more lines k faultless (no_fault-Some lines k object (omega arith) e (ap (stood object) (sym same) ∙ fresh)))

  one_line : (r : Result (Option Object) FaultKind) → line_of line ≡ r → (next : List Object → Result (List Object) LineFault)
      → ((more : List Object) → more ≡ objects_on (take (k + 1) lines) → AreFaultless lines (k + 1) → IsReadAs lines (next more))
      → IsReadAs lines (after_line k objects r next)
  one_line (Err kind) e next then = (k, within, refl, faultless, inl e)
  one_line (Ok None) e next then = then objects (sym (append-nil objects) ∙ kept (Ok None) e) (faultless-more lines k faultless (no_fault-None lines k e))
  one_line (Ok (Some object)) e next then = with_object object (stood object objects) refl e next then

cons-same : (a b : List ℕ) (front behind : List (List ℕ)) → a ∷ front ≡ b ∷ behind → (a ≡ b) × (front ≡ behind)
cons-same a b front behind e = (cc, cc)

lines-read : (lines rest : List (List ℕ)) (k : ℕ) (objects : List Object) → drop k lines ≡ rest → k ≤ length lines → objects ≡ objects_on (take k lines) → AreFaultless lines k
    → IsReadAs lines (objects_after k objects rest)
lines-read lines [] k objects split le same faultless =
    let size : length lines - k ≡ 0 = sym (length-drop k lines) ∙ ap length split in
    let all : k ≡ length lines = omega arith in
    record {
      faultless = subst (λ (n : ℕ). AreFaultless lines n) all faultless;
      in_order = same ∙ ap objects_on (take_all k lines (omega arith));
    }
lines-read lines (line ∷ more) k objects split le same faultless =
    let size : length lines - k ≡ suc (length more) = sym (length-drop k lines) ∙ ap length split in
    let within : k < length lines = omega arith in
    let parts = cons-same (get_or lines k []) line (drop (k + 1) lines) more (sym (drop_more lines k [] within) ∙ split) in
    subst (λ (l : List ℕ). IsReadAs lines (after_line k objects (line_of l) (λ kept. objects_after (k + 1) kept more))) parts.0
    (one_line lines k objects within same faultless (line_of (get_or lines k [])) refl (λ kept. objects_after (k + 1) kept more)
    (λ kept are clean. lines-read lines more (k + 1) kept parts.1 (omega arith) are clean))

-- what is read of a text is what its lines say
pub opl_objects-read : (text : List ℕ) → IsReadAs (lines_of text) (opl_objects text)
unfolding opl_objects
opl_objects-read text = lines-read (lines_of text) (lines_of text) 0 [] refl (omega arith) refl (λ k lt. absurd (omega arith))

pub read-objects : (text : List ℕ) (objects : List Object) → opl_objects text ≡ Ok objects → AreObjectsOf (lines_of text) objects
read-objects text objects e = subst (λ (r : Result (List Object) LineFault). IsReadAs (lines_of text) r) e (opl_objects-read text)

pub read-fault : (text : List ℕ) (fault : ReadFault) → IsFaultOf (opl_objects text) fault → IsFirstFaultOf (lines_of text) fault
read-fault text (Line fault) e = subst (λ (r : Result (List Object) LineFault). IsReadAs (lines_of text) r) e (opl_objects-read text)
read-fault text Memory e = tt
