-- One line more.
use Rattle.std.proofs.Common.{◌≡◌, ℕ, ◌+◌, ◌<◌, Bool, true, false, not, cond, List, [], ◌∷◌, ◌++◌, length, get_or, refl, sym, ◌∙◌, ap, Some, Ok, inl, inr}
use Rattle.std.proofs.lemmas.Bool.{cases_Bool, false≢true}
use Rattle.std.specs.List.{list_any}
use Rattle.std.proofs.lemmas.List.Quantifiers.{all_pairs_push}
use Rattle.std.proofs.lemmas.List.Recursion.{or_at}
use Rattle.road_base.specs.declared.osm_objects.Object.{Object}
use Rattle.opl_read.specs.declared.line_faults.FaultKind.TheVariants.{Duplicate}
use Rattle.opl_read.specs.LineText.{line_of}
use Rattle.opl_read.specs.Objects.{AreDistinct, is_same, at_line, after_line, objects_after, opl_objects, lines_of}

-- a line with an object that wasn't there
pub objects_after-more : (before : ℕ) (objects : List Object) (lines : List (List ℕ)) (line : List ℕ) (more : List (List ℕ)) (object : Object)
    → lines ≡ line ∷ more → line_of line ≡ Ok (Some object) → list_any (λ earlier. is_same earlier object) objects ≡ false
    → objects_after before objects lines ≡ objects_after (before + 1) (objects ++ object ∷ []) more
objects_after-more before objects lines line more object split here fresh =
    ap (objects_after before objects) split
    ∙ ap (λ r. after_line before objects r (λ kept. objects_after (before + 1) kept more)) here
    ∙ ap (λ (b : Bool). cond b (at_line (before + 1) Duplicate) (objects_after (before + 1) (objects ++ object ∷ []) more)) fresh

-- a line with an object that was there
pub objects_after-twice : (before : ℕ) (objects : List Object) (lines : List (List ℕ)) (line : List ℕ) (more : List (List ℕ)) (object : Object)
    → lines ≡ line ∷ more → line_of line ≡ Ok (Some object) → list_any (λ earlier. is_same earlier object) objects ≡ true
    → objects_after before objects lines ≡ at_line (before + 1) Duplicate
objects_after-twice before objects lines line more object split here there =
    ap (objects_after before objects) split
    ∙ ap (λ r. after_line before objects r (λ kept. objects_after (before + 1) kept more)) here
    ∙ ap (λ (b : Bool). cond b (at_line (before + 1) Duplicate) (objects_after (before + 1) (objects ++ object ∷ []) more)) there

pub objects_after-start : (objects : List Object) (text : List ℕ) → objects ≡ [] → objects_after 0 objects (lines_of text) ≡ opl_objects text
unfolding opl_objects
objects_after-start objects text none = ap (λ os. objects_after 0 os (lines_of text)) none

-- no object is of the same kind and id, at any place
fresh_at : (objects : List Object) (object : Object) (k : ℕ) (d : Object) → list_any (λ earlier. is_same earlier object) objects ≡ false → k < length objects → is_same (get_or objects k d) object ≡ false
fresh_at objects object k d fresh lt = elim (cases_Bool (is_same (get_or objects k d) object)) [
  | inl same ↦ absurd (false≢true (sym fresh ∙ or_at (list_any (λ earlier. is_same earlier object)) (λ earlier. is_same earlier object) refl (λ _ _. refl) objects k d lt same))
  | inr differs ↦ differs
]

pub AreDistinct-push : (objects : List Object) (object : Object) → AreDistinct objects → list_any (λ earlier. is_same earlier object) objects ≡ false → AreDistinct (objects ++ object ∷ [])
AreDistinct-push objects object distinct fresh =
    all_pairs_push (λ a b. is_same a b ≡ false) objects object distinct (λ k d lt. fresh_at objects object k d fresh lt)

pub not_there : (added there : Bool) → added ≡ not there → added ≡ true → there ≡ false
not_there added true e was_added = cc
not_there added false e was_added = refl

pub was_there : (added there : Bool) → added ≡ not there → added ≡ false → there ≡ true
was_there added true e was_added = refl
was_there added false e was_added = cc
