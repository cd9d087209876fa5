-- A line that is text, and one that is none.
use Rattle.std.proofs.Common.{◌≡◌, ℕ, List, Bool, true, false, cond, Option, Result, Err, refl, sym, ◌∙◌, ap}
use Rattle.std.specs.Str.{IsUtf8, is_utf8}
use Rattle.std.proofs.lemmas.Str.{IsUtf8-from_is_utf8, is_utf8-from_IsUtf8}
use Rattle.road_base.specs.declared.osm_objects.Object.{Object}
use Rattle.opl_read.specs.LineText.{line_of, of_text, without_ending}
use Rattle.opl_read.specs.declared.line_faults.FaultKind.{FaultKind}
use Rattle.opl_read.specs.declared.line_faults.FaultKind.TheVariants.{NotUtf8}

pub line_of-text : (line text : List ℕ) → text ≡ without_ending line → IsUtf8 text → line_of line ≡ of_text text
unfolding line_of
line_of-text line text same utf8 =
    ap (λ t. cond (is_utf8 t) (of_text t) (Err NotUtf8)) (sym same)
    ∙ ap (λ (b : Bool). cond b (of_text text) (Err NotUtf8)) (is_utf8-from_IsUtf8 text utf8)

otherwise : (b : Bool) (r : Result (Option Object) FaultKind) → ¬ (b ≡ true) → cond b r (Err NotUtf8) ≡ Err NotUtf8
otherwise true r h = absurd (h refl)
otherwise false r h = refl

pub line_of-not_text : (line text : List ℕ) → text ≡ without_ending line → ¬ (IsUtf8 text) → line_of line ≡ Err NotUtf8
unfolding line_of
line_of-not_text line text same bad =
    ap (λ t. cond (is_utf8 t) (of_text t) (Err NotUtf8)) (sym same)
    ∙ otherwise (is_utf8 text) (of_text text) (λ e. bad (IsUtf8-from_is_utf8 text e))
