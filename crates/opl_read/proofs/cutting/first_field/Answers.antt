-- The first field ends before the first blank, which is ASCII, or with the text.
use Rattle.std.proofs.Common.{◌≡◌, ◌+◌, ◌<◌, List, ℕ, length, take, drop, get_or, sym, ap, ◌∙◌, Some, None, position, rules, subst}
use Rattle.opl_read.specs.Cutting.{is_blank, IsFirstField}
use Rattle.opl_read.proofs.FieldLaws.{begins_at, begins_behind, blank_is_ascii, field_at, field_alone}
use Rattle.list_lemmas.proofs.Splitting.{found_within, found_passes}
use Rattle.opl_read.proofs.cutting.first_field.Goals as goal

pub range-requires-clause-end_boundary : goal.range-requires-clause-end_boundary
range-requires-clause-end_boundary c =
    let rest = c.past_blanks-rest.result.now in
    let at = c.in-Some.at in
    let found : position is_blank rest ≡ Some at = ap (position is_blank) (sym c.as_bytes.ensures.value) ∙ sym c.in-Some.ensures in
    begins_at rest at (found_within is_blank rest at found) (blank_is_ascii (get_or rest at 0) (found_passes is_blank rest at found))

pub range_from-requires : goal.range_from-requires
range_from-requires c =
    let rest = c.past_blanks-rest.result.now in
    let at = c.in-Some.at in
    let found : position is_blank rest ≡ Some at = ap (position is_blank) (sym c.as_bytes.ensures.value) ∙ sym c.in-Some.ensures in
    λ _. begins_behind rest at c.past_blanks-rest.utf8 (found_within is_blank rest at found) (blank_is_ascii (get_or rest at 0) (found_passes is_blank rest at found))

pub returns-in-Some : goal.returns-in-Some
returns-in-Some c =
    let rest = c.past_blanks-rest.result.now in
    let at = c.in-Some.at in
    let found : position is_blank rest ≡ Some at = ap (position is_blank) (sym c.as_bytes.ensures.value) ∙ sym c.in-Some.ensures in
    let first : c.range.result.now ≡ take at rest = search rules in
    let behind : c.range_from.result.now ≡ drop (at + 1) rest = search rules in
    let field = field_at rest c.args.text.now at c.past_blanks-rest.ensures.fields c.past_blanks-rest.ensures.shorter c.past_blanks-rest.ensures.front found in
    subst (λ (a : List ℕ). IsFirstField c.args.text.now a c.range_from.result.now) (sym first)
    (subst (λ (b : List ℕ). IsFirstField c.args.text.now (take at rest) b) (sym behind) field)

pub returns-in-None : goal.returns-in-None
returns-in-None c =
    let rest = c.past_blanks-rest.result.now in
    let found : position is_blank rest ≡ None = ap (position is_blank) (sym c.as_bytes.ensures.value) ∙ sym c.in-None.ensures in
    let some : 0 < length rest = search rules in
    field_alone rest c.args.text.now c.past_blanks-rest.ensures.fields c.past_blanks-rest.ensures.shorter some found
