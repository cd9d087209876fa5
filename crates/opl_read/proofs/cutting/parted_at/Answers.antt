-- The parts round the first separator, which is ASCII.
use Rattle.std.proofs.Common.{◌≡◌, ◌∷◌, eqb, sym, ap, ap₂, ◌∙◌, arith, Some, position, rules}
use Rattle.std.specs.List.{slice_split, before_first, after_first}
use Rattle.opl_read.proofs.FieldLaws.{begins_at, begins_behind, byte_found}
use Rattle.list_lemmas.proofs.Splitting.{found_within, has_found, has_not_found, split_first, split_not_found}
use Rattle.opl_read.proofs.cutting.parted_at.Goals as goal

pub range-requires-clause-end_boundary : goal.range-requires-clause-end_boundary
range-requires-clause-end_boundary c =
    let text = c.args.text.now in
    let at = c.in-Some.at in
    let found : position (λ b. eqb b c.args.byte) text ≡ Some at = ap (position (λ b. eqb b c.args.byte)) (sym c.as_bytes.ensures.value) ∙ sym c.in-Some.ensures in
    begins_at text at (found_within (λ b. eqb b c.args.byte) text at found) (omega (arith, byte_found text at c.args.byte found, c.requires))

pub range_from-requires : goal.range_from-requires
range_from-requires c =
    let text = c.args.text.now in
    let at = c.in-Some.at in
    let found : position (λ b. eqb b c.args.byte) text ≡ Some at = ap (position (λ b. eqb b c.args.byte)) (sym c.as_bytes.ensures.value) ∙ sym c.in-Some.ensures in
    λ _. begins_behind text at c.utf8.text (found_within (λ b. eqb b c.args.byte) text at found) (omega (arith, byte_found text at c.args.byte found, c.requires))

pub returns-in-Some-clause-parts : goal.returns-in-Some-clause-parts
returns-in-Some-clause-parts c =
    let text = c.args.text.now in
    let found : position (λ b. eqb b c.args.byte) text ≡ Some c.in-Some.at = ap (position (λ b. eqb b c.args.byte)) (sym c.as_bytes.ensures.value) ∙ sym c.in-Some.ensures in
    let before : c.range.result.now ≡ before_first (λ b. eqb b c.args.byte) text = search rules in
    let after : c.range_from.result.now ≡ after_first (λ b. eqb b c.args.byte) text = search rules in
    split_first (λ b. eqb b c.args.byte) text c.in-Some.at found ∙ ap₂ (λ b a. b ∷ slice_split (λ b. eqb b c.args.byte) a) (sym before) (sym after)

pub returns-in-Some-clause-found : goal.returns-in-Some-clause-found
returns-in-Some-clause-found c =
    let found : position (λ b. eqb b c.args.byte) c.args.text.now ≡ Some c.in-Some.at = ap (position (λ b. eqb b c.args.byte)) (sym c.as_bytes.ensures.value) ∙ sym c.in-Some.ensures in
    sym (has_found (λ b. eqb b c.args.byte) c.args.text.now c.in-Some.at found)

pub returns-in-None-clause-none : goal.returns-in-None-clause-none
returns-in-None-clause-none c =
    λ _. split_not_found (λ b. eqb b c.args.byte) c.args.text.now (ap (position (λ b. eqb b c.args.byte)) (sym c.as_bytes.ensures.value) ∙ sym c.in-None.ensures)

pub returns-in-None-clause-found : goal.returns-in-None-clause-found
returns-in-None-clause-found c =
    sym (has_not_found (λ b. eqb b c.args.byte) c.args.text.now (ap (position (λ b. eqb b c.args.byte)) (sym c.as_bytes.ensures.value) ∙ sym c.in-None.ensures))
