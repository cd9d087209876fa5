-- What the text of a line says is what the line says.
use Rattle.std.proofs.Common.{◌≡◌, List, ℕ, Option, Result, Ok, sym, ◌∙◌, subst}
use Rattle.std.specs.Str.{IsUtf8}
use Rattle.std.specs.Prelude.{IfOk, IfErr}
use Rattle.road_base.specs.declared.osm_objects.Object.{Object}
use Rattle.opl_read.specs.Faults.{IsLineErrorOf}
use Rattle.opl_read.specs.declared.line_faults.FaultKind.{FaultKind}
use Rattle.opl_read.proofs.LineLaws.{line_of-text, line_of-not_text}
use Rattle.opl_read.proofs.line_text.object_on.Goals as goal

pub returns-in-Ok-clause-object : goal.returns-in-Ok-clause-object
returns-in-Ok-clause-object c =
    let text = c.in-Ok.text.now in
    let same = line_of-text c.args.line.now text (c.in-Ok.ensures.cases.0 ∙ c.without_ending.ensures) (subst (λ (bytes : List ℕ). IsUtf8 bytes) (sym c.in-Ok.ensures.cases.0) c.in-Ok.ensures.cases.1) in
    subst (λ (r : Result (Option Object) FaultKind). IfOk c.object_in.result (λ object. r ≡ Ok object)) (sym same) c.object_in.ensures.object

pub returns-in-Ok-clause-fault : goal.returns-in-Ok-clause-fault
returns-in-Ok-clause-fault c =
    let text = c.in-Ok.text.now in
    let same = line_of-text c.args.line.now text (c.in-Ok.ensures.cases.0 ∙ c.without_ending.ensures) (subst (λ (bytes : List ℕ). IsUtf8 bytes) (sym c.in-Ok.ensures.cases.0) c.in-Ok.ensures.cases.1) in
    subst (λ (r : Result (Option Object) FaultKind). IfErr c.object_in.result (IsLineErrorOf r)) (sym same) c.object_in.ensures.fault

pub returns-in-Err-clause-fault : goal.returns-in-Err-clause-fault
returns-in-Err-clause-fault c = line_of-not_text c.args.line.now c.without_ending.result.now c.without_ending.ensures (c.in-Err.ensures.cases.0)
