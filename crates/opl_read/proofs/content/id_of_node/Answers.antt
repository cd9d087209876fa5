-- An id has no `x`, so what stands before its first is all of it.
use Rattle.std.proofs.Common.{◌≡◌, Some, eqb, sym, ap, ◌∙◌, rules}
use Rattle.std.specs.List.{before_first}
use Rattle.decimal_text.specs.ObjectId.{id_of}
use Rattle.opl_read.proofs.PlainIds.{before_no_x}
use Rattle.opl_read.proofs.content.id_of_node.Goals as goal

pub returns-in-Some : goal.returns-in-Some
returns-in-Some c =
    let same : Some c.in-Some.id ≡ id_of (before_first (λ b. eqb b 120) c.args.text.now) =
    c.in-Some.ensures ∙ ap id_of (sym (before_no_x c.args.text.now c.in-Some.id (sym c.in-Some.ensures))) in
    search rules
