-- A text without `%` stands for itself.
use Rattle.std.proofs.Common.{◌≡◌, eqb, None, position, rules}
use Rattle.opl_read.proofs.Escaping.{unescaped-plain}
use Rattle.opl_read.proofs.escapes.is_plain.Goals as goal

pub returns : goal.returns
returns c =
    let written = c.args.written.now in
    λ plain. let none : position (λ b. eqb b 37) written ≡ None = search rules in unescaped-plain written none
