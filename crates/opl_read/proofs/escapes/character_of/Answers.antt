-- `from_str_radix` reads hexadecimal digits that fit.
use Rattle.std.proofs.Common.{◌≡◌, true, rules}
use Rattle.opl_read.specs.Escapes.{is_hex}
use Rattle.opl_read.proofs.HexDigits.{read-hex}
use Rattle.opl_read.proofs.escapes.character_of.Goals as goal

pub returns-in-Err : goal.returns-in-Err
returns-in-Err c =
    let hex : is_hex c.args.digits.now ≡ true = search rules in
    absurd (c.in-Err.ensures.value (read-hex c.args.digits.now hex))
