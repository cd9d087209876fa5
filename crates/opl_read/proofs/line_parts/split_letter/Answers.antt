-- A letter of a field is one byte.
use Rattle.std.proofs.Common.{◌<◌, length, get_or, rules}
use Rattle.opl_read.proofs.FieldLaws.{begins_behind}
use Rattle.opl_read.proofs.line_parts.split_letter.Goals as goal

pub range_from-requires : goal.range_from-requires
range_from-requires c =
    let field = c.args.field.now in
    let some : 0 < length field = search rules in
    let ascii : get_or field 0 0 < 128 = search rules in
    λ _. begins_behind field 0 c.utf8.field some ascii
