-- A `&str` is UTF-8.
use Rattle.std.proofs.Common.{subst}
use Rattle.std.specs.Str.{IsUtf8}
use Rattle.std.specs.String.{string_bytes}
use Rattle.std.proofs.lemmas.Str.{is_utf8-from_IsUtf8}
use Rattle.url_read.proofs.parting.characters.Goals as goal

pub returns-clause-utf8 : goal.returns-clause-utf8
returns-clause-utf8 c = is_utf8-from_IsUtf8 (string_bytes c.args.text.now) (subst IsUtf8 c.as_str.ensures.value c.as_str.utf8)
