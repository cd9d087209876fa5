use Rattle.std.proofs.Common.{refl}
use Rattle.json_text.specs.Values.{null}
use Rattle.json_text.proofs.writer.Json.null.Goals as goal

pub value-requires-clause-text : goal.value-requires-clause-text
value-requires-clause-text c = (null, refl)
