use Rattle.std.proofs.Common.{refl}
use Rattle.json_text.specs.Values.{tenths}
use Rattle.json_text.proofs.writer.Json.tenths.Goals as goal

pub value-requires-clause-text : goal.value-requires-clause-text
value-requires-clause-text c = (tenths c.args.n, rw (c.format.ensures.text, c.digit-tenth.ensures) refl)
