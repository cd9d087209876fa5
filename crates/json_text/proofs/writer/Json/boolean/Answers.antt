use Rattle.std.proofs.Common.{◌∙◌, append-nil}
use Rattle.json_text.specs.Values.{boolean}
use Rattle.json_text.proofs.writer.Json.boolean.Goals as goal

pub value-requires-clause-text : goal.value-requires-clause-text
value-requires-clause-text c = (boolean c.args.b, append-nil _ ∙ c.boolean_text.ensures)
