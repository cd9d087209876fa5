use Rattle.std.proofs.Common.{◌∙◌, append-nil}
use Rattle.json_text.specs.Values.{text}
use Rattle.json_text.proofs.writer.Json.text.Goals as goal

pub value-requires-clause-text : goal.value-requires-clause-text
value-requires-clause-text c = (text c.args.t.now, append-nil _ ∙ c.as_str.ensures.value ∙ c.in_ok-quoted.ensures)
