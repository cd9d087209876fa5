use Rattle.std.proofs.Common.{pos, ◌∙◌, append-nil}
use Rattle.json_text.specs.Values.{whole}
use Rattle.json_text.proofs.writer.Json.count.Goals as goal

pub value-requires-clause-text : goal.value-requires-clause-text
value-requires-clause-text c = (whole (pos c.args.n), append-nil _ ∙ c.format.ensures.text)
