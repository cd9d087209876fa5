use Rattle.std.proofs.Common.{◌≡◌, rules, ◌∙◌, append-nil}
use Rattle.std.specs.Fmt.{signed_decimal}
use Rattle.json_text.specs.Values.{whole}
use Rattle.json_text.proofs.writer.Json.whole.Goals as goal

pub value-requires-clause-text : goal.value-requires-clause-text
value-requires-clause-text c =
    let text : c.format.result.now ≡ signed_decimal c.args.n = search rules in
    (whole c.args.n, append-nil _ ∙ text)
