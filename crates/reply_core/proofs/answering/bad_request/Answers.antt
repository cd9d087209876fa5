-- The text is that of the value.
use Rattle.std.proofs.Common.{◌∙◌}
use Rattle.refusal_texts.specs.Refusals.{bad_request_value}
use Rattle.reply_core.proofs.answering.bad_request.Goals as goal

pub returns-clause-says : goal.returns-clause-says
returns-clause-says c = c.refusal.ensures.says bad_request_value (c.in_ok-text.ensures.ok ∙ c.bad_request_text.ensures.value)
