use Rattle.std.proofs.Common.{refl}
use Rattle.json.specs.Print.{escape_byte}
use Rattle.refusal_texts.proofs.refusals.busy_text.Goals as goal

-- the word needs no escapes
pub returns-clause-value : goal.returns-clause-value
unfolding escape_byte
returns-clause-value c = refl
