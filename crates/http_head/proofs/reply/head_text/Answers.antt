use Rattle.std.proofs.Common.{rules, append_assoc}
use Rattle.http_head.proofs.reply.head_text.Goals as goal

pub returns : goal.returns
returns c = simp append_assoc (search rules)
