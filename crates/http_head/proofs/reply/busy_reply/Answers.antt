use Rattle.std.proofs.Common.{refl}
use Rattle.std.specs.Fmt.{digits}
use Rattle.http_head.proofs.reply.busy_reply.Goals as goal

pub returns-then-close : goal.returns-then-close
unfolding digits
returns-then-close c = rw c.if-close.true refl

pub returns-else-close : goal.returns-else-close
unfolding digits
returns-else-close c = rw c.if-close.false refl
