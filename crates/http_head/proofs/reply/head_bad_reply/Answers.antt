use Rattle.std.proofs.Common.{refl}
use Rattle.std.specs.Fmt.{digits}
use Rattle.http_head.proofs.reply.head_bad_reply.Goals as goal

pub returns : goal.returns
unfolding digits
returns c = refl
