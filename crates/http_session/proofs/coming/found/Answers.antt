use Rattle.std.proofs.Common.{◌<◌, length, arith}
use Rattle.http_session.proofs.GrowLaws.{none_found}
use Rattle.http_session.proofs.coming.found.Goals as goal

pub returns : goal.returns
returns c =
    let short : length c.args.unread.now < 8192 = omega (arith, c.len.ensures.count, c.len.ensures.room, c.if-len-eq-HEAD_LIMIT.false) in
    none_found c.as_slice.result.now c.args.unread.now c.as_slice.ensures c.in-More.ensures short
