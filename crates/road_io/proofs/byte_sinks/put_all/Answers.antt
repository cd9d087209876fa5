use Rattle.std.proofs.Common.{◌<◌, length, arith}
use Rattle.std.proofs.lemmas.Bool.Decides.{nat_tests}
use Rattle.std.proofs.lemmas.Grind.{common_steps}
use Rattle.std.proofs.lemmas.Result.{err_from_is_err_and}
use Rattle.road_io.proofs.PutLaws.{put_failed, put_more}
use Rattle.road_io.proofs.byte_sinks.put_all.Goals as goal

pub loop-rest-preserved : goal.loop-rest-preserved
loop-rest-preserved g c =
    let more = put_more _ _ _ _ _ _ c.loop-rest.invariant.put c.in_ok-count.ensures.bytes in
    grind (arith, common_steps, more)

-- the output failed while bytes were left
pub returns-in_err-count-clause-part : goal.returns-in_err-count-clause-part
returns-in_err-count-clause-part g c =
    let some : 0 < length c.loop-rest.rest.now = grind (arith, nat_tests) in
    let failed = err_from_is_err_and c.from_residual.result c.from_residual.ensures.1 in
    rw failed.1 (put_failed _ _ _ _ _ c.loop-rest.invariant.put some c.in_err-count.ensures.bytes)
