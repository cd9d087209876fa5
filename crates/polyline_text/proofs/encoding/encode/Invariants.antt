use Rattle.std.proofs.Common.{◌≡◌, ◌++◌, drop, pos, negsuc, ◌≤ℤ◌, string_bytes}
use Rattle.polyline_text.specs.Encoding.{text_from, encoded}
use Rattle.polyline_text.proofs.encoding.encode.Given as goal

abbrev pub invariant-loop-point : goal.invariant-loop-point
invariant-loop-point l =
    record {
      text : string_bytes l.text ++ text_from l.fn.digits l.lat l.lon (drop l.point-index l.points) ≡ encoded l.fn.digits l.points;
      west : negsuc 179999999 ≤ℤ l.lon;
      east : l.lon ≤ℤ pos 180000000;
      south : negsuc 179999999 ≤ℤ l.lat;
      north : l.lat ≤ℤ pos 180000000;
    }
