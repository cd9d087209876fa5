use Rattle.std.proofs.Common.{◌≡◌, length}
use Rattle.road_base.specs.TagBytes.{tags_in}
use Rattle.road_base.specs.TagValue.{value_of}
use Rattle.road_base.proofs.tag_lists.value_in.Given as goal

-- no tag so far has the key
abbrev pub invariant-loop-found : goal.invariant-loop-found
invariant-loop-found l = value_of (tags_in l.bytes) l.key ≡ value_of (tags_in l.rest) l.key

abbrev pub decreases-loop-found : goal.decreases-loop-found
decreases-loop-found l = length l.rest
