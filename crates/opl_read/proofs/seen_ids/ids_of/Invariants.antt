use Rattle.std.proofs.Common.{◌≡◌, ℤ, take}
use Rattle.std.specs.HashSet.{contains}
use Rattle.std.specs.Ordering.{int_eq}
use Rattle.opl_read.specs.Seen.{stood}
use Rattle.opl_read.proofs.seen_ids.ids_of.Given as goal

-- the ids of the objects so far
abbrev pub invariant-loop-object : goal.invariant-loop-object
invariant-loop-object l = (id : ℤ) → contains int_eq l.ids id ≡ stood l.kind (take l.object-index l.objects) id
