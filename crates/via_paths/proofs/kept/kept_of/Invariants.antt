use Rattle.via_paths.specs.Tries.{AreKept}
use Rattle.via_paths.proofs.kept.kept_of.Given as goal

abbrev pub invariant-loop-k : goal.invariant-loop-k
invariant-loop-k l = AreKept l.ends.vertices l.fans l.kept
