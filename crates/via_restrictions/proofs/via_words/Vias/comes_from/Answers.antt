use Rattle.std.proofs.Common.{arith}
use Rattle.via_restrictions.proofs.ViaLemmas.{below-opposite}
use Rattle.via_restrictions.proofs.via_words.Vias.comes_from.Goals as goal

pub may_follow-requires-clause-from : goal.may_follow-requires-clause-from
may_follow-requires-clause-from c = omega (arith, c.other_way.ensures, below-opposite c.args.self.now.turning.roads.now c.args.e c.requires.vertex)
