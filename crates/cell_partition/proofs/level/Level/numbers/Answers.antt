use Rattle.cell_partition.proofs.Nested.{numbers_ready, numbers_made}
use Rattle.cell_partition.proofs.level.Level.numbers.Goals as goal

pub numbers_of-requires : goal.numbers_of-requires
numbers_of-requires c = numbers_ready c.args.self.now _ _ c.deref.ensures.value c.deref-2.ensures.value c.requires.kept c.requires.parted

pub returns-clause-numbers : goal.returns-clause-numbers
returns-clause-numbers c = numbers_made c.args.self.now _ _ _ c.deref.ensures.value c.deref-2.ensures.value c.requires.parted c.in_ok-numbers.ensures.numbers
