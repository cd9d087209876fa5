use Rattle.via_restrictions.proofs.FindLemmas.{FindsUpTo}
use Rattle.via_restrictions.proofs.via_words.Vias.find.Given as goal

-- those of the courses so far are found
abbrev pub invariant-loop-i : goal.invariant-loop-i
invariant-loop-i l = FindsUpTo l.self.turning.roads.now l.self.turning.restrictions.now.kept l.self.rules.now l.i l.groups.items l.reached.ways l.reached.firsts
