use Rattle.turn_rules.proofs.restrictions.Restriction.of.Goals as goal

pub returns-in-Some : goal.returns-in-Some
returns-in-Some c = rw (← c.in-Some.ensures, ← c.as_slice.ensures) c.restriction_under.ensures
