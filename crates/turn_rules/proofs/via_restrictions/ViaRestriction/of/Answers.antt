use Rattle.turn_rules.proofs.via_restrictions.ViaRestriction.of.Goals as goal

pub returns-in-Some-clause-value : goal.returns-in-Some-clause-value
returns-in-Some-clause-value c = rw (← c.in-Some.ensures, ← c.as_slice.ensures) c.restriction_under.ensures.value
