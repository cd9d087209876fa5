-- The parts of the value are its hints.
use Rattle.std.proofs.Common.{◌≡◌, Some, rules}
use Rattle.option_values.specs.Values.{all_read, hint_of}
use Rattle.option_values.proofs.EachRead.{all_read-hints}
use Rattle.option_values.proofs.entries.hints_each.Goals as goal

pub returns-then-len-count-clause-hints : goal.returns-then-len-count-clause-hints
returns-then-len-count-clause-hints c =
    let all : all_read hint_of c.in-Some.value.now ≡ Some c.in_ok-hints.hints.items = all_read-hints c.in-Some.value.now c.in_ok-hints.hints.items c.in_ok-hints.ensures in
    search rules

pub returns-else-len-count-clause-hints : goal.returns-else-len-count-clause-hints
returns-else-len-count-clause-hints c =
    let all : all_read hint_of c.in-Some.value.now ≡ Some c.in_ok-hints.hints.items = all_read-hints c.in-Some.value.now c.in_ok-hints.hints.items c.in_ok-hints.ensures in
    search rules
