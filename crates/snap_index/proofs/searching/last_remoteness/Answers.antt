use Rattle.std.proofs.Common.{◌≡◌, ◌-◌, ◌<◌, ◌∙◌, arith, false, length, refl, sym}
use Rattle.std.specs.Prelude.{◌==◌, Some}
use Rattle.std.proofs.lemmas.Bool.Decides.{nat_tests}
use Rattle.snap_index.proofs.SlotLemmas.{read-is}
use Rattle.snap_index.proofs.searching.last_remoteness.Goals as goal

pub returns : goal.returns
returns c =
    let some : (length c.args.slots.now == 0) ≡ false = sym c.is_empty.ensures ∙ c.if-is_empty.false in
    let lt : length c.args.slots.now - 1 < length c.args.slots.now = grind (arith, nat_tests, some) in
    (c.in-Some.last, read-is c.args.slots.now (length c.args.slots.now - 1) _ (Some c.in-Some.last) lt c.in-Some.is, refl)
