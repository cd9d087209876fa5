-- An id above all that were seen is new, and the greatest from now on.
use Rattle.std.proofs.Common.{not, sym, ap, arith, rules, w64, FitsSigned}
use Rattle.std.proofs.lemmas.Int.{ints, to_z-of_z}
use Rattle.opl_read.specs.Seen.{stood}
use Rattle.opl_read.proofs.SeenLaws.{none_above}
use Rattle.opl_read.proofs.seen_ids.KindIds.insert.Goals as goal

pub returns-then-are_below-clause-added : goal.returns-then-are_below-clause-added
returns-then-are_below-clause-added c =
    let fits : FitsSigned w64 c.args.id = search rules in
    let none = simp to_z-of_z at c.are_below.ensures in
    ap not (sym (none c.if-are_below.true (stood c.args.kind c.args.objects.now) c.requires c.args.id (omega (arith, ints))))

pub returns-then-are_below-clause-kept : goal.returns-then-are_below-clause-kept
returns-then-are_below-clause-kept c = λ id lt.
    let fits : FitsSigned w64 c.args.id = search rules in
    let none = simp to_z-of_z at c.are_below.ensures in
    none_above (stood c.args.kind c.args.objects.now) c.args.id (none c.if-are_below.true (stood c.args.kind c.args.objects.now) c.requires) id (simp to_z-of_z at lt)
