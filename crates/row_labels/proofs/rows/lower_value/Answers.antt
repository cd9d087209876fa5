-- An offer that isn't less is left.
use Rattle.std.proofs.Common.{rules, ◌≡◌, false, Some, None, ◌∙◌, ap}
use Rattle.std.specs.Ordering.{is_lt}
use Rattle.std.proofs.lemmas.Option.{get_or_from_slice_get}
use Rattle.row_labels.proofs.Lowering.{left_alone}
use Rattle.row_labels.proofs.rows.lower_value.Goals as goal

pub returns-then-not-is_lt-clause-lowers : goal.returns-then-not-is_lt-clause-lowers
returns-then-not-is_lt-clause-lowers g c =
    let not : is_lt (g.C.Ord.cmp c.args.offer c.in-Some.value) ≡ false = search rules in
    left_alone g.met.C.Cost.laws g.C.Ord.cmp g.met.C.Cost.same_order c.args.words.now c.args.at c.args.offer c.in-Some.value c.args.place c.args.improved.now.items
    (get_or_from_slice_get c.args.words.now c.args.at (Some c.in-Some.value) None (c.get.ensures ∙ ap Some c.in-Some.is)) not
