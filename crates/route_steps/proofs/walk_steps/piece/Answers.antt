use Rattle.std.proofs.Common.{◌+◌, add-one, ap, arith, get_or, sym, ◌∙◌}
use Rattle.std.specs.List.{slice_get}
use Rattle.std.proofs.lemmas.Option.{slice_get-get_or}
use Rattle.route_steps.specs.Steps.{departure}
use Rattle.route_steps.proofs.CutLemmas.{pieces-last, pieces-next}
use Rattle.route_steps.proofs.walk_steps.piece.Goals as goal

pub returns-then-k-begins : goal.returns-then-k-begins
returns-then-k-begins c =
    let begins = c.args.begins.now in
    let k = c.args.k in
    pieces-next begins c.args.end k (get_or begins k departure) (get_or begins (k + 1) departure) (slice_get-get_or begins k departure c.requires)
    (ap (slice_get begins) (sym (add-one k)) ∙ slice_get-get_or begins (k + 1) departure c.if-k-begins.true)

pub returns-else-k-begins : goal.returns-else-k-begins
returns-else-k-begins c =
    let begins = c.args.begins.now in
    let k = c.args.k in
    pieces-last begins c.args.end k (get_or begins k departure) (slice_get-get_or begins k departure c.requires) (omega arith)
