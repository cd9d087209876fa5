-- The offers go along the row's block.
use Rattle.std.proofs.Common.{◌≡◌, Some, sym, subst}
use Rattle.row_labels.specs.Rowed.{value_of}
use Rattle.row_labels.specs.Lowered.{Lowers}
use Rattle.row_labels.proofs.Apart.{LowersRow-from}
use Rattle.row_labels.proofs.Lowering.{on_ok}
use Rattle.row_labels.proofs.rows.Rows.lower.Goals as goal

pub returns : goal.returns
returns g c =
    let ops = g.C.Cost.ops in
    let values = c.ensure_block.new.words in
    let new = c.lower_values.new.words in
    let paid = c.args.offers.now.paid in
    let costs = c.args.offers.now.costs.now in
    let count = c.args.offers.now.count in
    let improved = c.lower_values.new.improved.items in
    on_ok c.lower_values.result c.lower_values.ensures.lowers
    (λ h. LowersRow-from ops c.ensure_block.new.blocks values new c.args.name paid costs count improved (value_of c.args.self.now) c.ensure_block.ensures.apart c.in_ok-first.ensures.room
    (λ row j d v. subst (λ rows. value_of rows row j ≡ Some d) c.self.view_is (c.in_ok-first.ensures.kept row j d v))
    (subst (λ first. Lowers ops first values new paid costs count improved) (sym c.in_ok-first.ensures.there) h))
