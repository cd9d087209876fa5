-- What the job makes, in order, are the pieces.
use Rattle.std.proofs.lemmas.Result.{IfOk-weaker}
use Rattle.self_scheduling.specs.Items.{AreItems}
use Rattle.cell_customize.specs.Levels.{ArePieces, IsPiece, piece_count}
use Rattle.cell_recustomize.proofs.side_by_side.pieces.Goals as goal

pub returns : goal.returns
returns g c =
    let is_piece = IsPiece g.C.Cost.ops c.args.frame.now c.args.weights.now c.args.level in
    IfOk-weaker c.items_in_threads.result (λ made. AreItems piece_count is_piece made.items)
    (λ made. ArePieces g.C.Cost.ops c.args.frame.now c.args.weights.now c.args.level made.items)
    (λ made items. record { size = items.size; each = items.each }) c.items_in_threads.ensures
