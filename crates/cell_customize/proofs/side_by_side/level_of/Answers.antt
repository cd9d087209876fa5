-- Each turn has one piece more; all are the whole level.
use Rattle.std.proofs.Common.{◌≡◌, ℕ, ◌+◌, [], Some, length, sym, ◌∙◌, ap, subst, arith}
use Rattle.std.proofs.lemmas.Option.{slice_get-get_or}
use Rattle.cell_partition.specs.Partition.{level_at}
use Rattle.cell_customize.specs.Levels.{AreMade, cut_at, piece_count}
use Rattle.cell_customize.specs.Cuts.{cut_none, cut_all}
use Rattle.cell_customize.specs.Piling.{AreMade-none, AreMade-behind, IsExactLevel-made}
use Rattle.cell_customize.proofs.side_by_side.level_of.Goals as goal

pub loop-piece-init : goal.loop-piece-init
loop-piece-init g c =
    rw c.in_ok-all.ensures (subst (λ (n : ℕ). AreMade g.C.Cost.ops c.args.frame.now c.args.weights.now c.args.level 0 n (record { first = []; values = [] })) (cut_none (length (level_at c.args.frame.now.cells c.args.level)))
    (AreMade-none g.C.Cost.ops c.args.frame.now c.args.weights.now c.args.level 0))

pub append-requires : goal.append-requires
append-requires g c =
    let i = c.loop-piece.piece-index in
    let here = slice_get-get_or c.args.pieces.now i c.piece-item.result c.loop-piece-test.true ∙ ap Some (sym c.piece-item.is) in
    (c.requires.each i c.piece-item.result here).within

pub loop-piece-preserved : goal.loop-piece-preserved
loop-piece-preserved g c =
    let i = c.loop-piece.piece-index in
    let count = length (level_at c.args.frame.now.cells c.args.level) in
    let here = slice_get-get_or c.args.pieces.now i c.piece-item.result c.loop-piece-test.true ∙ ap Some (sym c.piece-item.is) in
    rw c.in_ok-append.ensures (AreMade-behind g.C.Cost.ops c.args.frame.now c.args.weights.now c.args.level 0 (cut_at count i) (cut_at count (i + 1)) c.loop-piece.all c.piece-item.result c.loop-piece.invariant (c.requires.each i c.piece-item.result here))

pub returns : goal.returns
returns g c =
    let count = length (level_at c.args.frame.now.cells c.args.level) in
    let size : length c.args.pieces.now ≡ piece_count = c.requires.size in
    let all : c.loop-piece.piece-index ≡ piece_count = omega (arith, c.loop-piece-test.false, c.loop-piece.auto.piece-index-end, size) in
    let cut = subst (λ (p : ℕ). AreMade g.C.Cost.ops c.args.frame.now c.args.weights.now c.args.level 0 (cut_at count p) c.loop-piece.all) all c.loop-piece.invariant in
    let whole = subst (λ (n : ℕ). AreMade g.C.Cost.ops c.args.frame.now c.args.weights.now c.args.level 0 n c.loop-piece.all) (cut_all count) cut in
    rw c.into_level.ensures (IsExactLevel-made g.C.Cost.ops c.args.frame.now c.args.weights.now c.args.level c.loop-piece.all whole)
