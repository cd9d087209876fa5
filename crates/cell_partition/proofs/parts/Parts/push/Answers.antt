use Rattle.std.proofs.Common.{◌≡◌, ◌+◌, ◌∷◌, [], ◌++◌, length, length-append, ap, ◌∙◌, arith}
use Rattle.cell_partition.proofs.InOrder.{added_one}
use Rattle.cell_partition.proofs.parts.Parts.push.Goals as goal

pub returns : goal.returns
returns c =
    let size : length c.extend_from_slice.new.self.items ≡ length c.args.self.now.along.items + length c.args.part.along.now =
    ap length c.in_ok-extend_from_slice.ensures.items ∙ length-append c.args.self.now.along.items c.args.part.along.now in
    let end : c.len.result ≡ length c.args.self.now.along.items + length c.args.part.along.now = omega (arith, size, c.len.ensures, c.extend_from_slice.new.self.ok.0) in
    added_one c.args.part.axis c.args.part.along.now c.args.part.across.now c.args.self.now _ c.requires.in_order c.in_ok-extend_from_slice.ensures.items c.in_ok-extend_from_slice-2.ensures.items
    (c.in_ok-push.ensures.items ∙ ap (λ n. c.args.self.now.bounds.items ++ n ∷ []) end) c.in_ok-push-2.ensures.items
