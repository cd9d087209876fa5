use Rattle.std.proofs.Common.{◌≡◌, ◌++◌, take, flat_map, string_bytes}
use Rattle.json_text.proofs.append.append_all.Given as goal

abbrev pub invariant-loop-piece : goal.invariant-loop-piece
invariant-loop-piece l = string_bytes l.out ≡ string_bytes l.fn.out ++ l.first ++ flat_map (λ piece. piece.now) (take l.piece-index l.pieces)
