use Rattle.std.proofs.Common.{◌≡◌, ◌+◌, ◌++◌, map, take, length}
use Rattle.cell_customize.proofs.pieces.Piece.append.Given as goal

-- the values stand behind the own, and so do the beginnings so far
abbrev pub invariant-loop-first : goal.invariant-loop-first
invariant-loop-first g l = record {
  values : l.self-inside.values ≡ l.fn.self.values ++ l.other.values;
  first : l.self-inside.first.items ≡ l.fn.self.first ++ map (λ first. length l.fn.self.values + first) (take l.first-index l.other.first);
}
