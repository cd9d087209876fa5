use Rattle.std.proofs.Common.{◌≡◌, ℕ, eqb, true, false, take, get_or}
use Rattle.std.specs.List.{list_any}
use Rattle.cell_partition.proofs.numbering.number_members.Given as goal

-- the members so far have the number, and no other vertex changed
abbrev pub invariant-loop-vertex : goal.invariant-loop-vertex
invariant-loop-vertex l = record {
  members : (vertex : ℕ) → list_any (eqb vertex) (take l.vertex-index l.members) ≡ true → get_or l.numbers vertex 0 ≡ l.cell;
  others : (vertex : ℕ) → list_any (eqb vertex) (take l.vertex-index l.members) ≡ false → get_or l.numbers vertex 0 ≡ get_or l.initial.numbers vertex 0;
}
