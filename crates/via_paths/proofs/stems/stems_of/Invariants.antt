use Rattle.std.proofs.Common.{◌≡◌, ◌<◌, map, take, length, All}
use Rattle.via_paths.specs.Stems.{word_by, firsts_in}
use Rattle.via_paths.proofs.stems.stems_of.Given as goal

abbrev pub invariant-loop-g : goal.invariant-loop-g
invariant-loop-g l = record {
  words : map (word_by l.groups) l.stems.items ≡ firsts_in (take l.g l.groups);
  groups : All (λ s. s.group < length l.groups) l.stems.items;
}
