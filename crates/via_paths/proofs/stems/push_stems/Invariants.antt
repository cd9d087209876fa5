use Rattle.std.proofs.Common.{◌≡◌, ℕ, ◌<◌, List, ◌++◌, Some, map, take, All}
use Rattle.std.specs.List.{slice_get}
use Rattle.via_paths.specs.declared.barred.Barred.{Barred}
use Rattle.via_paths.specs.Stems.{word_by}
use Rattle.via_paths.proofs.Stemming.{first_word}
use Rattle.via_paths.proofs.stems.push_stems.Given as goal

abbrev pub invariant-loop-i : goal.invariant-loop-i
invariant-loop-i l = record {
  words : (groups : List Barred) → slice_get groups l.group ≡ Some l.barred → map (word_by groups) l.stems.items ≡ map (word_by groups) l.fn.stems.items ++ map (first_word l.barred) (take l.i l.barred.starts.items);
  groups : (k : ℕ) → l.group < k → All (λ s. s.group < k) l.fn.stems.items → All (λ s. s.group < k) l.stems.items;
}
