-- In which order the words of the copies come: shorter ones first, and those of one length in the order of the
-- sequences.
use Rattle.std.specs.Prelude.{ℕ, zero, suc, ◌+◌, max, List, [], ◌∷◌, ◌++◌, take, length, nat_lt, if◌then◌else◌}
use Rattle.std.specs.List.{fold}
use Rattle.via_paths.specs.Forbidden.{has}

-- these words, and one more where it isn't among them
abbrev pub with_new : List (List ℕ) → List ℕ → List (List ℕ)
with_new copies p = if has copies p then copies else copies ++ p ∷ []

-- with the proper prefix of length k of a sequence, where it has one
abbrev pub with_prefix : ℕ → List (List ℕ) → List ℕ → List (List ℕ)
with_prefix k copies s = if nat_lt k (length s) then with_new copies (take k s) else copies

-- with those of all sequences
abbrev pub layer : ℕ → List (List ℕ) → List (List ℕ) → List (List ℕ)
layer k copies sequences = fold (with_prefix k) copies sequences

-- the proper prefixes of two vertices or more, up to m + 1
abbrev pub layers : ℕ → List (List ℕ) → List (List ℕ)
layers zero sequences = []
layers (suc m) sequences = layer (m + 2) (layers m sequences) sequences

-- the length of the longest sequence
abbrev pub longest : List (List ℕ) → ℕ
longest [] = 0
longest (s ∷ sequences) = max (length s) (longest sequences)

-- the words of all copies
abbrev pub copies_of : List (List ℕ) → List (List ℕ)
copies_of sequences = layers (longest sequences) sequences
