-- The graph with copies of vertices, which holds what a walk has of a sequence so far: a string-matching automaton
-- (A. V. Aho and M. J. Corasick, "Efficient string matching", 1975) along the arcs of a graph, with copies as
-- Villeneuve and Desaulniers make them.
use Rattle.std.specs.Prelude.{◌≡◌, ℕ, ◌+◌, ◌-◌, ◌<◌, ◌≤◌, Bool, not, ◌&&◌, ◌==◌, List, [], ◌∷◌, ◌++◌, map, filter, length, get_or, nat_lt, Some, if◌then◌else◌}
use Rattle.std.specs.List.{Contains, slice_get, position_or_len}
use Rattle.search_graph.specs.Digraph.{Digraph}
use Rattle.via_paths.specs.Forbidden.{IsProperPrefix, same, has, ends_in, last_of}

-- The words that have a copy: each proper prefix of a sequence, of two vertices or more, once.
pub record AreCopies (sequences copies : List (List ℕ)) : Type 0 where
  pub prefix : (p : List ℕ) → Contains copies p → IsProperPrefix sequences p
  pub all : (p : List ℕ) → IsProperPrefix sequences p → Contains copies p
  pub once : (i j : ℕ) (p : List ℕ) → slice_get copies i ≡ Some p → slice_get copies j ≡ Some p → i ≡ j

-- A state is a copy with its word, or an ordinary vertex, whose word it is alone. The word that is held of a walk: its
-- longest suffix that has a copy, or where none has its last vertex alone.
abbrev pub held : List (List ℕ) → List ℕ → List ℕ
held copies [] = []
held copies (v ∷ []) = v ∷ []
held copies (v ∷ x ∷ word) = if has copies (v ∷ x ∷ word) then v ∷ x ∷ word else held copies (x ∷ word)

-- the number of the state of a word: copies come behind n ordinary vertices
abbrev pub number : ℕ → List (List ℕ) → List ℕ → ℕ
number n copies [] = 0
number n copies (v ∷ []) = v
number n copies (v ∷ x ∷ word) = n + position_or_len (same (v ∷ x ∷ word)) copies

-- the word of the state of that number
abbrev pub word_of : ℕ → List (List ℕ) → ℕ → List ℕ
word_of n copies q = if nat_lt q n then q ∷ [] else get_or copies (q - n) []

-- q is the state of a walk, which ends at an ordinary vertex
pub record IsStateOf (n : ℕ) (copies : List (List ℕ)) (walk : List ℕ) (q : ℕ) : Type 0 where
  pub begun : 1 ≤ length walk
  pub ordinary : last_of walk < n
  pub is : q ≡ number n copies (held copies walk)

-- the state to which a walk in the state of this word goes, one vertex on
abbrev pub onward : ℕ → List (List ℕ) → List ℕ → ℕ → ℕ
onward n copies word e = number n copies (held copies (word ++ e ∷ []))

-- the turn goes on from this word, and ends no sequence
abbrev pub goes_on : List (List ℕ) → List ℕ → ℕ × ℕ → Bool
goes_on sequences word turn = (turn.0 == last_of word) && not (ends_in sequences (word ++ turn.1 ∷ []))

-- the arcs out of the copy of this word, which has number q: one for each turn that goes on
abbrev pub arcs_out : ℕ → List (List ℕ) → List (List ℕ) → List (ℕ × ℕ) → ℕ → List ℕ → List (ℕ × ℕ)
arcs_out n sequences copies turns q word = map (λ turn. (q, onward n copies word turn.1)) (filter (goes_on sequences word) turns)

-- the arcs out of the copies of these words, which have the numbers from q on
abbrev pub copy_arcs : ℕ → List (List ℕ) → List (List ℕ) → List (ℕ × ℕ) → ℕ → List (List ℕ) → List (ℕ × ℕ)
copy_arcs n sequences copies turns q [] = []
copy_arcs n sequences copies turns q (word ∷ words) =
    arcs_out n sequences copies turns q word ++ copy_arcs n sequences copies turns (q + 1) words

-- the arc of each turn out of its ordinary vertex, in the order of the turns, and behind them those out of the copies
abbrev pub expanded_arcs : ℕ → List (List ℕ) → List (List ℕ) → List (ℕ × ℕ) → List (ℕ × ℕ)
expanded_arcs n sequences copies turns =
    map (λ turn. (turn.0, onward n copies (turn.0 ∷ []) turn.1)) turns ++ copy_arcs n sequences copies turns n copies

-- the graph of the turns alone
abbrev pub unexpanded : ℕ → List (ℕ × ℕ) → Digraph
unexpanded n turns = record { vertices = n; arcs = turns }

-- the graph with copies
abbrev pub expanded : ℕ → List (List ℕ) → List (List ℕ) → List (ℕ × ℕ) → Digraph
expanded n sequences copies turns = record { vertices = n + length copies; arcs = expanded_arcs n sequences copies turns }

-- the ordinary vertex that a vertex of the graph with copies stands for, by the list of those of the copies
abbrev pub standing : ℕ → List ℕ → ℕ → ℕ
standing n stands_for q = if nat_lt q n then q else get_or stands_for (q - n) 0
