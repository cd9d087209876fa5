-- For private functions: the trie of the copies' words, with the state to which a walk falls back.
use Rattle.std.specs.Prelude.{◌≡◌, ℕ, ◌+◌, ◌^◌, ◌<◌, ◌≤◌, Bool, true, not, ◌&&◌, ◌==◌, List, [], ◌∷◌, ◌++◌, Some, None, Vec, map, filter, take, drop, length, get_or, if◌then◌else◌}
use Rattle.std.specs.Global.{Global}
use Rattle.std.specs.HashMap.{HashMap, get}
use Rattle.std.specs.HashSet.{HashSet, contains}
use Rattle.std.specs.List.{slice_get, list_any, All}
use Rattle.std.specs.Option.{option_map_or}
use Rattle.std.specs.declared.hash.FoldHasher.{FoldHasher}
use Rattle.std.specs.declared.hash.BuildHasherDefault.{BuildHasherDefault}
use Rattle.via_paths.specs.declared.copied.Copied.{Copied}
use Rattle.via_paths.specs.declared.ended.Ends.{Ends}
use Rattle.via_paths.specs.Forbidden.{has, ends_in, last_of}
use Rattle.via_paths.specs.Copies.{with_new, with_prefix}
use Rattle.via_paths.specs.Expansion.{AreCopies, held, number, word_of, onward}

-- both pairs are the same
abbrev pub pair_eq : ℕ × ℕ → ℕ × ℕ → Bool
pair_eq a b = (a.0 == b.0) && (a.1 == b.1)

-- by a state and a vertex, the copy one vertex on
abbrev pub NextMap : Type 0
NextMap = HashMap (ℕ × ℕ) ℕ (BuildHasherDefault FoldHasher)

-- What keeps all steps in range: states are below n + the number of copies, and a copy falls back to one before it.
pub record IsSound (n : ℕ) (next : NextMap) (copied : List Copied) : Type 0 where
  pub wide : n ≤ 2 ^ 25
  pub few : length copied ≤ 2 ^ 20
  pub reaches : (q e c : ℕ) → get pair_eq next (q, e) ≡ Some c → c < n + length copied
  pub descends : (k : ℕ) (entry : Copied) → slice_get copied k ≡ Some entry → entry.back < n + k

-- Words of two vertices or more, each once, with each of their fronts.
pub record AreWords (copies : List (List ℕ)) : Type 0 where
  pub two : (p : List ℕ) → has copies p ≡ true → 2 ≤ length p
  pub closed : (w : List ℕ) (e : ℕ) → 2 ≤ length w → has copies (w ++ e ∷ []) ≡ true → has copies w ≡ true
  pub once : (i j : ℕ) (p : List ℕ) → slice_get copies i ≡ Some p → slice_get copies j ≡ Some p → i ≡ j

-- of a copy: where its word ends, and the state of the word without the first vertex
abbrev pub entry_of : ℕ → List (List ℕ) → List ℕ → Copied
entry_of n copies p = record { vertex = last_of p; back = number n copies (held copies (drop 1 p)) }

-- The parts of a trie tell of these copies: which copy has a state's word with a vertex behind it, and the entry of each.
pub record IsTrie (n : ℕ) (copies : List (List ℕ)) (next : NextMap) (copied : List Copied) : Type 0 where
  pub words : AreWords copies
  pub ordinary : (p : List ℕ) → has copies p ≡ true → last_of p < n
  pub follows : (q e : ℕ) → get pair_eq next (q, e) ≡ (if has copies (word_of n copies q ++ e ∷ []) then Some (number n copies (word_of n copies q ++ e ∷ [])) else None)
  pub entries : copied ≡ map (entry_of n copies) copies

-- no word is longer than k
abbrev pub AreUpTo : ℕ → List (List ℕ) → Type 0
AreUpTo k copies = (p : List ℕ) → has copies p ≡ true → length p ≤ k

-- the state of a word without its first vertex, one vertex on
abbrev pub fallen : ℕ → List (List ℕ) → List ℕ → ℕ → ℕ
fallen n copies word e = number n copies (held copies (drop 1 (word ++ e ∷ [])))

-- the trie tells of the copies with p, which has this number
abbrev pub IsExtended : ℕ → List (List ℕ) → List ℕ → NextMap → List Copied → ℕ → Type 0
IsExtended n copies p next copied copy = IsTrie n (with_new copies p) next copied × (word_of n (with_new copies p) copy ≡ p)

-- the trie tells of the copies with the prefix of k + 1 vertices of s, and this state has that word, where s is longer
abbrev pub IsAdvanced : ℕ → List (List ℕ) → List ℕ → ℕ → NextMap → List Copied → ℕ → Type 0
IsAdvanced n copies s k next copied state = IsTrie n (with_prefix (k + 1) copies s) next copied × (k + 1 < length s → word_of n (with_prefix (k + 1) copies s) state ≡ take (k + 1) s)

-- each sequence's state has the word of its first k vertices, where it is longer
abbrev pub AreAt : ℕ → List (List ℕ) → List (List ℕ) → ℕ → List ℕ → Type 0
AreAt n copies sequences k states = (j : ℕ) (s : List ℕ) → slice_get sequences j ≡ Some s → k < length s → (q : ℕ) × (slice_get states j ≡ Some q) × (word_of n copies q ≡ take k s)

-- the trie tells of these copies, none of which is longer than k, and the states are where the sequences have k vertices
pub record IsLaid (n : ℕ) (copies sequences : List (List ℕ)) (k : ℕ) (next : NextMap) (copied : List Copied) (states : List ℕ) : Type 0 where
  pub trie : IsTrie n copies next copied
  pub upto : AreUpTo k copies
  pub at : AreAt n copies sequences k states

-- the first vertex
abbrev pub first_of : List ℕ → ℕ
first_of s = get_or s 0 0

-- lists by a number
abbrev pub ListMap : Type 0 → Type 0
ListMap T = HashMap ℕ (Vec T Global) (BuildHasherDefault FoldHasher)

-- the list that is kept for a number
abbrev pub list_at : {T : Type 0} → ListMap T → ℕ → List T
list_at lists v = option_map_or (λ list. list.items) (get (λ a b. a == b) lists v) []

-- groups with vertices
abbrev pub EndSet : Type 0
EndSet = HashSet (ℕ × ℕ) (BuildHasherDefault FoldHasher)

-- behind this state the vertex is an end of one of its groups
abbrev pub ended_at : ListMap ℕ → EndSet → ℕ → ℕ → Bool
ended_at groups ends q e = list_any (λ g. contains pair_eq ends (g, e)) (list_at groups q)

-- which vertex behind which state's word makes one of the sequences
abbrev pub AreEnds : ℕ → List (List ℕ) → List (List ℕ) → Ends → Type 0
AreEnds n sequences copies ends = (q e : ℕ) → ended_at ends.groups ends.vertices q e ≡ has sequences (word_of n copies q ++ e ∷ [])

-- the heads of the turns from a vertex
abbrev pub heads_at : List (ℕ × ℕ) → ℕ → List ℕ
heads_at turns v = map (λ turn. turn.1) (filter (λ turn. turn.0 == v) turns)

-- the arcs out of the copy of this word, by the heads of the turns from its last vertex
abbrev pub out_by : ℕ → List (List ℕ) → List (List ℕ) → ℕ → List ℕ → List ℕ → List (ℕ × ℕ)
out_by n sequences copies q word heads = map (λ e. (q, onward n copies word e)) (filter (λ e. not (ends_in sequences (word ++ e ∷ []))) heads)

-- the arcs out of ordinary vertices
abbrev pub first_arcs : ℕ → List (List ℕ) → List (ℕ × ℕ) → List (ℕ × ℕ)
first_arcs n copies turns = map (λ turn. (turn.0, onward n copies (turn.0 ∷ []) turn.1)) turns

-- what the parts of the automaton are of
pub record IsAutomaton (n : ℕ) (sequences copies : List (List ℕ)) (next : NextMap) (copied : List Copied) (ends : Ends) : Type 0 where
  pub long : All (λ s. 3 ≤ length s) sequences
  pub trie : IsTrie n copies next copied
  pub are : AreCopies sequences copies
  pub ended : AreEnds n sequences copies ends

-- some vertices
abbrev pub StoodSet : Type 0
StoodSet = HashSet ℕ (BuildHasherDefault FoldHasher)

-- the set has each vertex at which a copy stands
abbrev pub AreStood : List Copied → StoodSet → Type 0
AreStood copied stood = (k : ℕ) (c : Copied) → slice_get copied k ≡ Some c → contains (λ a b. a == b) stood c.vertex ≡ true

-- the heads of the turns are kept for each vertex at which a copy stands
abbrev pub AreFans : List Copied → List (ℕ × ℕ) → ListMap ℕ → Type 0
AreFans copied turns fans = (k : ℕ) (c : Copied) → slice_get copied k ≡ Some c → list_at fans c.vertex ≡ heads_at turns c.vertex

-- the vertices for which copies stand
abbrev pub vertices_in : List Copied → List ℕ
vertices_in copied = map (λ c. c.vertex) copied

-- the heads that are no end of a group
abbrev pub left_by : EndSet → ℕ → List ℕ → List ℕ
left_by ends group heads = filter (λ e. not (contains pair_eq ends (group, e))) heads

-- lists by a group and a vertex
abbrev pub KeptMap : Type 0
KeptMap = HashMap (ℕ × ℕ) (Vec ℕ Global) (BuildHasherDefault FoldHasher)

-- what is kept for a group and a vertex are the heads from the vertex that are no end of the group
abbrev pub AreKept : EndSet → ListMap ℕ → KeptMap → Type 0
AreKept ends fans kept = (at : ℕ × ℕ) (heads : Vec ℕ Global) → get pair_eq kept at ≡ Some heads → heads.items ≡ left_by ends at.0 (list_at fans at.1)
