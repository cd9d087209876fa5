-- Sequences of vertices that no walk may run through (forbidden paths: D. Villeneuve and G. Desaulniers, "The shortest
-- path problem with forbidden paths", 2005). A word is a list of vertices, in the order of the walk.
use Rattle.std.specs.Prelude.{◌≡◌, ℕ, ◌<◌, ◌≤◌, Bool, true, false, ◌&&◌, ◌||◌, ◌==◌, List, [], ◌∷◌, ◌++◌, length, map, flat_map, All}
use Rattle.std.specs.List.{Contains, list_any}
use Rattle.via_paths.specs.declared.barred.Barred.{Barred}

-- the sequences of a group: by the start, and then by the end
abbrev pub words_of : Barred → List (List ℕ)
words_of b = flat_map (λ d. map (λ e. d ∷ (b.path.items ++ e ∷ [])) b.ends.items) b.starts.items

-- those of all groups, in their order
abbrev pub words_in : List Barred → List (List ℕ)
words_in groups = flat_map words_of groups

-- something stands between the ends of a group's sequences
abbrev pub HasPath : Barred → Type 0
HasPath b = 1 ≤ length b.path.items

-- all vertices of a group are below n
abbrev pub IsBelow : ℕ → Barred → Type 0
IsBelow n b = All (λ v. v < n) b.starts.items × All (λ v. v < n) b.path.items × All (λ v. v < n) b.ends.items

-- s is a run of neighbouring vertices of the walk
abbrev pub IsRunOf : List ℕ → List ℕ → Type 0
IsRunOf s walk = (before : List ℕ) × (after : List ℕ) × (walk ≡ before ++ s ++ after)

-- none of the sequences is a run of neighbouring vertices of the walk
abbrev pub IsFree : List (List ℕ) → List ℕ → Type 0
IsFree sequences walk = (s : List ℕ) → Contains sequences s → ¬ IsRunOf s walk

-- Behind the walk `before` one may go on along `walk`: where a sequence is a run of both together, it ends in `before`,
-- so that all of `walk` stands behind it.
abbrev pub IsFreeBehind : List (List ℕ) → List ℕ → List ℕ → Type 0
IsFreeBehind sequences before walk =
    (s front rest : List ℕ) → Contains sequences s → before ++ walk ≡ front ++ s ++ rest → length walk ≤ length rest

-- p is a proper prefix, of two vertices or more, of one of the sequences
abbrev pub IsProperPrefix : List (List ℕ) → List ℕ → Type 0
IsProperPrefix sequences p = (2 ≤ length p) × (s : List ℕ) × (e : ℕ) × (rest : List ℕ) × Contains sequences s × (s ≡ p ++ e ∷ rest)

-- both words have the same vertices in the same order
abbrev pub same : List ℕ → List ℕ → Bool
same [] [] = true
same [] (y ∷ ys) = false
same (x ∷ xs) [] = false
same (x ∷ xs) (y ∷ ys) = (x == y) && same xs ys

-- w is one of the words
abbrev pub has : List (List ℕ) → List ℕ → Bool
has words w = list_any (same w) words

-- the word ends in one of the sequences
abbrev pub ends_in : List (List ℕ) → List ℕ → Bool
ends_in sequences [] = false
ends_in sequences (v ∷ word) = has sequences (v ∷ word) || ends_in sequences word

-- the last vertex
abbrev pub last_of : List ℕ → ℕ
last_of [] = 0
last_of (v ∷ []) = v
last_of (v ∷ x ∷ word) = last_of (x ∷ word)
