-- For private functions: the starts of groups with the path behind them, which are all but the last vertex of their
-- sequences, and of these sequences the first of each start.
use Rattle.std.specs.Prelude.{ℕ, List, [], ◌∷◌, ◌++◌, map, flat_map, get_or}
use Rattle.std.specs.List.{slice_get}
use Rattle.std.specs.Option.{option_map_or}
use Rattle.via_paths.specs.declared.barred.Barred.{Barred}
use Rattle.via_paths.specs.declared.stem.Stem.{Stem}

-- the path behind a start
abbrev pub path_by : List Barred → Stem → List ℕ
path_by groups stem = option_map_or (λ b. b.path.items) (slice_get groups stem.group) []

-- the first end behind it
abbrev pub end_by : List Barred → Stem → ℕ
end_by groups stem = option_map_or (λ b. get_or b.ends.items 0 0) (slice_get groups stem.group) 0

-- the first sequence of a start
abbrev pub word_by : List Barred → Stem → List ℕ
word_by groups stem = stem.start ∷ (path_by groups stem ++ end_by groups stem ∷ [])

-- of these starts, this path and these ends, the first sequence of each start
abbrev pub firsts_by : List ℕ → List ℕ → List ℕ → List (List ℕ)
firsts_by starts path [] = []
firsts_by starts path (e ∷ ends) = map (λ d. d ∷ (path ++ e ∷ [])) starts

-- of a group
abbrev pub firsts_of : Barred → List (List ℕ)
firsts_of b = firsts_by b.starts.items b.path.items b.ends.items

-- of all groups
abbrev pub firsts_in : List Barred → List (List ℕ)
firsts_in groups = flat_map firsts_of groups

-- each start with the path behind it, where there is an end
abbrev pub stems_by : List ℕ → List ℕ → List ℕ → List (List ℕ)
stems_by starts path [] = []
stems_by starts path (e ∷ ends) = map (λ d. d ∷ path) starts
