-- What the tags of a way say of its directions and of who may enter, and the number of a value of `highway`
-- or `surface` (OpenStreetMap's keys, and its access keys; which values count is this project's rule).
use Rattle.std.specs.Prelude.{ℕ, Bool, false, not, ◌&&◌, ◌||◌, List, [], ◌∷◌, codes, Option, Some, None, bytes_eq, if◌then◌else◌}
use Rattle.std.specs.List.{filter_map}
use Rattle.std.specs.Option.{option_map_or, option_and_then}
use Rattle.road_base.specs.TagValue.{value_of}
use Rattle.road_base.specs.Words.{is_among}

-- the number that a word has, None where it has none
abbrev pub number_of : List (List ℕ × ℕ) → List ℕ → Option ℕ
number_of [] word = None
number_of (e ∷ more) word = if bytes_eq e.0 word then Some e.1 else number_of more word

-- the number that the value at a key has
abbrev pub number_by : List ℕ → List (List ℕ × ℕ) → List (List ℕ × List ℕ) → Option ℕ
number_by key numbers tags = option_and_then (λ value. number_of numbers value) (value_of tags key)

-- the value at the key is one of these words
abbrev pub says : List (List ℕ × List ℕ) → List ℕ → List (List ℕ) → Bool
says tags key words = option_map_or (λ value. is_among words value) (value_of tags key) false

-- `oneway` says that the way is used against its own direction only
abbrev pub is_backward_only : List (List ℕ × List ℕ) → Bool
is_backward_only tags = says tags (codes "oneway") (codes "-1" ∷ codes "reverse" ∷ [])

-- `oneway` says that the way is used in its own direction only
abbrev pub is_oneway : List (List ℕ × List ℕ) → Bool
is_oneway tags = says tags (codes "oneway") (codes "yes" ∷ codes "true" ∷ codes "1" ∷ [])

-- `oneway` says that the way is used in the other direction only, or in both
abbrev pub has_other_oneway : List (List ℕ × List ℕ) → Bool
has_other_oneway tags = says tags (codes "oneway") (codes "-1" ∷ codes "reverse" ∷ codes "no" ∷ [])

-- the way is a roundabout, or a piece of one
abbrev pub is_round : List (List ℕ × List ℕ) → Bool
is_round tags = says tags (codes "junction") (codes "roundabout" ∷ [])

-- a roundabout or a motorway
abbrev pub is_forward_by_kind : List (List ℕ × List ℕ) → Bool
is_forward_by_kind tags = is_round tags || says tags (codes "highway") (codes "motorway" ∷ [])

-- the way is used in its own direction only: `oneway` says so, or says nothing that is known and the
-- kind of the way does
abbrev pub is_forward_only : List (List ℕ × List ℕ) → Bool
is_forward_only tags = is_oneway tags || (not (has_other_oneway tags) && is_forward_by_kind tags)

-- the values at those of the keys that are among the tags, in the order of the keys
abbrev pub values_at : List (List ℕ × List ℕ) → List (List ℕ) → List (List ℕ)
values_at tags keys = filter_map (λ key. value_of tags key) keys

-- the first value, if there is one, is denied
abbrev pub is_denied : List (List ℕ) → List (List ℕ) → Bool
is_denied denied [] = false
is_denied denied (value ∷ _) = is_among denied value
