-- The stems of groups, start by start.
use Rattle.std.proofs.Common.{◌≡◌, ℕ, ◌+◌, ◌<◌, ◌≤◌, List, [], ◌∷◌, ◌++◌, Option, None, Some, map, take, length, get_or, All, arith, refl, sym, ◌∙◌, ap, add-one, append_assoc, append-nil, length-append}
use Rattle.std.specs.List.{slice_get}
use Rattle.std.specs.Option.{option_map, option_map_or}
use Rattle.std.proofs.lemmas.List.{map_push}
use Rattle.std.proofs.lemmas.List.Concat.{flat_map-append}
use Rattle.std.proofs.lemmas.List.Elements.{All-map}
use Rattle.std.proofs.lemmas.Option.{slice_get-map}
use Rattle.list_lemmas.proofs.Fronts.{take-get}
use Rattle.list_lemmas.proofs.Gets.{All_get, get_append}
use Rattle.via_paths.specs.declared.barred.Barred.{Barred}
use Rattle.via_paths.specs.declared.stem.Stem.{Stem}
use Rattle.via_paths.specs.Forbidden.{IsBelow}
use Rattle.via_paths.specs.Stems.{path_by, word_by, firsts_of, firsts_in}
use Rattle.via_paths.specs.Tries.{first_of}

-- the first sequence from a start of a group
abbrev pub first_word : Barred → ℕ → List ℕ
first_word b d = d ∷ (b.path.items ++ get_or b.ends.items 0 0 ∷ [])

pub stem-word : (groups : List Barred) (b : Barred) (g d : ℕ) → slice_get groups g ≡ Some b → word_by groups (record { group = g; start = d }) ≡ first_word b d
stem-word groups b g d at = ap (λ (o : Option Barred). d ∷ (option_map_or (λ b. b.path.items) o [] ++ option_map_or (λ b. get_or b.ends.items 0 0) o 0 ∷ [])) at

pub stems-push : (groups : List Barred) (b : Barred) (g d i : ℕ) (stems : List Stem) (old : List (List ℕ)) → slice_get groups g ≡ Some b → slice_get b.starts.items i ≡ Some d →
    map (word_by groups) stems ≡ old ++ map (first_word b) (take i b.starts.items) →
    map (word_by groups) (stems ++ record { group = g; start = d } ∷ []) ≡ old ++ map (first_word b) (take (i + 1) b.starts.items)
stems-push groups b g d i stems old at_g at_i was =
    map_push {X = Stem} {Y = List ℕ} (word_by groups) stems (record { group = g; start = d })
    ∙ ap (λ (l : List (List ℕ)). l ++ word_by groups (record { group = g; start = d }) ∷ []) was
    ∙ ap (λ (w : List ℕ). (old ++ map (first_word b) (take i b.starts.items)) ++ w ∷ []) (stem-word groups b g d at_g)
    ∙ append_assoc old (map (first_word b) (take i b.starts.items)) (first_word b d ∷ [])
    ∙ ap (λ (l : List (List ℕ)). old ++ l) (sym (ap (map (first_word b)) (take-get b.starts.items i d at_i) ∙ map_push {X = ℕ} {Y = List ℕ} (first_word b) (take i b.starts.items) d))

-- the first sequences of one group more
pub firsts-more : (groups : List Barred) (g : ℕ) (b : Barred) → slice_get groups g ≡ Some b → firsts_in (take (g + 1) groups) ≡ firsts_in (take g groups) ++ firsts_of b
firsts-more groups g b at =
    ap firsts_in (take-get groups g b at) ∙ flat_map-append {X = Barred} {A = List ℕ} firsts_of (take g groups) (b ∷ [])
    ∙ ap (λ (l : List (List ℕ)). firsts_in (take g groups) ++ l) (append-nil (firsts_of b))

-- the vertices of a path stand behind the start of a sequence
pub path-get : (path : List ℕ) (d e m v : ℕ) → slice_get path m ≡ Some v → slice_get (d ∷ (path ++ e ∷ [])) (m + 1) ≡ Some v
path-get path d e m v at = ap (slice_get (d ∷ (path ++ e ∷ []))) (add-one m) ∙ get_append path (e ∷ []) m v at

pub path-length : (path : List ℕ) (d e : ℕ) → length (d ∷ (path ++ e ∷ [])) ≡ (length path + 1) + 1
path-length path d e = let len : length (path ++ e ∷ []) ≡ length path + length (e ∷ []) = length-append path (e ∷ []) in omega arith

-- the word of a stem among those of stems
pub stem-at : (groups : List Barred) (stems : List Stem) (i : ℕ) (stem : Stem) → slice_get stems i ≡ Some stem → slice_get (map (word_by groups) stems) i ≡ Some (word_by groups stem)
stem-at groups stems i stem at = slice_get-map {A = Stem} {B = List ℕ} (word_by groups) stems i ∙ ap (option_map {T = Stem} {U = List ℕ} (word_by groups)) at

-- the vertices of a path are ordinary
pub path_by-below : (n : ℕ) (groups : List Barred) (stem : Stem) → All (IsBelow n) groups → All (λ v. v < n) (path_by groups stem)
path_by-below n groups stem below = by (slice_get groups stem.group) refl
  where
    by : (o : Option Barred) → slice_get groups stem.group ≡ o → All (λ v. v < n) (option_map_or (λ b. b.path.items) o [])
    by None none = λ k d lt. absurd (omega arith)
    by (Some b) at = (All_get (IsBelow n) groups stem.group b below at).1

-- the words of stems begin with their starts
pub starts-first : (groups : List Barred) (stems : List Stem) → map (λ s. s.start) stems ≡ map first_of (map (word_by groups) stems)
starts-first groups [] = refl
starts-first groups (s ∷ stems) = ap (λ (l : List ℕ). s.start ∷ l) (starts-first groups stems)

pub words-some : (groups : List Barred) (stems : List Stem) → All (λ s. 1 ≤ length s) (map (word_by groups) stems)
words-some groups stems = All-map (λ s. 1 ≤ length s) (word_by groups) stems (λ k d lt. omega arith)
