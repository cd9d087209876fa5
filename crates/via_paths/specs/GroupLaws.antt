-- The sequences of groups: they have three vertices or more, and are in range where the groups are.
use Rattle.std.proofs.Common.{◌≡◌, ℕ, zero, suc, ◌+◌, ◌<◌, ◌≤◌, List, [], ◌∷◌, ◌++◌, map, flat_map, length, get_or, All, arith, refl, length-append}
use Rattle.std.specs.List.{Contains}
use Rattle.std.proofs.lemmas.List.Elements.{All-append, All-map}
use Rattle.list_lemmas.proofs.Gets.{All_get, Contains_get, get_Contains}
use Rattle.via_paths.specs.declared.barred.Barred.{Barred}
use Rattle.via_paths.specs.Forbidden.{HasPath, IsBelow, words_of, words_in}

-- the sequences of these starts, this path and these ends
abbrev pub words_by : List ℕ → List ℕ → List ℕ → List (List ℕ)
words_by starts path ends = flat_map (λ d. map (λ e. d ∷ (path ++ e ∷ [])) ends) starts

-- all sequences from a start
abbrev pub words_from : ℕ → List ℕ → List ℕ → List (List ℕ)
words_from d path ends = map (λ e. d ∷ (path ++ e ∷ [])) ends

-- how long a sequence is
pub front-length : (d e : ℕ) (path : List ℕ) → length (d ∷ (path ++ e ∷ [])) ≡ suc (length path) + 1
front-length d e path = let len : length (path ++ e ∷ []) ≡ length path + length (e ∷ []) = length-append path (e ∷ []) in omega arith

-- what holds of each sequence of a group, where it holds of each start with each end
words_by-all : (P : List ℕ → Type 0) (starts path ends : List ℕ) → ((d e : ℕ) → Contains starts d → Contains ends e → P (d ∷ (path ++ e ∷ []))) → All P (words_by starts path ends)
words_by-all P [] path ends each = λ k d lt. absurd (omega arith)
words_by-all P (x ∷ starts) path ends each =
    All-append P (words_from x path ends) (words_by starts path ends)
    (All-map P (λ e. x ∷ (path ++ e ∷ [])) ends (λ k e lt. each x (get_or ends k e) (Contains_get (x ∷ starts) 0 x refl) (k, lt, again ends k e lt)))
    (words_by-all P starts path ends (λ d e at_d at_e. let g = get_Contains starts d at_d in each d e (Contains_get (x ∷ starts) (suc g.0) d g.1) at_e))
  where
    again : (ends : List ℕ) (k e : ℕ) → k < length ends → get_or ends k (get_or ends k e) ≡ get_or ends k e
    again [] k e lt = absurd (omega arith)
    again (y ∷ ends) zero e lt = refl
    again (y ∷ ends) (suc k) e lt = again ends k e (omega arith)

words_in-all : (P : List ℕ → Type 0) (groups : List Barred) → All (λ b. All P (words_of b)) groups → All P (words_in groups)
words_in-all P [] all = λ k d lt. absurd (omega arith)
words_in-all P (b ∷ groups) all =
    All-append P (words_of b) (words_in groups) (all 0 b (omega arith)) (words_in-all P groups (λ k d lt. all (suc k) d (omega arith)))

group-long : (b : Barred) → HasPath b → All (λ s. 3 ≤ length s) (words_of b)
group-long b one = words_by-all (λ s. 3 ≤ length s) b.starts.items b.path.items b.ends.items each
  where
    each : (d e : ℕ) → Contains b.starts.items d → Contains b.ends.items e → 3 ≤ length (d ∷ (b.path.items ++ e ∷ []))
    each d e at_d at_e = let len : length (d ∷ (b.path.items ++ e ∷ [])) ≡ suc (length b.path.items) + 1 = front-length d e b.path.items in omega (arith, one)

pub words-long : (groups : List Barred) → All HasPath groups → All (λ s. 3 ≤ length s) (words_in groups)
words-long groups paths = words_in-all (λ s. 3 ≤ length s) groups (λ k d lt. group-long (get_or groups k d) (paths k d lt))

pub word-below : (n d e : ℕ) (path : List ℕ) → d < n → All (λ v. v < n) path → e < n → All (λ v. v < n) (d ∷ (path ++ e ∷ []))
word-below n d e path start all end = All-append (λ v. v < n) (d ∷ []) (path ++ e ∷ []) (one d start) (All-append (λ v. v < n) path (e ∷ []) all (one e end))
  where
    one : (v : ℕ) → v < n → All (λ v. v < n) (v ∷ [])
    one v lt zero d within = lt
    one v lt (suc k) d within = absurd (omega arith)

All-at : (P : ℕ → Type 0) (xs : List ℕ) (x : ℕ) → All P xs → Contains xs x → P x
All-at P xs x all h = let g = get_Contains xs x h in All_get P xs g.0 x all g.1

group-below : (n : ℕ) (b : Barred) → IsBelow n b → All (λ s. All (λ v. v < n) s) (words_of b)
group-below n b all = words_by-all (λ s. All (λ v. v < n) s) b.starts.items b.path.items b.ends.items each
  where
    each : (d e : ℕ) → Contains b.starts.items d → Contains b.ends.items e → All (λ v. v < n) (d ∷ (b.path.items ++ e ∷ []))
    each d e at_d at_e = word-below n d e b.path.items (All-at (λ v. v < n) b.starts.items d all.0 at_d) all.1 (All-at (λ v. v < n) b.ends.items e all.2 at_e)

pub words-below : (n : ℕ) (groups : List Barred) → All (IsBelow n) groups → All (λ s. All (λ v. v < n) s) (words_in groups)
words-below n groups below = words_in-all (λ s. All (λ v. v < n) s) groups (λ k d lt. group-below n (get_or groups k d) (below k d lt))
