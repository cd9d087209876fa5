-- The first sequences of the starts of groups: their copies are those of all.
use Rattle.std.proofs.Common.{◌≡◌, ℕ, zero, suc, ◌+◌, ◌-◌, ◌<◌, ◌≤◌, inl, inr, max, Bool, cond, List, [], ◌∷◌, ◌++◌, map, take, length, get_or, All, arith, refl, sym, ◌∙◌, ap}
use Rattle.std.proofs.lemmas.Bool.{cases_lt}
use Rattle.std.proofs.lemmas.List.{take-append-le}
use Rattle.std.proofs.lemmas.List.Elements.{All-append, All-map}
use Rattle.std.proofs.lemmas.List.Sums.{fold-append}
use Rattle.std.proofs.Math.Nat.{eq-or-lt_of_le}
use Rattle.via_paths.specs.declared.barred.Barred.{Barred}
use Rattle.via_paths.specs.Copies.{with_new, with_prefix, layer, layers, longest, copies_of}
use Rattle.via_paths.specs.Forbidden.{IsBelow, words_of, words_in}
use Rattle.via_paths.specs.Stems.{firsts_by, firsts_of, firsts_in, stems_by}
use Rattle.via_paths.specs.PrefixLaws.{prefix-longer, prefix-shorter, new-has}
use Rattle.via_paths.specs.GroupLaws.{front-length, word-below, words_by, words_from}

-- without ends there are none
words_by-none : (starts path : List ℕ) → words_by starts path [] ≡ []
words_by-none [] path = refl
words_by-none (d ∷ starts) path = words_by-none starts path

-- a word that is there stays alone
new-twice : (copies : List (List ℕ)) (p : List ℕ) → with_new (with_new copies p) p ≡ with_new copies p
new-twice copies p = ap (λ (b : Bool). cond b (with_new copies p) (with_new copies p ++ p ∷ [])) (new-has copies p)

-- sequences that differ in their last vertex alone have the same prefixes
front-take : (k d e : ℕ) (path : List ℕ) → k < length (d ∷ (path ++ e ∷ [])) → take k (d ∷ (path ++ e ∷ [])) ≡ take k (d ∷ path)
front-take k d e path lt =
    let len : length (d ∷ (path ++ e ∷ [])) ≡ suc (length path) + 1 = front-length d e path in
    let le : k ≤ length (d ∷ path) = omega arith in
    take-append-le k (d ∷ path) (e ∷ []) le

prefix-twice : (k : ℕ) (copies : List (List ℕ)) (d e f : ℕ) (path : List ℕ) →
    with_prefix k (with_prefix k copies (d ∷ (path ++ e ∷ []))) (d ∷ (path ++ f ∷ [])) ≡ with_prefix k copies (d ∷ (path ++ e ∷ []))
prefix-twice k copies d e f path =
    let le_e : length (d ∷ (path ++ e ∷ [])) ≡ suc (length path) + 1 = front-length d e path in
    let le_f : length (d ∷ (path ++ f ∷ [])) ≡ suc (length path) + 1 = front-length d f path in
    elim (cases_lt k (length (d ∷ (path ++ e ∷ [])))) [
      | inl lt ↦
          let also : k < length (d ∷ (path ++ f ∷ [])) = omega arith in
          let once : with_prefix k copies (d ∷ (path ++ e ∷ [])) ≡ with_new copies (take k (d ∷ path)) = prefix-longer k copies (d ∷ (path ++ e ∷ [])) lt ∙ ap (with_new copies) (front-take k d e path lt) in
          ap (λ (c : List (List ℕ)). with_prefix k c (d ∷ (path ++ f ∷ []))) once
          ∙ prefix-longer k (with_new copies (take k (d ∷ path))) (d ∷ (path ++ f ∷ [])) also
          ∙ ap (with_new (with_new copies (take k (d ∷ path)))) (front-take k d f path also)
          ∙ new-twice copies (take k (d ∷ path)) ∙ sym once
      | inr ge ↦
          let also : length (d ∷ (path ++ f ∷ [])) ≤ k = omega arith in
          prefix-shorter k (with_prefix k copies (d ∷ (path ++ e ∷ []))) (d ∷ (path ++ f ∷ [])) also
    ]

-- all sequences from a start add what the first of them does
from-first : (k : ℕ) (copies : List (List ℕ)) (d e : ℕ) (path ends : List ℕ) →
    layer k (with_prefix k copies (d ∷ (path ++ e ∷ []))) (words_from d path ends) ≡ with_prefix k copies (d ∷ (path ++ e ∷ []))
from-first k copies d e path [] = refl
from-first k copies d e path (f ∷ ends) =
    ap (λ (c : List (List ℕ)). layer k c (words_from d path ends)) (prefix-twice k copies d e f path) ∙ from-first k copies d e path ends

group-layer : (k : ℕ) (copies : List (List ℕ)) (starts path ends : List ℕ) → layer k copies (words_by starts path ends) ≡ layer k copies (firsts_by starts path ends)
group-layer k copies starts path [] = ap (layer k copies) (words_by-none starts path)
group-layer k copies [] path (e ∷ ends) = refl
group-layer k copies (d ∷ starts) path (e ∷ ends) =
    fold-append (with_prefix k) copies (words_from d path (e ∷ ends)) (words_by starts path (e ∷ ends))
    ∙ ap (λ (c : List (List ℕ)). layer k c (words_by starts path (e ∷ ends))) (from-first k copies d e path ends)
    ∙ group-layer k (with_prefix k copies (d ∷ (path ++ e ∷ []))) starts path (e ∷ ends)

layer-firsts : (k : ℕ) (copies : List (List ℕ)) (groups : List Barred) → layer k copies (words_in groups) ≡ layer k copies (firsts_in groups)
layer-firsts k copies [] = refl
layer-firsts k copies (b ∷ groups) =
    fold-append (with_prefix k) copies (words_of b) (words_in groups)
    ∙ ap (λ (c : List (List ℕ)). layer k c (words_in groups)) (group-layer k copies b.starts.items b.path.items b.ends.items)
    ∙ layer-firsts k (layer k copies (firsts_of b)) groups
    ∙ sym (fold-append (with_prefix k) copies (firsts_of b) (firsts_in groups))

layers-firsts : (m : ℕ) (groups : List Barred) → layers m (words_in groups) ≡ layers m (firsts_in groups)
layers-firsts zero groups = refl
layers-firsts (suc m) groups =
    layer-firsts (m + 2) (layers m (words_in groups)) groups ∙ ap (λ (c : List (List ℕ)). layer (m + 2) c (firsts_in groups)) (layers-firsts m groups)

-- the longest of joined lists
longest-append : (xs ys : List (List ℕ)) → longest (xs ++ ys) ≡ max (longest xs) (longest ys)
longest-append [] ys = omega arith
longest-append (x ∷ xs) ys = let rest : longest (xs ++ ys) ≡ max (longest xs) (longest ys) = longest-append xs ys in omega arith

-- all sequences from a start are as long
from-longest : (d e : ℕ) (path ends : List ℕ) → longest (words_from d path (e ∷ ends)) ≡ length (d ∷ (path ++ e ∷ []))
from-longest d e path [] = omega arith
from-longest d e path (f ∷ ends) =
    let rest : longest (words_from d path (f ∷ ends)) ≡ length (d ∷ (path ++ f ∷ [])) = from-longest d f path ends in
    let le_e : length (d ∷ (path ++ e ∷ [])) ≡ suc (length path) + 1 = front-length d e path in
    let le_f : length (d ∷ (path ++ f ∷ [])) ≡ suc (length path) + 1 = front-length d f path in
    let both : longest (words_from d path (e ∷ f ∷ ends)) ≡ max (length (d ∷ (path ++ e ∷ []))) (longest (words_from d path (f ∷ ends))) = refl in
    omega arith

group-longest : (starts path ends : List ℕ) → longest (words_by starts path ends) ≡ longest (firsts_by starts path ends)
group-longest starts path [] = ap longest (words_by-none starts path)
group-longest [] path (e ∷ ends) = refl
group-longest (d ∷ starts) path (e ∷ ends) =
    let whole : longest (words_by (d ∷ starts) path (e ∷ ends)) ≡ max (longest (words_from d path (e ∷ ends))) (longest (words_by starts path (e ∷ ends))) = longest-append (words_from d path (e ∷ ends)) (words_by starts path (e ∷ ends)) in
    let first : longest (words_from d path (e ∷ ends)) ≡ length (d ∷ (path ++ e ∷ [])) = from-longest d e path ends in
    let rest : longest (words_by starts path (e ∷ ends)) ≡ longest (firsts_by starts path (e ∷ ends)) = group-longest starts path (e ∷ ends) in
    whole ∙ ap (λ (k : ℕ). max k (longest (words_by starts path (e ∷ ends)))) first ∙ ap (λ (k : ℕ). max (length (d ∷ (path ++ e ∷ []))) k) rest

longest-firsts : (groups : List Barred) → longest (words_in groups) ≡ longest (firsts_in groups)
longest-firsts [] = refl
longest-firsts (b ∷ groups) =
    longest-append (words_of b) (words_in groups)
    ∙ ap (λ (k : ℕ). max k (longest (words_in groups))) (group-longest b.starts.items b.path.items b.ends.items)
    ∙ ap (λ (k : ℕ). max (longest (firsts_of b)) k) (longest-firsts groups)
    ∙ sym (longest-append (firsts_of b) (firsts_in groups))

-- the copies of all sequences are those of the first of each start
pub copies-firsts : (groups : List Barred) → copies_of (firsts_in groups) ≡ copies_of (words_in groups)
copies-firsts groups = sym (layers-firsts (longest (words_in groups)) groups ∙ ap (λ (m : ℕ). layers m (firsts_in groups)) (longest-firsts groups))

-- layers past the longest sequence add nothing
layer-idle : (k : ℕ) (copies words : List (List ℕ)) → longest words ≤ k → layer k copies words ≡ copies
layer-idle k copies [] le = refl
layer-idle k copies (s ∷ words) le =
    let here : length s ≤ k = omega arith in
    let rest : longest words ≤ k = omega arith in
    ap (λ (c : List (List ℕ)). layer k c words) (prefix-shorter k copies s here) ∙ layer-idle k copies words rest

layers-idle : (m k : ℕ) (words : List (List ℕ)) → m ≤ k → longest words ≤ m + 2 → layers k words ≡ layers m words
layers-idle m zero words le short = let is : m ≡ 0 = omega arith in ap (λ (j : ℕ). layers j words) (sym is)
layers-idle m (suc k) words le short = elim (eq-or-lt_of_le le) [
  | inl same ↦ ap (λ (j : ℕ). layers j words) (sym same)
  | inr lt ↦
      let lower : m ≤ k = omega arith in
      let past : longest words ≤ k + 2 = omega arith in
      layer-idle (k + 2) (layers k words) words past ∙ layers-idle m k words lower short
]

-- so two layers fewer than the longest sequence has vertices are all
pub layers-enough : (words : List (List ℕ)) → layers (longest words - 2) words ≡ copies_of words
layers-enough words =
    let le : longest words - 2 ≤ longest words = omega arith in
    let short : longest words ≤ (longest words - 2) + 2 = omega arith in
    sym (layers-idle (longest words - 2) (longest words) words le short)

-- the first sequences are among all
pub firsts-below : (n : ℕ) (groups : List Barred) → All (IsBelow n) groups → All (λ s. All (λ v. v < n) s) (firsts_in groups)
firsts-below n [] below = λ k d lt. absurd (omega arith)
firsts-below n (b ∷ groups) below =
    let all : IsBelow n b = below 0 b (omega arith) in
    All-append (λ s. All (λ v. v < n) s) (firsts_of b) (firsts_in groups) (by b.starts.items b.path.items b.ends.items all.0 all.1 all.2) (firsts-below n groups (λ k d lt. below (suc k) d (omega arith)))
  where
    by : (starts path ends : List ℕ) → All (λ v. v < n) starts → All (λ v. v < n) path → All (λ v. v < n) ends → All (λ s. All (λ v. v < n) s) (firsts_by starts path ends)
    by starts path [] at_starts at_path at_ends = λ k d lt. absurd (omega arith)
    by starts path (e ∷ ends) at_starts at_path at_ends =
        All-map (λ s. All (λ v. v < n) s) (λ d. d ∷ (path ++ e ∷ [])) starts (λ k d lt. word-below n (get_or starts k d) e path (at_starts k d lt) at_path (at_ends 0 e (omega arith)))

-- where there is an end, each start with the path behind it
pub stems-some : (starts path ends : List ℕ) → 0 < length ends → stems_by starts path ends ≡ map (λ d. d ∷ path) starts
stems-some starts path [] some = absurd (omega arith)
stems-some starts path (e ∷ ends) some = refl
