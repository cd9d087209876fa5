-- The heads that are left behind the sequences of one group.
use Rattle.std.proofs.Common.{◌≡◌, ℕ, ◌+◌, ◌-◌, ◌<◌, ◌≤◌, inl, inr, Bool, true, false, not, ◌||◌, cond, List, [], ◌∷◌, ◌++◌, Some, Vec, map, filter, length, get_or, arith, refl, sym, ◌∙◌, ap}
use Rattle.std.specs.Global.{Global}
use Rattle.std.specs.HashMap.{get}
use Rattle.std.specs.HashSet.{contains}
use Rattle.std.specs.List.{slice_get, list_any}
use Rattle.std.proofs.lemmas.Bool.{cases_Bool}
use Rattle.std.proofs.lemmas.List.Elements.{filter_agree}
use Rattle.std.proofs.lemmas.Option.{same_Some, slice_get_within}
use Rattle.via_paths.specs.declared.copied.Copied.{Copied}
use Rattle.via_paths.specs.declared.ended.Ends.{Ends}
use Rattle.via_paths.specs.Forbidden.{has, ends_in}
use Rattle.via_paths.specs.Expansion.{onward, word_of}
use Rattle.via_paths.specs.Tries.{NextMap, ListMap, EndSet, KeptMap, AreKept, IsAutomaton, left_by, list_at, out_by, pair_eq}
use Rattle.via_paths.specs.ArcLaws.{word-ordinary, pair-fine}
use Rattle.via_paths.proofs.Falling.{copies-many}
use Rattle.via_paths.proofs.Growing.{pair-is}
use Rattle.via_paths.proofs.Ending.{ended-here, ended-back}

-- a test of the one element of a list
single : (p : ℕ → Bool) (xs : List ℕ) → length xs ≡ 1 → list_any p xs ≡ p (get_or xs 0 0)
single p [] one = absurd (omega (arith, one))
single p (x ∷ []) one = by (p x)
  where
    by : (b : Bool) → (b || false) ≡ b
    by true = refl
    by false = refl
single p (x ∷ y ∷ xs) one = absurd (omega (arith, one))

-- behind a copy that is of one group, and falls back to an ordinary vertex, a sequence ends on the ends of this group
pub sole-ends : (n : ℕ) (sequences copies : List (List ℕ)) (next : NextMap) (copied : List Copied) (ends : Ends) → IsAutomaton n sequences copies next copied ends →
    (k e : ℕ) (entry : Copied) (groups : List ℕ) → slice_get copied k ≡ Some entry → entry.back < n → groups ≡ list_at ends.groups (n + k) → length groups ≡ 1 →
    ends_in sequences (word_of n copies (n + k) ++ e ∷ []) ≡ contains pair_eq ends.vertices (get_or groups 0 0, e)
sole-ends n sequences copies next copied ends h k e entry groups at low is one =
    let lt : k < length copied = slice_get_within copied k entry at in
    let far : n ≤ n + k = omega arith in
    let within : n + k < n + length copies = omega (arith, copies-many n copies next copied h.trie) in
    let back : (n + k) - n ≡ k = omega arith in
    let there : slice_get copied ((n + k) - n) ≡ Some entry = ap (slice_get copied) back ∙ at in
    let word : List ℕ = word_of n copies (n + k) in
    let told : has sequences (word ++ e ∷ []) ≡ contains pair_eq ends.vertices (get_or groups 0 0, e) =
    sym (h.ended (n + k) e) ∙ ap (list_any (λ g. contains pair_eq ends.vertices (g, e))) (sym is) ∙ single (λ g. contains pair_eq ends.vertices (g, e)) groups one in
    elim (cases_Bool (has sequences (word ++ e ∷ []))) [
      | inl found ↦ ended-here n copies next copied h.trie sequences h.are word e found ∙ sym found ∙ told
      | inr none ↦
          ended-back n copies next copied h.trie sequences h.are (n + k) e entry far within none there
          ∙ ap (λ (w : List ℕ). ends_in sequences (w ++ e ∷ [])) (word-ordinary n copies entry.back low)
          ∙ pair-fine n sequences copies [] h.long (λ k d none. absurd (omega arith)) entry.back e
          ∙ sym none ∙ told
    ]

-- what passes a test once passes it again
filter-twice : (p : ℕ → Bool) (xs : List ℕ) → filter p (filter p xs) ≡ filter p xs
filter-twice p [] = refl
filter-twice p (x ∷ xs) = by (p x) refl (filter-twice p xs)
  where
    by : (b : Bool) → p x ≡ b → filter p (filter p xs) ≡ filter p xs → filter p (filter p (x ∷ xs)) ≡ filter p (x ∷ xs)
    by true e less =
        ap (λ (b : Bool). filter p (cond b (x ∷ filter p xs) (filter p xs))) e
        ∙ ap (λ (b : Bool). cond b (x ∷ filter p (filter p xs)) (filter p (filter p xs))) e
        ∙ ap (λ (l : List ℕ). x ∷ l) less
        ∙ sym (ap (λ (b : Bool). cond b (x ∷ filter p xs) (filter p xs)) e)
    by false e less =
        ap (λ (b : Bool). filter p (cond b (x ∷ filter p xs) (filter p xs))) e
        ∙ less
        ∙ sym (ap (λ (b : Bool). cond b (x ∷ filter p xs) (filter p xs)) e)

-- so the arcs on the heads that are left are all
pub out-left : (n : ℕ) (sequences copies : List (List ℕ)) (q g : ℕ) (word heads : List ℕ) (vertices : EndSet) → ((e : ℕ) → ends_in sequences (word ++ e ∷ []) ≡ contains pair_eq vertices (g, e)) →
    out_by n sequences copies q word (left_by vertices g heads) ≡ out_by n sequences copies q word heads
out-left n sequences copies q g word heads vertices same =
    let goes : ℕ → Bool = λ e. not (ends_in sequences (word ++ e ∷ [])) in
    let stays : ℕ → Bool = λ e. not (contains pair_eq vertices (g, e)) in
    let alike : filter goes heads ≡ filter stays heads = filter_agree goes stays (λ e. ap not (same e)) heads in
    ap (map {A = ℕ} {B = ℕ × ℕ} (λ e. (q, onward n copies word e))) (ap (filter goes) (sym alike) ∙ filter-twice goes heads)

-- one list more is kept
pub kept-more : (ends : EndSet) (fans : ListMap ℕ) (old new : KeptMap) (at : ℕ × ℕ) (heads : Vec ℕ Global) → AreKept ends fans old → heads.items ≡ left_by ends at.0 (list_at fans at.1) →
    ((b : ℕ × ℕ) → get pair_eq new b ≡ cond (pair_eq at b) (Some heads) (get pair_eq old b)) → AreKept ends fans new
kept-more ends fans old new at heads was is updates b found got = by (pair_eq at b) refl
  where
    by : (x : Bool) → pair_eq at b ≡ x → found.items ≡ left_by ends b.0 (list_at fans b.1)
    by true e =
        let same = pair-is at b e in
        let one : found ≡ heads = same_Some found heads (sym got ∙ updates b ∙ ap (λ (x : Bool). cond x (Some heads) (get pair_eq old b)) e) in
        ap (λ (v : Vec ℕ Global). v.items) one ∙ is
        ∙ ap (λ (g : ℕ). left_by ends g (list_at fans at.1)) same.0
        ∙ ap (λ (v : ℕ). left_by ends b.0 (list_at fans v)) same.1
    by false e = was b found (sym (updates b ∙ ap (λ (x : Bool). cond x (Some heads) (get pair_eq old b)) e) ∙ got)
