-- Where the sequences of groups end: which groups are kept for a state, and which ends for a group.
use Rattle.std.proofs.Common.{◌≡◌, ℕ, zero, suc, ◌+◌, ◌<◌, ◌≤◌, inl, inr, Bool, true, false, cond, ◌==◌, ◌&&◌, ◌||◌, List, [], ◌∷◌, ◌++◌, Option, Some, None, map, flat_map, take, length, All, arith, refl, sym, ◌∙◌, ap, subst}
use Rattle.std.specs.List.{slice_get, Contains, list_any}
use Rattle.std.specs.Option.{option_map_or}
use Rattle.std.proofs.lemmas.Bool.{or_cases, eqb-true, eq-eqb, ne_eqb}
use Rattle.std.proofs.lemmas.List.{same_from_push, length-take-le}
use Rattle.std.proofs.lemmas.List.Elements.{Contains-append_cases, Contains-append_left, Contains-append_right}
use Rattle.std.proofs.lemmas.List.Folds.{list_any-append}
use Rattle.std.proofs.lemmas.Option.{same_Some, slice_get_within}
use Rattle.list_lemmas.proofs.Fronts.{take-get}
use Rattle.list_lemmas.proofs.Gets.{Contains_get, get_Contains}
use Rattle.via_paths.specs.declared.barred.Barred.{Barred}
use Rattle.via_paths.specs.declared.copied.Copied.{Copied}
use Rattle.via_paths.specs.Forbidden.{HasPath, same, has, words_of, words_in}
use Rattle.via_paths.specs.Expansion.{AreCopies, held, word_of}
use Rattle.via_paths.specs.Stems.{stems_by}
use Rattle.via_paths.specs.Tries.{NextMap, IsTrie}
use Rattle.via_paths.specs.WordLaws.{same-refl, same-is, has-Contains, Contains-has, Contains-cons, Contains-here, Contains-there}
use Rattle.via_paths.specs.ArcLaws.{Contains-map, map-Contains}
use Rattle.via_paths.specs.HeldLaws.{held-whole}
use Rattle.via_paths.proofs.Growing.{word-one}

-- tests that are true at once are the same
alike : (a b : Bool) → (a ≡ true → b ≡ true) → (b ≡ true → a ≡ true) → a ≡ b
alike true b f g = sym (f refl)
alike false true f g = g refl
alike false false f g = refl

-- a test that one of a list passes
pub any-Contains : (p : ℕ → Bool) (xs : List ℕ) → list_any p xs ≡ true → (x : ℕ) × Contains xs x × (p x ≡ true)
any-Contains p [] e = absurd (cc)
any-Contains p (x ∷ xs) e = elim (or_cases (p x) (list_any p xs) e) [
  | inl here ↦ (x, Contains-here x xs, here)
  | inr later ↦ let r = any-Contains p xs later in (r.0, Contains-there x r.0 xs r.1, r.2)
]

pub Contains-any : (p : ℕ → Bool) (xs : List ℕ) (x : ℕ) → Contains xs x → p x ≡ true → list_any p xs ≡ true
Contains-any p [] x h e = absurd (omega (arith, h.1))
Contains-any p (y ∷ xs) x h e = elim (Contains-cons y x xs h) [
  | inl is ↦ left (p y) (list_any p xs) (ap p (sym is) ∙ e)
  | inr more ↦ right (p y) (list_any p xs) (Contains-any p xs x more e)
]
  where
    left : (a b : Bool) → a ≡ true → (a || b) ≡ true
    left true b e = refl
    left false b e = absurd (cc)

    right : (a b : Bool) → b ≡ true → (a || b) ≡ true
    right true b e = refl
    right false b e = e

-- what holds of each that stands in a list
all-from : {X : Type 0} (P : X → Type 0) (xs : List X) → ((x : X) → Contains xs x → P x) → All P xs
all-from P [] each k d lt = absurd (omega arith)
all-from P (y ∷ xs) each zero d lt = each y (Contains-here y xs)
all-from P (y ∷ xs) each (suc k) d lt = all-from P xs (λ x h. each x (Contains-there y x xs h)) k d (omega arith)

-- what stands in lists behind one another
flat-Contains : {X Y : Type 0} (f : X → List Y) (xs : List X) (y : Y) → Contains (flat_map f xs) y → (x : X) × Contains xs x × Contains (f x) y
flat-Contains f [] y h = absurd (omega (arith, h.1))
flat-Contains f (x ∷ xs) y h = elim (Contains-append_cases (f x) (flat_map f xs) y h) [
  | inl here ↦ (x, Contains-here x xs, here)
  | inr later ↦ let r = flat-Contains f xs y later in (r.0, Contains-there x r.0 xs r.1, r.2)
]

Contains-flat : {X Y : Type 0} (f : X → List Y) (xs : List X) (x : X) (y : Y) → Contains xs x → Contains (f x) y → Contains (flat_map f xs) y
Contains-flat f [] x y h there = absurd (omega (arith, h.1))
Contains-flat f (z ∷ xs) x y h there = elim (Contains-cons z x xs h) [
  | inl is ↦ Contains-append_left (f z) (flat_map f xs) y (subst (λ w. Contains (f w) y) is there)
  | inr more ↦ Contains-append_right (f z) (flat_map f xs) y (Contains-flat f xs x y more there)
]

-- a sequence of a group is among all
pub word-among : (groups : List Barred) (i : ℕ) (b : Barred) (d e : ℕ) → slice_get groups i ≡ Some b → Contains b.starts.items d → Contains b.ends.items e → Contains (words_in groups) (d ∷ (b.path.items ++ e ∷ []))
word-among groups i b d e at at_d at_e =
    Contains-flat {X = Barred} {Y = List ℕ} words_of groups b (d ∷ (b.path.items ++ e ∷ [])) (Contains_get groups i b at)
    (Contains-flat {X = ℕ} {Y = List ℕ} (λ d. map (λ e. d ∷ (b.path.items ++ e ∷ [])) b.ends.items) b.starts.items d (d ∷ (b.path.items ++ e ∷ [])) at_d
    (map-Contains {X = ℕ} {Y = List ℕ} (λ e. d ∷ (b.path.items ++ e ∷ [])) b.ends.items e at_e))

-- and each of all is one of a group
word-from : (groups : List Barred) (s : List ℕ) → Contains (words_in groups) s →
    (i : ℕ) × (b : Barred) × (d : ℕ) × (e : ℕ) × (slice_get groups i ≡ Some b) × Contains b.starts.items d × Contains b.ends.items e × (s ≡ d ∷ (b.path.items ++ e ∷ []))
word-from groups s h =
    let f = flat-Contains {X = Barred} {Y = List ℕ} words_of groups s h in
    let b : Barred = f.0 in
    let g = get_Contains groups b f.1 in
    let r = flat-Contains {X = ℕ} {Y = List ℕ} (λ d. map (λ e. d ∷ (b.path.items ++ e ∷ [])) b.ends.items) b.starts.items s f.2 in
    let d : ℕ = r.0 in
    let m = Contains-map {X = ℕ} {Y = List ℕ} (λ e. d ∷ (b.path.items ++ e ∷ [])) b.ends.items s r.2 in
    (g.0, b, d, m.0, g.1, r.1, m.1, m.2)

-- a start with the path behind it, where there is an end
stems-among : (starts path ends : List ℕ) (d e : ℕ) → Contains starts d → Contains ends e → Contains (stems_by starts path ends) (d ∷ path)
stems-among starts path [] d e at_d at_e = absurd (omega (arith, at_e.1))
stems-among starts path (x ∷ ends) d e at_d at_e = map-Contains {X = ℕ} {Y = List ℕ} (λ d. d ∷ path) starts d at_d

stems-from : (starts path ends w : List ℕ) → Contains (stems_by starts path ends) w → (d : ℕ) × Contains starts d × (w ≡ d ∷ path)
stems-from starts path [] w h = absurd (omega (arith, h.1))
stems-from starts path (x ∷ ends) w h = Contains-map {X = ℕ} {Y = List ℕ} (λ d. d ∷ path) starts w h

-- it has a copy, so it is held whole
pub stems-held : (groups : List Barred) (copies : List (List ℕ)) (i : ℕ) (b : Barred) → AreCopies (words_in groups) copies → slice_get groups i ≡ Some b → HasPath b →
    All (λ w. held copies w ≡ w) (stems_by b.starts.items b.path.items b.ends.items)
stems-held groups copies i b are at one = by b.starts.items b.ends.items (λ d e at_d at_e. whole d e (word-among groups i b d e at at_d at_e))
  where
    whole : (d e : ℕ) → Contains (words_in groups) (d ∷ (b.path.items ++ e ∷ [])) → held copies (d ∷ b.path.items) ≡ d ∷ b.path.items
    whole d e among =
        let two : 2 ≤ length (d ∷ b.path.items) = omega (arith, one) in
        held-whole copies (d ∷ b.path.items) (Contains-has copies (d ∷ b.path.items) (are.all (d ∷ b.path.items) (two, d ∷ (b.path.items ++ e ∷ []), e, [], among, refl)))

    by : (starts ends : List ℕ) → ((d e : ℕ) → Contains starts d → Contains ends e → held copies (d ∷ b.path.items) ≡ d ∷ b.path.items) →
        All (λ w. held copies w ≡ w) (stems_by starts b.path.items ends)
    by starts [] each = λ k w lt. absurd (omega arith)
    by starts (e ∷ ends) each = all-from (λ w. held copies w ≡ w) (map (λ d. d ∷ b.path.items) starts) (λ w h.
        let m = Contains-map {X = ℕ} {Y = List ℕ} (λ d. d ∷ b.path.items) starts w h in
        subst (λ (z : List ℕ). held copies z ≡ z) (sym m.2) (each m.0 e m.1 (Contains-here e ends)))

-- what a group of this number tells, where there is one
abbrev pub gathered : (Barred → Bool) → List Barred → ℕ → Bool
gathered f groups h = option_map_or f (slice_get groups h) false

-- the word is a start of the group with its path behind it
abbrev pub stands : List ℕ → Barred → Bool
stands w b = has (stems_by b.starts.items b.path.items b.ends.items) w

-- the vertex is an end of the group
abbrev pub ends_on : ℕ → Barred → Bool
ends_on e b = list_any (λ x. x == e) b.ends.items

or-false : (b : Bool) → (b || false) ≡ b
or-false true = refl
or-false false = refl

suc-eq : (a b : ℕ) → (suc a == suc b) ≡ (a == b)
suc-eq a b = alike (suc a == suc b) (a == b)
    (λ e. let is : suc a ≡ suc b = eqb-true (suc a) (suc b) e in eq-eqb a b (omega arith))
    (λ e. let is : a ≡ b = eqb-true a b e in eq-eqb (suc a) (suc b) (omega arith))

gathered-push : (f : Barred → Bool) (groups : List Barred) (b : Barred) (h : ℕ) → gathered f (groups ++ b ∷ []) h ≡ (gathered f groups h || ((length groups == h) && f b))
gathered-push f [] b zero = refl
gathered-push f [] b (suc h) = let ne : 0 ≡ suc h → ⊥ = λ e. omega (arith, e) in sym (ap (λ (c : Bool). false || (c && f b)) (ne_eqb 0 (suc h) ne))
gathered-push f (x ∷ groups) b zero =
    let ne : suc (length groups) ≡ 0 → ⊥ = λ e. omega (arith, e) in
    sym (ap (λ (c : Bool). f x || (c && f b)) (ne_eqb (suc (length groups)) 0 ne) ∙ or-false (f x))
gathered-push f (x ∷ groups) b (suc h) = gathered-push f groups b h ∙ ap (λ (c : Bool). gathered f groups h || (c && f b)) (sym (suc-eq (length groups) h))

-- one group more
pub gathered-more : (f : Barred → Bool) (groups : List Barred) (i : ℕ) (b : Barred) (h : ℕ) → slice_get groups i ≡ Some b →
    gathered f (take (i + 1) groups) h ≡ (gathered f (take i groups) h || ((i == h) && f b))
gathered-more f groups i b h at =
    let lt : i < length groups = slice_get_within groups i b at in
    let le : i ≤ length groups = omega arith in
    ap (λ (l : List Barred). gathered f l h) (take-get groups i b at) ∙ gathered-push f (take i groups) b h
    ∙ ap (λ (k : ℕ). gathered f (take i groups) h || ((k == h) && f b)) (length-take-le i groups le)

gathered-true : (f : Barred → Bool) (groups : List Barred) (h : ℕ) → gathered f groups h ≡ true → (b : Barred) × (slice_get groups h ≡ Some b) × (f b ≡ true)
gathered-true f groups h e = by (slice_get groups h) refl e
  where
    by : (o : Option Barred) → slice_get groups h ≡ o → option_map_or f o false ≡ true → (b : Barred) × (slice_get groups h ≡ Some b) × (f b ≡ true)
    by None at e = absurd (cc)
    by (Some b) at e = (b, at, e)

gathered-at : (f : Barred → Bool) (groups : List Barred) (h : ℕ) (b : Barred) → slice_get groups h ≡ Some b → gathered f groups h ≡ f b
gathered-at f groups h b at = ap (λ (o : Option Barred). option_map_or f o false) at

-- a vertex is an end of one of the groups that are kept for a word exactly where it ends a sequence behind that word
pub ends-tell : (groups : List Barred) (kept : List ℕ) (p : ℕ → Bool) (w : List ℕ) (e : ℕ) →
    ((h : ℕ) → list_any (λ x. x == h) kept ≡ gathered (stands w) groups h) → ((h : ℕ) → p h ≡ gathered (ends_on e) groups h) →
    list_any p kept ≡ has (words_in groups) (w ++ e ∷ [])
ends-tell groups kept p w e at on = alike (list_any p kept) (has (words_in groups) (w ++ e ∷ [])) to from
  where
    to : list_any p kept ≡ true → has (words_in groups) (w ++ e ∷ []) ≡ true
    to found =
        let r = any-Contains p kept found in
        let h : ℕ = r.0 in
        let s = gathered-true (stands w) groups h (sym (at h) ∙ Contains-any (λ x. x == h) kept h r.1 (eq-eqb h h refl)) in
        let b : Barred = s.0 in
        let t = gathered-true (ends_on e) groups h (sym (on h) ∙ r.2) in
        let same_group : t.0 ≡ b = same_Some t.0 b (sym t.1 ∙ s.1) in
        let ends_here : ends_on e b ≡ true = subst (λ (z : Barred). ends_on e z ≡ true) same_group t.2 in
        let d = stems-from b.starts.items b.path.items b.ends.items w (has-Contains (stems_by b.starts.items b.path.items b.ends.items) w s.2) in
        let f = any-Contains (λ x. x == e) b.ends.items ends_here in
        let end : Contains b.ends.items e = subst (λ (x : ℕ). Contains b.ends.items x) (eqb-true f.0 e f.2) f.1 in
        let word : d.0 ∷ (b.path.items ++ e ∷ []) ≡ w ++ e ∷ [] = ap (λ (z : List ℕ). z ++ e ∷ []) (sym d.2) in
        Contains-has (words_in groups) (w ++ e ∷ []) (subst (λ (z : List ℕ). Contains (words_in groups) z) word (word-among groups h b d.0 e s.1 d.1 end))

    from : has (words_in groups) (w ++ e ∷ []) ≡ true → list_any p kept ≡ true
    from found =
        let r = word-from groups (w ++ e ∷ []) (has-Contains (words_in groups) (w ++ e ∷ []) found) in
        let i : ℕ = r.0 in
        let b : Barred = r.1 in
        let d : ℕ = r.2 in
        let split : (w ≡ d ∷ b.path.items) × (e ≡ r.3) = same_from_push w (d ∷ b.path.items) e r.3 r.7 in
        let end : Contains b.ends.items e = subst (λ (x : ℕ). Contains b.ends.items x) (sym split.1) r.6 in
        let stem : Contains (stems_by b.starts.items b.path.items b.ends.items) w = subst (λ (z : List ℕ). Contains (stems_by b.starts.items b.path.items b.ends.items) z) (sym split.0) (stems-among b.starts.items b.path.items b.ends.items d e r.5 end) in
        let kept_there : list_any (λ x. x == i) kept ≡ true = at i ∙ gathered-at (stands w) groups i b r.4 ∙ Contains-has (stems_by b.starts.items b.path.items b.ends.items) w stem in
        let k = any-Contains (λ x. x == i) kept kept_there in
        let number : k.0 ≡ i = eqb-true k.0 i k.2 in
        let passes : p k.0 ≡ true = ap p number ∙ on i ∙ gathered-at (ends_on e) groups i b r.4 ∙ Contains-any (λ x. x == e) b.ends.items e end (eq-eqb e e refl) in
        Contains-any p kept k.0 k.1 passes

-- one start more: whether the group stands behind a state
pub group-step : (xs ys : List ℕ) (g h : ℕ) (x o s s' : Bool) → ys ≡ cond x (xs ++ g ∷ []) xs → list_any (λ y. y == h) xs ≡ (o || ((g == h) && s)) → s' ≡ (s || x) →
    list_any (λ y. y == h) ys ≡ (o || ((g == h) && s'))
group-step xs ys g h true o s s' is was grown =
    ap (list_any (λ y. y == h)) is ∙ list_any-append (λ y. y == h) xs (g ∷ []) ∙ ap (λ (c : Bool). c || ((g == h) || false)) was
    ∙ table o (g == h) s ∙ ap (λ (c : Bool). o || ((g == h) && c)) (sym grown)
  where
    table : (o g s : Bool) → ((o || (g && s)) || (g || false)) ≡ (o || (g && (s || true)))
    table true g s = refl
    table false true true = refl
    table false true false = refl
    table false false s = refl
group-step xs ys g h false o s s' is was grown = ap (list_any (λ y. y == h)) is ∙ was ∙ table o (g == h) s ∙ ap (λ (c : Bool). o || ((g == h) && c)) (sym grown)
  where
    table : (o g s : Bool) → (o || (g && s)) ≡ (o || (g && (s || false)))
    table true g s = refl
    table false true true = refl
    table false true false = refl
    table false false s = refl

-- one end more: whether it is one of the group
pub end-step : (o g l x c c' l' : Bool) → c ≡ (o || (g && l)) → c' ≡ cond (g && x) true c → l' ≡ (l || x) → c' ≡ (o || (g && l'))
end-step o g l x c c' l' was is grown = is ∙ ap (λ (d : Bool). cond (g && x) true d) was ∙ table o g l x ∙ ap (λ (d : Bool). o || (g && d)) (sym grown)
  where
    table : (o g l x : Bool) → cond (g && x) true (o || (g && l)) ≡ (o || (g && (l || x)))
    table true true l true = refl
    table true true l false = refl
    table true false l x = refl
    table false true true true = refl
    table false true true false = refl
    table false true false true = refl
    table false true false false = refl
    table false false l x = refl

module _ (n : ℕ) (copies : List (List ℕ)) (next : NextMap) (copied : List Copied) (t : IsTrie n copies next copied) where
  -- the state of a word, and no other, has the same word
  pub state-same : (q r : ℕ) (w : List ℕ) → r < n + length copies → word_of n copies r ≡ w → same (word_of n copies q) w ≡ (r == q)
  state-same q r w lt is = alike (same (word_of n copies q) w) (r == q)
      (λ e. let back : word_of n copies q ≡ word_of n copies r = same-is (word_of n copies q) w e ∙ sym is in eq-eqb r q (sym (word-one n copies next copied t r q lt back)))
      (λ e. subst (λ (k : ℕ). same (word_of n copies k) w ≡ true) (eqb-true r q e) (ap (λ (z : List ℕ). same z w) is ∙ same-refl w))
