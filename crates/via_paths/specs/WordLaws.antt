-- Words among words, their ends, runs in walks, and how walks go on.
use Rattle.std.proofs.Common.{◌≡◌, ℕ, zero, suc, ◌+◌, ◌<◌, ◌≤◌, ◌⊎◌, inl, inr, Bool, true, false, ◌==◌, ◌&&◌, ◌||◌, List, [], ◌∷◌, ◌++◌, length, Some, All, arith, refl, sym, ◌∙◌, ap, subst, append_assoc, append-nil, length-append}
use Rattle.std.specs.List.{Contains, slice_get}
use Rattle.std.proofs.lemmas.Bool.{eqb-true, eq-eqb, cases_Bool, or_cases}
use Rattle.std.proofs.lemmas.Option.{same_Some}
use Rattle.std.proofs.Math.Nat.{eq-or-lt_of_le}
use Rattle.list_lemmas.proofs.Gets.{Contains_get, get_Contains}
use Rattle.via_paths.specs.Forbidden.{IsFree, IsFreeBehind, same, has, ends_in, last_of}

-- a word is the same as itself
pub same-refl : (a : List ℕ) → same a a ≡ true
same-refl [] = refl
same-refl (x ∷ a) = ap (λ (b : Bool). b && same a a) (eq-eqb x x refl) ∙ same-refl a

both : (a b : Bool) → (a && b) ≡ true → (a ≡ true) × (b ≡ true)
both true b e = (refl, e)
both false b e = absurd (cc)

-- words that are the same are equal
pub same-is : (a b : List ℕ) → same a b ≡ true → a ≡ b
same-is [] [] e = refl
same-is [] (y ∷ b) e = cc
same-is (x ∷ a) [] e = cc
same-is (x ∷ a) (y ∷ b) e =
    let p = both (x == y) (same a b) e in
    let head : x ≡ y = eqb-true x y p.0 in
    let rest : a ≡ b = same-is a b p.1 in
    cc

-- what stands among a word and others
pub Contains-cons : {X : Type 0} (x y : X) (xs : List X) → Contains (x ∷ xs) y → (y ≡ x) ⊎ Contains xs y
Contains-cons {X} x y xs h = let g = get_Contains (x ∷ xs) y h in by g.0 g.1
  where
    by : (k : ℕ) → slice_get (x ∷ xs) k ≡ Some y → (y ≡ x) ⊎ Contains xs y
    by zero e = inl (sym (same_Some x y e))
    by (suc k) e = inr (Contains_get xs k y e)

pub Contains-here : {X : Type 0} (x : X) (xs : List X) → Contains (x ∷ xs) x
Contains-here x xs = Contains_get (x ∷ xs) 0 x refl

pub Contains-there : {X : Type 0} (x y : X) (xs : List X) → Contains xs y → Contains (x ∷ xs) y
Contains-there x y xs h = let g = get_Contains xs y h in Contains_get (x ∷ xs) (suc g.0) y g.1

Contains-none : {X : Type 0} (y : X) → Contains [] y → ⊥
Contains-none y h = omega (arith, h.1)

-- what stands in a list of one is that one
pub Contains-one : {X : Type 0} (x y : X) → Contains (x ∷ []) y → y ≡ x
Contains-one {X} x y h = elim (Contains-cons x y [] h) [ inl is ↦ is | inr none ↦ absurd (Contains-none y none) ]

-- what the test finds is there, and what is there it finds
pub has-Contains : (words : List (List ℕ)) (w : List ℕ) → has words w ≡ true → Contains words w
has-Contains [] w e = absurd (cc)
has-Contains (x ∷ words) w e = elim (or_cases (same w x) (has words w) e) [
  | inl is ↦ subst (λ (y : List ℕ). Contains (x ∷ words) y) (sym (same-is w x is)) (Contains-here x words)
  | inr more ↦ Contains-there x w words (has-Contains words w more)
]

or-right : (a b : Bool) → b ≡ true → (a || b) ≡ true
or-right true b e = refl
or-right false b e = e

or-left : (a b : Bool) → a ≡ true → (a || b) ≡ true
or-left true b e = refl
or-left false b e = absurd (cc)

pub Contains-has : (words : List (List ℕ)) (w : List ℕ) → Contains words w → has words w ≡ true
Contains-has [] w h = absurd (Contains-none w h)
Contains-has (x ∷ words) w h = elim (Contains-cons x w words h) [
  | inl is ↦ or-left (same w x) (has words w) (subst (λ (y : List ℕ). same w y ≡ true) is (same-refl w))
  | inr more ↦ or-right (same w x) (has words w) (Contains-has words w more)
]

-- a word is among more words where it is among them, or is the new one
pub has-push : (words : List (List ℕ)) (p r : List ℕ) → has (words ++ p ∷ []) r ≡ (has words r || same r p)
has-push [] p r = by (same r p)
  where
    by : (b : Bool) → (b || false) ≡ b
    by true = refl
    by false = refl
has-push (x ∷ words) p r = ap (λ (b : Bool). same r x || b) (has-push words p r) ∙ by (same r x)
  where
    by : (b : Bool) → (b || (has words r || same r p)) ≡ ((b || has words r) || same r p)
    by true = refl
    by false = refl

pub has-old : (words : List (List ℕ)) (p r : List ℕ) → has words r ≡ true → has (words ++ p ∷ []) r ≡ true
has-old words p r h = has-push words p r ∙ ap (λ (b : Bool). b || same r p) h

pub has-new : (words : List (List ℕ)) (p : List ℕ) → has (words ++ p ∷ []) p ≡ true
has-new words p = has-push words p p ∙ ap (λ (b : Bool). has words p || b) (same-refl p) ∙ by (has words p)
  where
    by : (b : Bool) → (b || true) ≡ true
    by true = refl
    by false = refl

pub has-either : (words : List (List ℕ)) (p r : List ℕ) → has (words ++ p ∷ []) r ≡ true → (has words r ≡ true) ⊎ (r ≡ p)
has-either words p r h = elim (or_cases (has words r) (same r p) (sym (has-push words p r) ∙ h)) [ inl old ↦ inl old | inr new ↦ inr (same-is r p new) ]

-- a word that ends in one of the sequences has it at its end
pub ends_in-end : (sequences : List (List ℕ)) (w : List ℕ) → ends_in sequences w ≡ true →
    (before : List ℕ) × (s : List ℕ) × Contains sequences s × (w ≡ before ++ s)
ends_in-end sequences [] e = absurd (cc)
ends_in-end sequences (v ∷ w) e = elim (or_cases (has sequences (v ∷ w)) (ends_in sequences w) e) [
  | inl whole ↦ ([], v ∷ w, has-Contains sequences (v ∷ w) whole, refl)
  | inr less ↦ let r = ends_in-end sequences w less in (v ∷ r.0, r.1, r.2, ap (λ (l : List ℕ). v ∷ l) r.3)
]

-- and one that has a sequence at its end ends in it
pub end-ends_in : (sequences : List (List ℕ)) (before s : List ℕ) → 0 < length s → Contains sequences s → ends_in sequences (before ++ s) ≡ true
end-ends_in sequences [] [] lt h = absurd (omega arith)
end-ends_in sequences [] (v ∷ s) lt h = or-left (has sequences (v ∷ s)) (ends_in sequences s) (Contains-has sequences (v ∷ s) h)
end-ends_in sequences (v ∷ before) s lt h = or-right (has sequences (v ∷ (before ++ s))) (ends_in sequences (before ++ s)) (end-ends_in sequences before s lt h)

-- the last vertex of a word that grew
pub last_of-push : (w : List ℕ) (e : ℕ) → last_of (w ++ e ∷ []) ≡ e
last_of-push [] e = refl
last_of-push (v ∷ []) e = refl
last_of-push (v ∷ x ∷ w) e = last_of-push (x ∷ w) e

-- both parts of joined lists are the same where the last parts are as long
same-fronts : (xs ys vs ws : List ℕ) → length vs ≡ length ws → xs ++ vs ≡ ys ++ ws → xs ≡ ys
same-fronts [] [] vs ws len e = refl
same-fronts [] (y ∷ ys) vs ws len e =
    let sum : length vs ≡ suc (length (ys ++ ws)) = ap length e in
    let parts : length (ys ++ ws) ≡ length ys + length ws = length-append ys ws in
    absurd (omega arith)
same-fronts (x ∷ xs) [] vs ws len e =
    let sum : suc (length (xs ++ vs)) ≡ length ws = ap length e in
    let parts : length (xs ++ vs) ≡ length xs + length vs = length-append xs vs in
    absurd (omega arith)
same-fronts (x ∷ xs) (y ∷ ys) vs ws len e =
    let head : x ≡ y = cc in
    let rest : xs ++ vs ≡ ys ++ ws = cc in
    ap (λ (z : ℕ). z ∷ xs) head ∙ ap (λ (l : List ℕ). y ∷ l) (same-fronts xs ys vs ws len rest)

-- a front of joined lists that leaves as much as the last part is one of the first part
front-of : (xs ys vs ws : List ℕ) → length vs ≤ length ws → xs ++ vs ≡ ys ++ ws → (more : List ℕ) × (xs ≡ ys ++ more)
front-of xs [] vs ws le e = (xs, refl)
front-of [] (y ∷ ys) vs ws le e =
    let sum : length vs ≡ suc (length (ys ++ ws)) = ap length e in
    let parts : length (ys ++ ws) ≡ length ys + length ws = length-append ys ws in
    absurd (omega arith)
front-of (x ∷ xs) (y ∷ ys) vs ws le e =
    let head : x ≡ y = cc in
    let rest : xs ++ vs ≡ ys ++ ws = cc in
    let r = front-of xs ys vs ws le rest in
    (r.0, ap (λ (z : ℕ). z ∷ xs) head ∙ ap (λ (l : List ℕ). y ∷ l) r.1)

module _ (sequences : List (List ℕ)) where
  -- a walk that is free whole is free in front, and goes on freely from there
  pub free-front : (before walk : List ℕ) → IsFree sequences (before ++ walk) → IsFree sequences before
  free-front before walk free s h run = free s h (run.0, run.1 ++ walk, ap (λ (l : List ℕ). l ++ walk) run.2 ∙ append_assoc (run.0 ++ s) run.1 walk)

  pub free-behind : (before walk : List ℕ) → IsFree sequences (before ++ walk) → IsFreeBehind sequences before walk
  free-behind before walk free s front rest h is = absurd (free s h (front, rest, is))

  -- and one that is free and goes on freely is free whole
  pub free-whole : (before walk : List ℕ) → IsFree sequences before → IsFreeBehind sequences before walk → IsFree sequences (before ++ walk)
  free-whole before walk free behind s h run =
      let le : length walk ≤ length run.1 = behind s run.0 run.1 h run.2 in
      let r = front-of before (run.0 ++ s) walk run.1 le run.2 in
      free s h (run.0, r.0, r.1)

  -- going on along nothing ends nothing
  pub behind-nil : (before : List ℕ) → IsFreeBehind sequences before []
  behind-nil before s front rest h is = omega arith

  -- where one goes on freely, one does so along a front
  pub behind-front : (before walk more : List ℕ) → IsFreeBehind sequences before (walk ++ more) → IsFreeBehind sequences before walk
  behind-front before walk more behind s front rest h is =
      let whole : before ++ (walk ++ more) ≡ (front ++ s) ++ (rest ++ more) = sym (append_assoc before walk more) ∙ ap (λ (l : List ℕ). l ++ more) is ∙ append_assoc (front ++ s) rest more in
      let le : length (walk ++ more) ≤ length (rest ++ more) = behind s front (rest ++ more) h whole in
      let left : length (walk ++ more) ≡ length walk + length more = length-append walk more in
      let right : length (rest ++ more) ≡ length rest + length more = length-append rest more in
      omega arith

  -- and ends in no sequence
  behind-ends : (before walk : List ℕ) → 1 ≤ length walk → IsFreeBehind sequences before walk → ends_in sequences (before ++ walk) ≡ false
  behind-ends before walk some behind = elim (cases_Bool (ends_in sequences (before ++ walk))) [
    | inl ends ↦
        let r = ends_in-end sequences (before ++ walk) ends in
        let le : length walk ≤ length {A = ℕ} [] = behind r.1 r.0 [] r.2 (r.3 ∙ sym (append-nil (r.0 ++ r.1))) in
        absurd (omega arith)
    | inr not_so ↦ not_so
  ]

  pub behind-head : (before : List ℕ) (e : ℕ) (walk : List ℕ) → IsFreeBehind sequences before (e ∷ walk) → ends_in sequences (before ++ e ∷ []) ≡ false
  behind-head before e walk behind =
      let one : 1 ≤ length (e ∷ []) = omega arith in
      behind-ends before (e ∷ []) one (behind-front before (e ∷ []) walk behind)

  pub behind-last : (before walk : List ℕ) (e : ℕ) → IsFreeBehind sequences before (walk ++ e ∷ []) → ends_in sequences ((before ++ walk) ++ e ∷ []) ≡ false
  behind-last before walk e behind =
      let sum : length (walk ++ e ∷ []) ≡ length walk + length (e ∷ []) = length-append walk (e ∷ []) in
      let one : 1 ≤ length (walk ++ e ∷ []) = omega arith in
      ap (ends_in sequences) (append_assoc before walk (e ∷ [])) ∙ behind-ends before (walk ++ e ∷ []) one behind

  -- one vertex on, one goes on freely along the rest
  pub behind-tail : (before : List ℕ) (e : ℕ) (walk : List ℕ) → IsFreeBehind sequences before (e ∷ walk) → IsFreeBehind sequences (before ++ e ∷ []) walk
  behind-tail before e walk behind s front rest h is =
      let le : length (e ∷ walk) ≤ length rest = behind s front rest h (sym (append_assoc before (e ∷ []) walk) ∙ is) in
      omega arith

  module _ (long : All (λ s. 3 ≤ length s) sequences) where
    long-one : (s : List ℕ) → Contains sequences s → 3 ≤ length s
    long-one s h = let all = long h.0 s h.1 in subst (λ (l : List ℕ). 3 ≤ length l) h.2 all

    -- a vertex on which no sequence ends, and a way on from there
    pub behind-cons : (before : List ℕ) (e : ℕ) (walk : List ℕ) → ends_in sequences (before ++ e ∷ []) ≡ false → IsFreeBehind sequences (before ++ e ∷ []) walk → IsFreeBehind sequences before (e ∷ walk)
    behind-cons before e walk fine behind s front rest h is =
        let whole : (before ++ e ∷ []) ++ walk ≡ (front ++ s) ++ rest = append_assoc before (e ∷ []) walk ∙ is in
        let le : length walk ≤ length rest = behind s front rest h whole in
        elim (eq-or-lt_of_le le) [
          | inl equal ↦
              let three : 3 ≤ length s = long-one s h in
              let pos : 0 < length s = omega arith in
              let end : before ++ e ∷ [] ≡ front ++ s = same-fronts (before ++ e ∷ []) (front ++ s) walk rest equal whole in
              let ends : ends_in sequences (before ++ e ∷ []) ≡ true = ap (ends_in sequences) end ∙ end-ends_in sequences front s pos h in
              let both : true ≡ false = sym ends ∙ fine in
              absurd (cc)
          | inr more ↦ omega (arith, more)
        ]

    -- a way on that grew by a vertex on which no sequence ends
    pub behind-push : (before walk : List ℕ) (e : ℕ) → IsFreeBehind sequences before walk → ends_in sequences ((before ++ walk) ++ e ∷ []) ≡ false → IsFreeBehind sequences before (walk ++ e ∷ [])
    behind-push before [] e behind fine =
        let here : ends_in sequences (before ++ e ∷ []) ≡ false = ap (λ (l : List ℕ). ends_in sequences (l ++ e ∷ [])) (sym (append-nil before)) ∙ fine in
        behind-cons before e [] here (behind-nil (before ++ e ∷ []))
    behind-push before (v ∷ walk) e behind fine =
        let there : ends_in sequences (((before ++ v ∷ []) ++ walk) ++ e ∷ []) ≡ false = ap (λ (l : List ℕ). ends_in sequences (l ++ e ∷ [])) (append_assoc before (v ∷ []) walk) ∙ fine in
        behind-cons before v (walk ++ e ∷ []) (behind-head before v walk behind) (behind-push (before ++ v ∷ []) walk e (behind-tail before v walk behind) there)
