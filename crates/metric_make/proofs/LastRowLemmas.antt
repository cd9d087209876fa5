-- The rows of a file by the nodes that they are for, and how many of them are matched.
use Rattle.std.proofs.Common.{◌≡◌, ℕ, ◌+◌, ◌-◌, ◌<◌, ◌≤◌, Bool, true, false, cond, List, [], ◌∷◌, ◌++◌, length, get_or, take, reverse, Option, Some, None, All, arith, refl, sym, subst, ap, ◌∙◌}
use Rattle.std.specs.Prelude.{◌&&◌, ◌||◌, not, count_by, find, ℤ}
use Rattle.std.specs.HashMap.{get}
use Rattle.std.specs.List.{slice_get}
use Rattle.std.specs.Option.{ForSome}
use Rattle.std.specs.Ordering.{int_eq}
use Rattle.std.proofs.lemmas.Bool.{and_from, and_parts}
use Rattle.std.proofs.lemmas.Bool.Decides.{Decides-int_eq}
use Rattle.std.proofs.lemmas.List.{get_or-reverse, length-reverse, reverse-append, take_more}
use Rattle.std.proofs.lemmas.List.Elements.{All-head, All-tail}
use Rattle.std.proofs.lemmas.List.Sums.{count_by_more_yes, count_by_more_no, sum_by-cons}
use Rattle.std.proofs.lemmas.Option.{get_or_from_slice_get, none-some, same_Some, slice_get_within}
use Rattle.metric_make.specs.LastRows.{AreTold, Entries, added, pair_eq, row_in, triple_eq, waiting}
use Rattle.metric_make.specs.TrafficRows.{last_where}
use Rattle.metric_make.specs.declared.last_rows.LastRow.{LastRow}

-- one row more is the last one for all that it is for
pub last_where-push : {A : Type 0} (test : A → Bool) (xs : List A) (x : A) → last_where test (xs ++ x ∷ []) ≡ cond (test x) (Some x) (last_where test xs)
last_where-push {A} test xs x = ap (find test) (reverse-append xs (x ∷ []))

pub take-push : {A : Type 0} (xs : List A) (i : ℕ) (x : A) → slice_get xs i ≡ Some x → take (i + 1) xs ≡ take i xs ++ x ∷ []
take-push {A} xs i x e = take_more xs i x (slice_get_within xs i x e) ∙ ap (λ (y : A). take i xs ++ y ∷ []) (get_or_from_slice_get xs i x x e)

-- the entry of one row more
pub row_in-push : {A : Type 0} (rows : List A) (i n : ℕ) (row : A) (test : A → Bool) (old new : Option LastRow) (b : Bool)
    → slice_get rows i ≡ Some row → test row ≡ b
    → new ≡ cond b (Some (record { row = i; unmatched = n })) old
    → row_in rows old ≡ last_where test (take i rows)
    → row_in rows new ≡ last_where test (take (i + 1) rows)
row_in-push {A} rows i n row test old new true at for it before =
    ap (row_in rows) it ∙ at ∙ sym (ap (last_where test) (take-push rows i row at) ∙ last_where-push test (take i rows) row ∙ ap (λ (c : Bool). cond c (Some row) (last_where test (take i rows))) for)
row_in-push {A} rows i n row test old new false at for it before =
    ap (row_in rows) it ∙ before ∙ sym (ap (last_where test) (take-push rows i row at) ∙ last_where-push test (take i rows) row ∙ ap (λ (c : Bool). cond c (Some row) (last_where test (take i rows))) for)

All-reverse : {A : Type 0} (P : A → Type 0) (xs : List A) → All P xs → All P (reverse xs)
All-reverse {A} P xs h k d lt =
    let within : k < length xs = omega (arith, length-reverse xs) in
    subst P (sym (get_or-reverse xs k d within)) (h (length xs - 1 - k) d (omega arith))

first-or-later : {A : Type 0} (P : A → Type 0) (x : A) (later : Option A) (b : Bool) → P x → ForSome later P → ForSome (cond b (Some x) later) P
first-or-later {A} P x later true first others = λ y e. subst P (same_Some x y e) first
first-or-later {A} P x later false first others = others

find-holds : {A : Type 0} (P : A → Type 0) (test : A → Bool) (xs : List A) → All P xs → ForSome (find test xs) P
find-holds {A} P test [] h = λ y e. absurd (none-some y e)
find-holds {A} P test (x ∷ xs) h = first-or-later P x (find test xs) (test x) (All-head P x xs h) (find-holds P test xs (All-tail P x xs h))

-- the last one is one of them
pub last_where-holds : {A : Type 0} (P : A → Type 0) (test : A → Bool) (rows : List A) → All P rows → ForSome (last_where test rows) P
last_where-holds {A} P test rows h = find-holds P test (reverse rows) (All-reverse P rows h)

or-true : (b : Bool) → (b || true) ≡ true
or-true true = refl
or-true false = refl

pub or-false : (b : Bool) → (b || false) ≡ b
or-false true = refl
or-false false = refl

zero-either : (b : Bool) → ◌≡◌ {A = ℕ} (cond b 0 0) 0
zero-either true = refl
zero-either false = refl

abbrev number : Bool → ℕ
number b = cond b 1 0

-- all elements pass
count-all : {A : Type 0} (xs : List A) → count_by (λ x. true) xs ≡ length xs
count-all {A} [] = refl
count-all {A} (x ∷ xs) = let first : count_by (λ (y : A). true) (x ∷ xs) ≡ 1 + count_by (λ (y : A). true) xs = sum_by-cons (λ (y : A). number true) x xs in omega (arith, first, count-all xs)

-- what waits of one row, where those of a key are matched, which were or were not: it is the key's or another's
one-split : (b m e k : Bool) → (e ≡ true → (m ≡ b) × (k ≡ true)) → (e ≡ false → k ≡ false) → number (not m) ≡ number (not (m || e)) + cond b 0 (number k)
one-split true true true k h g = refl
one-split true false true k h g = let no : false ≡ true = (h refl).0 in cc
one-split false true true k h g = let no : true ≡ false = (h refl).0 in cc
one-split false false true true h g = refl
one-split false false true false h g = let no : false ≡ true = (h refl).1 in cc
one-split true true false k h g = refl
one-split true false false k h g = refl
one-split false m false true h g = let no : true ≡ false = g refl in cc
one-split false true false false h g = refl
one-split false false false false h g = refl

-- the entry when all its rows are matched
abbrev pub marked : LastRow → LastRow
marked entry = record { row = entry.row; unmatched = 0 }

-- one row more is counted or not
pub count-step : {A : Type 0} (p : A → Bool) (rows : List A) (i count more : ℕ) (row : A) (b : Bool)
    → slice_get rows i ≡ Some row → p row ≡ b → count ≡ count_by p (take i rows) → more ≡ count + cond b 1 0 → more ≡ count_by p (take (i + 1) rows)
count-step {A} p rows i count more row true at its so_far sum =
    let yes_there : p (get_or rows i row) ≡ true = ap p (get_or_from_slice_get rows i row row at) ∙ its in
    sum ∙ ap (λ (n : ℕ). n + 1) so_far ∙ sym (count_by_more_yes p rows i row (slice_get_within rows i row at) yes_there)
count-step {A} p rows i count more row false at other so_far sum =
    let no_there : p (get_or rows i row) ≡ false = ap p (get_or_from_slice_get rows i row row at) ∙ other in
    let kept : more ≡ count = omega (arith, sum) in
    kept ∙ so_far ∙ sym (count_by_more_no p rows i row (slice_get_within rows i row at) no_there)

module _ {A K : Type 0} (eq : K → K → Bool) (same : (a b : K) → eq a b ≡ true → a ≡ b) (itself : (a : K) → eq a a ≡ true) (at : A → K) where
  eq-back : (a b : K) → eq a b ≡ false → eq b a ≡ false
  eq-back a b apart = by (eq b a) refl where
    by : (c : Bool) → eq b a ≡ c → eq b a ≡ false
    by true e = let yes : eq a b ≡ true = ap (eq a) (same b a e) ∙ itself a in cc
    by false e = e

  -- one row more
  module _ (rows : List A) (old new : Entries K) (i : ℕ) (row : A) (here : slice_get rows i ≡ Some row)
      (updates : (q : K) → get eq new q ≡ cond (eq (at row) q) (Some (added i (get eq old (at row)))) (get eq old q)) where
    pub last-push : ((q : K) → row_in rows (get eq old q) ≡ last_where (λ r. eq (at r) q) (take i rows)) → (q : K) → row_in rows (get eq new q) ≡ last_where (λ r. eq (at r) q) (take (i + 1) rows)
    last-push before q = row_in-push rows i (waiting (get eq old (at row)) + 1) row (λ r. eq (at r) q) (get eq old q) (get eq new q) (eq (at row) q) here refl (updates q) (before q)

    pub counted-push : ((q : K) → waiting (get eq old q) ≡ count_by (λ r. eq (at r) q) (take i rows)) → (q : K) → waiting (get eq new q) ≡ count_by (λ r. eq (at r) q) (take (i + 1) rows)
    counted-push before q = by-key (eq (at row) q) refl where
      at-key : (b : Bool) → eq (at row) q ≡ b → waiting (get eq new q) ≡ waiting (cond b (Some (added i (get eq old (at row)))) (get eq old q))
      at-key b e = ap waiting (updates q ∙ ap (λ (c : Bool). cond c (Some (added i (get eq old (at row)))) (get eq old q)) e)

      by-key : (b : Bool) → eq (at row) q ≡ b → waiting (get eq new q) ≡ count_by (λ r. eq (at r) q) (take (i + 1) rows)
      by-key true e =
          let more : waiting (get eq new q) ≡ waiting (get eq old q) + cond true 1 0 = at-key true e ∙ ap (λ (k : K). waiting (get eq old k) + 1) (same (at row) q e) in
          count-step (λ r. eq (at r) q) rows i (waiting (get eq old q)) (waiting (get eq new q)) row true here e (before q) more
      by-key false e =
          let kept : waiting (get eq new q) ≡ waiting (get eq old q) = at-key false e in
          count-step (λ r. eq (at r) q) rows i (waiting (get eq old q)) (waiting (get eq new q)) row false here e (before q) (omega (arith, kept))

  -- what is told of rows that have been read, of which none is matched
  pub told-begun : (rows : List A) (entries : Entries K) (n : ℕ) → n ≡ length rows → ((q : K) → row_in rows (get eq entries q) ≡ last_where (λ r. eq (at r) q) rows)
      → ((q : K) → waiting (get eq entries q) ≡ count_by (λ r. eq (at r) q) rows) → AreTold eq at rows (λ q. false) entries n
  told-begun rows entries n all last counted = record { last = last; counted = counted; total = all ∙ sym (count-all rows) }

  -- it is told by tests that say the same
  pub told-same : (rows : List A) (entries : Entries K) (n : ℕ) (f g : K → Bool) → ((q : K) → f q ≡ g q) → AreTold eq at rows f entries n → AreTold eq at rows g entries n
  told-same rows entries n f g h told = subst (λ (m : K → Bool). AreTold eq at rows m entries n) (λ j q. h q j) told

  -- of no rows nothing is told
  pub told-no_rows : (rows : List A) (entries : Entries K) (n : ℕ) (f g : K → Bool) → rows ≡ [] → AreTold eq at rows f entries n → AreTold eq at rows g entries n
  told-no_rows [] entries n f g none told = record { last = told.last; counted = λ q. told.counted q ∙ zero-either (f q) ∙ sym (zero-either (g q)); total = told.total }
  told-no_rows (x ∷ rows) entries n f g none told = cc

  module _ (rows : List A) (matched : K → Bool) (entries : Entries K) (unmatched : ℕ) (told : AreTold eq at rows matched entries unmatched) (key : K) where
    -- the rows that wait are those that wait on, and those of the key
    count-split : (b : Bool) → matched key ≡ b → (xs : List A) → count_by (λ r. not (matched (at r))) xs ≡ count_by (λ r. not (matched (at r) || eq key (at r))) xs + cond b 0 (count_by (λ r. eq (at r) key) xs)
    count-split true is [] = refl
    count-split false is [] = refl
    count-split b is (x ∷ xs) =
        let one = one-split b (matched (at x)) (eq key (at x)) (eq (at x) key) here there in
        let whole : count_by (λ r. not (matched (at r))) (x ∷ xs) ≡ number (not (matched (at x))) + count_by (λ r. not (matched (at r))) xs = sum_by-cons (λ r. number (not (matched (at r)))) x xs in
        let on : count_by (λ r. not (matched (at r) || eq key (at r))) (x ∷ xs) ≡ number (not (matched (at x) || eq key (at x))) + count_by (λ r. not (matched (at r) || eq key (at r))) xs = sum_by-cons (λ r. number (not (matched (at r) || eq key (at r)))) x xs in
        let its : count_by (λ r. eq (at r) key) (x ∷ xs) ≡ number (eq (at x) key) + count_by (λ r. eq (at r) key) xs = sum_by-cons (λ r. number (eq (at r) key)) x xs in
        sums b _ _ _ _ _ _ _ _ _ one whole on its (count-split b is xs)
      where
        here : eq key (at x) ≡ true → (matched (at x) ≡ b) × (eq (at x) key ≡ true)
        here e = (ap matched (sym (same key (at x) e)) ∙ is, ap (λ (k : K). eq k key) (sym (same key (at x) e)) ∙ itself key)

        there : eq key (at x) ≡ false → eq (at x) key ≡ false
        there e = eq-back key (at x) e

        sums : (b : Bool) (m w m1 o o1 k k1 t u : ℕ) → m ≡ o + cond b 0 k → t ≡ m + m1 → u ≡ o + o1 → w ≡ k + k1 → m1 ≡ o1 + cond b 0 k1 → t ≡ u + cond b 0 w
        sums true m w m1 o o1 k k1 t u e f g h i = omega arith
        sums false m w m1 o o1 k k1 t u e f g h i = omega arith

    split : unmatched ≡ count_by (λ r. not (matched (at r) || eq key (at r))) rows + waiting (get eq entries key)
    split = told.total ∙ count-split (matched key) refl rows ∙ ap (λ (n : ℕ). count_by (λ r. not (matched (at r) || eq key (at r))) rows + n) (sym (told.counted key))

    -- no more wait for a key than for all
    pub told-waits : waiting (get eq entries key) ≤ unmatched
    told-waits = omega (arith, split)

    -- for other keys all stays
    others : (q : K) → eq key q ≡ false → waiting (get eq entries q) ≡ cond (matched q || eq key q) 0 (count_by (λ r. eq (at r) q) rows)
    others q e = told.counted q ∙ ap (λ (b : Bool). cond b 0 (count_by (λ r. eq (at r) q) rows)) (sym (ap (λ (b : Bool). matched q || b) e ∙ or-false (matched q)))

    no-more : (q : K) → eq key q ≡ true → 0 ≡ cond (matched q || eq key q) 0 (count_by (λ r. eq (at r) q) rows)
    no-more q e = sym (ap (λ (b : Bool). cond b 0 (count_by (λ r. eq (at r) q) rows)) (ap (λ (b : Bool). matched q || b) e ∙ or-true (matched q)))

    -- where there is no entry at a key, no row is for it
    pub told-absent : get eq entries key ≡ None → AreTold eq at rows (λ q. matched q || eq key q) entries unmatched
    told-absent none = record { last = told.last; counted = λ q. by-key q (eq key q) refl; total = let no : waiting (get eq entries key) ≡ 0 = ap waiting none in omega (arith, split, no) } where
      by-key : (q : K) (b : Bool) → eq key q ≡ b → waiting (get eq entries q) ≡ cond (matched q || eq key q) 0 (count_by (λ r. eq (at r) q) rows)
      by-key q true e = ap (λ (k : K). waiting (get eq entries k)) (sym (same key q e)) ∙ ap waiting none ∙ no-more q e
      by-key q false e = others q e

    -- the rows for a key are matched
    pub told-matched : (new : Entries K) (entry : LastRow) (rest : ℕ) → get eq entries key ≡ Some entry → ((q : K) → get eq new q ≡ cond (eq key q) (Some (marked entry)) (get eq entries q))
        → rest + entry.unmatched ≡ unmatched → AreTold eq at rows (λ q. matched q || eq key q) new rest
    told-matched new entry rest there writes less = record {
      last = λ q. lasts q (eq key q) refl;
      counted = λ q. counts q (eq key q) refl;
      total = let its : waiting (get eq entries key) ≡ entry.unmatched = ap waiting there in omega (arith, split, its, less);
    } where
      at-key : (q : K) (b : Bool) → eq key q ≡ b → get eq new q ≡ cond b (Some (marked entry)) (get eq entries q)
      at-key q b e = writes q ∙ ap (λ (c : Bool). cond c (Some (marked entry)) (get eq entries q)) e

      lasts : (q : K) (b : Bool) → eq key q ≡ b → row_in rows (get eq new q) ≡ last_where (λ r. eq (at r) q) rows
      lasts q true e = ap (row_in rows) (at-key q true e) ∙ sym (ap (row_in rows) (ap (get eq entries) (sym (same key q e)) ∙ there)) ∙ told.last q
      lasts q false e = ap (row_in rows) (at-key q false e) ∙ told.last q

      counts : (q : K) (b : Bool) → eq key q ≡ b → waiting (get eq new q) ≡ cond (matched q || eq key q) 0 (count_by (λ r. eq (at r) q) rows)
      counts q true e = ap waiting (at-key q true e) ∙ no-more q e
      counts q false e = ap waiting (at-key q false e) ∙ others q e

pub pair_eq-same : (p q : ℤ × ℤ) → pair_eq p q ≡ true → p ≡ q
pair_eq-same p q h =
    let parts = and_parts (int_eq p.0 q.0) (int_eq p.1 q.1) h in
    let a = (Decides-int_eq p.0 q.0).0 parts.0 in
    let b = (Decides-int_eq p.1 q.1).0 parts.1 in
    λ i. (a i, b i)

pub triple_eq-same : (p q : ℤ × ℤ × ℤ) → triple_eq p q ≡ true → p ≡ q
triple_eq-same p q h =
    let parts = and_parts (int_eq p.0 q.0 && int_eq p.1 q.1) (int_eq p.2 q.2) h in
    let front = and_parts (int_eq p.0 q.0) (int_eq p.1 q.1) parts.0 in
    let a = (Decides-int_eq p.0 q.0).0 front.0 in
    let b = (Decides-int_eq p.1 q.1).0 front.1 in
    let d = (Decides-int_eq p.2 q.2).0 parts.1 in
    λ i. (a i, b i, d i)

int_eq-itself : (x : ℤ) → int_eq x x ≡ true
int_eq-itself x = (Decides-int_eq x x).1 refl

pub pair_eq-itself : (p : ℤ × ℤ) → pair_eq p p ≡ true
pair_eq-itself p = and_from (int_eq p.0 p.0) (int_eq p.1 p.1) (int_eq-itself p.0) (int_eq-itself p.1)

pub triple_eq-itself : (p : ℤ × ℤ × ℤ) → triple_eq p p ≡ true
triple_eq-itself p = and_from (int_eq p.0 p.0 && int_eq p.1 p.1) (int_eq p.2 p.2) (and_from (int_eq p.0 p.0) (int_eq p.1 p.1) (int_eq-itself p.0) (int_eq-itself p.1)) (int_eq-itself p.2)
