-- The sequences of courses, and the ways onto which one comes along them, one more.
use Rattle.std.proofs.Common.{◌≡◌, ℕ, ℤ, zero, suc, ◌+◌, ◌*◌, ◌<◌, ◌≤◌, ◌==◌, ◌≢◌, ◌&&◌, ◌||◌, All, List, [], ◌∷◌, ◌++◌, Bool, Vec, true, false, not, pos, cond, Some, drop, take, get_or, filter, length, map, arith, refl, sym, ap, subst, ◌∙◌, append_assoc}
use Rattle.std.specs.Cmp.Lexicographic.{pointwise}
use Rattle.std.specs.Global.{Global}
use Rattle.std.specs.Prelude.{nat_lt}
use Rattle.std.specs.List.{Contains, enumerate_from, flat_map, list_any, position_or_len, slice_get}
use Rattle.std.specs.Ordering.{int_eq}
use Rattle.std.proofs.lemmas.Bool.Decides.{Decides-eqb, Decides-int_eq, nat_tests}
use Rattle.std.proofs.lemmas.Grind.{flat_map-append}
use Rattle.std.proofs.lemmas.List.{append-nil, map-append}
use Rattle.std.proofs.lemmas.List.Folds.{list_any-append}
use Rattle.std.proofs.lemmas.List.Sums.{passes_at_first}
use Rattle.std.proofs.lemmas.Option.{same_Some, slice_get-get_or}
use Rattle.std.proofs.lemmas.Slice.Eq.{slice_eq-Decides}
use Rattle.turn_rules.specs.Rules.{Rule, ViaRule}
use Rattle.list_lemmas.proofs.Fronts.{take-get}
use Rattle.list_lemmas.proofs.Gets.{get_Contains}
use Rattle.via_restrictions.specs.ViaParts.{AddsReached, AreReached, HasReached, is_reached, lists_in}
use Rattle.via_restrictions.specs.ViaWays.{course, ends_along, ends_of, exits_of, first_like, forbidden_words, forbids_some, is_onto, is_shut, paths_of, shuts, starts, words_along, words_under}
use Rattle.via_paths.specs.Forbidden.{HasPath, IsBelow, words_in, words_of}
use Rattle.via_restrictions.specs.WaySets.{FirstMap, MemberSet, has_other, has_way}
use Rattle.via_paths.specs.declared.barred.Barred.{Barred}
use Rattle.road_segments.specs.Segment.{Segment}
use Rattle.road_segments.specs.Vertex.{Vertex, vertices}
use Rattle.via_restrictions.proofs.ViaLemmas.{int_eq-sym, is_onto-at, numbered-from}

-- ---- words

pub words_in-push : (groups : List Barred) (b : Barred) → words_in (groups ++ b ∷ []) ≡ words_in groups ++ words_of b
words_in-push groups b = flat_map-append words_of groups (b ∷ []) ∙ ap (λ (l : List (List ℕ)). words_in groups ++ l) (append-nil (words_of b))

flat_map-nils : (ds : List ℕ) → flat_map {A = List ℕ} (λ (d : ℕ). []) ds ≡ []
flat_map-nils [] = refl
flat_map-nils (d ∷ ds) = flat_map-nils ds

module _ (vs : List Vertex) (rules : List Rule) (all : List ViaRule) (number : ℕ) (rule : ViaRule) (path : List ℕ) where
  abbrev shut_exits : List ℕ
  shut_exits = filter (is_onto vs (is_shut all number)) (exits_of vs rules path)

  -- a path onto which none may come
  pub words-startless : (words : List (List ℕ)) → starts vs rules rule.from path ≡ [] → words ≡ words ++ words_along vs rules all (number, rule) path
  words-startless words none =
      sym (append-nil words) ∙ ap (λ (ds : List ℕ). words ++ flat_map (λ d. map {A = ℕ} {B = List ℕ} (λ f. d ∷ (path ++ f ∷ [])) shut_exits) ds) (sym none)

  -- one from which nothing is forbidden
  pub words-endless : (words : List (List ℕ)) → shut_exits ≡ [] → words ≡ words ++ words_along vs rules all (number, rule) path
  words-endless words none =
      sym (append-nil words)
      ∙ ap (λ (l : List (List ℕ)). words ++ l) (sym (flat_map-nils (starts vs rules rule.from path)))
      ∙ ap (λ (es : List ℕ). words ++ flat_map (λ d. map {A = ℕ} {B = List ℕ} (λ f. d ∷ (path ++ f ∷ [])) es) (starts vs rules rule.from path)) (sym none)

  -- those of a group
  pub words-grouped : (groups : List Barred) (b : Barred) → b.starts.items ≡ starts vs rules rule.from path → b.path.items ≡ path → b.ends.items ≡ shut_exits
      → words_in (groups ++ b ∷ []) ≡ words_in groups ++ words_along vs rules all (number, rule) path
  words-grouped groups b begin via end =
      words_in-push groups b
      ∙ ap (λ (ds : List ℕ). words_in groups ++ flat_map (λ d. map {A = ℕ} {B = List ℕ} (λ f. d ∷ (b.path.items ++ f ∷ [])) b.ends.items) ds) begin
      ∙ ap (λ (p : List ℕ). words_in groups ++ flat_map (λ d. map {A = ℕ} {B = List ℕ} (λ f. d ∷ (p ++ f ∷ [])) b.ends.items) (starts vs rules rule.from path)) via
      ∙ ap (λ (es : List ℕ). words_in groups ++ flat_map (λ d. map {A = ℕ} {B = List ℕ} (λ f. d ∷ (path ++ f ∷ [])) es) (starts vs rules rule.from path)) end

  -- ---- ways onto which one comes

  pub ends-startless : starts vs rules rule.from path ≡ [] → ends_along vs rules rule path ≡ []
  ends-startless none = ap (λ (ds : List ℕ). cond (nat_lt 0 (length ds)) (exits_of vs rules path) []) none

  pub ends-started : nat_lt 0 (length (starts vs rules rule.from path)) ≡ true → ends_along vs rules rule path ≡ exits_of vs rules path
  ends-started some = ap (λ (b : Bool). cond b (exits_of vs rules path) []) some

or-none : (a b : Bool) → a ≡ (a || (b && false))
or-none true true = refl
or-none true false = refl
or-none false true = refl
or-none false false = refl

or-more : (a n l p : Bool) → ((a || (n && l)) || (n && p)) ≡ (a || (n && (l || p)))
or-more true true true true = refl
or-more true true true false = refl
or-more true true false true = refl
or-more true true false false = refl
or-more true false l p = refl
or-more false true true true = refl
or-more false true true false = refl
or-more false true false true = refl
or-more false true false false = refl
or-more false false l p = refl

module _ (vs : List Vertex) (number : ℕ) where
  pub adds-none : (ways : MemberSet) (others : FirstMap) → AddsReached vs [] number ways others ways others
  adds-none ways others = λ n rule. or-none (is_reached ways others n rule) (number == n)

  -- one way more
  pub reached-one : (ways ways' : MemberSet) (others others' : FirstMap) (way : ℤ)
      → ((n : ℕ) (w : ℤ) → has_way ways' n w ≡ (has_way ways n w || ((number == n) && int_eq way w)))
      → ((n : ℕ) (w : ℤ) → has_other others' n w ≡ (has_other others n w || ((number == n) && not (int_eq way w))))
      → (n : ℕ) (rule : ViaRule) → is_reached ways' others' n rule ≡ (is_reached ways others n rule || ((number == n) && shuts rule way))
  reached-one ways ways' others others' way more moreover = λ n rule. by n rule rule.only refl
    where
      by : (n : ℕ) (rule : ViaRule) (b : Bool) → rule.only ≡ b → is_reached ways' others' n rule ≡ (is_reached ways others n rule || ((number == n) && shuts rule way))
      by n rule true is =
          ap (λ (b : Bool). cond b (has_other others' n rule.to) (has_way ways' n rule.to)) is
          ∙ moreover n rule.to
          ∙ ap (λ (b : Bool). has_other others n rule.to || ((number == n) && not b)) (int_eq-sym way rule.to)
          ∙ ap (λ (b : Bool). cond b (has_other others n rule.to) (has_way ways n rule.to) || ((number == n) && cond b (not (int_eq rule.to way)) (int_eq rule.to way))) (sym is)
      by n rule false is =
          ap (λ (b : Bool). cond b (has_other others' n rule.to) (has_way ways' n rule.to)) is
          ∙ more n rule.to
          ∙ ap (λ (b : Bool). has_way ways n rule.to || ((number == n) && b)) (int_eq-sym way rule.to)
          ∙ ap (λ (b : Bool). cond b (has_other others n rule.to) (has_way ways n rule.to) || ((number == n) && cond b (not (int_eq rule.to way)) (int_eq rule.to way))) (sym is)

  -- one list after another
  pub adds-both : (first second : List ℕ) (ways ways' ways'' : MemberSet) (others others' others'' : FirstMap) → AddsReached vs first number ways others ways' others' → AddsReached vs second number ways' others' ways'' others''
      → AddsReached vs (first ++ second) number ways others ways'' others''
  adds-both first second ways ways' ways'' others others' others'' h k = λ n rule.
      k n rule
      ∙ ap (λ (b : Bool). b || ((number == n) && list_any (is_onto vs (shuts rule)) second)) (h n rule)
      ∙ or-more (is_reached ways others n rule) (number == n) (list_any (is_onto vs (shuts rule)) first) (list_any (is_onto vs (shuts rule)) second)
      ∙ ap (λ (b : Bool). is_reached ways others n rule || ((number == n) && b)) (sym (list_any-append (is_onto vs (shuts rule)) first second))

pub adds-same : (vs : List Vertex) (number : ℕ) (ends ends' : List ℕ) (ways ways' : MemberSet) (others others' : FirstMap) → ends ≡ ends' → AddsReached vs ends number ways others ways' others'
    → AddsReached vs ends' number ways others ways' others'
adds-same vs number ends ends' ways ways' others others' same h = subst (λ (l : List ℕ). AddsReached vs l number ways others ways' others') same h

-- one of the lists more
lists_in-more : (vectors : List (Vec ℕ Global)) (i : ℕ) (v : Vec ℕ Global) → slice_get vectors i ≡ Some v → lists_in (take (i + 1) vectors) ≡ lists_in (take i vectors) ++ v.items ∷ []
lists_in-more vectors i v at =
    ap lists_in (take-get vectors i v at) ∙ map-append (λ w. w.items) (take i vectors) (v ∷ [])

flat-more : {A B : Type 0} (f : A → List B) (xs : List A) (x : A) → flat_map f (xs ++ x ∷ []) ≡ flat_map f xs ++ f x
flat-more {A} {B} f xs x = flat_map-append f xs (x ∷ []) ∙ ap (λ (l : List B). flat_map f xs ++ l) (append-nil (f x))

-- what one path more adds
pub words-along : (f : List ℕ → List (List ℕ)) (paths : List (Vec ℕ Global)) (i : ℕ) (path : Vec ℕ Global) (items : List ℕ) (first old new : List (List ℕ)) → slice_get paths i ≡ Some path → items ≡ path.items
    → old ≡ first ++ flat_map f (lists_in (take i paths)) → new ≡ old ++ f items → new ≡ first ++ flat_map f (lists_in (take (i + 1) paths))
words-along f paths i path items first old new at is so_far more =
    more
    ∙ ap (λ (l : List (List ℕ)). l ++ f items) so_far
    ∙ append_assoc first (flat_map f (lists_in (take i paths))) (f items)
    ∙ ap (λ (p : List ℕ). first ++ (flat_map f (lists_in (take i paths)) ++ f p)) is
    ∙ ap (λ (l : List (List ℕ)). first ++ l) (sym (flat-more f (lists_in (take i paths)) path.items))
    ∙ ap (λ (l : List (List ℕ)). first ++ flat_map f l) (sym (lists_in-more paths i path at))

pub adds-along : (vs : List Vertex) (number : ℕ) (f : List ℕ → List ℕ) (paths : List (Vec ℕ Global)) (i : ℕ) (path : Vec ℕ Global) (items : List ℕ) (ways ways' ways'' : MemberSet) (others others' others'' : FirstMap)
    → slice_get paths i ≡ Some path → items ≡ path.items → AddsReached vs (flat_map f (lists_in (take i paths))) number ways others ways' others' → AddsReached vs (f items) number ways' others' ways'' others''
    → AddsReached vs (flat_map f (lists_in (take (i + 1) paths))) number ways others ways'' others''
adds-along vs number f paths i path items ways ways' ways'' others others' others'' at is so_far more =
    let same : flat_map f (lists_in (take i paths)) ++ f items ≡ flat_map f (lists_in (take (i + 1) paths)) =
    ap (λ (p : List ℕ). flat_map f (lists_in (take i paths)) ++ f p) is ∙ sym (flat-more f (lists_in (take i paths)) path.items) ∙ ap (flat_map f) (sym (lists_in-more paths i path at)) in
    adds-same vs number (flat_map f (lists_in (take i paths)) ++ f items) (flat_map f (lists_in (take (i + 1) paths))) ways ways'' others others'' same
    (adds-both vs number (flat_map f (lists_in (take i paths))) (f items) ways ways' ways'' others others' others'' so_far more)

-- one vertex more
pub adds-vertex : (vs : List Vertex) (number : ℕ) (es : List ℕ) (i e : ℕ) (y : Vertex) (way : ℤ) (ways ways' ways'' : MemberSet) (others others' others'' : FirstMap) → slice_get es i ≡ Some e → slice_get vs e ≡ Some y → y.way ≡ way
    → ((n : ℕ) (w : ℤ) → has_way ways'' n w ≡ (has_way ways' n w || ((number == n) && int_eq way w)))
    → ((n : ℕ) (w : ℤ) → has_other others'' n w ≡ (has_other others' n w || ((number == n) && not (int_eq way w))))
    → AddsReached vs (take i es) number ways others ways' others' → AddsReached vs (take (i + 1) es) number ways others ways'' others''
adds-vertex vs number es i e y way ways ways' ways'' others others' others'' at its of more moreover h =
    adds-same vs number (take i es ++ e ∷ []) (take (i + 1) es) ways ways'' others others'' (sym (take-get es i e at))
    (adds-both vs number (take i es) (e ∷ []) ways ways' ways'' others others' others'' h
    (λ n rule.
    reached-one vs number ways' ways'' others' others'' way more moreover n rule
    ∙ ap (λ (b : Bool). is_reached ways' others' n rule || ((number == n) && b))
    (ap (shuts rule) (sym of) ∙ sym (is_onto-at vs (shuts rule) e y its) ∙ or-false (is_onto vs (shuts rule) e))))
  where
    or-false : (b : Bool) → b ≡ (b || false)
    or-false true = refl
    or-false false = refl

-- ---- what a rule forbids, by its course

abbrev head-of : List ℤ → ℤ
head-of [] = pos 0
head-of (w ∷ ws) = w

abbrev tail-of : List ℤ → List ℤ
tail-of [] = []
tail-of (w ∷ ws) = ws

abbrev ends_on : List Vertex → List Rule → List ℤ → List ℕ
ends_on vs rules ways =
    flat_map (λ path. cond (nat_lt 0 (length (starts vs rules (head-of ways) path))) (exits_of vs rules path) []) (paths_of vs rules (tail-of ways))

ends-like : (vs : List Vertex) (rules : List Rule) (r rule : ViaRule) → course r ≡ course rule → ends_of vs rules r ≡ ends_of vs rules rule
ends-like vs rules r rule same = ap (ends_on vs rules) same

prefix-within : {X : Type 0} (p : X → Bool) (xs : List X) (k : ℕ) (x : X) → slice_get xs k ≡ Some x → p x ≡ true → position_or_len p xs < length xs
prefix-within p [] k x at is = cc
prefix-within {X} p (y ∷ xs) zero x at is =
    let here : p y ≡ true = ap p (same_Some y x at) ∙ is in
    let first : position_or_len p (y ∷ xs) ≡ 0 = ap (λ (b : Bool). cond (not b) (1 + position_or_len p xs) 0) here in
    omega (arith, first)
prefix-within p (y ∷ xs) (suc k) x at is = by (p y) refl (prefix-within p xs k x at is)
  where
    by : (b : Bool) → p y ≡ b → position_or_len p xs < length xs → position_or_len p (y ∷ xs) < length (y ∷ xs)
    by true e lt =
        let first : position_or_len p (y ∷ xs) ≡ 0 = ap (λ (b : Bool). cond (not b) (1 + position_or_len p xs) 0) e in
        omega (arith, first)
    by false e lt =
        let later : position_or_len p (y ∷ xs) ≡ 1 + position_or_len p xs = ap (λ (b : Bool). cond (not b) (1 + position_or_len p xs) 0) e in
        omega (arith, later, lt)

-- what is found of a course is what each rule of it forbids
pub forbids-some : (segments : List Segment) (rules : List Rule) (all : List ViaRule) (ways : MemberSet) (others : FirstMap) (rule : ViaRule) → AreReached segments rules all (length all) ways others → Contains all rule
    → is_reached ways others (first_like all (course rule)) rule ≡ forbids_some (vertices segments) rules rule
forbids-some segments rules all ways others rule reached among =
    let test : ViaRule → Bool = λ r. pointwise int_eq (course r) (course rule) in
    let j = get_Contains all rule among in
    let own : test rule ≡ true = (slice_eq-Decides Decides-int_eq (course rule) (course rule) (test rule) refl).1 refl in
    let k : ℕ = first_like all (course rule) in
    let within : k < length all = prefix-within test all j.0 rule j.1 own in
    let r : ViaRule = get_or all k rule in
    let at : slice_get all k ≡ Some r = slice_get-get_or all k rule within in
    let same : course r ≡ course rule = (slice_eq-Decides Decides-int_eq (course r) (course rule) (test r) refl).0 (passes_at_first test all rule within) in
    let first : first_like all (course r) ≡ k = ap (first_like all) same in
    reached k r within at first rule ∙ ap (list_any (is_onto (vertices segments) (shuts rule))) (ends-like (vertices segments) rules r rule same)

-- ---- course by course

-- those of the courses of the first n rules are found
pub record FindsUpTo (segments : List Segment) (rules : List Rule) (all : List ViaRule) (n : ℕ) (groups : List Barred) (ways : MemberSet) (others : FirstMap) : Type 0 where
  pub words : words_in groups ++ flat_map (words_under (vertices segments) rules all) (filter (λ e. first_like all (course e.1) == e.0) (enumerate_from n (drop n all))) ≡ forbidden_words (vertices segments) rules all
  pub paths : All HasPath groups
  pub below : All (IsBelow (2 * length segments)) groups
  pub reached : AreReached segments rules all n ways others
  pub none : (k : ℕ) (rule : ViaRule) → n ≤ k → is_reached ways others k rule ≡ false

module _ (segments : List Segment) (rules : List Rule) (all : List ViaRule) (n : ℕ) (r : ViaRule) (at : slice_get all n ≡ Some r) where
  abbrev is_first : ℕ × ViaRule → Bool
  is_first e = first_like all (course e.1) == e.0

  abbrev later : List (List ℕ)
  later = flat_map (words_under (vertices segments) rules all) (filter is_first (enumerate_from (n + 1) (drop (n + 1) all)))

  words-next : (b : Bool) → is_first (n, r) ≡ b → flat_map (words_under (vertices segments) rules all) (filter is_first (enumerate_from n (drop n all))) ≡ cond b (words_under (vertices segments) rules all (n, r)) [] ++ later
  words-next b is =
      let rest : List (ℕ × ViaRule) = filter is_first (enumerate_from (n + 1) (drop (n + 1) all)) in
      ap (λ (es : List (ℕ × ViaRule)). flat_map (words_under (vertices segments) rules all) (filter is_first es)) (numbered-from all n r at)
      ∙ ap (λ (c : Bool). flat_map (words_under (vertices segments) rules all) (cond c ((n, r) ∷ rest) rest)) is
      ∙ split b
    where
      split : (b : Bool) → flat_map (words_under (vertices segments) rules all) (cond b ((n, r) ∷ filter is_first (enumerate_from (n + 1) (drop (n + 1) all))) (filter is_first (enumerate_from (n + 1) (drop (n + 1) all))))
          ≡ cond b (words_under (vertices segments) rules all (n, r)) [] ++ later
      split true = refl
      split false = refl

  clash : true ≡ false → ⊥
  clash e = cc

  -- the course of rule n has been found before
  pub finds-again : (groups : List Barred) (ways : MemberSet) (others : FirstMap) → (first_like all (course r) == n) ≡ false → FindsUpTo segments rules all n groups ways others
      → FindsUpTo segments rules all (n + 1) groups ways others
  finds-again groups ways others again h = record {
    words = ap (λ (l : List (List ℕ)). words_in groups ++ l) (sym (words-next false again)) ∙ h.words;
    paths = h.paths;
    below = h.below;
    reached = λ k rule lt its first. at-or-before k rule lt its first (k == n) refl;
    none = λ k rule le. h.none k rule (omega (arith, le));
  }
    where
      at-or-before : (k : ℕ) (rule : ViaRule) → k < n + 1 → slice_get all k ≡ Some rule → first_like all (course rule) ≡ k → (b : Bool) → (k == n) ≡ b
          → HasReached (vertices segments) (ends_of (vertices segments) rules rule) k ways others
      at-or-before k rule lt its first true e =
          let same : k ≡ n = (Decides-eqb k n).0 e in
          let here : rule ≡ r = same_Some rule r (sym its ∙ ap (slice_get all) same ∙ at) in
          let is : first_like all (course r) ≡ n = ap (λ (s : ViaRule). first_like all (course s)) (sym here) ∙ first ∙ same in
          absurd (clash (sym ((Decides-eqb (first_like all (course r)) n).1 is) ∙ again))
      at-or-before k rule lt its first false e =
          let apart : k < n = omega (arith, lt, apart-from k n e) in
          h.reached k rule apart its first
        where
          apart-from : (a b : ℕ) → (a == b) ≡ false → a ≢ b
          apart-from a b e same = clash (sym ((Decides-eqb a b).1 same) ∙ e)

  -- it is new
  pub finds-new : (groups groups' : List Barred) (ways ways' : MemberSet) (others others' : FirstMap) → (first_like all (course r) == n) ≡ true
      → words_in groups' ≡ words_in groups ++ words_under (vertices segments) rules all (n, r) → (All HasPath groups → All HasPath groups') → (All (IsBelow (2 * length segments)) groups → All (IsBelow (2 * length segments)) groups')
      → AddsReached (vertices segments) (ends_of (vertices segments) rules r) n ways others ways' others' → FindsUpTo segments rules all n groups ways others
      → FindsUpTo segments rules all (n + 1) groups' ways' others'
  finds-new groups groups' ways ways' others others' new words paths below adds h = record {
    words = ap (λ (l : List (List ℕ)). l ++ later) words
        ∙ append_assoc (words_in groups) (words_under (vertices segments) rules all (n, r)) later
        ∙ ap (λ (l : List (List ℕ)). words_in groups ++ l) (sym (words-next true new))
        ∙ h.words;
    paths = paths h.paths;
    below = below h.below;
    reached = λ k rule lt its first. at-or-before k rule lt its first (n == k) refl;
    none = λ k rule le. adds k rule ∙ unlike (is_reached ways others k rule) (n == k) (list_any (is_onto (vertices segments) (shuts rule)) (ends_of (vertices segments) rules r)) (h.none k rule (omega (arith, le))) (other n k (omega (arith, le)));
  }
    where
      other : (a b : ℕ) → a < b → (a == b) ≡ false
      other a b lt = grind (arith, nat_tests, lt)

      unlike : (a b c : Bool) → a ≡ false → b ≡ false → (a || (b && c)) ≡ false
      unlike true b c e f = cc
      unlike false true c e f = cc
      unlike false false c e f = refl

      stay : (a b c : Bool) → b ≡ false → (a || (b && c)) ≡ a
      stay true b c e = refl
      stay false true c e = cc
      stay false false c e = refl

      fresh : (a b c : Bool) → a ≡ false → b ≡ true → (a || (b && c)) ≡ c
      fresh true b c e f = cc
      fresh false true c e f = refl
      fresh false false c e f = cc

      at-or-before : (k : ℕ) (rule : ViaRule) → k < n + 1 → slice_get all k ≡ Some rule → first_like all (course rule) ≡ k → (b : Bool) → (n == k) ≡ b
          → HasReached (vertices segments) (ends_of (vertices segments) rules rule) k ways' others'
      at-or-before k rule lt its first true e =
          let same : n ≡ k = (Decides-eqb n k).0 e in
          let here : r ≡ rule = same_Some r rule (sym at ∙ ap (slice_get all) same ∙ its) in
          λ any. adds k any
          ∙ fresh (is_reached ways others k any) (n == k) (list_any (is_onto (vertices segments) (shuts any)) (ends_of (vertices segments) rules r)) (h.none k any (omega (arith, same))) e
          ∙ ap (λ (s : ViaRule). list_any (is_onto (vertices segments) (shuts any)) (ends_of (vertices segments) rules s)) here
      at-or-before k rule lt its first false e =
          let apart : k < n = omega (arith, lt, apart-from n k e) in
          λ any. adds k any ∙ stay (is_reached ways others k any) (n == k) (list_any (is_onto (vertices segments) (shuts any)) (ends_of (vertices segments) rules r)) e ∙ h.reached k rule apart its first any
        where
          apart-from : (a b : ℕ) → (a == b) ≡ false → a ≢ b
          apart-from a b e same = clash (sym ((Decides-eqb a b).1 same) ∙ e)
