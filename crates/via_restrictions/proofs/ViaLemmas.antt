-- The vertices along ways and the paths through them.
use Rattle.std.proofs.Common.{◌≡◌, ℕ, ℤ, zero, suc, ◌+◌, ◌-◌, ◌*◌, ◌<◌, ◌≤◌, ◌%◌, ◌==◌, ◌&&◌, List, [], ◌∷◌, ◌++◌, drop, get_or, length, map, filter, Option, Some, None, Vec, All, Bool, true, false, not, cond, arith, refl, sym, ap, subst, ◌∙◌, append_assoc}
use Rattle.std.specs.Global.{Global}
use Rattle.std.specs.Prelude.{nat_le, option_map}
use Rattle.std.specs.HashMap.{get}
use Rattle.std.specs.HashSet.{contains}
use Rattle.std.specs.List.{AllByRecursion, enumerate_from, list_all, slice_get}
use Rattle.std.specs.Map.{lookup}
use Rattle.std.specs.Option.{option_map_or}
use Rattle.std.specs.Ordering.{int_eq}
use Rattle.std.proofs.Math.Seq.{drop-length}
use Rattle.std.proofs.lemmas.Bool.Decides.{Decides-eqb, Decides-int_eq, Decides-like, nat_tests, same_from_decides}
use Rattle.std.proofs.lemmas.List.{append-nil, length-append, length-map, length-reverse}
use Rattle.std.proofs.lemmas.List.Elements.{All-append, All-cons, All-filter, All-map, All-nil, All-weaker, filter-append}
use Rattle.std.proofs.lemmas.List.Sorted.{All-permutation, IsPermutation-reverse}
use Rattle.std.proofs.lemmas.Option.{same_Some, slice_get_within}
use Rattle.turn_rules.specs.Rules.{Rule}
use Rattle.road_turns.specs.Departures.{vertices_from}
use Rattle.road_turns.specs.RestrictionParts.{NodeSet}
use Rattle.road_turns.specs.Restrictions.{is_forbidden}
use Rattle.road_turns.specs.Turn.{is_turn, is_way_on, numbered}
use Rattle.via_restrictions.specs.ViaParts.{AlongMap, AreAlong, along_in, comes_from, lists_in}
use Rattle.via_restrictions.specs.ViaWays.{against, along, first_of, follow, is_onto, is_open, may_follow, meet, length_through, most_on_path, paths_through, paths_of, are_passable, those}
use Rattle.road_segments.specs.Laws.{length-vertices}
use Rattle.road_segments.specs.Segment.{Segment}
use Rattle.road_segments.specs.Vertex.{Vertex, opposite, vertices}
use Rattle.via_paths.specs.Forbidden.{last_of}
use Rattle.road_turns.specs.DropLaws.{drop-get}
use Rattle.road_turns.specs.VertexLaws.{both-ways, opposite-get}

-- the elements from number v on, with their numbers
pub numbered-from : {X : Type 0} (xs : List X) (v : ℕ) (x : X) → slice_get xs v ≡ Some x → enumerate_from v (drop v xs) ≡ (v, x) ∷ enumerate_from (v + 1) (drop (v + 1) xs)
numbered-from {X} xs v x at =
    let up : suc v ≡ v + 1 = omega arith in
    ap (λ (l : List X). enumerate_from v l) (drop-get xs v x at) ∙ ap (λ (k : ℕ). (v, x) ∷ enumerate_from (v + 1) (drop k xs)) up

-- what is true of each element and its number
pub each-numbered : {X : Type 0} (R : ℕ × X → Type 0) (b : ℕ) (xs : List X) → ((k : ℕ) (x : X) → slice_get xs k ≡ Some x → R (b + k, x)) → AllByRecursion R (enumerate_from b xs)
each-numbered R b [] h = tt
each-numbered {X} R b (x ∷ xs) h =
    let here : b + 0 ≡ b = omega arith in
    (subst (λ (n : ℕ). R (n, x)) here (h 0 x refl), each-numbered R (b + 1) xs (λ k y at. let on : b + suc k ≡ (b + 1) + k = omega arith in subst (λ (n : ℕ). R (n, y)) on (h (suc k) y at)))

module _ {X : Type 0} (p : ℕ → Bool) (q r : ℕ × X → Bool) where
  abbrev firsts_of : List (ℕ × X) → List ℕ
  firsts_of es = map {A = ℕ × X} {B = ℕ} (λ e. e.0) es

  kept-those : (b : Bool) (e : ℕ × X) (es : List (ℕ × X)) → firsts_of (cond b (e ∷ es) es) ≡ cond b (e.0 ∷ firsts_of es) (firsts_of es)
  kept-those true e es = refl
  kept-those false e es = refl

  those-by : (b : Bool) (e : ℕ × X) (es : List (ℕ × X)) → q e ≡ b → r e ≡ (q e && p e.0) → filter p (firsts_of (filter q es)) ≡ firsts_of (filter r es)
      → filter p (firsts_of (filter q (e ∷ es))) ≡ firsts_of (filter r (e ∷ es))
  those-by true e es is test then =
      ap (λ (b : Bool). filter p (firsts_of (cond b (e ∷ filter q es) (filter q es)))) is
      ∙ ap (λ (l : List ℕ). cond (p e.0) (e.0 ∷ l) l) then
      ∙ sym (kept-those (p e.0) e (filter r es))
      ∙ ap (λ (b : Bool). firsts_of (cond b (e ∷ filter r es) (filter r es))) (sym (test ∙ ap (λ (b : Bool). b && p e.0) is))
  those-by false e es is test then =
      ap (λ (b : Bool). filter p (firsts_of (cond b (e ∷ filter q es) (filter q es)))) is
      ∙ then
      ∙ ap (λ (b : Bool). firsts_of (cond b (e ∷ filter r es) (filter r es))) (sym (test ∙ ap (λ (b : Bool). b && p e.0) is))

  -- a filter of the numbers of what a filter leaves
  pub filter-those : (es : List (ℕ × X)) → AllByRecursion (λ e. r e ≡ (q e && p e.0)) es → filter p (firsts_of (filter q es)) ≡ firsts_of (filter r es)
  filter-those [] h = refl
  filter-those (e ∷ es) h = those-by (q e) e es refl h.0 (filter-those es h.1)

-- vertices onto which one may go on leave the head
pub may_follow-leaves : (a b t c : Bool) → (a && ((b && t) && c)) ≡ (t && (a && ((b && t) && c)))
may_follow-leaves true true true c = refl
may_follow-leaves true true false c = refl
may_follow-leaves true false true c = refl
may_follow-leaves true false false c = refl
may_follow-leaves false b true c = refl
may_follow-leaves false b false c = refl

-- ---- the vertices along ways, one more

abbrev pub is_along : ℤ → ℕ × Vertex → Bool
is_along way e = (e.0 % 2 == 0) && int_eq e.1.way way

-- the vertices from number v on are still to be added to their ways
abbrev pub AreAlongUpTo : List Vertex → NodeSet → AlongMap → ℕ → Type 0
AreAlongUpTo vs ways runs v = (way : ℤ) → contains int_eq ways way ≡ true
    → along_in runs way ++ map {A = ℕ × Vertex} {B = ℕ} (λ e. e.0) (filter (is_along way) (enumerate_from v (drop v vs))) ≡ along vs way

pub along-none : (vs : List Vertex) (ways : NodeSet) (runs : AlongMap) → runs.entries ≡ [] → AreAlongUpTo vs ways runs 0
along-none vs ways runs empty way among =
    let none : get int_eq runs way ≡ None = ap (λ (es : List (ℤ × Vec ℕ Global)). lookup (int_eq way) es) empty in
    ap (λ (o : Option (Vec ℕ Global)). option_map_or (λ run. run.items) o [] ++ along vs way) none

module _ (vs : List Vertex) (ways : NodeSet) (v : ℕ) (x : Vertex) (at : slice_get vs v ≡ Some x) where
  along-at : (way : ℤ) (b : Bool) → is_along way (v, x) ≡ b → (l : List ℕ)
      → l ++ map {A = ℕ × Vertex} {B = ℕ} (λ e. e.0) (filter (is_along way) (enumerate_from v (drop v vs)))
      ≡ (l ++ cond b (v ∷ []) []) ++ map {A = ℕ × Vertex} {B = ℕ} (λ e. e.0) (filter (is_along way) (enumerate_from (v + 1) (drop (v + 1) vs)))
  along-at way b is l =
      let rest : List (ℕ × Vertex) = filter (is_along way) (enumerate_from (v + 1) (drop (v + 1) vs)) in
      ap (λ (es : List (ℕ × Vertex)). l ++ map {A = ℕ × Vertex} {B = ℕ} (λ e. e.0) (filter (is_along way) es)) (numbered-from vs v x at)
      ∙ ap (λ (c : Bool). l ++ map {A = ℕ × Vertex} {B = ℕ} (λ e. e.0) (cond c ((v, x) ∷ rest) rest)) is
      ∙ ap (λ (k : List ℕ). l ++ k) (split b)
      ∙ sym (append_assoc l (cond b (v ∷ []) []) (map {A = ℕ × Vertex} {B = ℕ} (λ e. e.0) rest))
    where
      split : (b : Bool) → map {A = ℕ × Vertex} {B = ℕ} (λ e. e.0) (cond b ((v, x) ∷ filter (is_along way) (enumerate_from (v + 1) (drop (v + 1) vs))) (filter (is_along way) (enumerate_from (v + 1) (drop (v + 1) vs))))
          ≡ cond b (v ∷ []) [] ++ map {A = ℕ × Vertex} {B = ℕ} (λ e. e.0) (filter (is_along way) (enumerate_from (v + 1) (drop (v + 1) vs)))
      split true = refl
      split false = refl

  -- v is of none of the ways, or the other direction of a segment
  pub along-skip : (runs : AlongMap) → ((way : ℤ) → contains int_eq ways way ≡ true → is_along way (v, x) ≡ false) → AreAlongUpTo vs ways runs v → AreAlongUpTo vs ways runs (v + 1)
  along-skip runs off h way among =
      let rest : List ℕ = map {A = ℕ × Vertex} {B = ℕ} (λ e. e.0) (filter (is_along way) (enumerate_from (v + 1) (drop (v + 1) vs))) in
      ap (λ (l : List ℕ). l ++ rest) (sym (append-nil (along_in runs way))) ∙ sym (along-at way false (off way among) (along_in runs way)) ∙ h way among

  pub along-other : (runs : AlongMap) → (v % 2 == 0) ≡ false → AreAlongUpTo vs ways runs v → AreAlongUpTo vs ways runs (v + 1)
  along-other runs odd h = along-skip runs (λ way among. ap (λ (b : Bool). b && int_eq x.way way) odd) h

  pub along-unasked : (runs : AlongMap) → contains int_eq ways x.way ≡ false → AreAlongUpTo vs ways runs v → AreAlongUpTo vs ways runs (v + 1)
  along-unasked runs unasked h = along-skip runs (λ way among. off way among (int_eq x.way way) refl) h
    where
      clash : true ≡ false → ⊥
      clash e = cc

      last : (b : Bool) → (b && false) ≡ false
      last true = refl
      last false = refl

      off : (way : ℤ) → contains int_eq ways way ≡ true → (b : Bool) → int_eq x.way way ≡ b → is_along way (v, x) ≡ false
      off way among true is = absurd (clash (sym among ∙ ap (contains int_eq ways) (sym ((Decides-int_eq x.way way).0 is)) ∙ unasked))
      off way among false is = ap (λ (b : Bool). (v % 2 == 0) && b) is ∙ last (v % 2 == 0)

  pub along-added : (runs runs' : AlongMap) → (v % 2 == 0) ≡ true → ((way : ℤ) → along_in runs' way ≡ cond (int_eq x.way way) (along_in runs way ++ v ∷ []) (along_in runs way))
      → AreAlongUpTo vs ways runs v → AreAlongUpTo vs ways runs' (v + 1)
  along-added runs runs' even more h way among =
      let rest : List ℕ = map {A = ℕ × Vertex} {B = ℕ} (λ e. e.0) (filter (is_along way) (enumerate_from (v + 1) (drop (v + 1) vs))) in
      ap (λ (l : List ℕ). l ++ rest) (more way ∙ grown (int_eq x.way way) (along_in runs way))
      ∙ sym (along-at way (int_eq x.way way) (ap (λ (b : Bool). b && int_eq x.way way) even) (along_in runs way))
      ∙ h way among
    where
      grown : (b : Bool) (l : List ℕ) → cond b (l ++ v ∷ []) l ≡ l ++ cond b (v ∷ []) []
      grown true l = refl
      grown false l = sym (append-nil l)

-- all are added
pub along-all : (vs : List Vertex) (ways : NodeSet) (runs : AlongMap) (v : ℕ) → v ≡ length vs → AreAlongUpTo vs ways runs v → AreAlong vs ways runs
along-all vs ways runs v all h way among =
    sym (append-nil (along_in runs way))
    ∙ ap (λ (xs : List Vertex). along_in runs way ++ map {A = ℕ × Vertex} {B = ℕ} (λ e. e.0) (filter (is_along way) (enumerate_from v xs))) (sym (ap (λ (k : ℕ). drop k vs) all ∙ drop-length vs))
    ∙ h way among

-- the list of one way is changed
pub runs-put : (old mid new : AlongMap) (key way : ℤ) (v : ℕ) (run : Vec ℕ Global) → run.items ≡ along_in old key ++ v ∷ []
    → get int_eq mid way ≡ cond (int_eq key way) None (get int_eq old way) → get int_eq new way ≡ cond (int_eq key way) (Some run) (get int_eq mid way)
    → along_in new way ≡ cond (int_eq key way) (along_in old way ++ v ∷ []) (along_in old way)
runs-put old mid new key way v run grown taken put = by (int_eq key way) refl
  where
    by : (b : Bool) → int_eq key way ≡ b → along_in new way ≡ cond (int_eq key way) (along_in old way ++ v ∷ []) (along_in old way)
    by true e =
        ap (λ (o : Option (Vec ℕ Global)). option_map_or (λ r. r.items) o []) (put ∙ ap (λ (b : Bool). cond b (Some run) (get int_eq mid way)) e)
        ∙ grown
        ∙ ap (λ (z : ℤ). along_in old z ++ v ∷ []) ((Decides-int_eq key way).0 e)
        ∙ ap (λ (b : Bool). cond b (along_in old way ++ v ∷ []) (along_in old way)) (sym e)
    by false e =
        ap (λ (o : Option (Vec ℕ Global)). option_map_or (λ r. r.items) o [])
        (put ∙ ap (λ (b : Bool). cond b (Some run) (get int_eq mid way)) e ∙ taken ∙ ap (λ (b : Bool). cond b None (get int_eq old way)) e)
        ∙ ap (λ (b : Bool). cond b (along_in old way ++ v ∷ []) (along_in old way)) (sym e)

-- ---- paths

module _ (vs : List Vertex) (rules : List Rule) where
  -- a vertex and what follows it
  pub follow-step : (path : List ℕ) (i d e : ℕ) → slice_get path i ≡ Some d → slice_get path (i + 1) ≡ Some e → follow vs rules (drop i path) ≡ (may_follow vs rules d e && follow vs rules (drop (i + 1) path))
  follow-step path i d e at next =
      let up : i + 1 ≡ suc i = omega arith in
      ap (follow vs rules) (drop-get path i d at)
      ∙ ap (λ (k : ℕ). follow vs rules (d ∷ drop k path)) (sym up)
      ∙ ap (λ (l : List ℕ). follow vs rules (d ∷ l)) (drop-get path (i + 1) e next)
      ∙ ap (λ (l : List ℕ). may_follow vs rules d e && follow vs rules l) (sym (drop-get path (i + 1) e next))

  -- a vertex alone, and none
  pub follow-end : (path : List ℕ) (i : ℕ) → length path ≤ i + 1 → follow vs rules (drop i path) ≡ true
  follow-end [] zero le = refl
  follow-end [] (suc i) le = refl
  follow-end (x ∷ []) zero le = refl
  follow-end (x ∷ y ∷ path) zero le = absurd (omega (arith, le))
  follow-end (x ∷ path) (suc i) le = follow-end path i (omega (arith, le))

  -- what follows on a path with vertices before it does so without them
  pub follow-rest : (run path : List ℕ) → follow vs rules (run ++ path) ≡ true → follow vs rules path ≡ true
  follow-rest [] path h = h
  follow-rest (d ∷ []) [] h = refl
  follow-rest (d ∷ []) (e ∷ path) h = second (may_follow vs rules d e) (follow vs rules (e ∷ path)) h
    where
      second : (a b : Bool) → (a && b) ≡ true → b ≡ true
      second true b h = h
      second false b h = cc
  follow-rest (d ∷ e ∷ run) path h = follow-rest (e ∷ run) path (second (may_follow vs rules d e) (follow vs rules (e ∷ (run ++ path))) h)
    where
      second : (a b : Bool) → (a && b) ≡ true → b ≡ true
      second true b h = h
      second false b h = cc

  abbrev led : List ℕ → List (List ℕ) → List (List ℕ)
  led run paths = filter (follow vs rules) (map {A = List ℕ} {B = List ℕ} (λ path. run ++ path) paths)

  led-by : (b c : Bool) (run path : List ℕ) (paths : List (List ℕ)) → follow vs rules path ≡ b → follow vs rules (run ++ path) ≡ c → led run (filter (follow vs rules) paths) ≡ led run paths
      → led run (filter (follow vs rules) (path ∷ paths)) ≡ led run (path ∷ paths)
  led-by true c run path paths is its then =
      ap (λ (b : Bool). led run (cond b (path ∷ filter (follow vs rules) paths) (filter (follow vs rules) paths))) is
      ∙ ap (λ (l : List (List ℕ)). cond (follow vs rules (run ++ path)) ((run ++ path) ∷ l) l) then
  led-by false true run path paths is its then =
      let clash : true ≡ false = sym (follow-rest run path its) ∙ is in
      cc
  led-by false false run path paths is its then =
      ap (λ (b : Bool). led run (cond b (path ∷ filter (follow vs rules) paths) (filter (follow vs rules) paths))) is
      ∙ then
      ∙ ap (λ (b : Bool). cond b ((run ++ path) ∷ led run paths) (led run paths)) (sym its)

  -- the paths behind a run need not be looked at where they fail without it
  pub led-kept : (run : List ℕ) (paths : List (List ℕ)) → led run (filter (follow vs rules) paths) ≡ led run paths
  led-kept run [] = refl
  led-kept run (path ∷ paths) = led-by (follow vs rules path) (follow vs rules (run ++ path)) run path paths refl refl (led-kept run paths)

  -- the paths through the ways from number i on
  pub paths-step : (via : List ℤ) (i : ℕ) (way : ℤ) (rest : List (List ℕ)) → slice_get via i ≡ Some way → rest ≡ filter (follow vs rules) (paths_through vs (drop (i + 1) via))
      → filter (follow vs rules) (map {A = List ℕ} {B = List ℕ} (λ path. along vs way ++ path) rest ++ map {A = List ℕ} {B = List ℕ} (λ path. against (along vs way) ++ path) rest)
      ≡ filter (follow vs rules) (paths_through vs (drop i via))
  paths-step via i way rest at is =
      let up : suc i ≡ i + 1 = omega arith in
      let paths : List (List ℕ) = paths_through vs (drop (i + 1) via) in
      let one : List (List ℕ) = map {A = List ℕ} {B = List ℕ} (λ path. along vs way ++ path) paths in
      let other : List (List ℕ) = map {A = List ℕ} {B = List ℕ} (λ path. against (along vs way) ++ path) paths in
      filter-append (follow vs rules) (map {A = List ℕ} {B = List ℕ} (λ path. along vs way ++ path) rest) (map {A = List ℕ} {B = List ℕ} (λ path. against (along vs way) ++ path) rest)
      ∙ ap (λ (l : List (List ℕ)). led (along vs way) l ++ led (against (along vs way)) l) is
      ∙ ap (λ (l : List (List ℕ)). l ++ led (against (along vs way)) (filter (follow vs rules) paths)) (led-kept (along vs way) paths)
      ∙ ap (λ (l : List (List ℕ)). led (along vs way) paths ++ l) (led-kept (against (along vs way)) paths)
      ∙ sym (filter-append (follow vs rules) one other)
      ∙ ap (λ (k : ℕ). filter (follow vs rules) (paths_through vs (way ∷ drop k via))) (sym up)
      ∙ ap (λ (l : List ℤ). filter (follow vs rules) (paths_through vs l)) (sym (drop-get via i way at))

-- the other directions of those of these vertices
abbrev pub starts_among : List Vertex → List Rule → ℤ → ℕ → List ℕ → List ℕ
starts_among vs rules from first es = map opposite (filter (comes_from vs rules from first) es)

-- ---- all are vertices

abbrev pub IsVertex : List Segment → ℕ → Type 0
IsVertex segments v = v < 2 * length segments

below-from : {X : Type 0} (n b : ℕ) (test : ℕ × X → Bool) (xs : List X) → b + length xs ≤ n → All (λ v. v < n) (map {A = ℕ × X} {B = ℕ} (λ e. e.0) (filter test (enumerate_from b xs)))
below-from n b test [] le = All-nil (λ v. v < n)
below-from {X} n b test (x ∷ xs) le =
    let rest : List (ℕ × X) = filter test (enumerate_from (b + 1) xs) in
    let below : All (λ v. v < n) (map {A = ℕ × X} {B = ℕ} (λ e. e.0) rest) = below-from n (b + 1) test xs (omega (arith, le)) in
    elim (test (b, x)) as (λ c. All (λ v. v < n) (map {A = ℕ × X} {B = ℕ} (λ e. e.0) (cond c ((b, x) ∷ rest) rest))) [
      | true ↦ All-cons (λ v. v < n) b (map {A = ℕ × X} {B = ℕ} (λ e. e.0) rest) (omega (arith, le)) below
      | false ↦ below
    ]

module _ (segments : List Segment) where
  pub below-those : (test : ℕ × Vertex → Bool) → All (IsVertex segments) (those test (vertices segments))
  below-those test = below-from (2 * length segments) 0 test (vertices segments) (omega (arith, length-vertices segments))

  pub below-opposite : (v : ℕ) → IsVertex segments v → IsVertex segments (opposite v)
  below-opposite v lt =
      let w = both-ways segments v lt in
      omega (arith, length-vertices segments, slice_get_within (vertices segments) (opposite v) w.1 w.3)

  pub below-opposites : (run : List ℕ) → All (IsVertex segments) run → All (IsVertex segments) (map opposite run)
  below-opposites run h = All-map (IsVertex segments) opposite run (All-weaker (IsVertex segments) (λ v. IsVertex segments (opposite v)) below-opposite run h)

  pub below-against : (run : List ℕ) → All (IsVertex segments) run → All (IsVertex segments) (against run)
  below-against run h = All-permutation (IsVertex segments) (map opposite run) (against run) (IsPermutation-reverse (map opposite run)) (below-opposites run h)

  below-led : (run : List ℕ) (paths : List (List ℕ)) → All (IsVertex segments) run → All (All (IsVertex segments)) paths → All (All (IsVertex segments)) (map {A = List ℕ} {B = List ℕ} (λ path. run ++ path) paths)
  below-led run paths h all =
      All-map (All (IsVertex segments)) (λ path. run ++ path) paths (All-weaker (All (IsVertex segments)) (λ path. All (IsVertex segments) (run ++ path)) (λ path p. All-append (IsVertex segments) run path h p) paths all)

  pub below-paths : (via : List ℤ) → All (All (IsVertex segments)) (paths_through (vertices segments) via)
  below-paths [] = All-cons (All (IsVertex segments)) [] [] (All-nil (IsVertex segments)) (All-nil (All (IsVertex segments)))
  below-paths (way ∷ via) =
      let run : List ℕ = along (vertices segments) way in
      let paths : List (List ℕ) = paths_through (vertices segments) via in
      let below : All (IsVertex segments) run = below-those (is_along way) in
      All-append (All (IsVertex segments)) (map {A = List ℕ} {B = List ℕ} (λ path. run ++ path) paths) (map {A = List ℕ} {B = List ℕ} (λ path. against run ++ path) paths)
      (below-led run paths below (below-paths via)) (below-led (against run) paths (below-against run below) (below-paths via))

-- a list that is kept as a vector
pub list-at : (vectors : List (Vec ℕ Global)) (i : ℕ) (v : Vec ℕ Global) → slice_get vectors i ≡ Some v → slice_get (lists_in vectors) i ≡ Some v.items
list-at [] i v at = cc
list-at (x ∷ vectors) zero v at = ap (option_map (λ (w : Vec ℕ Global). w.items)) at
list-at (x ∷ vectors) (suc i) v at = list-at vectors i v at

-- ---- the ends of a list

pub last-get : (run : List ℕ) → last_of run ≡ get_or run (length run - 1) 0
last-get [] = refl
last-get (v ∷ []) = refl
last-get (v ∷ x ∷ run) =
    let on : suc (length (x ∷ run) - 1) ≡ length (v ∷ x ∷ run) - 1 = omega arith in
    last-get (x ∷ run) ∙ ap (λ (k : ℕ). get_or (v ∷ x ∷ run) k 0) on

pub first-get : (run : List ℕ) → first_of run ≡ get_or run 0 0
first-get [] = refl
first-get (v ∷ run) = refl

pub open-at : (vs : List Vertex) (run : List ℕ) → 0 < length run → is_open vs run ≡ not (meet vs (get_or run (length run - 1) 0) (get_or run 0 0))
open-at vs [] lt = absurd (omega (arith, lt))
open-at vs (v ∷ run) lt = ap (λ (e : ℕ). not (meet vs e v)) (last-get (v ∷ run))

-- ---- vertices from which one comes onto a path, and onto which one leaves it

pub each-vertex : {X : Type 0} (R : ℕ × X → Type 0) (xs : List X) → ((k : ℕ) (x : X) → slice_get xs k ≡ Some x → R (k, x)) → AllByRecursion R (enumerate_from 0 xs)
each-vertex {X} R xs h = each-numbered R 0 xs (λ k x at. let same : k ≡ 0 + k = omega arith in subst (λ (n : ℕ). R (n, x)) same (h k x at))

pub may_follow-at : (vs : List Vertex) (rules : List Rule) (d e : ℕ) (x y : Vertex) → slice_get vs d ≡ Some x → slice_get vs e ≡ Some y → may_follow vs rules d e ≡ is_turn vs rules (d, x) (e, y)
may_follow-at vs rules d e x y at its =
    ap (λ (o : Option Vertex). option_map_or (λ z. option_map_or (λ u. is_turn vs rules (d, z) (e, u)) (slice_get vs e) false) o false) at
    ∙ ap (λ (o : Option Vertex). option_map_or (λ u. is_turn vs rules (d, x) (e, u)) o false) its

-- what may follow a vertex leaves its head
pub may_follow-tail : (vs : List Vertex) (rules : List Rule) (d e : ℕ) (x y : Vertex) → slice_get vs d ≡ Some x → slice_get vs e ≡ Some y → may_follow vs rules d e ≡ (int_eq y.tail x.head && may_follow vs rules d e)
may_follow-tail vs rules d e x y at its =
    may_follow-at vs rules d e x y at its
    ∙ may_follow-leaves x.permitted y.permitted (int_eq y.tail x.head) (is_way_on vs (d, x) e && not (is_forbidden rules (d, x) (e, y)))
    ∙ ap (λ (b : Bool). int_eq y.tail x.head && b) (sym (may_follow-at vs rules d e x y at its))

-- of the vertices that leave the head of the last one of a path
pub exits-from : (vs : List Vertex) (rules : List Rule) (last : ℕ) (node : ℤ) (x : Vertex) → slice_get vs last ≡ Some x → x.head ≡ node
    → filter (may_follow vs rules last) (vertices_from vs node) ≡ those (λ e. may_follow vs rules last e.0) vs
exits-from vs rules last node x at is =
    filter-those (may_follow vs rules last) (λ e. int_eq e.1.tail node) (λ e. may_follow vs rules last e.0) (numbered vs)
    (each-vertex (λ e. may_follow vs rules last e.0 ≡ (int_eq e.1.tail node && may_follow vs rules last e.0)) vs
    (λ k y its. may_follow-tail vs rules last k x y at its ∙ ap (λ (z : ℤ). int_eq y.tail z && may_follow vs rules last k) is))

pub int_eq-sym : (a b : ℤ) → int_eq a b ≡ int_eq b a
int_eq-sym a b = same_from_decides (int_eq a b) (int_eq b a) (Decides-int_eq a b) (Decides-like (int_eq b a) (λ (e : b ≡ a). sym e) (λ (e : a ≡ b). sym e) (Decides-int_eq b a))

opposite-twice : (v : ℕ) → opposite (opposite v) ≡ v
opposite-twice v = by (v % 2 == 0) refl
  where
    is : (u : ℕ) (b : Bool) → (u % 2 == 0) ≡ b → opposite u ≡ cond b (u + 1) (u - 1)
    is u b e = ap (λ (c : Bool). cond c (u + 1) (u - 1)) e

    by : (b : Bool) → (v % 2 == 0) ≡ b → opposite (opposite v) ≡ v
    by true e =
        let even : v % 2 ≡ 0 = (Decides-eqb (v % 2) 0).0 e in
        let odd : ((v + 1) % 2 == 0) ≡ false = grind (arith, nat_tests, even) in
        ap opposite (is v true e) ∙ is (v + 1) false odd ∙ omega arith
    by false e =
        let odd : v % 2 ≡ 1 = grind (arith, nat_tests, e) in
        let even : ((v - 1) % 2 == 0) ≡ true = grind (arith, nat_tests, odd) in
        ap opposite (is v false e) ∙ is (v - 1) true even ∙ omega (arith, odd)

-- the other direction of a vertex ends where it begins
back-head : (segments : List Segment) (v : ℕ) (y : Vertex) → slice_get (vertices segments) v ≡ Some y → (z : Vertex) × (slice_get (vertices segments) (opposite v) ≡ Some z) × (z.head ≡ y.tail)
back-head segments v y at =
    let z = opposite-get segments v y at in
    let u = opposite-get segments (opposite v) z.0 z.1 in
    let back : slice_get (vertices segments) (opposite (opposite v)) ≡ Some y = ap (slice_get (vertices segments)) (opposite-twice v) ∙ at in
    let same : u.0 ≡ y = same_Some u.0 y (sym u.1 ∙ back) in
    (z.0, z.1, sym u.2 ∙ ap (λ (w : Vertex). w.tail) same)

only-where : (a t m : Bool) → m ≡ (t && m) → (a && m) ≡ (t && (a && m))
only-where true true m e = refl
only-where true false m e = e
only-where false true m e = refl
only-where false false m e = refl

-- of the other directions of those that leave the tail of the first one
pub starts-from : (segments : List Segment) (rules : List Rule) (from : ℤ) (first : ℕ) (node : ℤ) (f : Vertex) → slice_get (vertices segments) first ≡ Some f → f.tail ≡ node
    → starts_among (vertices segments) rules from first (vertices_from (vertices segments) node)
    ≡ map opposite (those (λ e. int_eq e.1.way from && may_follow (vertices segments) rules (opposite e.0) first) (vertices segments))
starts-from segments rules from first node f at is =
    let vs : List Vertex = vertices segments in
    ap (map opposite)
    (filter-those (comes_from vs rules from first) (λ e. int_eq e.1.tail node) (λ e. int_eq e.1.way from && may_follow vs rules (opposite e.0) first) (numbered vs)
    (each-vertex (λ e. (int_eq e.1.way from && may_follow vs rules (opposite e.0) first) ≡ (int_eq e.1.tail node && comes_from vs rules from first e.0)) vs
    (λ k y its.
    let z = back-head segments k y its in
    let test : int_eq f.tail z.0.head ≡ int_eq y.tail node =
    ap (λ (h : ℤ). int_eq f.tail h) z.2 ∙ ap (λ (t : ℤ). int_eq t y.tail) is ∙ int_eq-sym node y.tail in
    let m : may_follow vs rules (opposite k) first ≡ (int_eq y.tail node && may_follow vs rules (opposite k) first) =
    may_follow-tail vs rules (opposite k) first z.0 f z.1 at ∙ ap (λ (b : Bool). b && may_follow vs rules (opposite k) first) test in
    only-where (int_eq y.way from) (int_eq y.tail node) (may_follow vs rules (opposite k) first) m
    ∙ ap (λ (o : Option Vertex). int_eq y.tail node && (option_map_or (λ u. int_eq u.way from) o false && may_follow vs rules (opposite k) first)) (sym its))))

pub is_onto-at : (vs : List Vertex) (test : ℤ → Bool) (e : ℕ) (y : Vertex) → slice_get vs e ≡ Some y → is_onto vs test e ≡ test y.way
is_onto-at vs test e y at = ap (λ (o : Option Vertex). option_map_or (λ u. test u.way) o false) at

-- ---- paths have vertices

some-run : (run : List ℕ) (vs : List Vertex) → is_open vs run ≡ true → 1 ≤ length run
some-run [] vs h = cc
some-run (v ∷ run) vs h = omega arith

some-led : (run : List ℕ) (paths : List (List ℕ)) → 1 ≤ length run → All (λ p. 1 ≤ length p) (map {A = List ℕ} {B = List ℕ} (λ path. run ++ path) paths)
some-led run [] h = All-nil (λ p. 1 ≤ length p)
some-led run (path ∷ paths) h =
    All-cons (λ p. 1 ≤ length p) (run ++ path) (map {A = List ℕ} {B = List ℕ} (λ p. run ++ p) paths) (omega (arith, length-append run path, h)) (some-led run paths h)

both : (a b : Bool) → (a && b) ≡ true → (a ≡ true) × (b ≡ true)
both true b h = (refl, h)
both false b h = cc

pub some-paths : (vs : List Vertex) (rules : List Rule) (via : List ℤ) → 1 ≤ length via → All (λ p. 1 ≤ length p) (paths_of vs rules via)
some-paths vs rules [] h = absurd (omega (arith, h))
some-paths vs rules (way ∷ via) h = by (are_passable vs (way ∷ via)) refl
  where
    by : (b : Bool) → are_passable vs (way ∷ via) ≡ b → All (λ p. 1 ≤ length p) (cond b (filter (follow vs rules) (paths_through vs (way ∷ via))) [])
    by false e = All-nil (λ p. 1 ≤ length p)
    by true e =
        let run : List ℕ = along vs way in
        let opened : is_open vs run ≡ true = (both (is_open vs run) (list_all (λ w. is_open vs (along vs w)) via) (both (list_all (λ w. is_open vs (along vs w)) (way ∷ via)) (nat_le (length_through vs (way ∷ via)) most_on_path) e).0).0 in
        let some : 1 ≤ length run = some-run run vs opened in
        let back : 1 ≤ length (against run) = omega (arith, some, length-reverse (map opposite run), length-map run opposite) in
        All-filter (follow vs rules) (λ p. 1 ≤ length p) (paths_through vs (way ∷ via))
        (All-append (λ p. 1 ≤ length p) (map {A = List ℕ} {B = List ℕ} (λ path. run ++ path) (paths_through vs via)) (map {A = List ℕ} {B = List ℕ} (λ path. against run ++ path) (paths_through vs via))
        (some-led run (paths_through vs via) some) (some-led (against run) (paths_through vs via) back))

pub below-paths_of : (segments : List Segment) (rules : List Rule) (via : List ℤ) → All (All (IsVertex segments)) (paths_of (vertices segments) rules via)
below-paths_of segments rules via =
    elim (are_passable (vertices segments) via) as (λ b. All (All (IsVertex segments)) (cond b (filter (follow (vertices segments) rules) (paths_through (vertices segments) via)) [])) [
      | true ↦ All-filter (follow (vertices segments) rules) (All (IsVertex segments)) (paths_through (vertices segments) via) (below-paths segments via)
      | false ↦ All-nil (All (IsVertex segments))
    ]
