-- The vertices that leave the nodes of rules, one more.
use Rattle.std.proofs.Common.{◌≡◌, ◌&&◌, ℕ, ℤ, ◌+◌, ◌<◌, List, [], ◌∷◌, ◌++◌, length, take, get_or, map, filter, Option, Some, None, Vec, Bool, true, false, cond, refl, sym, ap, ◌∙◌, append_assoc}
use Rattle.std.specs.Global.{Global}
use Rattle.std.specs.HashMap.{get}
use Rattle.std.specs.List.{slice_get}
use Rattle.std.specs.Option.{option_map_or}
use Rattle.std.specs.Ordering.{int_eq}
use Rattle.std.proofs.lemmas.Bool.Decides.{Decides-int_eq}
use Rattle.std.proofs.lemmas.Grind.{flat_map-append}
use Rattle.std.proofs.lemmas.List.{append-nil, map-append, take_more}
use Rattle.std.proofs.lemmas.List.Elements.{filter-append}
use Rattle.turn_rules.specs.Rules.{Rule}
use Rattle.road_turns.specs.Fans.{leavers}
use Rattle.road_segments.specs.Vertex.{Vertex}
use Rattle.road_turns.proofs.LeaverLemmas.{leavers-add, leavers-end, leavers-skip}
use Rattle.road_turns.specs.Leaving.{AreGroups, GroupMap, RunMap, leaving_at, exits_in, exits_onto, group_at}
use Rattle.road_turns.specs.RestrictionParts.{has_via, pair_eq}
use Rattle.road_turns.specs.declared.leaving.Run.{Run}
use Rattle.road_turns.proofs.DecisionLemmas.{pair-same}

abbrev of_run : Run → List (ℕ × ℤ)
of_run run = map (λ v. (v, run.way)) run.vertices.items

exits_in-push : (runs : List Run) (run : Run) → exits_in (runs ++ run ∷ []) ≡ exits_in runs ++ of_run run
exits_in-push runs run = flat_map-append of_run runs (run ∷ []) ∙ ap (λ (l : List (ℕ × ℤ)). exits_in runs ++ l) (append-nil (of_run run))

-- a vertex is added to the last run
pub exits_in-grown : (old runs : List Run) (way : ℤ) (v : ℕ) (run run' : Run)
    → exits_in old ≡ exits_in runs ++ map (λ u. (u, way)) run.vertices.items → run'.way ≡ way → run'.vertices.items ≡ run.vertices.items ++ v ∷ []
    → exits_in (runs ++ run' ∷ []) ≡ exits_in old ++ (v, way) ∷ []
exits_in-grown old runs way v run run' was its more =
    exits_in-push runs run'
    ∙ ap (λ (w : ℤ). exits_in runs ++ map {A = ℕ} {B = ℕ × ℤ} (λ u. (u, w)) run'.vertices.items) its
    ∙ ap (λ (l : List ℕ). exits_in runs ++ map {A = ℕ} {B = ℕ × ℤ} (λ u. (u, way)) l) more
    ∙ ap (λ (l : List (ℕ × ℤ)). exits_in runs ++ l) (map-append (λ u. (u, way)) run.vertices.items (v ∷ []))
    ∙ sym (append_assoc (exits_in runs) (map {A = ℕ} {B = ℕ × ℤ} (λ u. (u, way)) run.vertices.items) ((v, way) ∷ []))
    ∙ ap (λ (l : List (ℕ × ℤ)). l ++ (v, way) ∷ []) (sym was)

-- the runs of one node are changed
pub runs-step : (old mid new : RunMap) (node n : ℤ) (v : ℕ) (way : ℤ) (runs : Vec Run Global) → exits_in runs.items ≡ leaving_at old node ++ (v, way) ∷ []
    → get int_eq mid n ≡ cond (int_eq node n) None (get int_eq old n) → get int_eq new n ≡ cond (int_eq node n) (Some runs) (get int_eq mid n)
    → leaving_at new n ≡ cond (int_eq node n) (leaving_at old n ++ (v, way) ∷ []) (leaving_at old n)
runs-step old mid new node n v way runs grown taken put = by (int_eq node n) refl
  where
    by : (b : Bool) → int_eq node n ≡ b → leaving_at new n ≡ cond (int_eq node n) (leaving_at old n ++ (v, way) ∷ []) (leaving_at old n)
    by true e =
        ap (λ (o : Option (Vec Run Global)). option_map_or (λ all. exits_in all.items) o []) (put ∙ ap (λ (b : Bool). cond b (Some runs) (get int_eq mid n)) e)
        ∙ grown
        ∙ ap (λ (z : ℤ). leaving_at old z ++ (v, way) ∷ []) ((Decides-int_eq node n).0 e)
        ∙ ap (λ (b : Bool). cond b (leaving_at old n ++ (v, way) ∷ []) (leaving_at old n)) (sym e)
    by false e =
        ap (λ (o : Option (Vec Run Global)). option_map_or (λ all. exits_in all.items) o [])
        (put ∙ ap (λ (b : Bool). cond b (Some runs) (get int_eq mid n)) e ∙ taken ∙ ap (λ (b : Bool). cond b None (get int_eq old n)) e)
        ∙ ap (λ (b : Bool). cond b (leaving_at old n ++ (v, way) ∷ []) (leaving_at old n)) (sym e)

-- a group is changed
pub groups-step : (old mid new : GroupMap) (key q : ℤ × ℤ) (v : ℕ) (group : Vec ℕ Global) → group.items ≡ group_at old key ++ v ∷ []
    → get pair_eq mid q ≡ cond (pair_eq key q) None (get pair_eq old q) → get pair_eq new q ≡ cond (pair_eq key q) (Some group) (get pair_eq mid q)
    → group_at new q ≡ cond (pair_eq key q) (group_at old q ++ v ∷ []) (group_at old q)
groups-step old mid new key q v group grown taken put = by (pair_eq key q) refl
  where
    by : (b : Bool) → pair_eq key q ≡ b → group_at new q ≡ cond (pair_eq key q) (group_at old q ++ v ∷ []) (group_at old q)
    by true e =
        ap (λ (o : Option (Vec ℕ Global)). option_map_or (λ g. g.items) o []) (put ∙ ap (λ (b : Bool). cond b (Some group) (get pair_eq mid q)) e)
        ∙ grown
        ∙ ap (λ (z : ℤ × ℤ). group_at old z ++ v ∷ []) (pair-same key q e)
        ∙ ap (λ (b : Bool). cond b (group_at old q ++ v ∷ []) (group_at old q)) (sym e)
    by false e =
        ap (λ (o : Option (Vec ℕ Global)). option_map_or (λ g. g.items) o [])
        (put ∙ ap (λ (b : Bool). cond b (Some group) (get pair_eq mid q)) e ∙ taken ∙ ap (λ (b : Bool). cond b None (get pair_eq old q)) e)
        ∙ ap (λ (b : Bool). cond b (group_at old q ++ v ∷ []) (group_at old q)) (sym e)

exits_onto-append : (test : ℤ → Bool) (xs ys : List (ℕ × ℤ)) → exits_onto test (xs ++ ys) ≡ exits_onto test xs ++ exits_onto test ys
exits_onto-append test xs ys =
    ap (map {A = ℕ × ℤ} {B = ℕ} (λ e. e.0)) (filter-append (λ e. test e.1) xs ys) ∙ map-append (λ e. e.0) (filter (λ e. test e.1) xs) (filter (λ e. test e.1) ys)

module _ (runs : RunMap) (groups : GroupMap) (node way n w : ℤ) (v : ℕ) (h : group_at groups (n, w) ≡ exits_onto (λ u. int_eq u w) (leaving_at runs n)) where
  abbrev its_way : ℤ → Bool
  its_way u = int_eq u w

  added : (c : Bool) → int_eq way w ≡ c → exits_onto its_way (leaving_at runs n ++ (v, way) ∷ []) ≡ exits_onto its_way (leaving_at runs n) ++ map {A = ℕ × ℤ} {B = ℕ} (λ e. e.0) (cond c ((v, way) ∷ []) [])
  added c e =
      exits_onto-append its_way (leaving_at runs n) ((v, way) ∷ [])
      ∙ ap (λ (b : Bool). exits_onto its_way (leaving_at runs n) ++ map {A = ℕ × ℤ} {B = ℕ} (λ e. e.0) (cond b ((v, way) ∷ []) [])) e

  grown-by : (b c : Bool) → int_eq node n ≡ b → int_eq way w ≡ c
      → cond (b && c) (group_at groups (n, w) ++ v ∷ []) (group_at groups (n, w)) ≡ exits_onto its_way (cond b (leaving_at runs n ++ (v, way) ∷ []) (leaving_at runs n))
  grown-by true true e f = ap (λ (l : List ℕ). l ++ v ∷ []) h ∙ sym (added true f)
  grown-by true false e f = h ∙ sym (append-nil (exits_onto its_way (leaving_at runs n))) ∙ sym (added false f)
  grown-by false c e f = h

-- the groups stay those of their ways
pub groups-add : (runs runs' : RunMap) (groups groups' : GroupMap) (node way : ℤ) (v : ℕ) → AreGroups runs groups
    → ((n : ℤ) → leaving_at runs' n ≡ cond (int_eq node n) (leaving_at runs n ++ (v, way) ∷ []) (leaving_at runs n))
    → ((q : ℤ × ℤ) → group_at groups' q ≡ cond (pair_eq (node, way) q) (group_at groups q ++ v ∷ []) (group_at groups q))
    → AreGroups runs' groups'
groups-add runs runs' groups groups' node way v h more more_too n w =
    more_too (n, w) ∙ grown-by runs groups node way n w v (h n w) (int_eq node n) (int_eq way w) refl refl ∙ ap (exits_onto (λ u. int_eq u w)) (sym (more n))

-- the vertices of one way
pub exits_onto-run : (test : ℤ → Bool) (way : ℤ) (b : Bool) → test way ≡ b → (vs : List ℕ) → exits_onto test (map (λ v. (v, way)) vs) ≡ cond b vs []
exits_onto-run test way true e [] = refl
exits_onto-run test way false e [] = refl
exits_onto-run test way true e (v ∷ vs) =
    ap (λ (c : Bool). map {A = ℕ × ℤ} {B = ℕ} (λ f. f.0) (cond c ((v, way) ∷ filter (λ f. test f.1) (map (λ v. (v, way)) vs)) (filter (λ f. test f.1) (map (λ v. (v, way)) vs)))) e
    ∙ ap (λ (l : List ℕ). v ∷ l) (exits_onto-run test way true e vs)
exits_onto-run test way false e (v ∷ vs) =
    ap (λ (c : Bool). map {A = ℕ × ℤ} {B = ℕ} (λ f. f.0) (cond c ((v, way) ∷ filter (λ f. test f.1) (map (λ v. (v, way)) vs)) (filter (λ f. test f.1) (map (λ v. (v, way)) vs)))) e
    ∙ exits_onto-run test way false e vs

-- one more run
pub exits_onto-more : (test : ℤ → Bool) (runs : List Run) (k : ℕ) (run : Run) (b : Bool) (row row' : List ℕ) → k < length runs → run ≡ get_or runs k run → test run.way ≡ b
    → row ≡ exits_onto test (exits_in (take k runs)) → row' ≡ row ++ cond b run.vertices.items [] → row' ≡ exits_onto test (exits_in (take (k + 1) runs))
exits_onto-more test runs k run b row row' lt is tested so_far new =
    new
    ∙ ap (λ (l : List ℕ). l ++ cond b run.vertices.items []) so_far
    ∙ ap (λ (l : List ℕ). exits_onto test (exits_in (take k runs)) ++ l) (sym (exits_onto-run test run.way b tested run.vertices.items))
    ∙ sym (exits_onto-append test (exits_in (take k runs)) (of_run run))
    ∙ ap (exits_onto test) (sym (exits_in-push (take k runs) run))
    ∙ ap (λ (l : List Run). exits_onto test (exits_in l)) (sym (take_more runs k run lt ∙ ap (λ (r : Run). take k runs ++ r ∷ []) (sym is)))

-- where all other ways are ruled out
pub exits_onto-one : (test : ℤ → Bool) (way : ℤ) → ((to : ℤ) → int_eq way to ≡ false → test to ≡ false) → (b : Bool) → test way ≡ b → (es : List (ℕ × ℤ))
    → exits_onto test es ≡ cond b (exits_onto (λ u. int_eq u way) es) []
exits_onto-one test way only b e [] = nothing b
  where
    nothing : (b : Bool) → [] ≡ cond b (exits_onto (λ u. int_eq u way) []) []
    nothing true = refl
    nothing false = refl
exits_onto-one test way only b e (f ∷ es) = one-by test way only b e f es (int_eq f.1 way) refl (exits_onto-one test way only b e es)
  where
    one-by : (test : ℤ → Bool) (way : ℤ) → ((to : ℤ) → int_eq way to ≡ false → test to ≡ false) → (b : Bool) → test way ≡ b → (f : ℕ × ℤ) (es : List (ℕ × ℤ)) (c : Bool) → int_eq f.1 way ≡ c
        → exits_onto test es ≡ cond b (exits_onto (λ u. int_eq u way) es) []
        → exits_onto test (f ∷ es) ≡ cond b (exits_onto (λ u. int_eq u way) (f ∷ es)) []
    one-by test way only b e f es true g same =
        let same_way : f.1 ≡ way = (Decides-int_eq f.1 way).0 g in
        let passes : test f.1 ≡ b = ap test same_way ∙ e in
        ap (λ (c : Bool). map {A = ℕ × ℤ} {B = ℕ} (λ x. x.0) (cond c (f ∷ filter (λ x. test x.1) es) (filter (λ x. test x.1) es))) passes
        ∙ kept b f es same
        ∙ ap (λ (c : Bool). cond b (map {A = ℕ × ℤ} {B = ℕ} (λ x. x.0) (cond c (f ∷ filter (λ x. int_eq x.1 way) es) (filter (λ x. int_eq x.1 way) es))) []) (sym g)
      where
        kept : (b : Bool) (f : ℕ × ℤ) (es : List (ℕ × ℤ)) → exits_onto test es ≡ cond b (exits_onto (λ u. int_eq u way) es) []
            → map {A = ℕ × ℤ} {B = ℕ} (λ x. x.0) (cond b (f ∷ filter (λ x. test x.1) es) (filter (λ x. test x.1) es)) ≡ cond b (f.0 ∷ exits_onto (λ u. int_eq u way) es) []
        kept true f es same = ap (λ (l : List ℕ). f.0 ∷ l) same
        kept false f es same = same
    one-by test way only b e f es false g same =
        let fails : test f.1 ≡ false = only f.1 (flipped (int_eq way f.1) refl) in
        ap (λ (c : Bool). map {A = ℕ × ℤ} {B = ℕ} (λ x. x.0) (cond c (f ∷ filter (λ x. test x.1) es) (filter (λ x. test x.1) es))) fails
        ∙ same
        ∙ ap (λ (c : Bool). cond b (map {A = ℕ × ℤ} {B = ℕ} (λ x. x.0) (cond c (f ∷ filter (λ x. int_eq x.1 way) es) (filter (λ x. int_eq x.1 way) es))) []) (sym g)
      where
        flipped : (c : Bool) → int_eq way f.1 ≡ c → int_eq way f.1 ≡ false
        flipped true h = absurd (clash (sym ((Decides-int_eq f.1 way).1 (sym ((Decides-int_eq way f.1).0 h))) ∙ g))
          where
            clash : true ≡ false → ⊥
            clash e = cc
        flipped false h = h

-- where all ways are
pub exits_onto-none : (test : ℤ → Bool) → ((to : ℤ) → test to ≡ false) → (es : List (ℕ × ℤ)) → exits_onto test es ≡ []
exits_onto-none test none [] = refl
exits_onto-none test none (f ∷ es) =
    ap (λ (c : Bool). map {A = ℕ × ℤ} {B = ℕ} (λ x. x.0) (cond c (f ∷ filter (λ x. test x.1) es) (filter (λ x. test x.1) es))) (none f.1) ∙ exits_onto-none test none es

-- where a rule stands, the vertices from number v on are still to be added
abbrev pub HasExits : List Vertex → List Rule → RunMap → ℕ → Type 0
HasExits vs rules runs v = (node : ℤ) → has_via rules node ≡ true → leaving_at runs node ++ map {A = ℕ × Vertex} {B = ℕ × ℤ} (λ e. (e.0, e.1.way)) (leavers vs node v) ≡ map {A = ℕ × Vertex} {B = ℕ × ℤ} (λ e. (e.0, e.1.way)) (leavers vs node 0)

module _ (vs : List Vertex) (rules : List Rule) (v : ℕ) (x : Vertex) (at : slice_get vs v ≡ Some x) where
  skip-at : (runs : RunMap) (node : ℤ) → has_via rules node ≡ true → (x.permitted && int_eq x.tail node) ≡ false → HasExits vs rules runs v
      → leaving_at runs node ++ map {A = ℕ × Vertex} {B = ℕ × ℤ} (λ e. (e.0, e.1.way)) (leavers vs node (v + 1)) ≡ map {A = ℕ × Vertex} {B = ℕ × ℤ} (λ e. (e.0, e.1.way)) (leavers vs node 0)
  skip-at runs node ruled off h =
      ap (λ (es : List (ℕ × Vertex)). leaving_at runs node ++ map {A = ℕ × Vertex} {B = ℕ × ℤ} (λ e. (e.0, e.1.way)) es) (sym (leavers-skip vs v x at node off))
      ∙ h node ruled

  -- v may not be used
  pub exits-closed : (runs : RunMap) → x.permitted ≡ false → HasExits vs rules runs v → HasExits vs rules runs (v + 1)
  exits-closed runs closed h node ruled = skip-at runs node ruled (ap (λ (b : Bool). b && int_eq x.tail node) closed) h

  -- no rule stands where v leaves
  pub exits-unruled : (runs : RunMap) → has_via rules x.tail ≡ false → HasExits vs rules runs v → HasExits vs rules runs (v + 1)
  exits-unruled runs unruled h node ruled = skip-at runs node ruled (apart (int_eq x.tail node) refl) h
    where
      apart : (b : Bool) → int_eq x.tail node ≡ b → (x.permitted && int_eq x.tail node) ≡ false
      apart true e =
          let off : has_via rules node ≡ false = ap (has_via rules) (sym ((Decides-int_eq x.tail node).0 e)) ∙ unruled in
          let clash : true ≡ false = sym ruled ∙ off in
          cc
      apart false e = ap (λ (b : Bool). x.permitted && b) e ∙ and-false x.permitted
        where
          and-false : (b : Bool) → (b && false) ≡ false
          and-false true = refl
          and-false false = refl

  -- v is added
  pub exits-added : (runs runs' : RunMap) → x.permitted ≡ true → ((n : ℤ) → leaving_at runs' n ≡ cond (int_eq x.tail n) (leaving_at runs n ++ (v, x.way) ∷ []) (leaving_at runs n))
      → HasExits vs rules runs v → HasExits vs rules runs' (v + 1)
  exits-added runs runs' opened more h node ruled = by (int_eq x.tail node) refl
    where
      by : (b : Bool) → int_eq x.tail node ≡ b
          → leaving_at runs' node ++ map {A = ℕ × Vertex} {B = ℕ × ℤ} (λ e. (e.0, e.1.way)) (leavers vs node (v + 1)) ≡ map {A = ℕ × Vertex} {B = ℕ × ℤ} (λ e. (e.0, e.1.way)) (leavers vs node 0)
      by true e =
          let rest : List (ℕ × ℤ) = map {A = ℕ × Vertex} {B = ℕ × ℤ} (λ e. (e.0, e.1.way)) (leavers vs node (v + 1)) in
          ap (λ (l : List (ℕ × ℤ)). l ++ rest) (more node ∙ ap (λ (b : Bool). cond b (leaving_at runs node ++ (v, x.way) ∷ []) (leaving_at runs node)) e)
          ∙ append_assoc (leaving_at runs node) ((v, x.way) ∷ []) rest
          ∙ ap (λ (es : List (ℕ × Vertex)). leaving_at runs node ++ map {A = ℕ × Vertex} {B = ℕ × ℤ} (λ e. (e.0, e.1.way)) es)
          (sym (leavers-add vs v x at node (ap (λ (b : Bool). b && int_eq x.tail node) opened ∙ e)))
          ∙ h node ruled
      by false e =
          ap (λ (l : List (ℕ × ℤ)). l ++ map {A = ℕ × Vertex} {B = ℕ × ℤ} (λ e. (e.0, e.1.way)) (leavers vs node (v + 1))) (more node ∙ ap (λ (b : Bool). cond b (leaving_at runs node ++ (v, x.way) ∷ []) (leaving_at runs node)) e)
          ∙ skip-at runs node ruled (ap (λ (b : Bool). b && int_eq x.tail node) opened ∙ e) h

-- all are added
pub exits-all : (vs : List Vertex) (rules : List Rule) (runs : RunMap) (v : ℕ) → v ≡ length vs → HasExits vs rules runs v
    → (node : ℤ) → has_via rules node ≡ true → leaving_at runs node ≡ map {A = ℕ × Vertex} {B = ℕ × ℤ} (λ e. (e.0, e.1.way)) (leavers vs node 0)
exits-all vs rules runs v all h node ruled =
    sym (append-nil (leaving_at runs node))
    ∙ ap (λ (es : List (ℕ × Vertex)). leaving_at runs node ++ map {A = ℕ × Vertex} {B = ℕ × ℤ} (λ e. (e.0, e.1.way)) es) (sym (leavers-end vs v node all))
    ∙ h node ruled
