-- The members of a restriction, as loops come by them.
use Rattle.std.proofs.Common.{◌≡◌, ℕ, zero, suc, ◌<◌, ℤ, Bool, true, false, cond, List, [], ◌∷◌, length, map, get_or, Option, Some, None, arith, if◌then◌else◌}
use Rattle.std.proofs.Math.Bool.{and-false, and-true}
use Rattle.std.proofs.lemmas.List.{length-map}
use Rattle.std.specs.List.{list_all, filter}
use Rattle.road_base.specs.declared.osm_objects.Kind.{Kind}
use Rattle.road_base.specs.declared.osm_objects.Kind.TheVariants as kinds
use Rattle.road_base.specs.declared.osm_objects.Member.{Member}
use Rattle.turn_rules.specs.Rules.{is_kind, is_number, one_in, ways_in}

-- the id of the one object of a kind, where one was found already and these members follow
abbrev pub one_with : Kind → Option ℤ → List Member → Option ℤ
one_with kind None members = one_in kind members
one_with kind (Some id) [] = Some id
one_with kind (Some id) (m ∷ members) = None

-- an element that is kept and fails the test
pub list_all-filter-at : {X : Type 0} (test kept : X → Bool) (xs : List X) (i : ℕ) (x : X) → i < length xs → x ≡ get_or xs i x → kept x ≡ true → test x ≡ false → list_all test (filter kept xs) ≡ false
list_all-filter-at test kept [] i x h is keeps fails = absurd (omega arith)
list_all-filter-at test kept (y ∷ ys) zero x h is keeps fails =
    let keeps_y : kept y ≡ true = rw (← is) keeps in
    let fails_y : test y ≡ false = rw (← is) fails in
    rw (keeps_y, fails_y)
list_all-filter-at test kept (y ∷ ys) (suc i) x h is keeps fails =
    let later : list_all test (filter kept ys) ≡ false = list_all-filter-at test kept ys i x (omega arith) is keeps fails in
    elim (kept y) as (λ b. list_all test (cond b (y ∷ filter kept ys) (filter kept ys)) ≡ false) [ true ↦ rw (later, and-false) | false ↦ later ]

-- members of which one is no way
pub ways_in-other : (several : Bool) (members : List Member) → list_all (λ m. is_kind kinds.Way m.kind) members ≡ false → ways_in several members ≡ None
ways_in-other several members other = rw (other, and-false)

-- members that are all ways
pub ways_in-ways : (several : Bool) (members : List Member) (ids : List ℤ) → ids ≡ map (λ m. m.id) members → list_all (λ m. is_kind kinds.Way m.kind) members ≡ true → ways_in several members ≡ (if is_number several (length ids) then Some ids else None)
ways_in-ways several members ids are all = rw (all, and-true, are, length-map)
