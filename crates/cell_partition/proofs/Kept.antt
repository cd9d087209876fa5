-- What the levels of a partition keep.
use Rattle.std.proofs.Common.{◌≡◌, ℕ, ℤ, ◌+◌, ◌-◌, ◌<◌, ◌≤◌, Bool, true, false, ◌||◌, cond, eqb, List, [], ◌∷◌, ◌++◌, length, drop, map, get_or, All, refl, sym, ap, ◌∙◌, subst, arith, zero, suc, add-one, zero-add, ⊎_elim}
use Rattle.std.specs.List.Sorted.{IsPermutation, IsStrictlyIncreasing}
use Rattle.std.proofs.lemmas.Bool.{cases_lt}
use Rattle.std.proofs.lemmas.Bool.Decides.{nat_tests}
use Rattle.std.proofs.lemmas.List.{append-nil, map-append, length-map, get_or-map, drop_more}
use Rattle.std.proofs.lemmas.List.Elements.{All-tail, All-cons, All-nil}
use Rattle.std.proofs.lemmas.List.Folds.{list_any-append}
use Rattle.std.proofs.lemmas.List.Sums.{sum_by-cons}
use Rattle.std.proofs.lemmas.List.Sorted.{IsPermutation-map, list_any-IsPermutation, sum_by-IsPermutation, length_permutation}
use Rattle.cell_partition.specs.declared.spot.Spot.{Spot}
use Rattle.cell_partition.specs.declared.level.Level.{Level}
use Rattle.cell_partition.specs.Spots.{spots_from, spots_of}
use Rattle.cell_partition.specs.Bounds.{joined, ends, bounds_of, parts_at}
use Rattle.cell_partition.specs.Partition.{Partition, number_of, numbers_from, level_at, IsPartition, IsKept}
use Rattle.cell_partition.specs.Halving.{IsHalved, AreHalved, AreLevels, parts_above, vertices_of, IsHalvedBy}
use Rattle.cell_partition.specs.Levels.{cells_of, IsLevel, partition_of}
use Rattle.cell_partition.proofs.Bounds.{joined-append, joined-map, parts_at-bounds_of}
use Rattle.cell_partition.proofs.Numbers.{has, times, number_inside, number_member, number_only, number_here, number_later, number-append_inside, number-append_outside, has_joined_at, cases, or_rest}
use Rattle.cell_partition.specs.Orders.{AreApart}
use Rattle.cell_partition.proofs.Orders.{apart_permutation}
use Rattle.cell_partition.proofs.Halves.{halved_same, AreSpread, spread_above, spread_few}

-- the spots have the vertices in order
vertices-spots : (first : ℕ) (midpoints : List (ℤ × ℤ)) → map (λ (spot : Spot). spot.vertex) (spots_from first midpoints) ≡ numbers_from first (length midpoints)
vertices-spots first [] = refl
vertices-spots first (midpoint ∷ midpoints) = ap (λ rest. first ∷ rest) (vertices-spots (first + 1) midpoints)

pub length-spots : (first : ℕ) (midpoints : List (ℤ × ℤ)) → length (spots_from first midpoints) ≡ length midpoints
length-spots first [] = refl
length-spots first (midpoint ∷ midpoints) = ap suc (length-spots (first + 1) midpoints)

tested : (b r : Bool) (P : Type 0) → (b ≡ true → P) → (r ≡ true → P) → (b || r) ≡ true → P
tested true r P first second h = first refl
tested false r P first second h = second h

same_number : (x y : ℕ) → eqb x y ≡ true → x ≡ y
same_number x y h = grind (arith, nat_tests)

-- which numbers are in a range
pub within_from : (vertex first n : ℕ) → has vertex (numbers_from first n) ≡ true → (first ≤ vertex) × (vertex < first + n)
within_from vertex first zero h = absurd (cc h)
within_from vertex first (suc n) h =
    tested (eqb vertex first) (has vertex (numbers_from (first + 1) n)) ((first ≤ vertex) × (vertex < first + suc n))
    (λ e. let is : vertex ≡ first = same_number vertex first e in (omega arith, omega arith))
    (λ r. let rest = within_from vertex (first + 1) n r in (omega (arith, rest.0), omega (arith, rest.1)))
    h

test_same : (x : ℕ) → eqb x x ≡ true
test_same x = grind (arith, nat_tests)

or_right : (b r : Bool) → r ≡ true → (b || r) ≡ true
or_right true r h = refl
or_right false r h = h

or_left : (b r : Bool) → b ≡ true → (b || r) ≡ true
or_left true r h = refl
or_left false r h = absurd (cc h)

pub has_from : (vertex first n : ℕ) → first ≤ vertex → vertex < first + n → has vertex (numbers_from first n) ≡ true
has_from vertex first zero low high = absurd (omega arith)
has_from vertex first (suc n) low high =
    ⊎_elim
    (λ (here : first < vertex). or_right (eqb vertex first) (has vertex (numbers_from (first + 1) n)) (has_from vertex (first + 1) n (omega arith) (omega arith)))
    (λ (here : vertex ≤ first).
    let is : vertex ≡ first = omega arith in
    or_left (eqb vertex first) (has vertex (numbers_from (first + 1) n)) (ap (λ f. eqb vertex f) (sym is) ∙ test_same vertex))
    (cases_lt first vertex)

none_from : (vertex first n : ℕ) → vertex < first → times vertex (numbers_from first n) ≡ 0
none_from vertex first zero h = refl
none_from vertex first (suc n) h =
    let other : eqb vertex first ≡ false = grind (arith, nat_tests) in
    let rest : times vertex (numbers_from (first + 1) n) ≡ 0 = none_from vertex (first + 1) n (omega arith) in
    sum_by-cons (λ x. cond (eqb vertex x) 1 0) first (numbers_from (first + 1) n) ∙ rw other (zero-add (times vertex (numbers_from (first + 1) n)) ∙ rest)

once_more : (b : Bool) (n m : ℕ) → m ≡ cond b 1 0 + n → (b ≡ true → n ≡ 0) → n ≤ 1 → m ≤ 1
once_more true n m e none h = omega (arith, e, none refl)
once_more false n m e none h = omega (arith, e)

once_from : (vertex first n : ℕ) → times vertex (numbers_from first n) ≤ 1
once_from vertex first zero = omega arith
once_from vertex first (suc n) =
    once_more (eqb vertex first) (times vertex (numbers_from (first + 1) n)) (times vertex (numbers_from first (suc n)))
    (sum_by-cons (λ x. cond (eqb vertex x) 1 0) first (numbers_from (first + 1) n))
    (λ e. let is : vertex ≡ first = same_number vertex first e in none_from vertex (first + 1) n (omega arith))
    (once_from vertex (first + 1) n)

joined-vertices : (parts : List (List Spot)) → joined (vertices_of parts) ≡ map (λ (spot : Spot). spot.vertex) (joined parts)
joined-vertices parts = joined-map (λ (spot : Spot). spot.vertex) parts

-- the parts of the spots hold each vertex once
whole_vertices : (midpoints : List (ℤ × ℤ)) (parts : List (List Spot)) → AreSpread (spots_of midpoints) parts → IsPermutation (numbers_from 0 (length midpoints)) (joined (vertices_of parts))
whole_vertices midpoints parts s =
    subst (λ (xs : List ℕ). IsPermutation xs (joined (vertices_of parts))) (vertices-spots 0 midpoints)
    (subst (λ (ys : List ℕ). IsPermutation (map (λ (spot : Spot). spot.vertex) (spots_of midpoints)) ys) (sym (joined-vertices parts))
    (IsPermutation-map (λ (spot : Spot). spot.vertex) (spots_of midpoints) (joined parts) s.same))

pub placed_vertices : (midpoints : List (ℤ × ℤ)) (parts : List (List Spot)) → AreSpread (spots_of midpoints) parts → (vertex : ℕ) → vertex < length midpoints → has vertex (joined (vertices_of parts)) ≡ true
placed_vertices midpoints parts s vertex h =
    sym (list_any-IsPermutation (eqb vertex) (numbers_from 0 (length midpoints)) (joined (vertices_of parts)) (whole_vertices midpoints parts s)) ∙ has_from vertex 0 (length midpoints) (omega arith) (omega arith)

inside_vertices : (midpoints : List (ℤ × ℤ)) (parts : List (List Spot)) → AreSpread (spots_of midpoints) parts → (vertex : ℕ) → has vertex (joined (vertices_of parts)) ≡ true → vertex < length midpoints
inside_vertices midpoints parts s vertex h =
    let r = within_from vertex 0 (length midpoints) (list_any-IsPermutation (eqb vertex) (numbers_from 0 (length midpoints)) (joined (vertices_of parts)) (whole_vertices midpoints parts s) ∙ h) in
    omega (arith, r.1)

pub is_partition : (midpoints : List (ℤ × ℤ)) (parts : List (List Spot)) → AreSpread (spots_of midpoints) parts → IsPartition (length midpoints) (vertices_of parts)
is_partition midpoints parts s =
    let whole = whole_vertices midpoints parts s in record {
      whole = whole;
      placed = λ vertex h. number_inside vertex (vertices_of parts) (placed_vertices midpoints parts s vertex h);
      member = λ vertex h. number_member vertex (vertices_of parts) (placed_vertices midpoints parts s vertex h);
      only = λ vertex cell h.
          let inside : has vertex (joined (vertices_of parts)) ≡ true = has_joined_at vertex (vertices_of parts) cell h in
          let once : times vertex (joined (vertices_of parts)) ≤ 1 =
          omega (arith, once_from vertex 0 (length midpoints), sum_by-IsPermutation (λ x. cond (eqb vertex x) 1 0) (numbers_from 0 (length midpoints)) (joined (vertices_of parts)) whole) in
          (inside_vertices midpoints parts s vertex inside, number_only vertex (vertices_of parts) cell once h);
    }

has_part : (limit : ℕ) (part : List Spot) (first : List (List Spot)) (vertex : ℕ) → IsHalved limit part first → has vertex (map (λ (spot : Spot). spot.vertex) part) ≡ has vertex (joined (vertices_of first))
has_part limit part first vertex h =
    list_any-IsPermutation (eqb vertex) _ _ (IsPermutation-map (λ (spot : Spot). spot.vertex) part (joined first) (halved_same limit part first h)) ∙ ap (has vertex) (sym (joined-vertices first))

-- two vertices of one new part come from one part
nested_numbers : (limit : ℕ) (parts next : List (List Spot)) (one other : ℕ) → AreHalved limit parts next
    → has one (joined (vertices_of next)) ≡ true → has other (joined (vertices_of next)) ≡ true
    → number_of (vertices_of next) one ≡ number_of (vertices_of next) other → number_of (vertices_of parts) one ≡ number_of (vertices_of parts) other
nested_numbers limit [] next one other h in_one in_other same = refl
nested_numbers limit (part ∷ parts) next one other (first, rest, is, this, others) in_one in_other same =
    let fronts : List (List ℕ) = vertices_of first in
    let backs : List (List ℕ) = vertices_of rest in
    let here : List ℕ = map (λ (spot : Spot). spot.vertex) part in
    let split : vertices_of next ≡ fronts ++ backs = ap vertices_of is ∙ map-append (λ p. map (λ (spot : Spot). spot.vertex) p) first rest in
    let same' : number_of (fronts ++ backs) one ≡ number_of (fronts ++ backs) other = ap (λ (cs : List (List ℕ)). number_of cs one) (sym split) ∙ same ∙ ap (λ (cs : List (List ℕ)). number_of cs other) split in
    let later_one : has one (joined fronts) ≡ false → has one (joined backs) ≡ true =
    λ no. or_rest (has one (joined fronts)) (has one (joined backs)) no (sym (list_any-append (eqb one) (joined fronts) (joined backs)) ∙ ap (has one) (sym (joined-append fronts backs)) ∙ ap (λ (cs : List (List ℕ)). has one (joined cs)) (sym split) ∙ in_one) in
    let later_other : has other (joined fronts) ≡ false → has other (joined backs) ≡ true =
    λ no. or_rest (has other (joined fronts)) (has other (joined backs)) no (sym (list_any-append (eqb other) (joined fronts) (joined backs)) ∙ ap (has other) (sym (joined-append fronts backs)) ∙ ap (λ (cs : List (List ℕ)). has other (joined cs)) (sym split) ∙ in_other) in
    ⊎_elim
    (λ (yes : has one (joined fronts) ≡ true).
    ⊎_elim
    (λ (too : has other (joined fronts) ≡ true).
    number_here one here (vertices_of parts) (has_part limit part first one this ∙ yes)
    ∙ sym (number_here other here (vertices_of parts) (has_part limit part first other this ∙ too)))
    (λ (never : has other (joined fronts) ≡ false).
    absurd (omega (arith, same', number-append_inside one fronts backs yes, number_inside one fronts yes, number-append_outside other fronts backs never)))
    (cases (has other (joined fronts))))
    (λ (no : has one (joined fronts) ≡ false).
    ⊎_elim
    (λ (yes : has other (joined fronts) ≡ true).
    absurd (omega (arith, same', number-append_inside other fronts backs yes, number_inside other fronts yes, number-append_outside one fronts backs no)))
    (λ (never : has other (joined fronts) ≡ false).
    let rest_same : number_of backs one ≡ number_of backs other = omega (arith, same', number-append_outside one fronts backs no, number-append_outside other fronts backs never) in
    number_later one here (vertices_of parts) (has_part limit part first one this ∙ no)
    ∙ ap (λ n. n + 1) (nested_numbers limit parts rest one other others (later_one no) (later_other never) rest_same)
    ∙ sym (number_later other here (vertices_of parts) (has_part limit part first other this ∙ never)))
    (cases (has other (joined fronts))))
    (cases (has one (joined fronts)))

pub length-levels : (whole : List Spot) (limits : List ℕ) (levels : List (List (List Spot))) → AreLevels whole limits levels → length levels ≡ length limits
length-levels whole [] [] h = refl
length-levels whole [] (parts ∷ above) h = absurd h
length-levels whole (limit ∷ limits) [] h = absurd h
length-levels whole (limit ∷ limits) (parts ∷ above) h = ap suc (length-levels whole limits above h.1)

spread_at : (whole : List Spot) (limits : List ℕ) (levels : List (List (List Spot))) → All (λ limit. 1 ≤ limit) limits → AreLevels whole limits levels → (k : ℕ) → k < length levels → AreSpread whole (get_or levels k [])
spread_at whole limits [] some h k inside = absurd (omega arith)
spread_at whole [] (parts ∷ above) some h k inside = absurd h
spread_at whole (limit ∷ limits) (parts ∷ above) some h zero inside = spread_above whole (limit ∷ limits) (parts ∷ above) some h
spread_at whole (limit ∷ limits) (parts ∷ above) some h (suc k) inside = spread_at whole limits above (All-tail (λ limit. 1 ≤ limit) limit limits some) h.1 k (omega arith)

halved_at : (whole : List Spot) (limits : List ℕ) (levels : List (List (List Spot))) → AreLevels whole limits levels → (k : ℕ) → k + 1 < length levels → (limit : ℕ) × AreHalved limit (get_or levels (suc k) []) (get_or levels k [])
halved_at whole limits [] h k inside = absurd (omega arith)
halved_at whole [] (parts ∷ above) h k inside = absurd h
halved_at whole (limit ∷ limits) (parts ∷ []) h k inside = absurd (omega arith)
halved_at whole (limit ∷ limits) (parts ∷ (upper ∷ above)) h zero inside = (limit, h.0)
halved_at whole (limit ∷ limits) (parts ∷ (upper ∷ above)) h (suc k) inside = halved_at whole limits (upper ∷ above) h.1 k (omega arith)

-- the partition that the parts of all levels are
abbrev pub partition_at : List (ℤ × ℤ) → List (List (List Spot)) → Partition
partition_at midpoints levels = record { vertices = length midpoints; levels = map vertices_of levels }

level_is : (midpoints : List (ℤ × ℤ)) (levels : List (List (List Spot))) (level : ℕ) → 1 ≤ level → level ≤ length levels → level_at (partition_at midpoints levels) level ≡ vertices_of (get_or levels (level - 1) [])
level_is midpoints levels level low high = get_or-map vertices_of levels (level - 1) [] [] (omega arith)

-- a partition by the halving rule is one, and nested
pub kept_levels : (midpoints : List (ℤ × ℤ)) (limits : List ℕ) (levels : List (List (List Spot))) → All (λ limit. 1 ≤ limit) limits → AreLevels (spots_of midpoints) limits levels → IsKept (partition_at midpoints levels)
kept_levels midpoints limits levels some h = record {
  level = λ level low high.
      let high' : level ≤ length levels = omega (arith, length-map levels vertices_of) in
      subst (IsPartition (length midpoints)) (sym (level_is midpoints levels level low high')) (is_partition midpoints (get_or levels (level - 1) []) (spread_at (spots_of midpoints) limits levels some h (level - 1) (omega arith)));
  nested = λ level low high one other in_one in_other.
      let high' : level < length levels = omega (arith, length-map levels vertices_of) in
      let up : level + 1 - 1 ≡ suc (level - 1) = omega (arith, add-one (level - 1)) in
      let halved = halved_at (spots_of midpoints) limits levels h (level - 1) (omega arith) in
      let lower : level_at (partition_at midpoints levels) level ≡ vertices_of (get_or levels (level - 1) []) = level_is midpoints levels level low (omega arith) in
      let upper : level_at (partition_at midpoints levels) (level + 1) ≡ vertices_of (get_or levels (suc (level - 1)) []) =
      level_is midpoints levels (level + 1) (omega arith) (omega arith) ∙ ap (λ k. vertices_of (get_or levels k [])) up in
      let s = spread_at (spots_of midpoints) limits levels some h (level - 1) (omega arith) in
      λ same.
      let same' : number_of (vertices_of (get_or levels (level - 1) [])) one ≡ number_of (vertices_of (get_or levels (level - 1) [])) other =
      ap (λ (cs : List (List ℕ)). number_of cs one) (sym lower) ∙ same ∙ ap (λ (cs : List (List ℕ)). number_of cs other) lower in
      ap (λ (cs : List (List ℕ)). number_of cs one) upper
      ∙ nested_numbers halved.0 (get_or levels (suc (level - 1)) []) (get_or levels (level - 1) []) one other halved.1 (placed_vertices midpoints (get_or levels (level - 1) []) s one in_one) (placed_vertices midpoints (get_or levels (level - 1) []) s other in_other) same'
      ∙ ap (λ (cs : List (List ℕ)). number_of cs other) (sym upper);
}

-- a level from its parts
pub made_level : (level : Level) (cells : List (List ℕ)) → level.order.items ≡ joined cells → level.bounds.items ≡ bounds_of cells → length cells < 4294967296 → IsLevel level × (cells_of level ≡ cells)
made_level level cells order bounds few =
    let is : cells_of level ≡ cells = ap (λ (bs : List ℕ). parts_at bs level.order.items) bounds ∙ ap (λ (xs : List ℕ). parts_at (bounds_of cells) xs) order ∙ parts_at-bounds_of cells in (
      record {
        order = order ∙ ap joined (sym is);
        bounds = bounds ∙ ap bounds_of (sym is);
        few = subst (λ (cs : List (List ℕ)). length cs < 4294967296) (sym is) few;
      },
      is,
    )

-- how far the cutting has come, down from the highest limit
pub record IsCut (midpoints : List (ℤ × ℤ)) (limits : List ℕ) (spots : List Spot) (bounds : List ℕ) (kept : List Level) : Type 0 where
  pub parts : List (List (List Spot))
  pub levels : AreLevels (spots_of midpoints) limits parts
  pub spots_are : spots ≡ joined (parts_above (spots_of midpoints) parts)
  pub bounds_are : bounds ≡ bounds_of (parts_above (spots_of midpoints) parts)
  pub cells_are : map cells_of kept ≡ map vertices_of parts
  pub are_kept : All IsLevel kept

found : {X : Type 0} (parts : List (List X)) (bounds : List ℕ) (xs : List X) → bounds ≡ bounds_of parts → xs ≡ joined parts → parts_at bounds xs ≡ parts
found parts bounds xs b x = ap (λ (bs : List ℕ). parts_at bs xs) b ∙ ap (parts_at (bounds_of parts)) x ∙ parts_at-bounds_of parts

cut_none : (midpoints : List (ℤ × ℤ)) → IsCut midpoints [] (spots_of midpoints) (0 ∷ length midpoints ∷ []) []
cut_none midpoints = record {
  parts = [];
  levels = tt;
  spots_are = sym (append-nil (spots_of midpoints));
  bounds_are = ap (λ n. 0 ∷ n ∷ []) (sym (zero-add (length (spots_of midpoints)) ∙ length-spots 0 midpoints));
  cells_are = refl;
  are_kept = All-nil IsLevel;
}

pub cut_start : (midpoints : List (ℤ × ℤ)) (limits : List ℕ) (spots : List Spot) (bounds : List ℕ) (kept : List Level) → limits ≡ [] → spots ≡ spots_of midpoints → bounds ≡ 0 ∷ length midpoints ∷ [] → kept ≡ [] → IsCut midpoints limits spots bounds kept
cut_start midpoints limits spots bounds kept l s b k = rw (l, s, b, k) (cut_none midpoints)

pub cut_length : (midpoints : List (ℤ × ℤ)) (limits : List ℕ) (spots : List Spot) (bounds : List ℕ) (kept : List Level) → All (λ limit. 1 ≤ limit) limits → IsCut midpoints limits spots bounds kept → length spots ≡ length midpoints
cut_length midpoints limits spots bounds kept some cut =
    ap length cut.spots_are
    ∙ length_permutation (spots_of midpoints) (joined (parts_above (spots_of midpoints) cut.parts)) (spread_above (spots_of midpoints) limits cut.parts some cut.levels).same
    ∙ length-spots 0 midpoints

pub cut_apart : (midpoints : List (ℤ × ℤ)) (limits : List ℕ) (spots : List Spot) (bounds : List ℕ) (kept : List Level) → All (λ limit. 1 ≤ limit) limits → IsCut midpoints limits spots bounds kept → AreApart spots
cut_apart midpoints limits spots bounds kept some cut =
    let whole : AreApart (spots_of midpoints) = λ vertex. subst (λ (xs : List ℕ). times vertex xs ≤ 1) (sym (vertices-spots 0 midpoints)) (once_from vertex 0 (length midpoints)) in
    subst AreApart (sym cut.spots_are)
    (apart_permutation (spots_of midpoints) (joined (parts_above (spots_of midpoints) cut.parts)) (spread_above (spots_of midpoints) limits cut.parts some cut.levels).same whole)

ends-vertices : (start : ℕ) (parts : List (List Spot)) → ends start (vertices_of parts) ≡ ends start parts
ends-vertices start [] = refl
ends-vertices start (part ∷ parts) =
    let size : length (map (λ (spot : Spot). spot.vertex) part) ≡ length part = length-map part (λ (spot : Spot). spot.vertex) in
    ap (λ n. (start + n) ∷ ends (start + n) (vertices_of parts)) size ∙ ap (λ rest. (start + length part) ∷ rest) (ends-vertices (start + length part) parts)

-- the parts after one more halving
abbrev pub Halves : ℕ → List (List Spot) → List Spot → List ℕ → Type 0
Halves limit parts spots bounds = (next : List (List Spot)) × AreHalved limit parts next × (spots ≡ joined next) × (bounds ≡ bounds_of next)

next_levels : (midpoints : List (ℤ × ℤ)) (limits : List ℕ) (r old : ℕ) (spots : List Spot) (bounds : List ℕ) (kept : List Level) → old ≡ r + 1 → old ≤ length limits
    → (cut : IsCut midpoints (drop old limits) spots bounds kept) (next : List (List Spot)) → AreHalved (get_or limits r 0) (parts_at bounds spots) next → AreLevels (spots_of midpoints) (drop r limits) (next ∷ cut.parts)
next_levels midpoints limits r old spots bounds kept at within cut next h =
    let is = found (parts_above (spots_of midpoints) cut.parts) bounds spots cut.bounds_are cut.spots_are in
    let h' : AreHalved (get_or limits r 0) (parts_above (spots_of midpoints) cut.parts) next = subst (λ (ps : List (List Spot)). AreHalved (get_or limits r 0) ps next) is h in
    let split : drop r limits ≡ get_or limits r 0 ∷ drop old limits = drop_more limits r 0 (omega arith) ∙ ap (λ n. get_or limits r 0 ∷ drop n limits) (sym at) in
    subst (λ (ls : List ℕ). AreLevels (spots_of midpoints) ls (next ∷ cut.parts)) (sym split) (h', cut.levels)

pub all_drop : (limits : List ℕ) (n : ℕ) → All (λ limit. 1 ≤ limit) limits → All (λ limit. 1 ≤ limit) (drop n limits)
all_drop limits zero some = some
all_drop [] (suc n) some = some
all_drop (limit ∷ limits) (suc n) some = all_drop limits n (All-tail (λ limit. 1 ≤ limit) limit limits some)

-- what a level asks for
pub level_ready : (midpoints : List (ℤ × ℤ)) (limits : List ℕ) (r old : ℕ) (spots new : List Spot) (bounds ended copy : List ℕ) (kept : List Level) → old ≡ r + 1 → old ≤ length limits → All (λ limit. 1 ≤ limit) limits → length midpoints < 4294967296
    → IsCut midpoints (drop old limits) spots bounds kept → Halves (get_or limits r 0) (parts_at bounds spots) new ended → copy ≡ ended
    → let cells = parts_at copy (map (λ (spot : Spot). spot.vertex) new) in
    (map (λ (spot : Spot). spot.vertex) new ≡ joined cells) × ((copy ≡ bounds_of cells) × (length cells < 4294967296))
level_ready midpoints limits r old spots new bounds ended copy kept at within some small cut (next, halved, new_is, ended_is) copied =
    let levels = next_levels midpoints limits r old spots bounds kept at within cut next halved in
    let spread : AreSpread (spots_of midpoints) next = spread_above (spots_of midpoints) (drop r limits) (next ∷ cut.parts) (all_drop limits r some) levels in
    let order : map (λ (spot : Spot). spot.vertex) new ≡ joined (vertices_of next) = ap (map (λ (spot : Spot). spot.vertex)) new_is ∙ sym (joined-vertices next) in
    let bound : copy ≡ bounds_of (vertices_of next) = copied ∙ ended_is ∙ ap (λ xs. 0 ∷ xs) (sym (ends-vertices 0 next)) in
    let is : parts_at copy (map (λ (spot : Spot). spot.vertex) new) ≡ vertices_of next = found (vertices_of next) copy (map (λ (spot : Spot). spot.vertex) new) bound order in
    let few : length (vertices_of next) < 4294967296 =
    omega (arith, length-map next (λ part. map (λ (spot : Spot). spot.vertex) part), spread_few (spots_of midpoints) next spread (omega (arith, length-spots 0 midpoints))) in
    let Ready : List (List ℕ) → Type 0 = λ (cells : List (List ℕ)). (map (λ (spot : Spot). spot.vertex) new ≡ joined cells) × ((copy ≡ bounds_of cells) × (length cells < 4294967296)) in
    subst Ready (sym is) (order, (bound, few))

-- one more level
pub cut_more : (midpoints : List (ℤ × ℤ)) (limits : List ℕ) (r old : ℕ) (spots new : List Spot) (bounds ended copy : List ℕ) (level : Level) (kept : List Level) → old ≡ r + 1 → old ≤ length limits → All (λ limit. 1 ≤ limit) limits
    → IsCut midpoints (drop old limits) spots bounds kept → Halves (get_or limits r 0) (parts_at bounds spots) new ended → copy ≡ ended
    → IsLevel level → cells_of level ≡ parts_at copy (map (λ (spot : Spot). spot.vertex) new) → IsCut midpoints (drop r limits) new ended (level ∷ kept)
cut_more midpoints limits r old spots new bounds ended copy level kept at within some cut (next, halved, new_is, ended_is) copied is_level cells =
    let levels = next_levels midpoints limits r old spots bounds kept at within cut next halved in
    let spread : AreSpread (spots_of midpoints) next = spread_above (spots_of midpoints) (drop r limits) (next ∷ cut.parts) (all_drop limits r some) levels in
    let order : map (λ (spot : Spot). spot.vertex) new ≡ joined (vertices_of next) = ap (map (λ (spot : Spot). spot.vertex)) new_is ∙ sym (joined-vertices next) in
    let bound : copy ≡ bounds_of (vertices_of next) = copied ∙ ended_is ∙ ap (λ xs. 0 ∷ xs) (sym (ends-vertices 0 next)) in
    let is : parts_at copy (map (λ (spot : Spot). spot.vertex) new) ≡ vertices_of next = found (vertices_of next) copy (map (λ (spot : Spot). spot.vertex) new) bound order in record {
      parts = next ∷ cut.parts;
      levels = levels;
      spots_are = new_is;
      bounds_are = ended_is;
      cells_are = ap (λ (cs : List (List ℕ)). cs ∷ map cells_of kept) (cells ∙ is) ∙ ap (λ (ls : List (List (List ℕ))). vertices_of next ∷ ls) cut.cells_are;
      are_kept = All-cons IsLevel level kept is_level cut.are_kept;
    }

rises : (xs : List ℕ) → IsStrictlyIncreasing xs → 1 ≤ get_or xs 0 0 → (k : ℕ) → k < length xs → k + 1 ≤ get_or xs k 0
rises xs up some zero h = omega arith
rises xs up some (suc k) h =
    let low : k + 1 ≤ get_or xs k 0 = rises xs up some k (omega arith) in
    let more : get_or xs k 0 < get_or xs (k + 1) 0 = up k (omega arith) in
    let at : get_or xs (k + 1) 0 ≡ get_or xs (suc k) 0 = ap (λ n. get_or xs n 0) (add-one k) in
    omega arith

-- rising numbers of 32 bits from 1 on are fewer than 2^32
short : (xs : List ℕ) → IsStrictlyIncreasing xs → All (λ limit. 1 ≤ limit) xs → ((k : ℕ) → get_or xs k 0 < 4294967296) → length xs < 4294967296
short xs up some fits =
    ⊎_elim
    (λ (any : 0 < length xs).
    let last : length xs - 1 + 1 ≤ get_or xs (length xs - 1) 0 = rises xs up (some 0 0 any) (length xs - 1) (omega arith) in
    omega (arith, fits (length xs - 1)))
    (λ (none : length xs ≤ 0). omega arith)
    (cases_lt 0 (length xs))

-- all levels are cut
pub cut_all : (midpoints : List (ℤ × ℤ)) (limits : List ℕ) (spots : List Spot) (bounds : List ℕ) (kept : List Level) (rest : ℕ) → rest ≡ 0 → IsCut midpoints (drop rest limits) spots bounds kept → IsCut midpoints limits spots bounds kept
cut_all midpoints limits spots bounds kept rest none cut = subst (λ (n : ℕ). IsCut midpoints (drop n limits) spots bounds kept) none cut

-- no more levels than limits
pub cut_few : (midpoints : List (ℤ × ℤ)) (limits : List ℕ) (spots : List Spot) (bounds : List ℕ) (kept : List Level) → All (λ limit. 1 ≤ limit) limits → IsStrictlyIncreasing limits → ((k : ℕ) → get_or limits k 0 < 4294967296)
    → IsCut midpoints limits spots bounds kept → length kept < 4294967296
cut_few midpoints limits spots bounds kept some up fits cut =
    let same : length kept ≡ length limits =
    sym (length-map kept cells_of) ∙ ap length cut.cells_are ∙ length-map cut.parts vertices_of ∙ length-levels (spots_of midpoints) limits cut.parts cut.levels in
    omega (arith, short limits up some fits)

pub cut_kept : (midpoints : List (ℤ × ℤ)) (limits : List ℕ) (spots : List Spot) (bounds : List ℕ) (kept : List Level) → All (λ limit. 1 ≤ limit) limits → IsCut midpoints limits spots bounds kept → IsKept (partition_of (length midpoints) kept)
cut_kept midpoints limits spots bounds kept some cut =
    subst (λ (ls : List (List (List ℕ))). IsKept (record { vertices = length midpoints; levels = ls })) (sym cut.cells_are) (kept_levels midpoints limits cut.parts some cut.levels)

pub cut_halved : (midpoints : List (ℤ × ℤ)) (limits : List ℕ) (spots : List Spot) (bounds : List ℕ) (kept : List Level) → IsCut midpoints limits spots bounds kept → IsHalvedBy midpoints limits (partition_of (length midpoints) kept)
cut_halved midpoints limits spots bounds kept cut = record { vertices = refl; levels = (cut.parts, cut.levels, cut.cells_are) }
