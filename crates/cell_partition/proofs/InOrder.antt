-- Parts in order along both axes, one behind another.
use Rattle.std.proofs.Common.{◌≡◌, ℕ, ◌+◌, ◌-◌, ◌/◌, ◌<◌, ◌≤◌, List, [], ◌∷◌, ◌++◌, length, take, drop, get_or, refl, sym, ap, ◌∙◌, subst, arith, zero, suc, length-append, zero-add, ⊎_elim, inl, inr}
use Rattle.std.proofs.lemmas.List.{append-nil, append_assoc, take-append-drop, length-take-le, take_more, nil_from_length}
use Rattle.std.specs.List.Sorted.{IsPermutation, IsSortedBy}
use Rattle.std.proofs.lemmas.List.Sorted.{length_permutation}
use Rattle.cell_partition.specs.declared.spot.Spot.{Spot}
use Rattle.cell_partition.specs.declared.spot.Axis.{Axis}
use Rattle.cell_partition.specs.declared.parts.Parts.{Parts}
use Rattle.cell_partition.specs.Spots.{comes_before, wider_axis}
use Rattle.cell_partition.specs.Bounds.{joined, ends, bounds_of, parts_at, cell_at}
use Rattle.cell_partition.specs.Halving.{AreHalves, IsHalved, large, small, AreHalved}
use Rattle.cell_partition.specs.Orders.{IsInOrder}
use Rattle.cell_partition.specs.Parts.{AreInOrder, none, one_more, AreParts, AreStanding, AreAdded}
use Rattle.cell_partition.proofs.Bounds.{IsBetween, joined-append, ends-append, between_bounds, length-bounds, parts_at-bounds_of, joined_split}
use Rattle.cell_partition.proofs.Halves.{rest_whole, halved_same, each_same, each_push}
use Rattle.cell_partition.proofs.Widths.{halved_permutation}

pub in_order_append : (axes : List Axis) (parts others : List (List Spot)) (axes2 : List Axis) (parts2 others2 : List (List Spot)) → AreInOrder axes parts others → AreInOrder axes2 parts2 others2
    → AreInOrder (axes ++ axes2) (parts ++ parts2) (others ++ others2)
in_order_append axes parts others axes2 parts2 others2 none k = k
in_order_append axes parts others axes2 parts2 others2 (one_more axis axes' along across ps os h rest) k =
    one_more axis (axes' ++ axes2) along across (ps ++ parts2) (os ++ others2) h (in_order_append axes' ps os axes2 parts2 others2 rest k)

-- a part has one axis
pub axes_length : (axes : List Axis) (parts others : List (List Spot)) → AreInOrder axes parts others → length axes ≡ length parts
axes_length axes parts others none = refl
axes_length axes parts others (one_more axis axes' along across ps os h rest) = ap suc (axes_length axes' ps os rest)

pub others_length : (axes : List Axis) (parts others : List (List Spot)) → AreInOrder axes parts others → length parts ≡ length others
others_length axes parts others none = refl
others_length axes parts others (one_more axis axes' along across ps os h rest) = ap suc (others_length axes' ps os rest)

-- both lists have the same bounds
pub others_ends : (axes : List Axis) (parts others : List (List Spot)) (start : ℕ) → AreInOrder axes parts others → ends start parts ≡ ends start others
others_ends axes parts others start none = refl
others_ends axes parts others start (one_more axis axes' along across ps os h rest) =
    let size : length along ≡ length across = sym (length_permutation along across h.same) in
    ap (λ n. (start + n) ∷ ends (start + n) ps) size ∙ ap (λ xs. (start + length across) ∷ xs) (others_ends axes' ps os (start + length across) rest)

pub in_order_at : (axes : List Axis) (parts others : List (List Spot)) (k : ℕ) (d : Axis) → k < length parts → AreInOrder axes parts others → IsInOrder (get_or axes k d) (cell_at parts k) (cell_at others k)
in_order_at axes parts others k d inside none = absurd (omega arith)
in_order_at axes parts others zero d inside (one_more axis axes' along across ps os h rest) = h
in_order_at axes parts others (suc k) d inside (one_more axis axes' along across ps os h rest) = in_order_at axes' ps os k d (omega arith) rest

-- one part more
pub added_one : (axis : Axis) (along across : List Spot) (old new : Parts) → IsInOrder axis along across → new.along.items ≡ old.along.items ++ along → new.across.items ≡ old.across.items ++ across
    → new.bounds.items ≡ old.bounds.items ++ (length old.along.items + length along) ∷ [] → new.axes.items ≡ old.axes.items ++ axis ∷ [] → AreAdded old new (along ∷ [])
added_one axis along across old new h a b c d = record {
  others = across ∷ [];
  axes = axis ∷ [];
  along = a ∙ ap (λ xs. old.along.items ++ xs) (sym (append-nil along));
  across = b ∙ ap (λ xs. old.across.items ++ xs) (sym (append-nil across));
  bounds = c;
  axes_are = d;
  in_order = one_more axis [] along across [] [] h none;
}

-- parts behind parts
pub added_both : (p q r : Parts) (parts more : List (List Spot)) → AreAdded p q parts → AreAdded q r more → AreAdded p r (parts ++ more)
added_both p q r parts more a b =
    let at : length q.along.items ≡ length p.along.items + length (joined parts) = ap length a.along ∙ length-append p.along.items (joined parts) in record {
      others = a.others ++ b.others;
      axes = a.axes ++ b.axes;
      along = b.along ∙ ap (λ xs. xs ++ joined more) a.along ∙ append_assoc p.along.items (joined parts) (joined more) ∙ ap (λ xs. p.along.items ++ xs) (sym (joined-append parts more));
      across = b.across ∙ ap (λ xs. xs ++ joined b.others) a.across ∙ append_assoc p.across.items (joined a.others) (joined b.others) ∙ ap (λ xs. p.across.items ++ xs) (sym (joined-append a.others b.others));
      bounds = b.bounds
          ∙ ap (λ xs. xs ++ ends (length q.along.items) more) a.bounds
          ∙ append_assoc p.bounds.items (ends (length p.along.items) parts) (ends (length q.along.items) more)
          ∙ ap (λ n. p.bounds.items ++ (ends (length p.along.items) parts ++ ends n more)) at
          ∙ ap (λ xs. p.bounds.items ++ xs) (sym (ends-append (length p.along.items) parts more));
      axes_are = b.axes_are ∙ ap (λ xs. xs ++ b.axes) a.axes_are ∙ append_assoc p.axes.items a.axes b.axes;
      in_order = in_order_append a.axes parts a.others b.axes more b.others a.in_order b.in_order;
    }

-- parts added to those that stand
pub parts_more : (p q : Parts) (parts more : List (List Spot)) → AreParts p parts → AreAdded p q more → AreParts q (parts ++ more)
parts_more p q parts more h a =
    let at : length p.along.items ≡ length (joined parts) = ap length h.along in record {
      others = h.others ++ a.others;
      along = a.along ∙ ap (λ xs. xs ++ joined more) h.along ∙ sym (joined-append parts more);
      across = a.across ∙ ap (λ xs. xs ++ joined a.others) h.across ∙ sym (joined-append h.others a.others);
      bounds = a.bounds
          ∙ ap (λ xs. xs ++ ends (length p.along.items) more) h.bounds
          ∙ ap (λ n. (0 ∷ ends 0 parts) ++ ends n more) at
          ∙ ap (λ xs. 0 ∷ xs) (sym (ends-append 0 parts more ∙ ap (λ n. ends 0 parts ++ ends n more) (zero-add (length (joined parts)))));
      in_order = subst (λ (xs : List Axis). AreInOrder xs (parts ++ more) (h.others ++ a.others)) (sym a.axes_are) (in_order_append p.axes.items parts h.others a.axes more a.others h.in_order a.in_order);
    }

-- the halves of a part, halved on, are those of the whole
pub halves_added : (limit half : ℕ) (part along : List Spot) (p q r : Parts) → limit < length part → IsPermutation part along → IsSortedBy (comes_before (wider_axis part)) along → half ≡ length along - length along / 2
    → (halves : List (List Spot)) × IsHalved limit (take half along) halves × AreAdded p q halves
    → (halves : List (List Spot)) × IsHalved limit (take (length along - half) (drop half along)) halves × AreAdded q r halves
    → (halves : List (List Spot)) × IsHalved limit part halves × AreAdded p r halves
halves_added limit half part along p q r more same up is (firsts, one, first) (seconds, two, second) =
    let size : length along ≡ length part = length_permutation part along same in
    let within : half ≤ length along = omega arith in
    let front : length (take half along) ≡ half = length-take-le half along within in
    let two' : IsHalved limit (drop half along) seconds = subst (λ (xs : List Spot). IsHalved limit xs seconds) (rest_whole half along) two in
    let both : take half along ++ drop half along ≡ along = take-append-drop half along in
    let halves : AreHalves part (take half along) (drop half along) = record {
      same = subst (λ (xs : List Spot). IsPermutation part xs) (sym both) same;
      in_order = subst (λ (xs : List Spot). IsSortedBy (comes_before (wider_axis part)) xs) (sym both) up;
      half = omega arith;
    } in
    (firsts ++ seconds, large part (take half along) (drop half along) firsts seconds more halves one two', added_both p q r firsts seconds first second)

-- where a part lies in the list along
pub part_at : (p : Parts) (parts : List (List Spot)) (k : ℕ) (bounds : List ℕ) (along : List Spot) → AreParts p parts → k < length parts → bounds ≡ p.bounds.items → along ≡ p.along.items
    → IsBetween parts along k (get_or bounds k 0) (get_or bounds (k + 1) 0)
part_at p parts k bounds along h inside b a = between_bounds parts bounds along k (b ∙ h.bounds) (a ∙ h.along) inside

-- and in the list across
pub other_at : (p : Parts) (parts : List (List Spot)) (k : ℕ) (bounds : List ℕ) (across : List Spot) → (h : AreParts p parts) → k < length parts → bounds ≡ p.bounds.items → across ≡ p.across.items
    → IsBetween h.others across k (get_or bounds k 0) (get_or bounds (k + 1) 0)
other_at p parts k bounds across h inside b a =
    let ends_are : ends 0 parts ≡ ends 0 h.others = others_ends p.axes.items parts h.others 0 h.in_order in
    between_bounds h.others bounds across k (b ∙ h.bounds ∙ ap (λ xs. 0 ∷ xs) ends_are) (a ∙ h.across) (subst (λ (n : ℕ). k < n) (others_length p.axes.items parts h.others h.in_order) inside)

-- a part that is cut out of both lists is in order along both axes
pub part_in_order : (p : Parts) (parts : List (List Spot)) (k : ℕ) (bounds : List ℕ) (along across : List Spot) (axes : List Axis) (d : Axis) → AreParts p parts → k < length parts → bounds ≡ p.bounds.items → along ≡ p.along.items → across ≡ p.across.items → axes ≡ p.axes.items
    → IsInOrder (get_or axes k d) (take (get_or bounds (k + 1) 0 - get_or bounds k 0) (drop (get_or bounds k 0) along)) (take (get_or bounds (k + 1) 0 - get_or bounds k 0) (drop (get_or bounds k 0) across))
part_in_order p parts k bounds along across axes d h inside b a o x =
    let n = get_or bounds (k + 1) 0 - get_or bounds k 0 in
    let one = (part_at p parts k bounds along h inside b a).part in
    let two = (other_at p parts k bounds across h inside b o).part in
    subst (λ (xs : List Spot). IsInOrder (get_or axes k d) xs (take n (drop (get_or bounds k 0) across))) (sym one)
    (subst (λ (xs : List Spot). IsInOrder (get_or axes k d) (cell_at parts k) xs) (sym two)
    (subst (λ (as' : List Axis). IsInOrder (get_or as' k d) (cell_at parts k) (cell_at h.others k)) (sym x) (in_order_at p.axes.items parts h.others k d inside h.in_order)))

-- how many bounds and axes there are
pub parts_sizes : (p : Parts) (parts : List (List Spot)) → AreParts p parts → (length p.bounds.items ≡ length parts + 1) × (length p.axes.items ≡ length parts)
parts_sizes p parts h = (length-bounds parts p.bounds.items h.bounds, axes_length p.axes.items parts h.others h.in_order)

-- the parts are found again by their bounds
pub parts_found : (parts : List (List Spot)) (along : List Spot) (bounds : List ℕ) → along ≡ joined parts → bounds ≡ bounds_of parts → parts_at bounds along ≡ parts
parts_found parts along bounds a b = ap (λ (bs : List ℕ). parts_at bs along) b ∙ ap (parts_at (bounds_of parts)) a ∙ parts_at-bounds_of parts

-- halving keeps how many spots there are
pub added_length : (limit : ℕ) (part : List Spot) (p q : Parts) → (halves : List (List Spot)) × IsHalved limit part halves × AreAdded p q halves → length q.along.items ≡ length p.along.items + length part
added_length limit part p q (halves, one, added) =
    ap length added.along ∙ length-append p.along.items (joined halves) ∙ ap (λ n. length p.along.items + n) (length_permutation part (joined halves) (halved_same limit part halves one))

-- the part that is halved next fits beside the halves so far
pub each_fits : (limit : ℕ) (p : Parts) (above : List (List Spot)) (k : ℕ) (halves : Parts) (part : List Spot) → AreParts p above → k < length above → part ≡ cell_at above k
    → (next : List (List Spot)) × AreHalved limit (take k above) next × AreParts halves next → length halves.along.items + length part ≤ length p.along.items
each_fits limit p above k halves part h inside is (next, so_far, done) =
    let made : length halves.along.items ≡ length (joined (take k above)) = ap length done.along ∙ length_permutation (joined (take k above)) (joined next) (each_same limit (take k above) next so_far) in
    let all : length p.along.items ≡ length (joined (take k above)) + (length (cell_at above k) + length (joined (drop (suc k) above))) =
    ap length h.along ∙ ap length (joined_split above k inside) ∙ length-append (joined (take k above)) (cell_at above k ++ joined (drop (suc k) above)) ∙ ap (λ n. length (joined (take k above)) + n) (length-append (cell_at above k) (joined (drop (suc k) above))) in
    omega (arith, made, all, ap length is)

-- one more part is halved on
pub each_added : (limit : ℕ) (above : List (List Spot)) (k : ℕ) (part : List Spot) (p q : Parts) → k < length above → part ≡ cell_at above k
    → (next : List (List Spot)) × AreHalved limit (take k above) next × AreParts p next → (halves : List (List Spot)) × IsHalved limit part halves × AreAdded p q halves
    → (next : List (List Spot)) × AreHalved limit (take (k + 1) above) next × AreParts q next
each_added limit above k part p q inside is (next, so_far, done) (halves, one, added) =
    let one' : IsHalved limit (cell_at above k) halves = subst (λ (xs : List Spot). IsHalved limit xs halves) is one in
    let taken : take (k + 1) above ≡ take k above ++ cell_at above k ∷ [] = take_more above k [] inside in
    (next ++ halves, subst (λ (ps : List (List Spot)). AreHalved limit ps (next ++ halves)) (sym taken) (each_push limit (take k above) (cell_at above k) next halves so_far one'), parts_more p q next halves done added)

-- parts that are small already stay
pub each_small : (limit : ℕ) (parts : List (List Spot)) → length (joined parts) ≤ limit → AreHalved limit parts parts
each_small limit [] h = refl
each_small limit (part ∷ parts) h =
    let size : length (part ++ joined parts) ≡ length part + length (joined parts) = length-append part (joined parts) in
    (part ∷ [], parts, refl, small part (omega arith), each_small limit parts (omega arith))

-- all spots are halved alike in any order
pub whole_halved : (limit : ℕ) (part order : List Spot) (next : List (List Spot)) → limit < length part → IsPermutation part order → AreHalved limit (order ∷ []) next → AreHalved limit (part ∷ []) next
whole_halved limit part order next more same (first, rest, is, one, others) = (first, rest, is, halved_permutation limit part order first more same one, others)

pub found_parts : (p : Parts) (parts : List (List Spot)) → AreParts p parts → AreParts p (parts_at p.bounds.items p.along.items)
found_parts p parts h = subst (AreParts p) (sym (parts_found parts p.along.items p.bounds.items h.along h.bounds)) h

pub standing_parts : (p : Parts) (parts : List (List Spot)) → AreParts p parts → AreStanding p parts
standing_parts p parts h = record { along = h.along; bounds = h.bounds; sorted = inr h }

pub found_standing : (p : Parts) (parts : List (List Spot)) → AreStanding p parts → AreStanding p (parts_at p.bounds.items p.along.items)
found_standing p parts h = subst (AreStanding p) (sym (parts_found parts p.along.items p.bounds.items h.along h.bounds)) h

-- before the first cut all spots are one part
pub standing_whole : (p : Parts) (along : List Spot) → p.along.items ≡ along → p.bounds.items ≡ 0 ∷ length along ∷ [] → p.axes.items ≡ [] → AreStanding p (along ∷ [])
standing_whole p along a b x = record {
  along = a ∙ sym (append-nil along);
  bounds = b ∙ ap (λ n. 0 ∷ n ∷ []) (sym (zero-add (length along)));
  sorted = inl (x, refl);
}

single : (parts : List (List Spot)) (along : List Spot) → length parts ≡ 1 → along ≡ joined parts → parts ≡ along ∷ []
single [] along one is = absurd (omega arith)
single (part ∷ []) along one is = ap (λ (xs : List Spot). xs ∷ []) (sym (is ∙ append-nil part))
single (part ∷ (other ∷ parts)) along one is = absurd (omega arith)

pub unsorted : (p : Parts) (parts : List (List Spot)) → AreStanding p parts → length p.axes.items ≡ 0 → 0 < length p.along.items → parts ≡ p.along.items ∷ []
unsorted p parts h sized some =
    ⊎_elim
    (λ (whole : (p.axes.items ≡ []) × (length parts ≡ 1)). single parts p.along.items whole.1 h.along)
    (λ (sorted : AreParts p parts).
    let none' : parts ≡ [] = nil_from_length parts (omega (arith, sized, (parts_sizes p parts sorted).1)) in
    let empty : length p.along.items ≡ 0 = ap length h.along ∙ ap (λ (ps : List (List Spot)). length (joined ps)) none' in
    absurd (omega (arith, some, empty)))
    h.sorted

pub sorted_parts : (p : Parts) (parts : List (List Spot)) → AreStanding p parts → (length p.axes.items ≡ 0 → ⊥) → AreParts p parts
sorted_parts p parts h some =
    ⊎_elim
    (λ (whole : (p.axes.items ≡ []) × (length parts ≡ 1)). absurd (some (ap length whole.0)))
    (λ (sorted : AreParts p parts). sorted)
    h.sorted
