-- What is written is read back.
use Rattle.std.proofs.Common.{◌≡◌, ℕ, suc, zero, ℤ, pos, negsuc, ◌+◌, ◌-◌, ◌*◌, ◌/◌, ◌%◌, ◌^◌, ◌<◌, ◌≤◌, ◌+ℤ◌, ◌-ℤ◌, ◌*ℤ◌, ◌≤ℤ◌, true, List, [], ◌∷◌, ◌++◌, length, drop, map, Ok, refl, sym, ap, ap₂, inl, inr, ◌⊎◌, ◌∙◌, arith, append_assoc, length-append}
use Rattle.std.proofs.lemmas.Bool.Decides.{nat_tests}
use Rattle.std.proofs.lemmas.Bool.{cond-true, cases_lt}
use Rattle.std.proofs.lemmas.Int.{ints}
use Rattle.std.proofs.Math.Nat.{pow-suc}
use Rattle.std.proofs.Math.Seq.{drop-append_seam}
use Rattle.road_base.specs.declared.coordinates.Point.{Point}
use Rattle.std.specs.Int.{int_div_euclid}
use Rattle.polyline_text.specs.RoundTrip.{GivesBackPoints, GivesBackRounded, to_tens}
use Rattle.polyline_text.specs.Encoding.{rounded, folded, groups_text, difference_text, text_from, encoded}
use Rattle.polyline_text.specs.Grammar.{unfolded, unit_of, fits_32}
use Rattle.polyline_text.specs.Decoding.{behind_group, value_in, checked, moved_by, coordinate_in, behind_points, points_in, decoded}
use Rattle.polyline_text.proofs.Groups.{groups_text-last, groups_text-more}
use Rattle.polyline_text.proofs.Values.{value_in-last, value_in-more}
use Rattle.polyline_text.proofs.Reading.{point_of, one_point_read, end_read}
use Rattle.polyline_text.proofs.Grammar.{path_read}

-- groups that were written are read as their number
value_in-groups_text : (k g n : ℕ) (rest : List ℕ) → k ≤ g → n < 32 ^ suc k → (n < 32) ⊎ (32 ≤ n)
    → value_in (suc g) (groups_text (suc k) n ++ rest) ≡ Ok (n, length (groups_text (suc k) n))
value_in-groups_text k g n rest fits small (inl low) =
    let number : 63 + n - 63 ≡ n = omega arith in
    rw (groups_text-last k n low) (value_in-last g (63 + n) rest (omega arith) (omega arith) ∙ ap (λ (m : ℕ). Ok (m, 1)) number)
value_in-groups_text zero g n rest fits small (inr high) = absurd (omega arith)
value_in-groups_text (suc j) zero n rest fits small (inr high) = absurd (omega arith)
value_in-groups_text (suc j) (suc g) n rest fits small (inr high) =
    let later = groups_text (suc j) (n / 32) in
    let smaller : n / 32 < 32 ^ suc j = omega (arith, pow-suc 32 (suc j)) in
    let inner = value_in-groups_text j g (n / 32) rest (omega arith) smaller (cases_lt (n / 32) 32) in
    let number : 95 + n % 32 - 95 + 32 * (n / 32) ≡ n = omega arith in
    let count : length later + 1 ≡ suc (length later) = omega arith in
    rw (groups_text-more (suc j) n high)
    (value_in-more (suc g) (95 + n % 32) (later ++ rest) (omega arith) (omega arith)
    ∙ ap (behind_group (95 + n % 32 - 95)) inner ∙ ap₂ (λ (a b : ℕ). Ok (a, b)) number count)

-- there is a last group
groups_text-some : (k n : ℕ) → (n < 32) ⊎ (32 ≤ n) → 0 < length (groups_text (suc k) n)
groups_text-some k n (inl low) = rw (groups_text-last k n low) (omega arith)
groups_text-some k n (inr high) = rw (groups_text-more k n high) (omega arith)

unfolded-folded : (z : ℤ) → unfolded (folded z) ≡ z
unfolded-folded (pos n) =
    let even : 2 * n % 2 ≡ 0 = omega arith in
    let half : 2 * n / 2 ≡ n = omega arith in
    rw (even, half) refl
unfolded-folded (negsuc n) =
    let odd : (2 * n + 1) % 2 ≡ 1 = omega arith in
    let half : (2 * n + 1) / 2 ≡ n = omega arith in
    rw (odd, half) refl

-- the microdegrees of a whole number of last digits
abbrev micro : ℕ → ℤ → ℤ
micro digits r = pos (unit_of digits) *ℤ r

-- a difference that was written is read back
coordinate_in-difference_text : (digits : ℕ) (sum z : ℤ) (rest : List ℕ) → folded z < 34359738368 → fits_32 (sum +ℤ micro digits z) ≡ true
    → coordinate_in digits sum (difference_text z ++ rest) ≡ Ok (sum +ℤ micro digits z, length (difference_text z))
coordinate_in-difference_text digits sum z rest small fits =
    ap (moved_by digits sum) (value_in-groups_text 6 6 (folded z) rest (omega arith) small (cases_lt (folded z) 32))
    ∙ ap (λ (w : ℤ). checked (sum +ℤ pos (unit_of digits) *ℤ w) (length (difference_text z))) (unfolded-folded z)
    ∙ cond-true _ _ _ fits

-- within 180 degrees either way
record IsNear (v : ℤ) : Type 0 where
  low : negsuc 179999999 ≤ℤ v
  high : v ≤ℤ pos 180000000

folded-lt : (a b : ℤ) → IsNear a → IsNear b → folded (b -ℤ a) < 34359738368
folded-lt a b near_a near_b = by_sign (b -ℤ a) (omega (arith, ints, near_a.low, near_b.high)) (omega (arith, ints, near_a.high, near_b.low))
  where
    by_sign : (z : ℤ) → z ≤ℤ pos 360000000 → negsuc 359999999 ≤ℤ z → folded z < 34359738368
    by_sign (pos n) high low = let small : n ≤ 360000000 = omega (arith, ints, high) in omega arith
    by_sign (negsuc n) high low = let small : n ≤ 359999999 = omega (arith, ints, low) in omega arith

-- what the digits have to give
record AreDigits (digits : ℕ) : Type 0 where
  near : (v : ℤ) → IsNear v → IsNear (rounded digits v)
  fits : (v : ℤ) → IsNear v → fits_32 (micro digits (rounded digits v)) ≡ true
  adds : (a b : ℤ) → micro digits a +ℤ micro digits (b -ℤ a) ≡ micro digits b

near_lon : (p : Point) → IsNear p.lon
near_lon p = record { low = p.in_range.west; high = p.in_range.east }

near_lat : (p : Point) → IsNear p.lat
near_lat p = record { low = omega (arith, ints, p.in_range.south); high = omega (arith, ints, p.in_range.north) }

-- a point of a text, rounded
abbrev back : ℕ → Point → ℤ × ℤ
back digits p = (micro digits (rounded digits p.lon), micro digits (rounded digits p.lat))

points_in-text_from : (digits most : ℕ) (lat lon : ℤ) (points : List Point) → AreDigits digits → length points ≤ most → IsNear lat → IsNear lon
    → points_in most digits (micro digits lon) (micro digits lat) (text_from digits lat lon points) ≡ Ok (map (back digits) points)
unfolding text_from
points_in-text_from digits most lat lon [] are room near_y near_x = end_read most digits (micro digits lon) (micro digits lat)
points_in-text_from digits zero lat lon (p ∷ points) are room near_y near_x = absurd (omega arith)
points_in-text_from digits (suc most) lat lon (p ∷ points) are room near_y near_x =
    let y = rounded digits p.lat in
    let x = rounded digits p.lon in
    let north = difference_text (y -ℤ lat) in
    let east = difference_text (x -ℤ lon) in
    let later = text_from digits y x points in
    let bytes = north ++ east ++ later in
    let y_is = are.adds lat y in
    let x_is = are.adds lon x in
    let fits_y : fits_32 (micro digits lat +ℤ micro digits (y -ℤ lat)) ≡ true = ap fits_32 y_is ∙ are.fits p.lat (near_lat p) in
    let fits_x : fits_32 (micro digits lon +ℤ micro digits (x -ℤ lon)) ≡ true = ap fits_32 x_is ∙ are.fits p.lon (near_lon p) in
    let y_near = are.near p.lat (near_lat p) in
    let x_near = are.near p.lon (near_lon p) in
    let read_y = coordinate_in-difference_text digits (micro digits lat) (y -ℤ lat) (east ++ later) (folded-lt lat y near_y y_near) fits_y in
    let read_x = coordinate_in-difference_text digits (micro digits lon) (x -ℤ lon) later (folded-lt lon x near_x x_near) fits_x in
    let regrouped = append_assoc north east later in
    let at_y : Ok (micro digits y, length north) ≡ coordinate_in digits (micro digits lat) bytes =
    sym (ap (coordinate_in digits (micro digits lat)) regrouped ∙ read_y ∙ ap (λ (w : ℤ). Ok (w, length north)) y_is) in
    let behind : drop (length north) bytes ≡ east ++ later = ap (drop (length north)) regrouped ∙ drop-append_seam north (east ++ later) in
    let at_x : Ok (micro digits x, length east) ≡ coordinate_in digits (micro digits lon) (drop (length north) bytes) =
    sym (ap (coordinate_in digits (micro digits lon)) behind ∙ read_x ∙ ap (λ (w : ℤ). Ok (w, length east)) x_is) in
    let point = point_of digits (micro digits lon) (micro digits lat) (micro digits x) (micro digits y) bytes (length north) (length east) at_y at_x in
    let some : 0 < length bytes = omega (arith, length-append (north ++ east) later, length-append north east, groups_text-some 6 (folded (y -ℤ lat)) (cases_lt (folded (y -ℤ lat)) 32)) in
    let rest : drop (length north + length east) bytes ≡ later = ap (λ (n : ℕ). drop n bytes) (sym (length-append north east)) ∙ drop-append_seam (north ++ east) later in
    one_point_read most digits (micro digits lon) (micro digits lat) (micro digits x) (micro digits y) bytes (length north + length east) some (sym point)
    ∙ ap (λ (t : List ℕ). behind_points ((micro digits x, micro digits y) ∷ []) (length north + length east) (points_in most digits (micro digits x) (micro digits y) t)) rest
    ∙ ap (behind_points ((micro digits x, micro digits y) ∷ []) (length north + length east)) (points_in-text_from digits most y x points are (omega arith) y_near x_near)

-- a text has no fewer bytes than points
length-text_from : (digits : ℕ) (lat lon : ℤ) (points : List Point) → length points ≤ length (text_from digits lat lon points)
unfolding text_from
length-text_from digits lat lon [] = omega arith
length-text_from digits lat lon (p ∷ points) =
    let y = rounded digits p.lat in
    let x = rounded digits p.lon in
    let north = difference_text (y -ℤ lat) in
    let east = difference_text (x -ℤ lon) in
    omega (arith, length-append (north ++ east) (text_from digits y x points), length-append north east, length-text_from digits y x points, groups_text-some 6 (folded (y -ℤ lat)) (cases_lt (folded (y -ℤ lat)) 32))

decoded-encoded : (digits : ℕ) (points : List Point) → AreDigits digits → micro digits (pos 0) ≡ pos 0
    → decoded digits (encoded digits points) ≡ Ok (map (back digits) points)
decoded-encoded digits points are origin =
    let begin : IsNear (pos 0) = record { low = omega (arith, ints); high = omega (arith, ints) } in
    rw origin at (points_in-text_from digits (length (encoded digits points)) (pos 0) (pos 0) points are (length-text_from digits (pos 0) (pos 0) points) begin begin)

fits_32-small : (z : ℤ) → negsuc 2147483646 ≤ℤ z → z ≤ℤ pos 2147483646 → fits_32 z ≡ true
fits_32-small (pos n) low high =
    let small : n < 2147483648 = omega (arith, ints, high) in
    grind (arith, nat_tests)
fits_32-small (negsuc n) low high =
    let small : n < 2147483648 = omega (arith, ints, low) in
    grind (arith, nat_tests)

-- 6 digits are the microdegrees themselves
six : AreDigits 6
six = record {
  near = λ v near. near;
  fits = λ v near. fits_32-small (pos 1 *ℤ v) (omega (arith, ints, near.low)) (omega (arith, ints, near.high));
  adds = λ a b. omega (arith, ints);
}

-- a tenth of a number near zero, rounded
record IsTenth (q : ℤ) : Type 0 where
  low : negsuc 18000000 ≤ℤ q
  high : q ≤ℤ pos 18000001

tenth : (w : ℤ) → negsuc 179999994 ≤ℤ w → w ≤ℤ pos 180000005 → IsTenth (int_div_euclid w (pos 10))
tenth (pos n) low high = let small : n ≤ 180000005 = omega (arith, ints, high) in let part : n / 10 ≤ 18000001 = omega arith in record { low = omega (arith, ints); high = omega (arith, ints, part) }
tenth (negsuc n) low high = let small : n ≤ 179999994 = omega (arith, ints, low) in let part : n / 10 ≤ 18000000 = omega arith in record { low = omega (arith, ints, part); high = omega (arith, ints) }

tenth_of : (v : ℤ) → IsNear v → IsTenth (int_div_euclid (v +ℤ pos 5) (pos 10))
tenth_of v near = tenth (v +ℤ pos 5) (omega (arith, ints, near.low)) (omega (arith, ints, near.high))

five_fits : (q : ℤ) → IsTenth q → fits_32 (pos 10 *ℤ q) ≡ true
five_fits q is = fits_32-small (pos 10 *ℤ q) (omega (arith, ints, is.low)) (omega (arith, ints, is.high))

five_near : (q : ℤ) → IsTenth q → IsNear q
five_near q is = record { low = omega (arith, ints, is.low); high = omega (arith, ints, is.high) }

-- 5 digits are tens of microdegrees
five : AreDigits 5
five = record {
  near = λ v near. five_near (int_div_euclid (v +ℤ pos 5) (pos 10)) (tenth_of v near);
  fits = λ v near. five_fits (int_div_euclid (v +ℤ pos 5) (pos 10)) (tenth_of v near);
  adds = λ a b. omega (arith, ints);
}

map-same : {A B : Type 0} (f g : A → B) (xs : List A) → ((x : A) → f x ≡ g x) → map f xs ≡ map g xs
map-same f g [] same = refl
map-same f g (x ∷ xs) same = ap₂ (λ (y : _) (ys : List _). y ∷ ys) (same x) (map-same f g xs same)

one_times : (z : ℤ) → pos 1 *ℤ z ≡ z
one_times z = omega (arith, ints)

pub gives_back_points : (points : List Point) → GivesBackPoints points
gives_back_points points =
    path_read (length (encoded 6 points)) 6 (pos 0) (pos 0) (encoded 6 points) (map (λ p. (p.lon, p.lat)) points) (omega arith)
    (decoded-encoded 6 points six refl
    ∙ ap Ok (map-same (back 6) (λ p. (p.lon, p.lat)) points (λ p. ap₂ (λ (x y : ℤ). (x, y)) (one_times p.lon) (one_times p.lat))))

pub gives_back_rounded : (points : List Point) → GivesBackRounded points
gives_back_rounded points = path_read (length (encoded 5 points)) 5 (pos 0) (pos 0) (encoded 5 points) (map (λ p. (to_tens p.lon, to_tens p.lat)) points) (omega arith) (decoded-encoded 5 points five refl)
