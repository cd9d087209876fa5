-- The grammar, and reading from the left, say the same.
use Rattle.std.proofs.Common.{◌≡◌, inl, inr, ℕ, suc, zero, ℤ, pos, ◌+◌, ◌-◌, ◌<◌, ◌≤◌, Bool, true, false, List, [], ◌∷◌, ◌++◌, length, drop, Vec, Result, Ok, Err, refl, sym, ap, ◌∙◌, subst, arith, append_assoc, length-append}
use Rattle.std.proofs.lemmas.Bool.{cond-true, cond-false}
use Rattle.std.proofs.Math.Seq.{drop-append_seam}
use Rattle.std.specs.Global.{Global}
use Rattle.polyline_text.specs.Grammar.{Path, continued, moved, fits_32, IsStep, IsPoint, IsPathBehind, IsPath, IsStepFault, IsPointFault, IsFaultBehind}
use Rattle.polyline_text.specs.Decoding.{value_in, moved_by, coordinate_in, with_latitude, longitude_behind, point_in, behind_points, points_in, decoded}
use Rattle.polyline_text.specs.Answers.{Answers, AnswersPath}
use Rattle.polyline_text.specs.Readings.{Reads}
use Rattle.polyline_text.specs.GrammarLaw.{IsOfGrammar, IsRead}
use Rattle.polyline_text.specs.declared.decoding.DecodeError.{DecodeError}
use Rattle.polyline_text.specs.declared.decoding.DecodeError.TheVariants.{BadPolyline, Memory}
use Rattle.polyline_text.proofs.Results.{same_ok, same_err, not_both}
use Rattle.polyline_text.proofs.Values.{value_read, value_found, value_broken}
use Rattle.polyline_text.proofs.Reading.{one_point_read, fault_read, end_read}

-- a step stands at the front of the bytes, and takes so many of them
record HasStep (digits : ℕ) (from : ℤ) (bytes : List ℕ) (to : ℤ) (taken : ℕ) : Type 0 where
  text : List ℕ
  rest : List ℕ
  bytes_is : bytes ≡ text ++ rest
  step : IsStep digits from text to
  taken_is : taken ≡ length text

-- the value is read, and the coordinate fits or not
data Coordinate (digits : ℕ) (from : ℤ) (bytes : List ℕ) : Type 0 where
  broken : (offset : ℕ) → value_in 7 bytes ≡ Err offset → coordinate_in digits from bytes ≡ Err offset → Coordinate digits from bytes
  fits : (n k : ℕ) → value_in 7 bytes ≡ Ok (n, k) → fits_32 (moved digits from n) ≡ true → coordinate_in digits from bytes ≡ Ok (moved digits from n, k) → Coordinate digits from bytes
  leaves : (n k : ℕ) → value_in 7 bytes ≡ Ok (n, k) → fits_32 (moved digits from n) ≡ false → coordinate_in digits from bytes ≡ Err (k - 1) → Coordinate digits from bytes

coordinate : (digits : ℕ) (from : ℤ) (bytes : List ℕ) → Coordinate digits from bytes
coordinate digits from bytes = by_value (value_in 7 bytes) refl
  where
    by_fit : (n k : ℕ) → value_in 7 bytes ≡ Ok (n, k) → (t : Bool) → fits_32 (moved digits from n) ≡ t → Coordinate digits from bytes
    by_fit n k is true test = fits n k is test (ap (moved_by digits from) is ∙ cond-true _ _ _ test)
    by_fit n k is false test = leaves n k is test (ap (moved_by digits from) is ∙ cond-false _ _ _ test)

    by_value : (r : Result (ℕ × ℕ) ℕ) → value_in 7 bytes ≡ r → Coordinate digits from bytes
    by_value (Ok (n, k)) is = by_fit n k is (fits_32 (moved digits from n)) refl
    by_value (Err offset) is = broken offset is (ap (moved_by digits from) is)

step_read : (digits : ℕ) (from : ℤ) (bytes : List ℕ) (to : ℤ) (taken : ℕ) → coordinate_in digits from bytes ≡ Ok (to, taken) → HasStep digits from bytes to taken
step_read digits from bytes to taken is = by (coordinate digits from bytes)
  where
    by : Coordinate digits from bytes → HasStep digits from bytes to taken
    by (broken offset read fault) = absurd (not_both (to, taken) offset (coordinate_in digits from bytes) is fault)
    by (leaves n k read test fault) = absurd (not_both (to, taken) (k - 1) (coordinate_in digits from bytes) is fault)
    by (fits n k read test whole) =
        let same = same_ok (to, taken) (moved digits from n, k) (coordinate_in digits from bytes) is whole in
        let v = value_read 7 bytes n k read in
        let to_is : to ≡ moved digits from n = ap (λ (p : ℤ × ℕ). p.0) same in record {
          text = v.text;
          rest = v.rest;
          bytes_is = v.bytes_is;
          step = record { number = n; value = v.value; to_is = to_is; fits = ap fits_32 to_is ∙ test };
          taken_is = ap (λ (p : ℤ × ℕ). p.1) same ∙ v.taken_is;
        }

step_found : (digits : ℕ) (from : ℤ) (text : List ℕ) (to : ℤ) (rest : List ℕ) → IsStep digits from text to → coordinate_in digits from (text ++ rest) ≡ Ok (to, length text)
step_found digits from text to rest s =
    ap (moved_by digits from) (value_found 7 text s.number rest s.value)
    ∙ cond-true _ _ _ (ap fits_32 (sym s.to_is) ∙ s.fits) ∙ ap (λ (z : ℤ). Ok (z, length text)) (sym s.to_is)

step_broken : (digits : ℕ) (from : ℤ) (bytes : List ℕ) (offset : ℕ) → coordinate_in digits from bytes ≡ Err offset → IsStepFault digits from bytes offset
step_broken digits from bytes offset is = by (coordinate digits from bytes)
  where
    by : Coordinate digits from bytes → IsStepFault digits from bytes offset
    by (broken o read fault) = inl (value_broken 7 bytes offset (subst (λ (p : ℕ). value_in 7 bytes ≡ Err p) (same_err o offset (coordinate_in digits from bytes) fault is) read))
    by (fits n k read test whole) = absurd (not_both (moved digits from n, k) offset (coordinate_in digits from bytes) whole is)
    by (leaves n k read test fault) =
        let v = value_read 7 bytes n k read in
        let same : offset ≡ k - 1 = same_err offset (k - 1) (coordinate_in digits from bytes) is fault in
        let some : 1 ≤ length v.text = rw v.value.text_is (omega (arith, length-append (continued v.value.groups) ((63 + v.value.last) ∷ []))) in
        inr (record { step = v.text; rest = v.rest; number = n; text_is = v.bytes_is; value = v.value; leaves = test; offset_is = omega (arith, v.taken_is) })

-- a point stands at the front of the bytes, and takes so many of them
record HasPoint (digits : ℕ) (lon lat : ℤ) (bytes : List ℕ) (x y : ℤ) (taken : ℕ) : Type 0 where
  text : List ℕ
  rest : List ℕ
  bytes_is : bytes ≡ text ++ rest
  point : IsPoint digits lon lat text (x, y)
  taken_is : taken ≡ length text

-- what follows the front
behind_front : (bytes text rest : List ℕ) (taken : ℕ) → bytes ≡ text ++ rest → taken ≡ length text → drop taken bytes ≡ rest
behind_front bytes text rest taken is count = rw (is, count) (drop-append_seam text rest)

two_steps : (digits : ℕ) (lon lat : ℤ) (bytes : List ℕ) (x y : ℤ) (before k : ℕ) → HasStep digits lat bytes y before → HasStep digits lon (drop before bytes) x k
    → HasPoint digits lon lat bytes x y (before + k)
two_steps digits lon lat bytes x y before k north east =
    let follows : north.rest ≡ east.text ++ east.rest = sym (behind_front bytes north.text north.rest before north.bytes_is north.taken_is) ∙ east.bytes_is in record {
      text = north.text ++ east.text;
      rest = east.rest;
      bytes_is = north.bytes_is ∙ ap (λ (t : List ℕ). north.text ++ t) follows ∙ sym (append_assoc north.text east.text east.rest);
      point = record { north = north.text; east = east.text; text_is = refl; northward = north.step; eastward = east.step };
      taken_is = omega (arith, north.taken_is, east.taken_is, length-append north.text east.text);
    }

-- both coordinates are read, or one is at fault
data Two (digits : ℕ) (lon lat : ℤ) (bytes : List ℕ) : Type 0 where
  north_fault : (offset : ℕ) → coordinate_in digits lat bytes ≡ Err offset → point_in digits lon lat bytes ≡ Err offset → Two digits lon lat bytes
  east_fault : (y : ℤ) (before offset : ℕ) → coordinate_in digits lat bytes ≡ Ok (y, before) → coordinate_in digits lon (drop before bytes) ≡ Err offset → point_in digits lon lat bytes ≡ Err (before + offset) → Two digits lon lat bytes
  both : (x y : ℤ) (before k : ℕ) → coordinate_in digits lat bytes ≡ Ok (y, before) → coordinate_in digits lon (drop before bytes) ≡ Ok (x, k) → point_in digits lon lat bytes ≡ Ok (x, y, before + k) → Two digits lon lat bytes

two : (digits : ℕ) (lon lat : ℤ) (bytes : List ℕ) → Two digits lon lat bytes
two digits lon lat bytes = by_north (coordinate_in digits lat bytes) refl
  where
    by_east : (y : ℤ) (before : ℕ) → coordinate_in digits lat bytes ≡ Ok (y, before) → (r : Result (ℤ × ℕ) ℕ) → coordinate_in digits lon (drop before bytes) ≡ r → Two digits lon lat bytes
    by_east y before north (Ok (x, k)) east = both x y before k north east (ap (longitude_behind digits lon bytes) north ∙ ap (with_latitude y before) east)
    by_east y before north (Err offset) east = east_fault y before offset north east (ap (longitude_behind digits lon bytes) north ∙ ap (with_latitude y before) east)

    by_north : (r : Result (ℤ × ℕ) ℕ) → coordinate_in digits lat bytes ≡ r → Two digits lon lat bytes
    by_north (Ok (y, before)) north = by_east y before north (coordinate_in digits lon (drop before bytes)) refl
    by_north (Err offset) north = north_fault offset north (ap (longitude_behind digits lon bytes) north)

point_found : (digits : ℕ) (lon lat : ℤ) (text rest : List ℕ) (p : ℤ × ℤ) → IsPoint digits lon lat text p → point_in digits lon lat (text ++ rest) ≡ Ok (p.0, p.1, length text)
point_found digits lon lat text rest p point =
    let bytes : List ℕ = text ++ rest in
    let front : bytes ≡ point.north ++ (point.east ++ rest) = ap (λ (t : List ℕ). t ++ rest) point.text_is ∙ append_assoc point.north point.east rest in
    let north : coordinate_in digits lat bytes ≡ Ok (p.1, length point.north) = ap (coordinate_in digits lat) front ∙ step_found digits lat point.north p.1 (point.east ++ rest) point.northward in
    let east : coordinate_in digits lon (drop (length point.north) bytes) ≡ Ok (p.0, length point.east) =
    ap (coordinate_in digits lon) (behind_front bytes point.north (point.east ++ rest) (length point.north) front refl) ∙ step_found digits lon point.east p.0 rest point.eastward in
    let count : length point.north + length point.east ≡ length text = omega (arith, ap length point.text_is, length-append point.north point.east) in
    ap (longitude_behind digits lon bytes) north ∙ ap (with_latitude p.1 (length point.north)) east ∙ ap (λ (k : ℕ). Ok (p.0, p.1, k)) count

point_broken : (digits : ℕ) (lon lat : ℤ) (bytes : List ℕ) (offset : ℕ) → point_in digits lon lat bytes ≡ Err offset → IsPointFault digits lon lat bytes offset
point_broken digits lon lat bytes offset is = by (two digits lon lat bytes)
  where
    by : Two digits lon lat bytes → IsPointFault digits lon lat bytes offset
    by (north_fault o north fault) =
        inl (step_broken digits lat bytes offset (subst (λ (p : ℕ). coordinate_in digits lat bytes ≡ Err p) (same_err o offset (point_in digits lon lat bytes) fault is) north))
    by (east_fault y before o north east fault) =
        let s = step_read digits lat bytes y before north in
        let follows = behind_front bytes s.text s.rest before s.bytes_is s.taken_is in
        let same : offset ≡ before + o = same_err offset (before + o) (point_in digits lon lat bytes) is fault in
        inr (record {
          north = s.text;
          rest = s.rest;
          next = y;
          later = o;
          text_is = s.bytes_is;
          northward = s.step;
          fault = step_broken digits lon s.rest o (subst (λ (t : List ℕ). coordinate_in digits lon t ≡ Err o) follows east);
          offset_is = omega (arith, s.taken_is);
        })
    by (both x y before k north east whole) = absurd (not_both (x, y, before + k) offset (point_in digits lon lat bytes) whole is)

-- a point at the front of a text takes a byte at least
some_taken : (digits : ℕ) (lon lat : ℤ) (text : List ℕ) (p : ℤ × ℤ) → IsPoint digits lon lat text p → 0 < length text
some_taken digits lon lat text p point =
    let v = point.northward.value in
    let some : 1 ≤ length point.north = rw v.text_is (omega (arith, length-append (continued v.groups) ((63 + v.last) ∷ []))) in
    omega (arith, ap length point.text_is, length-append point.north point.east)

path_found : (most digits : ℕ) (lon lat : ℤ) (bytes : List ℕ) (points : Path) → length bytes ≤ most → IsPathBehind digits lon lat bytes points → points_in most digits lon lat bytes ≡ Ok points
path_found most digits lon lat bytes [] few none = ap (points_in most digits lon lat) none ∙ end_read most digits lon lat
path_found zero digits lon lat bytes (p ∷ points) few path =
    let some = some_taken digits lon lat path.0 p path.3 in
    absurd (omega (arith, ap length path.2, length-append path.0 path.1, some))
path_found (suc most) digits lon lat bytes (p ∷ points) few path =
    let some = some_taken digits lon lat path.0 p path.3 in
    let size : length bytes ≡ length path.0 + length path.1 = ap length path.2 ∙ length-append path.0 path.1 in
    let read : point_in digits lon lat bytes ≡ Ok (p.0, p.1, length path.0) = ap (point_in digits lon lat) path.2 ∙ point_found digits lon lat path.0 path.1 p path.3 in
    let follows = behind_front bytes path.0 path.1 (length path.0) path.2 refl in
    one_point_read most digits lon lat p.0 p.1 bytes (length path.0) (omega arith) read
    ∙ ap (behind_points ((p.0, p.1) ∷ []) (length path.0)) (ap (points_in most digits p.0 p.1) follows ∙ path_found most digits p.0 p.1 path.1 points (omega arith) path.4)

-- points that were read
pub path_read : (most digits : ℕ) (lon lat : ℤ) (bytes : List ℕ) (points : Path) → length bytes ≤ most → points_in most digits lon lat bytes ≡ Ok points → IsPathBehind digits lon lat bytes points
path_read most digits lon lat [] points few is =
    let none : points ≡ [] = same_ok points [] (points_in most digits lon lat []) is (end_read most digits lon lat) in
    subst (λ (ps : Path). IsPathBehind digits lon lat [] ps) (sym none) refl
path_read zero digits lon lat (b ∷ bytes) points few is = absurd (omega arith)
path_read (suc most) digits lon lat (b ∷ bytes) points few is = by (λ x y bs others fewer there. path_read most digits x y bs others fewer there) (two digits lon lat (b ∷ bytes))
  where
    by_rest : ((x y : ℤ) (bs : List ℕ) (others : Path) → length bs ≤ most → points_in most digits x y bs ≡ Ok others → IsPathBehind digits x y bs others) → (x y : ℤ) (taken : ℕ) → HasPoint digits lon lat (b ∷ bytes) x y taken → (r : Result Path ℕ) → points_in most digits x y (drop taken (b ∷ bytes)) ≡ r
        → points_in (suc most) digits lon lat (b ∷ bytes) ≡ behind_points ((x, y) ∷ []) taken r → IsPathBehind digits lon lat (b ∷ bytes) points
    by_rest inner x y taken p (Err o) rest whole = absurd (not_both points (taken + o) (points_in (suc most) digits lon lat (b ∷ bytes)) is whole)
    by_rest inner x y taken p (Ok others) rest whole =
        let all : points ≡ (x, y) ∷ others = same_ok points ((x, y) ∷ others) (points_in (suc most) digits lon lat (b ∷ bytes)) is whole in
        let follows = behind_front (b ∷ bytes) p.text p.rest taken p.bytes_is p.taken_is in
        let some = some_taken digits lon lat p.text (x, y) p.point in
        let size : length (b ∷ bytes) ≡ length p.text + length p.rest = ap length p.bytes_is ∙ length-append p.text p.rest in
        let later = inner x y p.rest others (omega arith) (subst (λ (t : List ℕ). points_in most digits x y t ≡ Ok others) follows rest) in
        subst (λ (ps : Path). IsPathBehind digits lon lat (b ∷ bytes) ps) (sym all) (p.text, p.rest, p.bytes_is, p.point, later)

    by : ((x y : ℤ) (bs : List ℕ) (others : Path) → length bs ≤ most → points_in most digits x y bs ≡ Ok others → IsPathBehind digits x y bs others) → Two digits lon lat (b ∷ bytes) → IsPathBehind digits lon lat (b ∷ bytes) points
    by inner (north_fault o north fault) = absurd (not_both points o (points_in (suc most) digits lon lat (b ∷ bytes)) is (fault_read most digits lon lat (b ∷ bytes) o (omega arith) fault))
    by inner (east_fault y before o north east fault) = absurd (not_both points (before + o) (points_in (suc most) digits lon lat (b ∷ bytes)) is (fault_read most digits lon lat (b ∷ bytes) (before + o) (omega arith) fault))
    by inner (both x y before k north east whole) =
        let p = two_steps digits lon lat (b ∷ bytes) x y before k (step_read digits lat (b ∷ bytes) y before north) (step_read digits lon (drop before (b ∷ bytes)) x k east) in
        by_rest inner x y (before + k) p (points_in most digits x y (drop (before + k) (b ∷ bytes))) refl (one_point_read most digits lon lat x y (b ∷ bytes) (before + k) (omega arith) whole)

-- a fault at the next point
fault_here : (digits : ℕ) (lon lat : ℤ) (bytes : List ℕ) (offset : ℕ) → 0 < length bytes → IsPointFault digits lon lat bytes offset → IsFaultBehind digits lon lat bytes offset
fault_here digits lon lat bytes offset some fault = record {
  points = [];
  front = [];
  rest = bytes;
  later = offset;
  some = some;
  text_is = refl;
  path = refl;
  fault = fault;
  offset_is = omega arith;
}

-- a fault behind one more point
fault_later : (digits : ℕ) (lon lat : ℤ) (bytes : List ℕ) (x y : ℤ) (taken offset later : ℕ) → (p : HasPoint digits lon lat bytes x y taken) → IsFaultBehind digits x y p.rest later
    → offset ≡ taken + later → IsFaultBehind digits lon lat bytes offset
fault_later digits lon lat bytes x y taken offset later p f further = record {
  points = (x, y) ∷ f.points;
  front = p.text ++ f.front;
  rest = f.rest;
  later = f.later;
  some = f.some;
  text_is = p.bytes_is ∙ ap (λ (t : List ℕ). p.text ++ t) f.text_is ∙ sym (append_assoc p.text f.front f.rest);
  path = (p.text, f.front, refl, p.point, f.path);
  fault = f.fault;
  offset_is = omega (arith, further, p.taken_is, f.offset_is, length-append p.text f.front);
}

-- a fault that was found
pub path_broken : (most digits : ℕ) (lon lat : ℤ) (bytes : List ℕ) (offset : ℕ) → length bytes ≤ most → points_in most digits lon lat bytes ≡ Err offset → IsFaultBehind digits lon lat bytes offset
path_broken most digits lon lat [] offset few is = absurd (not_both [] offset (points_in most digits lon lat []) (end_read most digits lon lat) is)
path_broken zero digits lon lat (b ∷ bytes) offset few is = absurd (omega arith)
path_broken (suc most) digits lon lat (b ∷ bytes) offset few is = by (λ x y bs o fewer there. path_broken most digits x y bs o fewer there) (two digits lon lat (b ∷ bytes))
  where
    at : (o : ℕ) → point_in digits lon lat (b ∷ bytes) ≡ Err o → IsFaultBehind digits lon lat (b ∷ bytes) offset
    at o fault =
        let same : o ≡ offset = same_err o offset (points_in (suc most) digits lon lat (b ∷ bytes)) (fault_read most digits lon lat (b ∷ bytes) o (omega arith) fault) is in
        fault_here digits lon lat (b ∷ bytes) offset (omega arith) (point_broken digits lon lat (b ∷ bytes) offset (subst (λ (p : ℕ). point_in digits lon lat (b ∷ bytes) ≡ Err p) same fault))

    by_rest : ((x y : ℤ) (bs : List ℕ) (o : ℕ) → length bs ≤ most → points_in most digits x y bs ≡ Err o → IsFaultBehind digits x y bs o) → (x y : ℤ) (taken : ℕ) → HasPoint digits lon lat (b ∷ bytes) x y taken → (r : Result Path ℕ) → points_in most digits x y (drop taken (b ∷ bytes)) ≡ r
        → points_in (suc most) digits lon lat (b ∷ bytes) ≡ behind_points ((x, y) ∷ []) taken r → IsFaultBehind digits lon lat (b ∷ bytes) offset
    by_rest inner x y taken p (Ok others) rest whole = absurd (not_both ((x, y) ∷ others) offset (points_in (suc most) digits lon lat (b ∷ bytes)) whole is)
    by_rest inner x y taken p (Err o) rest whole =
        let further : offset ≡ taken + o = same_err offset (taken + o) (points_in (suc most) digits lon lat (b ∷ bytes)) is whole in
        let follows = behind_front (b ∷ bytes) p.text p.rest taken p.bytes_is p.taken_is in
        let some = some_taken digits lon lat p.text (x, y) p.point in
        let size : length (b ∷ bytes) ≡ length p.text + length p.rest = ap length p.bytes_is ∙ length-append p.text p.rest in
        let later = inner x y p.rest o (omega arith) (subst (λ (t : List ℕ). points_in most digits x y t ≡ Err o) follows rest) in
        fault_later digits lon lat (b ∷ bytes) x y taken offset o p later further

    by : ((x y : ℤ) (bs : List ℕ) (o : ℕ) → length bs ≤ most → points_in most digits x y bs ≡ Err o → IsFaultBehind digits x y bs o) → Two digits lon lat (b ∷ bytes) → IsFaultBehind digits lon lat (b ∷ bytes) offset
    by inner (north_fault o north fault) = at o fault
    by inner (east_fault y before o north east fault) = at (before + o) fault
    by inner (both x y before k north east whole) =
        let p = two_steps digits lon lat (b ∷ bytes) x y before k (step_read digits lat (b ∷ bytes) y before north) (step_read digits lon (drop before (b ∷ bytes)) x k east) in
        by_rest inner x y (before + k) p (points_in most digits x y (drop (before + k) (b ∷ bytes))) refl (one_point_read most digits lon lat x y (b ∷ bytes) (before + k) (omega arith) whole)

-- what reading from the left gives is what the grammar says
pub answers : (digits : ℕ) (bytes : List ℕ) (r : Result (Vec (ℤ × ℤ) Global) DecodeError) → Reads digits bytes r → Answers digits bytes r
answers digits bytes (Ok points) is = path_read (length bytes) digits (pos 0) (pos 0) bytes points.items (omega arith) is
answers digits bytes (Err (BadPolyline offset)) is = path_broken (length bytes) digits (pos 0) (pos 0) bytes offset (omega arith) is
answers digits bytes (Err Memory) is = tt

pub complete : (digits : ℕ) (bytes : List ℕ) (path : Path) (r : Result (Vec (ℤ × ℤ) Global) DecodeError) → IsPath digits bytes path → Reads digits bytes r → AnswersPath path r
complete digits bytes path (Ok points) there is = same_ok points.items path (decoded digits bytes) is (path_found (length bytes) digits (pos 0) (pos 0) bytes path (omega arith) there)
complete digits bytes path (Err (BadPolyline offset)) there is = not_both path offset (decoded digits bytes) (path_found (length bytes) digits (pos 0) (pos 0) bytes path (omega arith) there) is
complete digits bytes path (Err Memory) there is = tt

of_grammar : (digits : ℕ) (bytes : List ℕ) (r : Result Path ℕ) → decoded digits bytes ≡ r → IsOfGrammar digits bytes r
of_grammar digits bytes (Ok points) is = path_read (length bytes) digits (pos 0) (pos 0) bytes points (omega arith) is
of_grammar digits bytes (Err offset) is = path_broken (length bytes) digits (pos 0) (pos 0) bytes offset (omega arith) is

-- the same of the two definitions alone
pub decoded-of_grammar : (digits : ℕ) (bytes : List ℕ) → IsOfGrammar digits bytes (decoded digits bytes)
decoded-of_grammar digits bytes = of_grammar digits bytes (decoded digits bytes) refl

pub decoded-all : (digits : ℕ) (bytes : List ℕ) (points : Path) → IsRead digits bytes points
decoded-all digits bytes points there = path_found (length bytes) digits (pos 0) (pos 0) bytes points (omega arith) there
