-- Points read from the front of the bytes.
use Rattle.std.proofs.Common.{◌≡◌, ℕ, suc, zero, ℤ, pos, negsuc, ◌+◌, ◌-◌, ◌<◌, ◌≤◌, nat_lt, Bool, true, false, List, [], ◌∷◌, ◌++◌, length, drop, Result, Ok, Err, refl, sym, ap, ◌∙◌, subst, arith, append_assoc, append-nil, add_assoc, length-drop}
use Rattle.std.proofs.lemmas.List.{nil_from_length, drop-drop}
use Rattle.std.proofs.lemmas.Bool.Decides.{nat_tests}
use Rattle.std.proofs.lemmas.Bool.{cond-true, cond-false}
use Rattle.std.proofs.lemmas.Int.{ints}
use Rattle.std.specs.Prelude.{FitsSigned}
use Rattle.std.specs.Int.{w32}
use Rattle.polyline_text.specs.Grammar.{Path}
use Rattle.polyline_text.specs.Decoding.{checked, coordinate_in, longitude_behind, with_latitude, point_in, behind_points, points_behind, points_in, decoded}

pub checked-fits : (sum : ℤ) (taken : ℕ) → FitsSigned w32 sum → checked sum taken ≡ Ok (sum, taken)
checked-fits (pos n) taken fits =
    let small : n < 2147483648 = omega (arith, ints, fits) in
    let test : nat_lt n 2147483648 ≡ true = grind (arith, nat_tests) in
    cond-true _ _ _ test
checked-fits (negsuc n) taken fits =
    let small : n < 2147483648 = omega (arith, ints, fits) in
    let test : nat_lt n 2147483648 ≡ true = grind (arith, nat_tests) in
    cond-true _ _ _ test

pub checked-leaves : (sum : ℤ) (taken : ℕ) → ¬ (FitsSigned w32 sum) → checked sum taken ≡ Err (taken - 1)
checked-leaves (pos n) taken leaves = leaves_by (nat_lt n 2147483648) refl
  where
    leaves_by : (t : Bool) → nat_lt n 2147483648 ≡ t → checked (pos n) taken ≡ Err (taken - 1)
    leaves_by false test = cond-false _ _ _ test
    leaves_by true test =
        let small : n < 2147483648 = grind (arith, nat_tests) in
        absurd (leaves (omega (arith, ints)))
checked-leaves (negsuc n) taken leaves = leaves_by (nat_lt n 2147483648) refl
  where
    leaves_by : (t : Bool) → nat_lt n 2147483648 ≡ t → checked (negsuc n) taken ≡ Err (taken - 1)
    leaves_by false test = cond-false _ _ _ test
    leaves_by true test =
        let small : n < 2147483648 = grind (arith, nat_tests) in
        absurd (leaves (omega (arith, ints)))

-- a point read
pub point_of : (digits : ℕ) (lon lat next_lon next_lat : ℤ) (bytes : List ℕ) (before taken : ℕ)
    → Ok (next_lat, before) ≡ coordinate_in digits lat bytes → Ok (next_lon, taken) ≡ coordinate_in digits lon (drop before bytes)
    → Ok (next_lon, next_lat, before + taken) ≡ point_in digits lon lat bytes
point_of digits lon lat next_lon next_lat bytes before taken north east =
    ap (with_latitude next_lat before) east ∙ ap (longitude_behind digits lon bytes) north

-- points that are behind others
behind_points-behind_points : (ps qs : Path) (m n : ℕ) (r : Result Path ℕ)
    → behind_points ps m (behind_points qs n r) ≡ behind_points (ps ++ qs) (m + n) r
behind_points-behind_points ps qs m n (Ok others) = ap Ok (sym (append_assoc ps qs others))
behind_points-behind_points ps qs m n (Err offset) = ap Err (sym (add_assoc m n offset))

-- one more point of those that are left
pub one_point_read : (most digits : ℕ) (lon lat next_lon next_lat : ℤ) (bytes : List ℕ) (taken : ℕ)
    → 0 < length bytes → point_in digits lon lat bytes ≡ Ok (next_lon, next_lat, taken)
    → points_in (suc most) digits lon lat bytes ≡ behind_points ((next_lon, next_lat) ∷ []) taken (points_in most digits next_lon next_lat (drop taken bytes))
unfolding points_in
one_point_read most digits lon lat next_lon next_lat [] taken some reads = absurd (omega arith)
one_point_read most digits lon lat next_lon next_lat (b ∷ bytes) taken some reads = ap (points_behind (points_in most digits) (b ∷ bytes)) reads

-- a fault at the next point
pub fault_read : (most digits : ℕ) (lon lat : ℤ) (bytes : List ℕ) (offset : ℕ)
    → 0 < length bytes → point_in digits lon lat bytes ≡ Err offset → points_in (suc most) digits lon lat bytes ≡ Err offset
unfolding points_in
fault_read most digits lon lat [] offset some reads = absurd (omega arith)
fault_read most digits lon lat (b ∷ bytes) offset some reads = ap (points_behind (points_in most digits) (b ∷ bytes)) reads

-- nothing left
pub end_read : (most digits : ℕ) (lon lat : ℤ) → points_in most digits lon lat [] ≡ Ok []
unfolding points_in
end_read zero digits lon lat = refl
end_read (suc most) digits lon lat = refl

-- an iteration that reads a point
pub point_taken : (digits at taken most : ℕ) (bytes : List ℕ) (points next : Path) (lon lat next_lon next_lat : ℤ)
    → at < length bytes → length (drop at bytes) ≤ most
    → decoded digits bytes ≡ behind_points points at (points_in most digits lon lat (drop at bytes))
    → Ok (next_lon, next_lat, taken) ≡ point_in digits lon lat (drop at bytes)
    → 0 < taken → taken ≤ length (drop at bytes) → next ≡ points ++ (next_lon, next_lat) ∷ []
    → (at + taken ≤ length bytes) × ((m : ℕ) × (length (drop (at + taken) bytes) ≤ m)
    × (decoded digits bytes ≡ behind_points next (at + taken) (points_in m digits next_lon next_lat (drop (at + taken) bytes))))
point_taken digits at taken zero bytes points next lon lat next_lon next_lat inside few is reads some within pushed = absurd (omega (arith, length-drop at bytes))
point_taken digits at taken (suc m) bytes points next lon lat next_lon next_lat inside few is reads some within pushed =
    let left : 0 < length (drop at bytes) = omega (arith, length-drop at bytes) in
    let one = one_point_read m digits lon lat next_lon next_lat (drop at bytes) taken left (sym reads) in
    let further = behind_points-behind_points points ((next_lon, next_lat) ∷ []) at taken (points_in m digits next_lon next_lat (drop taken (drop at bytes))) in
    let whole = is ∙ ap (behind_points points at) one ∙ further in (
      omega (arith, length-drop at bytes),
      (
        m,
        omega (arith, length-drop at bytes, length-drop (at + taken) bytes),
        rw pushed (subst (λ (t : List ℕ). decoded digits bytes ≡ behind_points (points ++ (next_lon, next_lat) ∷ []) (at + taken) (points_in m digits next_lon next_lat t)) (drop-drop taken at bytes) whole),
      ),
    )

-- an iteration that finds a fault
pub fault_found : (digits at offset most : ℕ) (bytes : List ℕ) (points : Path) (lon lat : ℤ)
    → at < length bytes → length (drop at bytes) ≤ most
    → decoded digits bytes ≡ behind_points points at (points_in most digits lon lat (drop at bytes))
    → Err offset ≡ point_in digits lon lat (drop at bytes) → decoded digits bytes ≡ Err (at + offset)
fault_found digits at offset zero bytes points lon lat inside few is reads = absurd (omega (arith, length-drop at bytes))
fault_found digits at offset (suc m) bytes points lon lat inside few is reads =
    let left : 0 < length (drop at bytes) = omega (arith, length-drop at bytes) in
    is ∙ ap (behind_points points at) (fault_read m digits lon lat (drop at bytes) offset left (sym reads))

-- the end of the bytes
pub all_taken : (digits at most : ℕ) (bytes : List ℕ) (points : Path) (lon lat : ℤ) → length bytes ≤ at
    → decoded digits bytes ≡ behind_points points at (points_in most digits lon lat (drop at bytes)) → decoded digits bytes ≡ Ok points
all_taken digits at most bytes points lon lat all is =
    let none : drop at bytes ≡ [] = nil_from_length _ (omega (arith, length-drop at bytes)) in
    is ∙ ap (λ (t : List ℕ). behind_points points at (points_in most digits lon lat t)) none
    ∙ ap (behind_points points at) (end_read most digits lon lat) ∙ ap Ok (append-nil points)
