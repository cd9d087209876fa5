-- The value at the front of the bytes, by the grammar and read from the left.
use Rattle.std.proofs.Common.{◌≡◌, ◌⊎◌, inl, inr, ℕ, suc, zero, ◌+◌, ◌-◌, ◌*◌, ◌<◌, ◌≤◌, true, false, List, [], ◌∷◌, ◌++◌, length, Result, Ok, Err, refl, sym, ap, ap₂, ◌∙◌, arith, append_assoc, length-append}
use Rattle.std.proofs.lemmas.Bool.Decides.{nat_tests}
use Rattle.std.proofs.lemmas.Bool.{cond-true, cond-false, cases_lt}
use Rattle.polyline_text.specs.Grammar.{AreGroups, continued, number_of, IsValue, IsNoGroup, BreaksOff}
use Rattle.polyline_text.specs.Decoding.{is_last_group, is_group_with_more, behind_group, value_in}
use Rattle.polyline_text.proofs.Results.{same_ok, same_err, not_both}

pub value_in-last : (g b : ℕ) (bytes : List ℕ) → 63 ≤ b → b < 95 → value_in (suc g) (b ∷ bytes) ≡ Ok (b - 63, 1)
unfolding value_in
value_in-last g b bytes low high =
    let test : is_last_group b ≡ true = grind (arith, nat_tests) in
    cond-true _ _ _ test

pub value_in-more : (g b : ℕ) (bytes : List ℕ) → 95 ≤ b → b < 127 → value_in (suc g) (b ∷ bytes) ≡ behind_group (b - 95) (value_in g bytes)
unfolding value_in
value_in-more g b bytes low high =
    let test : is_last_group b ≡ false = grind (arith, nat_tests) in
    let other : is_group_with_more b ≡ true = grind (arith, nat_tests) in
    cond-false _ _ _ test ∙ cond-true _ _ _ other

value_in-none : (g b : ℕ) (bytes : List ℕ) → (b < 63) ⊎ (127 ≤ b) → value_in (suc g) (b ∷ bytes) ≡ Err 0
unfolding value_in
value_in-none g b bytes (inl low) =
    let test : is_last_group b ≡ false = grind (arith, nat_tests) in
    let other : is_group_with_more b ≡ false = grind (arith, nat_tests) in
    cond-false _ _ _ test ∙ cond-false _ _ _ other
value_in-none g b bytes (inr high) =
    let test : is_last_group b ≡ false = grind (arith, nat_tests) in
    let other : is_group_with_more b ≡ false = grind (arith, nat_tests) in
    cond-false _ _ _ test ∙ cond-false _ _ _ other

value_in-end : (g : ℕ) → value_in g [] ≡ Err 0
unfolding value_in
value_in-end zero = refl
value_in-end (suc g) = refl

value_in-zero : (b : ℕ) (bytes : List ℕ) → value_in zero (b ∷ bytes) ≡ Err 0
unfolding value_in
value_in-zero b bytes = refl

-- the last group, one that another follows, or none
data IsByte (b : ℕ) : Type 0 where
  ends : 63 ≤ b → b < 95 → IsByte b
  goes_on : 95 ≤ b → b < 127 → IsByte b
  no_group : (b < 63) ⊎ (127 ≤ b) → IsByte b

byte : (b : ℕ) → IsByte b
byte b = elim (cases_lt b 63) [
  | inl low ↦ no_group (inl low)
  | inr first ↦ elim (cases_lt b 95) [
    | inl high ↦ ends first high
    | inr second ↦ elim (cases_lt b 127) [ inl high ↦ goes_on second high | inr high ↦ no_group (inr high) ]
  ]
]

-- a value stands at the front of the bytes, and takes so many of them
pub record HasValue (most : ℕ) (bytes : List ℕ) (number taken : ℕ) : Type 0 where
  pub text : List ℕ
  pub rest : List ℕ
  pub bytes_is : bytes ≡ text ++ rest
  pub value : IsValue most text number
  pub taken_is : taken ≡ length text

one_group : (g b : ℕ) (bytes : List ℕ) (number taken : ℕ) → 63 ≤ b → b < 95 → number ≡ b - 63 → taken ≡ 1 → HasValue (suc g) (b ∷ bytes) number taken
one_group g b bytes number taken low high number_is taken_is =
    let same : 63 + (b - 63) ≡ b = omega arith in record {
      text = b ∷ [];
      rest = bytes;
      bytes_is = refl;
      value = record {
        groups = [];
        last = b - 63;
        are_groups = tt;
        is_group = omega arith;
        few = omega arith;
        text_is = ap (λ (n : ℕ). n ∷ []) (sym same);
        number_is = number_is;
      };
      taken_is = taken_is;
    }

group_more : (g b : ℕ) (bytes : List ℕ) (number taken n k : ℕ) → 95 ≤ b → b < 127 → HasValue g bytes n k → number ≡ b - 95 + 32 * n → taken ≡ k + 1 → HasValue (suc g) (b ∷ bytes) number taken
group_more g b bytes number taken n k low high v number_is taken_is =
    let same : 95 + (b - 95) ≡ b = omega arith in
    let w = v.value in record {
      text = b ∷ v.text;
      rest = v.rest;
      bytes_is = ap (λ (t : List ℕ). b ∷ t) v.bytes_is;
      value = record {
        groups = (b - 95) ∷ w.groups;
        last = w.last;
        are_groups = (omega arith, w.are_groups);
        is_group = w.is_group;
        few = omega (arith, w.few);
        text_is = ap₂ (λ (x : ℕ) (t : List ℕ). x ∷ t) (sym same) w.text_is;
        number_is = number_is ∙ ap (λ (m : ℕ). b - 95 + 32 * m) w.number_is;
      };
      taken_is = taken_is ∙ omega (arith, v.taken_is);
    }

-- a value that was read stands there
pub value_read : (g : ℕ) (bytes : List ℕ) (number taken : ℕ) → value_in g bytes ≡ Ok (number, taken) → HasValue g bytes number taken
value_read g [] number taken is = absurd (not_both (number, taken) 0 (value_in g []) is (value_in-end g))
value_read zero (b ∷ bytes) number taken is = absurd (not_both (number, taken) 0 (value_in zero (b ∷ bytes)) is (value_in-zero b bytes))
value_read (suc g) (b ∷ bytes) number taken is = by_byte (λ n k there. value_read g bytes n k there) (byte b)
  where
    by_rest : ((n k : ℕ) → value_in g bytes ≡ Ok (n, k) → HasValue g bytes n k) → 95 ≤ b → b < 127 → (r : Result (ℕ × ℕ) ℕ) → value_in g bytes ≡ r → HasValue (suc g) (b ∷ bytes) number taken
    by_rest inner low high (Ok (n, k)) there =
        let whole : value_in (suc g) (b ∷ bytes) ≡ Ok (b - 95 + 32 * n, k + 1) = value_in-more g b bytes low high ∙ ap (behind_group (b - 95)) there in
        let same = same_ok (number, taken) (b - 95 + 32 * n, k + 1) (value_in (suc g) (b ∷ bytes)) is whole in
        group_more g b bytes number taken n k low high (inner n k there) (ap (λ (p : ℕ × ℕ). p.0) same) (ap (λ (p : ℕ × ℕ). p.1) same)
    by_rest inner low high (Err o) there =
        absurd (not_both (number, taken) (o + 1) (value_in (suc g) (b ∷ bytes)) is (value_in-more g b bytes low high ∙ ap (behind_group (b - 95)) there))

    by_byte : ((n k : ℕ) → value_in g bytes ≡ Ok (n, k) → HasValue g bytes n k) → IsByte b → HasValue (suc g) (b ∷ bytes) number taken
    by_byte inner (ends low high) =
        let same = same_ok (number, taken) (b - 63, 1) (value_in (suc g) (b ∷ bytes)) is (value_in-last g b bytes low high) in
        one_group g b bytes number taken low high (ap (λ (p : ℕ × ℕ). p.0) same) (ap (λ (p : ℕ × ℕ). p.1) same)
    by_byte inner (goes_on low high) = by_rest inner low high (value_in g bytes) refl
    by_byte inner (no_group out) = absurd (not_both (number, taken) 0 (value_in (suc g) (b ∷ bytes)) is (value_in-none g b bytes out))

groups_found : (groups : List ℕ) (last g : ℕ) (rest : List ℕ) → AreGroups groups → last < 32 → length groups < g
    → value_in g (continued groups ++ (63 + last) ∷ rest) ≡ Ok (number_of groups last, length groups + 1)
groups_found [] last zero rest all low few = absurd (omega arith)
groups_found [] last (suc g) rest all low few =
    let number : 63 + last - 63 ≡ last = omega arith in
    value_in-last g (63 + last) rest (omega arith) (omega arith) ∙ ap (λ (m : ℕ). Ok (m, 1)) number
groups_found (bits ∷ groups) last zero rest all low few = absurd (omega arith)
groups_found (bits ∷ groups) last (suc g) rest all low few =
    let small : bits < 32 = all.0 in
    let number : 95 + bits - 95 + 32 * number_of groups last ≡ bits + 32 * number_of groups last = omega arith in
    let count : length groups + 1 + 1 ≡ length (bits ∷ groups) + 1 = omega arith in
    value_in-more g (95 + bits) (continued groups ++ (63 + last) ∷ rest) (omega arith) (omega arith)
    ∙ ap (behind_group (95 + bits - 95)) (groups_found groups last g rest all.1 low (omega arith))
    ∙ ap₂ (λ (m k : ℕ). Ok (m, k)) number count

length-continued : (groups : List ℕ) → length (continued groups) ≡ length groups
length-continued [] = refl
length-continued (bits ∷ groups) = ap suc (length-continued groups)

-- a value that stands there is read
pub value_found : (g : ℕ) (text : List ℕ) (number : ℕ) (rest : List ℕ) → IsValue g text number → value_in g (text ++ rest) ≡ Ok (number, length text)
value_found g text number rest v =
    let front : text ++ rest ≡ continued v.groups ++ (63 + v.last) ∷ rest = rw v.text_is (append_assoc (continued v.groups) ((63 + v.last) ∷ []) rest) in
    let count : length v.groups + 1 ≡ length text = rw v.text_is (omega (arith, length-append (continued v.groups) ((63 + v.last) ∷ []), length-continued v.groups)) in
    ap (value_in g) front ∙ groups_found v.groups v.last g rest v.are_groups v.is_group v.few ∙ ap₂ (λ (m k : ℕ). Ok (m, k)) (sym v.number_is) count

breaks_at_front : (g : ℕ) (bytes : List ℕ) (offset : ℕ) → IsNoGroup g 0 bytes → offset ≡ 0 → BreaksOff g bytes offset
breaks_at_front g bytes offset none offset_is = record { groups = []; rest = bytes; are_groups = tt; few = omega arith; text_is = refl; none = none; offset_is = offset_is }

none_behind : (g k : ℕ) (rest : List ℕ) → IsNoGroup g k rest → IsNoGroup (suc g) (suc k) rest
none_behind g k [] none = tt
none_behind g k (b ∷ bytes) (inl most) = inl (ap suc most)
none_behind g k (b ∷ bytes) (inr out) = inr out

-- a fault that was found breaks the value off
pub value_broken : (g : ℕ) (bytes : List ℕ) (offset : ℕ) → value_in g bytes ≡ Err offset → BreaksOff g bytes offset
value_broken g [] offset is = breaks_at_front g [] offset tt (same_err offset 0 (value_in g []) is (value_in-end g))
value_broken zero (b ∷ bytes) offset is = breaks_at_front zero (b ∷ bytes) offset (inl refl) (same_err offset 0 (value_in zero (b ∷ bytes)) is (value_in-zero b bytes))
value_broken (suc g) (b ∷ bytes) offset is = by_byte (λ o there. value_broken g bytes o there) (byte b)
  where
    by_rest : ((o : ℕ) → value_in g bytes ≡ Err o → BreaksOff g bytes o) → 95 ≤ b → b < 127 → (r : Result (ℕ × ℕ) ℕ) → value_in g bytes ≡ r → BreaksOff (suc g) (b ∷ bytes) offset
    by_rest inner low high (Ok (n, k)) there =
        absurd (not_both (b - 95 + 32 * n, k + 1) offset (value_in (suc g) (b ∷ bytes)) (value_in-more g b bytes low high ∙ ap (behind_group (b - 95)) there) is)
    by_rest inner low high (Err o) there =
        let further : offset ≡ o + 1 = same_err offset (o + 1) (value_in (suc g) (b ∷ bytes)) is (value_in-more g b bytes low high ∙ ap (behind_group (b - 95)) there) in
        let v = inner o there in
        let same : 95 + (b - 95) ≡ b = omega arith in record {
          groups = (b - 95) ∷ v.groups;
          rest = v.rest;
          are_groups = (omega arith, v.are_groups);
          few = omega (arith, v.few);
          text_is = ap₂ (λ (x : ℕ) (t : List ℕ). x ∷ t) (sym same) v.text_is;
          none = none_behind g (length v.groups) v.rest v.none;
          offset_is = further ∙ omega (arith, v.offset_is);
        }

    by_byte : ((o : ℕ) → value_in g bytes ≡ Err o → BreaksOff g bytes o) → IsByte b → BreaksOff (suc g) (b ∷ bytes) offset
    by_byte inner (ends low high) = absurd (not_both (b - 63, 1) offset (value_in (suc g) (b ∷ bytes)) (value_in-last g b bytes low high) is)
    by_byte inner (goes_on low high) = by_rest inner low high (value_in g bytes) refl
    by_byte inner (no_group out) = breaks_at_front (suc g) (b ∷ bytes) offset (inr out) (same_err offset 0 (value_in (suc g) (b ∷ bytes)) is (value_in-none g b bytes out))
