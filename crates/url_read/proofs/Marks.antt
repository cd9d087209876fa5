-- The first place that passes a test, and how often a byte stands before a place.
use Rattle.std.proofs.Common.{◌≡◌, ◌≢◌, ℕ, suc, ◌+◌, ◌-◌, ◌<◌, Bool, true, false, ◌&&◌, cond, eqb, List, length, take, get_or, Some, sym, ◌∙◌, ap, ap₂, refl, arith}
use Rattle.std.specs.List.{count_by, find, range_with_len}
use Rattle.std.proofs.lemmas.List.Sums.{count_by_more_no, count_by_more_yes}
use Rattle.std.proofs.lemmas.Bool.{ne_eqb}
use Rattle.url_read.specs.Target.{count_of, is_mark}

-- the first of the places from i on is i, or the first of those behind
pub find-from : (p : ℕ → Bool) (i size : ℕ) → i < size → find p (range_with_len i (size - i)) ≡ cond (p i) (Some i) (find p (range_with_len (i + 1) (size - (i + 1))))
find-from p i size lt =
    let more : size - i ≡ suc (size - (i + 1)) = omega arith in
    ap (λ n. find p (range_with_len i n)) more

count-next_case : (p : ℕ → Bool) (text : List ℕ) (i : ℕ) (here : Bool) → p (get_or text i 0) ≡ here → i < length text → count_by p (take (i + 1) text) ≡ count_by p (take i text) + cond here 1 0
count-next_case p text i true is lt = count_by_more_yes p text i 0 lt is
count-next_case p text i false is lt = let same = count_by_more_no p text i 0 lt is in omega arith

-- the byte at a place counts where it passes
pub count-next : (p : ℕ → Bool) (text : List ℕ) (i : ℕ) → i < length text → count_by p (take (i + 1) text) ≡ count_by p (take i text) + cond (p (get_or text i 0)) 1 0
count-next p text i lt = count-next_case p text i (p (get_or text i 0)) refl lt

other_byte : (here balanced : Bool) → here ≡ false → here && balanced ≡ false
other_byte true balanced h = cc
other_byte false balanced h = refl

unbalanced : (here balanced : Bool) → balanced ≡ false → here && balanced ≡ false
unbalanced true balanced h = h
unbalanced false balanced h = refl

module _ (target : List ℕ) (place : ℕ) where
  -- another byte is no mark
  pub is_mark-other : get_or target place 0 ≢ 63 → is_mark target place ≡ false
  is_mark-other h = other_byte (eqb (get_or target place 0) 63) _ (ne_eqb (get_or target place 0) 63 h)

  -- nor is a `?` behind an open parenthesis
  pub is_mark-unbalanced : (opened closed : ℕ) → opened ≡ count_of 40 (take place target) → closed ≡ count_of 41 (take place target) → opened ≢ closed → is_mark target place ≡ false
  is_mark-unbalanced opened closed o k h = unbalanced (eqb (get_or target place 0) 63) _ (ap₂ eqb (sym o) (sym k) ∙ ne_eqb opened closed h)

  -- where this place is no mark, the first mark stands behind it
  pub find-behind : place < length target → is_mark target place ≡ false → find (is_mark target) (range_with_len place (length target - place)) ≡ find (is_mark target) (range_with_len (place + 1) (length target - (place + 1)))
  find-behind lt h = find-from (is_mark target) place (length target) lt ∙ ap (λ b. cond b (Some place) (find (is_mark target) (range_with_len (place + 1) (length target - (place + 1))))) h
