-- Which lines ask for a target.
use Rattle.std.proofs.Common.{◌≡◌, ℕ, ◌<◌, ◌≤◌, Bool, true, false, ◌&&◌, List, length, take, drop, refl, sym, ap, ap₂, ◌∙◌, ◌+◌, Bor}
use Rattle.std.specs.Prelude.{Option, Some, None, Result, Ok, Err, MatchOption, MatchResult, bytes_eq, codes, is_err, nat_le, option_map, if◌then◌else◌}
use Rattle.std.specs.Str.{IsUtf8, is_utf8}
use Rattle.std.proofs.lemmas.Bool.{lt-leb, le-leb}
use Rattle.std.proofs.lemmas.Str.{IsUtf8-from_is_utf8, is_utf8-from_IsUtf8}
use Rattle.reply_core.specs.Request.{asks, target_of}

if_true : (line : List ℕ) (b : Bool) → b ≡ true → ◌≡◌ {A = Option (List ℕ)} (if b then Some (drop 4 line) else None) (Some (drop 4 line))
if_true line true e = refl
if_true line false e = cc

if_false : (line : List ℕ) (b : Bool) → b ≡ false → ◌≡◌ {A = Option (List ℕ)} (if b then Some (drop 4 line) else None) None
if_false line true e = cc
if_false line false e = refl

and_false : (a b : Bool) → b ≡ false → (a && b) ≡ false
and_false true b e = e
and_false false b e = refl

not-so : (a b : Bool) → ¬ (a ≡ true) → (a && b) ≡ false
not-so true b h = absurd (h refl)
not-so false b h = refl

-- a line that is too long asks for none
pub target-long : (line : List ℕ) → 8192 < length line → None ≡ target_of line
target-long line h = sym (if_false line (asks line) (ap (λ a. a && (is_utf8 line && bytes_eq (take 4 line) (codes "GET "))) (lt-leb (length line) 8192 h)))

-- nor does one that isn't text
pub target-not_text : (line : List ℕ) → ¬ IsUtf8 line → None ≡ target_of line
target-not_text line h = sym (if_false line (asks line) (and_false (nat_le (length line) 8192) _ (not-so (is_utf8 line) _ (λ e. h (IsUtf8-from_is_utf8 line e)))))

-- one that is asks for what follows its first four bytes, where these are right
pub target-in : (line : List ℕ) (o : Option (Bor (List ℕ))) → length line ≤ 8192 → IsUtf8 line
    → MatchOption o (bytes_eq (take 4 line) (codes "GET ") ≡ false) (λ x. (bytes_eq (take 4 line) (codes "GET ") ≡ true) × (x.now ≡ drop 4 line) × (length x.now + 4 ≡ length line))
    → option_map {U = List ℕ} (λ x. x.now) o ≡ target_of line
target-in line None le text h = sym (if_false line (asks line) (and_false (nat_le (length line) 8192) _ (and_false (is_utf8 line) _ h)))
target-in line (Some x) le text h =
    let yes : asks line ≡ true = ap₂ (λ a b. a && b) (le-leb (length line) 8192 le) (ap₂ (λ a b. a && b) (is_utf8-from_IsUtf8 line text) h.0) in
    ap (λ t. Some t) h.1 ∙ sym (if_true line (asks line) yes)

-- the bytes are text where their reading as text succeeds, and else not
pub is-text : {S E : Type 0} (P : S → Type 0) (Q : E → Type 0) (line : List ℕ) (r : Result S E) → MatchResult r (λ s. P s × IsUtf8 line) (λ e. ¬ (IsUtf8 line) × Q e) → is_err r ≡ false → IsUtf8 line
is-text P Q line (Ok s) h e = h.1
is-text P Q line (Err x) h e = cc

pub is-no_text : {S E : Type 0} (P : S → Type 0) (Q : E → Type 0) (line : List ℕ) (r : Result S E) → MatchResult r (λ s. P s × IsUtf8 line) (λ e. ¬ (IsUtf8 line) × Q e) → is_err r ≡ true → ¬ (IsUtf8 line)
is-no_text P Q line (Ok s) h e = cc
is-no_text P Q line (Err x) h e = h.0
