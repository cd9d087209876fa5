-- A value of two parts, told by its parts.
use Rattle.std.proofs.Common.{◌≡◌, Option, Some, None, option_map, ap₂}
use Rattle.std.proofs.lemmas.Option.{same_Some}

module _ {B N R : Type 0} (f : B → N) (g : B → R) where
  abbrev pub both : B → N × R
  both b = (f b, g b)

  pub option_map-pair : (o : Option B) (n : N) (r : R) → option_map f o ≡ Some n → option_map (λ (p : N × R). p.1) (option_map both o) ≡ Some r
      → option_map both o ≡ Some (n, r)
  option_map-pair None n r first second = absurd (cc)
  option_map-pair (Some b) n r first second = ap₂ (λ (x : N) (y : R). let p : N × R = (x, y) in Some p) (same_Some _ _ first) (same_Some _ _ second)
