-- How far points reach, of more and more points.
use Rattle.std.proofs.Common.{◌≡◌, ℕ, ◌+◌, ◌/◌, ◌<◌, List, ◌∷◌, length, take, get_or, sym, ap, ◌∙◌}
use Rattle.std.specs.Prelude.{ℤ, ◌-ℤ◌, fold, max, unsigned_abs}
use Rattle.std.proofs.lemmas.List.{nil_from_length}
use Rattle.std.proofs.lemmas.List.Sums.{fold_more}
use Rattle.road_base.specs.declared.coordinates.Point.{Point}
use Rattle.line_simplify.specs.Simplified.{extent_of, greatest_of, least_of, tolerance_of}

-- the greatest or the least of one point more
pub reach-more : (choose : ℤ → ℤ → ℤ) (coordinate : Point → ℤ) (first : ℤ) (points : List Point) (k : ℕ) (p : Point) (x y : ℤ) → k < length points → p ≡ get_or points k p → x ≡ fold (λ (z : ℤ) (q : Point). choose z (coordinate q)) first (take k points) → y ≡ choose x (coordinate p)
    → y ≡ fold (λ (z : ℤ) (q : Point). choose z (coordinate q)) first (take (k + 1) points)
reach-more choose coordinate first points k p x y lt is h e =
    e ∙ ap (λ (z : ℤ). choose z (coordinate p)) h
    ∙ ap (λ (q : Point). choose (fold (λ (z : ℤ) (q : Point). choose z (coordinate q)) first (take k points)) (coordinate q)) is
    ∙ sym (fold_more (λ (z : ℤ) (q : Point). choose z (coordinate q)) first points k p lt)

-- of no points
pub tolerance-none : (points : List Point) → length points ≡ 0 → 0 ≡ tolerance_of points
unfolding tolerance_of extent_of
tolerance-none points e = ap tolerance_of (sym (nil_from_length points e))

-- of all
pub tolerance-all : (points : List Point) (a : Point) (more : List Point) (width : ℕ) (west east south north : ℤ) → points ≡ a ∷ more
    → west ≡ least_of (λ p. p.lon) a.lon more → east ≡ greatest_of (λ p. p.lon) a.lon more → south ≡ least_of (λ p. p.lat) a.lat more → north ≡ greatest_of (λ p. p.lat) a.lat more
    → width ≡ max (unsigned_abs (east -ℤ west)) (unsigned_abs (north -ℤ south)) → width / 512 ≡ tolerance_of points
unfolding tolerance_of extent_of
tolerance-all points a more width west east south north e w x s n h =
    ap (λ k. k / 512) h
    ∙ ap (λ (z : ℤ). max (unsigned_abs (east -ℤ z)) (unsigned_abs (north -ℤ south)) / 512) w
    ∙ ap (λ (z : ℤ). max (unsigned_abs (z -ℤ least_of (λ (p : Point). p.lon) a.lon more)) (unsigned_abs (north -ℤ south)) / 512) x
    ∙ ap (λ (z : ℤ). max (unsigned_abs (greatest_of (λ (p : Point). p.lon) a.lon more -ℤ least_of (λ (p : Point). p.lon) a.lon more)) (unsigned_abs (north -ℤ z)) / 512) s
    ∙ ap (λ (z : ℤ). max (unsigned_abs (greatest_of (λ (p : Point). p.lon) a.lon more -ℤ least_of (λ (p : Point). p.lon) a.lon more)) (unsigned_abs (z -ℤ least_of (λ (p : Point). p.lat) a.lat more)) / 512) n
    ∙ ap tolerance_of (sym e)
