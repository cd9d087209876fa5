-- What lies within an extent is no farther off a line than the bound says.
use Rattle.std.proofs.Common.{◌≡◌, ℕ, zero, suc, ◌+◌, ◌-◌, ◌*◌, ◌/◌, ◌<◌, ◌≤◌, ◌⊎◌, inl, inr, sym, ap, ◌∙◌, subst, arith}
use borrow.Author.Differences.{down, product_is, same_in, sum_is_lem, up}
use Rattle.std.specs.Prelude.{ℤ, pos, negsuc, ◌+ℤ◌, ◌-ℤ◌, ◌*ℤ◌, ◌≤ℤ◌, ◌<ℤ◌, max, unsigned_abs}
use Rattle.std.specs.Int.{int_div_euclid}
use Rattle.std.proofs.Math.Nat.{mul-le-mul}
use Rattle.std.proofs.lemmas.Int.{ints}
use Rattle.std.proofs.lemmas.Nat.{div-add-mod', le-div}
use Rattle.geo_integer.specs.Plane.{cosine_between, cosine_of, middle_latitude, plane_between, plane_of}
use Rattle.geo_integer.specs.Position.{Position, position_of}
use Rattle.geo_integer.specs.Project.{coordinate_at, part_of, place_of, position_at, scalar_product}
use Rattle.list_lemmas.proofs.Between.{LiesBetween, between-add, between-part}
use Rattle.road_base.specs.Earth.{IsOnEarth}
use Rattle.road_base.specs.declared.coordinates.Point.{Point}
use Rattle.line_simplify.specs.Blocks.{HasPoint}
use Rattle.line_simplify.specs.Bounds.{AreOutermost, GoAlike, GoApart}
use Rattle.line_simplify.specs.Simplified.{offset_of}
use Rattle.line_simplify.specs.declared.bounds.Chord.{Chord}
use Rattle.line_simplify.specs.declared.extents.Extent.{Extent}
use Rattle.line_simplify.proofs.Gaps.{axis-grows, share-bound, slack_of}

le_refl : (n : ℕ) → n ≤ n
le_refl n = omega arith

-- the sign of a product
mul-below : (u v : ℤ) → ((pos 0 ≤ℤ u) × (v ≤ℤ pos 0)) ⊎ ((u ≤ℤ pos 0) × (pos 0 ≤ℤ v)) → (u *ℤ v) ≤ℤ pos 0
mul-below (pos a) (pos zero) s = omega (arith, ints)
mul-below (pos a) (negsuc b) s = omega (arith, ints)
mul-below (pos zero) (pos b) s = omega (arith, ints)
mul-below (pos (suc a)) (pos (suc b)) (inl s) = let le = s.1 in absurd (omega (arith, ints, le))
mul-below (pos (suc a)) (pos (suc b)) (inr s) = let le = s.0 in absurd (omega (arith, ints, le))
mul-below (negsuc a) (pos b) s = omega (arith, ints)
mul-below (negsuc a) (negsuc b) (inl s) = let le = s.0 in absurd (omega (arith, ints, le))
mul-below (negsuc a) (negsuc b) (inr s) = let le = s.1 in absurd (omega (arith, ints, le))

mul-above : (u v : ℤ) → ((pos 0 ≤ℤ u) × (pos 0 ≤ℤ v)) ⊎ ((u ≤ℤ pos 0) × (v ≤ℤ pos 0)) → pos 0 ≤ℤ (u *ℤ v)
mul-above (pos a) (pos b) s = omega (arith, ints)
mul-above (pos zero) (negsuc b) s = omega (arith, ints)
mul-above (pos (suc a)) (negsuc b) (inl s) = let le = s.1 in absurd (omega (arith, ints, le))
mul-above (pos (suc a)) (negsuc b) (inr s) = let le = s.0 in absurd (omega (arith, ints, le))
mul-above (negsuc a) (pos zero) s = omega (arith, ints)
mul-above (negsuc a) (pos (suc b)) (inl s) = let le = s.0 in absurd (omega (arith, ints, le))
mul-above (negsuc a) (pos (suc b)) (inr s) = let le = s.1 in absurd (omega (arith, ints, le))
mul-above (negsuc a) (negsuc b) s = omega (arith, ints)

times-above : (h : ℤ) (k : ℕ) → pos 0 ≤ℤ h → pos 0 ≤ℤ (h *ℤ pos k)
times-above (pos a) k le = omega (arith, ints)
times-above (negsuc a) k le = absurd (omega (arith, ints))

times-below : (h : ℤ) (k : ℕ) → h ≤ℤ pos 0 → (h *ℤ pos k) ≤ℤ pos 0
times-below (pos zero) k le = omega (arith, ints)
times-below (pos (suc a)) k le = absurd (omega (arith, ints))
times-below (negsuc a) k le = omega (arith, ints)

product-below : (h v : ℤ) (k : ℕ) → ((pos 0 ≤ℤ h) × (v ≤ℤ pos 0)) ⊎ ((h ≤ℤ pos 0) × (pos 0 ≤ℤ v)) → (h *ℤ pos k *ℤ v) ≤ℤ pos 0
product-below h v k (inl s) = mul-below (h *ℤ pos k) v (inl (times-above h k s.0, s.1))
product-below h v k (inr s) = mul-below (h *ℤ pos k) v (inr (times-below h k s.0, s.1))

product-above : (h v : ℤ) (k : ℕ) → ((pos 0 ≤ℤ h) × (pos 0 ≤ℤ v)) ⊎ ((h ≤ℤ pos 0) × (v ≤ℤ pos 0)) → pos 0 ≤ℤ (h *ℤ pos k *ℤ v)
product-above h v k (inl s) = mul-above (h *ℤ pos k) v (inl (times-above h k s.0, s.1))
product-above h v k (inr s) = mul-above (h *ℤ pos k) v (inr (times-below h k s.0, s.1))

-- a point that lies farther along one axis, and along the other on the side from which a line comes
abbrev Sides : ℤ → ℤ → ℤ → Type 0
Sides g h v = (GoAlike g h × (v ≤ℤ pos 0)) ⊎ (GoApart g h × (pos 0 ≤ℤ v))

sides-of : (g h v : ℤ) (k : ℕ) → Sides g h v → ((pos 0 ≤ℤ g) × ((h *ℤ pos k *ℤ v) ≤ℤ pos 0)) ⊎ ((g ≤ℤ pos 0) × (pos 0 ≤ℤ (h *ℤ pos k *ℤ v)))
sides-of g h v k (inl (inl up, le)) = inl (up.0, product-below h v k (inl (up.1, le)))
sides-of g h v k (inl (inr down, le)) = inr (down.0, product-above h v k (inr (down.1, le)))
sides-of g h v k (inr (inl up, le)) = inl (up.0, product-below h v k (inr (up.1, le)))
sides-of g h v k (inr (inr down, le)) = inr (down.0, product-above h v k (inl (down.1, le)))

alike-swap : (g h : ℤ) → GoAlike g h → GoAlike h g
alike-swap g h (inl s) = inl (s.1, s.0)
alike-swap g h (inr s) = inr (s.1, s.0)

apart-swap : (g h : ℤ) → GoApart g h → GoApart h g
apart-swap g h (inl s) = inr (s.1, s.0)
apart-swap g h (inr s) = inl (s.1, s.0)

-- products of whole numbers, each read as `up z - down z`
times-comm : (x y : ℤ) → x *ℤ y ≡ y *ℤ x
times-comm x y = omega (arith, ints)

times-assoc : (x y z : ℤ) → (x *ℤ y) *ℤ z ≡ x *ℤ (y *ℤ z)
times-assoc x y z =
    let xy = product_is x y in
    let yz = product_is y z in
    let by = λ (k : ℕ) (m n : ℕ) (e : m ≡ n). ap (λ (w : ℕ). w * k) e in
    let left = product_is (x *ℤ y) z in
    let right = product_is x (y *ℤ z) in
    same_in ((x *ℤ y) *ℤ z) (x *ℤ (y *ℤ z))
    (omega (arith, by (up z) _ _ xy.0, by (down z) _ _ xy.1, by (down z) _ _ xy.0, by (up z) _ _ xy.1, by (up x) _ _ yz.0, by (down x) _ _ yz.1, by (down x) _ _ yz.0, by (up x) _ _ yz.1))

times-sum : (x y z : ℤ) → x *ℤ (y +ℤ z) ≡ (x *ℤ y) +ℤ (x *ℤ z)
times-sum x y z =
    let e = sum_is_lem y z in
    let right = sum_is_lem (x *ℤ y) (x *ℤ z) in
    let whole = product_is x (y +ℤ z) in
    let first = product_is x y in
    let second = product_is x z in
    same_in (x *ℤ (y +ℤ z)) ((x *ℤ y) +ℤ (x *ℤ z)) (omega (arith, ap (λ (n : ℕ). up x * n) e, ap (λ (n : ℕ). down x * n) e))

-- both factors times a number
times-both : (g d : ℤ) (c : ℕ) → (g *ℤ pos c) *ℤ (d *ℤ pos c) ≡ (g *ℤ pos (c * c)) *ℤ d
times-both g d c =
    times-assoc g (pos c) (d *ℤ pos c)
    ∙ ap (λ (z : ℤ). g *ℤ z) (times-comm (pos c) (d *ℤ pos c) ∙ times-assoc d (pos c) (pos c) ∙ times-comm d (pos (c * c)))
    ∙ sym (times-assoc g (pos (c * c)) d)

times-more : (g e d : ℤ) (c : ℕ) → (g *ℤ pos c) *ℤ ((e +ℤ d) *ℤ pos c) ≡ ((g *ℤ pos c) *ℤ (e *ℤ pos c)) +ℤ ((g *ℤ pos (c * c)) *ℤ d)
times-more g e d c =
    ap (λ (z : ℤ). (g *ℤ pos c) *ℤ z) (times-comm (e +ℤ d) (pos c) ∙ times-sum (pos c) e d)
    ∙ times-sum (g *ℤ pos c) (pos c *ℤ e) (pos c *ℤ d)
    ∙ ap (λ (z : ℤ). ((g *ℤ pos c) *ℤ z) +ℤ ((g *ℤ pos c) *ℤ (pos c *ℤ d))) (times-comm (pos c) e)
    ∙ ap (λ (z : ℤ). ((g *ℤ pos c) *ℤ (e *ℤ pos c)) +ℤ z) (ap (λ (z : ℤ). (g *ℤ pos c) *ℤ z) (times-comm (pos c) d) ∙ times-both g d c)

sums-first : (x y z w r s : ℤ) → x ≡ y +ℤ z → w ≡ r +ℤ s → x +ℤ w ≡ ((y +ℤ r) +ℤ z) +ℤ s
sums-first x y z w r s e f = omega (arith, ints, e, f)

sums-second : (x y z w r s : ℤ) → x ≡ y +ℤ z → w ≡ r +ℤ s → x +ℤ w ≡ ((y +ℤ r) +ℤ s) +ℤ z
sums-second x y z w r s e f = omega (arith, ints, e, f)

-- the scalar product of a point in terms of that of another
product-lon : (g h e n v : ℤ) (c d : ℕ) → ((g *ℤ pos c) *ℤ ((e +ℤ pos d) *ℤ pos c)) +ℤ ((h *ℤ pos 65536) *ℤ ((n +ℤ v) *ℤ pos 65536)) ≡ ((((g *ℤ pos c) *ℤ (e *ℤ pos c)) +ℤ ((h *ℤ pos 65536) *ℤ (n *ℤ pos 65536))) +ℤ (g *ℤ pos (c * c) *ℤ pos d)) +ℤ (h *ℤ pos 4294967296 *ℤ v)
product-lon g h e n v c d =
    sums-first ((g *ℤ pos c) *ℤ ((e +ℤ pos d) *ℤ pos c)) ((g *ℤ pos c) *ℤ (e *ℤ pos c)) (g *ℤ pos (c * c) *ℤ pos d) ((h *ℤ pos 65536) *ℤ ((n +ℤ v) *ℤ pos 65536)) ((h *ℤ pos 65536) *ℤ (n *ℤ pos 65536)) (h *ℤ pos 4294967296 *ℤ v)
    (times-more g e (pos d) c) (times-more h n v 65536)

product-lat : (g h e n v : ℤ) (c d : ℕ) → ((g *ℤ pos c) *ℤ ((e +ℤ v) *ℤ pos c)) +ℤ ((h *ℤ pos 65536) *ℤ ((n +ℤ pos d) *ℤ pos 65536)) ≡ ((((g *ℤ pos c) *ℤ (e *ℤ pos c)) +ℤ ((h *ℤ pos 65536) *ℤ (n *ℤ pos 65536))) +ℤ (h *ℤ pos 4294967296 *ℤ pos d)) +ℤ (g *ℤ pos (c * c) *ℤ v)
product-lat g h e n v c d =
    sums-second ((g *ℤ pos c) *ℤ ((e +ℤ v) *ℤ pos c)) ((g *ℤ pos c) *ℤ (e *ℤ pos c)) (g *ℤ pos (c * c) *ℤ v) ((h *ℤ pos 65536) *ℤ ((n +ℤ pos d) *ℤ pos 65536)) ((h *ℤ pos 65536) *ℤ (n *ℤ pos 65536)) (h *ℤ pos 4294967296 *ℤ pos d)
    (times-more g e v c) (times-more h n (pos d) 65536)

whole-lon : (m n c : ℕ) → m * m * (c * c) ≤ m * c * (m * c) + n * 65536 * (n * 65536)
whole-lon m n c = omega arith

whole-lat : (m n c : ℕ) → n * n * 4294967296 ≤ m * c * (m * c) + n * 65536 * (n * 65536)
whole-lat m n c = omega arith

module _ (a b p q : Position) (d : ℕ) where
  c : ℕ
  c = cosine_between a b

  g : ℤ
  g = b.lon -ℤ a.lon

  h : ℤ
  h = b.lat -ℤ a.lat

  -- a point that lies d farther east: its place does so by no more
  pub lon-grows : p.lon ≡ q.lon +ℤ pos d → Sides (b.lon -ℤ a.lon) (b.lat -ℤ a.lat) (p.lat -ℤ q.lat) → coordinate_at a.lon b.lon (place_of p a b) ≤ℤ ((coordinate_at a.lon b.lon (place_of q a b) +ℤ pos d) +ℤ pos (slack_of a.lon b.lon))
  unfolding c g h
  lon-grows e sides =
      let v = p.lat -ℤ q.lat in
      let x : p.lon -ℤ a.lon ≡ (q.lon -ℤ a.lon) +ℤ pos d = omega (arith, ints, e) in
      let y : p.lat -ℤ a.lat ≡ (q.lat -ℤ a.lat) +ℤ (p.lat -ℤ q.lat) = omega (arith, ints) in
      let sum : scalar_product p a b ≡ (scalar_product q a b +ℤ (g *ℤ pos (c * c) *ℤ pos d)) +ℤ (h *ℤ pos 4294967296 *ℤ v) =
      ap (λ (z : ℤ). ((g *ℤ pos c) *ℤ (z *ℤ pos c)) +ℤ ((h *ℤ pos 65536) *ℤ ((p.lat -ℤ a.lat) *ℤ pos 65536))) x
      ∙ ap (λ (z : ℤ). ((g *ℤ pos c) *ℤ (((q.lon -ℤ a.lon) +ℤ pos d) *ℤ pos c)) +ℤ ((h *ℤ pos 65536) *ℤ (z *ℤ pos 65536))) y
      ∙ product-lon g h (q.lon -ℤ a.lon) (q.lat -ℤ a.lat) v c d in
      axis-grows a.lon b.lon (scalar_product p a b) (scalar_product q a b) (h *ℤ pos 4294967296 *ℤ v) (plane_between a b) (c * c) d (whole-lon (unsigned_abs g) (unsigned_abs h) c) sum (sides-of g h v 4294967296 sides)

  -- or north
  pub lat-grows : p.lat ≡ q.lat +ℤ pos d → Sides (b.lat -ℤ a.lat) (b.lon -ℤ a.lon) (p.lon -ℤ q.lon) → coordinate_at a.lat b.lat (place_of p a b) ≤ℤ ((coordinate_at a.lat b.lat (place_of q a b) +ℤ pos d) +ℤ pos (slack_of a.lat b.lat))
  unfolding c g h
  lat-grows e sides =
      let v = p.lon -ℤ q.lon in
      let x : p.lat -ℤ a.lat ≡ (q.lat -ℤ a.lat) +ℤ pos d = omega (arith, ints, e) in
      let y : p.lon -ℤ a.lon ≡ (q.lon -ℤ a.lon) +ℤ (p.lon -ℤ q.lon) = omega (arith, ints) in
      let sum : scalar_product p a b ≡ (scalar_product q a b +ℤ (h *ℤ pos 4294967296 *ℤ pos d)) +ℤ (g *ℤ pos (c * c) *ℤ v) =
      ap (λ (z : ℤ). ((g *ℤ pos c) *ℤ (z *ℤ pos c)) +ℤ ((h *ℤ pos 65536) *ℤ ((p.lat -ℤ a.lat) *ℤ pos 65536))) y
      ∙ ap (λ (z : ℤ). ((g *ℤ pos c) *ℤ (((q.lon -ℤ a.lon) +ℤ v) *ℤ pos c)) +ℤ ((h *ℤ pos 65536) *ℤ (z *ℤ pos 65536))) x
      ∙ product-lat g h (q.lon -ℤ a.lon) (q.lat -ℤ a.lat) v c d in
      axis-grows a.lat b.lat (scalar_product p a b) (scalar_product q a b) (g *ℤ pos (c * c) *ℤ v) (plane_between a b) 4294967296 d (whole-lat (unsigned_abs g) (unsigned_abs h) c) sum (sides-of h g v (c * c) sides)

-- a number between two others, but for the slack
between-two : (f one other : ℤ) (s : ℕ) → f ≤ℤ (one +ℤ pos s) → other ≤ℤ (f +ℤ pos s) → unsigned_abs f ≤ max (unsigned_abs one) (unsigned_abs other) + s
between-two f one other s high low = omega (arith, ints, high, low)

gap-between : (x y z u v w : ℤ) (s d e : ℕ) → u ≡ v +ℤ pos d → w ≡ u +ℤ pos e → x ≤ℤ ((y +ℤ pos d) +ℤ pos s) → z ≤ℤ ((x +ℤ pos e) +ℤ pos s) → unsigned_abs (x -ℤ u) ≤ max (unsigned_abs (y -ℤ v)) (unsigned_abs (z -ℤ w)) + s
gap-between x y z u v w s d e i j high low = between-two (x -ℤ u) (y -ℤ v) (z -ℤ w) s (omega (arith, ints, i, high)) (omega (arith, ints, j, low))

steps-up : (x y : ℤ) → x ≤ℤ y → y ≡ x +ℤ pos (unsigned_abs (y -ℤ x))
steps-up x y le = omega (arith, ints, le)

pub same_max : (a b x y n s : ℕ) → x ≡ a → y ≡ b → n ≤ max a b + s → n ≤ max x y + s
same_max a b x y n s e f h = omega (arith, e, f, h)

swap_max : (a b n s : ℕ) → n ≤ max a b + s → n ≤ max b a + s
swap_max a b n s h = omega (arith, h)

-- where the nearest place on a line lies
abbrev pub lon_of : Chord → Point → ℤ
lon_of line p = coordinate_at line.from.lon line.to.lon (place_of (position_of p) (position_of line.from) (position_of line.to))

abbrev pub lat_of : Chord → Point → ℤ
lat_of line p = coordinate_at line.from.lat line.to.lat (place_of (position_of p) (position_of line.from) (position_of line.to))

-- the way from a point of an extent to its place is no longer along either axis than from two of the corners
module _ (line : Chord) (extent : Extent) (one other p : Point) (out : AreOutermost line extent one other) (has : HasPoint extent p) where
  from : Position
  from = position_of line.from

  to : Position
  to = position_of line.to

  pub east-within : unsigned_abs (lon_of line p -ℤ p.lon) ≤ max (unsigned_abs (lon_of line one -ℤ one.lon)) (unsigned_abs (lon_of line other -ℤ other.lon)) + slack_of line.from.lon line.to.lon
  unfolding from to
  east-within =
      let west : one.lon ≤ℤ p.lon = let e = out.west in let l = has.west in omega (arith, ints, e, l) in
      let east : p.lon ≤ℤ other.lon = let e = out.east in let l = has.east in omega (arith, ints, e, l) in
      let one-sides : Sides (line.to.lon -ℤ line.from.lon) (line.to.lat -ℤ line.from.lat) (p.lat -ℤ one.lat) = elim out.sides as (λ _. Sides (line.to.lon -ℤ line.from.lon) (line.to.lat -ℤ line.from.lat) (p.lat -ℤ one.lat)) [
        | inl s ↦ inl (s.0, let e = s.1 in let l = has.north in omega (arith, ints, e, l))
        | inr s ↦ inr (s.0, let e = s.1 in let l = has.south in omega (arith, ints, e, l))
      ] in
      let other-sides : Sides (line.to.lon -ℤ line.from.lon) (line.to.lat -ℤ line.from.lat) (other.lat -ℤ p.lat) = elim out.sides as (λ _. Sides (line.to.lon -ℤ line.from.lon) (line.to.lat -ℤ line.from.lat) (other.lat -ℤ p.lat)) [
        | inl s ↦ inl (s.0, let e = s.2 in let l = has.south in omega (arith, ints, e, l))
        | inr s ↦ inr (s.0, let e = s.2 in let l = has.north in omega (arith, ints, e, l))
      ] in
      let i = steps-up one.lon p.lon west in
      let j = steps-up p.lon other.lon east in
      gap-between (lon_of line p) (lon_of line one) (lon_of line other) p.lon one.lon other.lon (slack_of line.from.lon line.to.lon) (unsigned_abs (p.lon -ℤ one.lon)) (unsigned_abs (other.lon -ℤ p.lon)) i j
      (lon-grows from to (position_of p) (position_of one) (unsigned_abs (p.lon -ℤ one.lon)) i one-sides)
      (lon-grows from to (position_of other) (position_of p) (unsigned_abs (other.lon -ℤ p.lon)) j other-sides)

  pub north-within : unsigned_abs (lat_of line p -ℤ p.lat) ≤ max (unsigned_abs (lat_of line one -ℤ one.lat)) (unsigned_abs (lat_of line other -ℤ other.lat)) + slack_of line.from.lat line.to.lat
  unfolding from to
  north-within = elim out.sides as (λ _. unsigned_abs (lat_of line p -ℤ p.lat) ≤ max (unsigned_abs (lat_of line one -ℤ one.lat)) (unsigned_abs (lat_of line other -ℤ other.lat)) + slack_of line.from.lat line.to.lat) [
    | inl s ↦
        let e = s.1 in
        let f = s.2 in
        let w = out.west in
        let x = out.east in
        let up = has.north in
        let down = has.south in
        let west = has.west in
        let east = has.east in
        let i = steps-up other.lat p.lat (omega (arith, ints, f, down)) in
        let j = steps-up p.lat one.lat (omega (arith, ints, e, up)) in
        let go = alike-swap (line.to.lon -ℤ line.from.lon) (line.to.lat -ℤ line.from.lat) s.0 in
        swap_max (unsigned_abs (lat_of line other -ℤ other.lat)) (unsigned_abs (lat_of line one -ℤ one.lat)) (unsigned_abs (lat_of line p -ℤ p.lat)) (slack_of line.from.lat line.to.lat)
        (gap-between (lat_of line p) (lat_of line other) (lat_of line one) p.lat other.lat one.lat (slack_of line.from.lat line.to.lat) (unsigned_abs (p.lat -ℤ other.lat)) (unsigned_abs (one.lat -ℤ p.lat)) i j
        (lat-grows from to (position_of p) (position_of other) (unsigned_abs (p.lat -ℤ other.lat)) i (inl (go, omega (arith, ints, x, east))))
        (lat-grows from to (position_of one) (position_of p) (unsigned_abs (one.lat -ℤ p.lat)) j (inl (go, omega (arith, ints, w, west)))))
    | inr s ↦
        let e = s.1 in
        let f = s.2 in
        let w = out.west in
        let x = out.east in
        let up = has.north in
        let down = has.south in
        let west = has.west in
        let east = has.east in
        let i = steps-up one.lat p.lat (omega (arith, ints, e, down)) in
        let j = steps-up p.lat other.lat (omega (arith, ints, f, up)) in
        let go = apart-swap (line.to.lon -ℤ line.from.lon) (line.to.lat -ℤ line.from.lat) s.0 in
        gap-between (lat_of line p) (lat_of line one) (lat_of line other) p.lat one.lat other.lat (slack_of line.from.lat line.to.lat) (unsigned_abs (p.lat -ℤ one.lat)) (unsigned_abs (other.lat -ℤ p.lat)) i j
        (lat-grows from to (position_of p) (position_of one) (unsigned_abs (p.lat -ℤ one.lat)) i (inr (go, omega (arith, ints, w, west))))
        (lat-grows from to (position_of other) (position_of p) (unsigned_abs (other.lat -ℤ p.lat)) j (inr (go, omega (arith, ints, x, east))))
  ]

-- a place lies on the Earth
coordinate-between : (a b : ℤ) (at : ℕ) → at ≤ 1024 → LiesBetween a b (coordinate_at a b at)
coordinate-between a b at h = between-add a b (part_of (b -ℤ a) at) (between-part (b -ℤ a) at h)

near-bound : (a b y z : ℤ) (n : ℕ) → unsigned_abs a ≤ n → unsigned_abs b ≤ n → unsigned_abs z ≤ n → LiesBetween a b y → unsigned_abs (y -ℤ z) ≤ 2 * n
near-bound a b y z n h i j between = elim between as (λ _. unsigned_abs (y -ℤ z) ≤ 2 * n) [ inl up ↦ let l = up.0 in let k = up.1 in omega (arith, ints, l, k) | inr down ↦ let l = down.0 in let k = down.1 in omega (arith, ints, l, k) ]

on-earth : (lon lat : ℤ) → IsOnEarth lon lat → (unsigned_abs lon ≤ 180000000) × (unsigned_abs lat ≤ 90000000)
on-earth lon lat h =
    let west = h.west in
    let east = h.east in
    let south = h.south in
    let north = h.north in
    (omega (arith, ints, west, east), omega (arith, ints, south, north))

pub east-bound : (line : Chord) (p : Point) → unsigned_abs (lon_of line p -ℤ p.lon) ≤ 360000000
east-bound line p =
    near-bound line.from.lon line.to.lon (lon_of line p) p.lon 180000000 (on-earth line.from.lon line.from.lat line.from.in_range).0 (on-earth line.to.lon line.to.lat line.to.in_range).0 (on-earth p.lon p.lat p.in_range).0
    (coordinate-between line.from.lon line.to.lon (place_of (position_of p) (position_of line.from) (position_of line.to)) (share-bound (scalar_product (position_of p) (position_of line.from) (position_of line.to)) (plane_between (position_of line.from) (position_of line.to))))

pub north-bound : (line : Chord) (p : Point) → unsigned_abs (lat_of line p -ℤ p.lat) ≤ 180000000
north-bound line p =
    near-bound line.from.lat line.to.lat (lat_of line p) p.lat 90000000 (on-earth line.from.lon line.from.lat line.from.in_range).1 (on-earth line.to.lon line.to.lat line.to.in_range).1 (on-earth p.lon p.lat p.in_range).1
    (coordinate-between line.from.lat line.to.lat (place_of (position_of p) (position_of line.from) (position_of line.to)) (share-bound (scalar_product (position_of p) (position_of line.from) (position_of line.to)) (plane_between (position_of line.from) (position_of line.to))))

-- a distance by parts that are no less
pub offset-within : (line : Chord) (p : Point) (e n k : ℕ) → unsigned_abs (lon_of line p -ℤ p.lon) ≤ e → unsigned_abs (lat_of line p -ℤ p.lat) ≤ n
    → cosine_between (position_of p) (position_at (position_of line.from) (position_of line.to) (place_of (position_of p) (position_of line.from) (position_of line.to))) ≤ k → offset_of line.from line.to p ≤ plane_of (pos e) (pos n) k
unfolding offset_of
offset-within line p e n k he hn hk =
    let east = mul-le-mul he hk in
    let north = mul-le-mul hn (le_refl 65536) in
    let easts = mul-le-mul east east in
    let norths = mul-le-mul north north in
    omega (arith, easts, norths)

-- a greater number of latitude has no greater cosine
abbrev cosine_at : ℕ → ℕ
cosine_at m = 65536 * (32400000000000000 - 4 * (m * m)) / (32400000000000000 + m * m)

quotients : (a b c d : ℕ) → 0 < c → 0 < d → a ≤ b → c ≤ d → a / d ≤ b / c
quotients a b c d hc hd hab hcd =
    let whole : a / d * d ≤ a = let e = div-add-mod' a d in omega (arith, e) in
    let less = mul-le-mul (le_refl (a / d)) hcd in
    le-div (a / d) b c hc (omega (arith, whole, less, hab))

cosine-falls : (m n : ℕ) → m ≤ n → cosine_at n ≤ cosine_at m
cosine-falls m n h =
    let squares = mul-le-mul h h in
    quotients (65536 * (32400000000000000 - 4 * (n * n))) (65536 * (32400000000000000 - 4 * (m * m))) (32400000000000000 + m * m) (32400000000000000 + n * n)
    (omega arith) (omega arith) (omega (arith, squares)) (omega (arith, squares))

halves-high : (z : ℤ) (n : ℕ) → pos (2 * n) ≤ℤ z → n ≤ unsigned_abs (int_div_euclid z (pos 2))
halves-high (pos a) n h = omega (arith, ints, h)
halves-high (negsuc a) zero h = omega arith
halves-high (negsuc a) (suc n) h = absurd (omega (arith, ints, h))

halves-low : (z : ℤ) (n : ℕ) → z ≤ℤ (pos 0 -ℤ pos (2 * n)) → n ≤ unsigned_abs (int_div_euclid z (pos 2))
halves-low (pos a) zero h = omega arith
halves-low (pos a) (suc n) h = absurd (omega (arith, ints, h))
halves-low (negsuc a) n h = omega (arith, ints, h)

-- the latitude half-way has a cosine no greater than that of one that is no greater
pub cosine-north : (p spot : Position) (least : ℕ) → pos (2 * least) ≤ℤ (p.lat +ℤ spot.lat) → cosine_between p spot ≤ cosine_of (pos least)
cosine-north p spot least h = cosine-falls least (unsigned_abs (middle_latitude p.lat spot.lat)) (halves-high (p.lat +ℤ spot.lat) least h)

pub cosine-south : (p spot : Position) (least : ℕ) → (p.lat +ℤ spot.lat) ≤ℤ (pos 0 -ℤ pos (2 * least)) → cosine_between p spot ≤ cosine_of (pos least)
cosine-south p spot least h = cosine-falls least (unsigned_abs (middle_latitude p.lat spot.lat)) (halves-low (p.lat +ℤ spot.lat) least h)

pub cosine-most : (p spot : Position) → cosine_between p spot ≤ cosine_of (pos 0)
cosine-most p spot = cosine-falls 0 (unsigned_abs (middle_latitude p.lat spot.lat)) (omega arith)

from-abs : (z : ℤ) → pos 0 ≤ℤ z → z ≡ pos (unsigned_abs z)
from-abs z le = omega (arith, ints, le)

-- the latitude that is used lies no farther off the equator than any half-way
abbrev pub IsLeast : ℤ → ℤ → ℕ → ℤ → Type 0
IsLeast low high half least = ((pos half <ℤ low) × (least ≡ low -ℤ pos half)) ⊎ (((high <ℤ (pos 0 -ℤ pos half)) × (least ≡ (pos 0 -ℤ pos half) -ℤ high)) ⊎ (least ≡ pos 0))

pub cosine-within : (p spot : Position) (low high least : ℤ) (half width : ℕ) → low ≤ℤ p.lat → p.lat ≤ℤ high → unsigned_abs (spot.lat -ℤ p.lat) ≤ width → width ≤ 2 * half → IsLeast low high half least → cosine_between p spot ≤ cosine_of least
cosine-within p spot low high least half width south north near wide is = elim is as (λ _. cosine_between p spot ≤ cosine_of least) [
  | inl up ↦
      let lt = up.0 in
      let e = up.1 in
      let same = from-abs least (omega (arith, ints, lt, e)) in
      subst (λ (z : ℤ). cosine_between p spot ≤ cosine_of z) (sym same) (cosine-north p spot (unsigned_abs least) (omega (arith, ints, lt, e, south, near, wide)))
  | inr other ↦ elim other as (λ _. cosine_between p spot ≤ cosine_of least) [
    | inl down ↦
        let lt = down.0 in
        let e = down.1 in
        let same = from-abs least (omega (arith, ints, lt, e)) in
        subst (λ (z : ℤ). cosine_between p spot ≤ cosine_of z) (sym same) (cosine-south p spot (unsigned_abs least) (omega (arith, ints, lt, e, north, near, wide)))
    | inr none ↦ subst (λ (z : ℤ). cosine_between p spot ≤ cosine_of z) (sym none) (cosine-most p spot)
  ]
]

-- no point lies farther off any line than half-way round the Earth both ways
pub offset-most : (line : Chord) (p : Point) → offset_of line.from line.to p ≤ 700000000000000000000000000
offset-most line p =
    let spot = position_at (position_of line.from) (position_of line.to) (place_of (position_of p) (position_of line.from) (position_of line.to)) in
    let bound = offset-within line p 360000000 180000000 65536 (east-bound line p) (north-bound line p) (cosine-most (position_of p) spot) in
    omega (arith, bound)
