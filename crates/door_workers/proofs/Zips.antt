-- Relations of two lists, one element with one.
use Rattle.std.proofs.Common.{◌≡◌, ℕ, zero, suc, ◌+◌, ◌-◌, ◌^◌, min, ◌<◌, List, [], ◌∷◌, ◌++◌, length, get_or, set, take, drop, refl, ap, sym, ◌∙◌, subst, arith}
use Rattle.std.specs.List.{AllZip, All, sum_by}
use Rattle.std.proofs.lemmas.List.Elements.{All-cons, All-head, All-tail, All-nil}
use Rattle.std.proofs.lemmas.List.Sums.{sum_by-cons}

module _ {X : Type 0} (R : X → X → Type 0) where
  -- from a fact at each place
  pub zip_from_each : (xs ys : List X) → length ys ≡ length xs → ((i : ℕ) (d : X) → i < length xs → R (get_or xs i d) (get_or ys i d)) → AllZip R xs ys
  zip_from_each [] [] same each = tt
  zip_from_each [] (y ∷ ys) same each = absurd (omega arith)
  zip_from_each (x ∷ xs) [] same each = absurd (omega arith)
  zip_from_each (x ∷ xs) (y ∷ ys) same each = (each 0 x (omega arith), zip_from_each xs ys (omega arith) (λ i d below. each (suc i) d (omega arith)))

  pub zip_refl : ((x : X) → R x x) → (xs : List X) → AllZip R xs xs
  zip_refl same [] = tt
  zip_refl same (x ∷ xs) = (same x, zip_refl same xs)

  -- one element of the second list goes on
  pub zip_set : ((x y z : X) → R x y → R y z → R x z) → (xs ys : List X) (i : ℕ) (d z : X) → i < length ys → AllZip R xs ys → R (get_or ys i d) z → AllZip R xs (set ys i z)
  zip_set trans [] [] i d z below all step = absurd (omega arith)
  zip_set trans [] (y ∷ ys) i d z below all step = absurd all
  zip_set trans (x ∷ xs) [] i d z below all step = absurd all
  zip_set trans (x ∷ xs) (y ∷ ys) zero d z below all step = (trans x y z all.0 step, all.1)
  zip_set trans (x ∷ xs) (y ∷ ys) (suc i) d z below all step = (all.0, zip_set trans xs ys i d z (omega arith) all.1 step)

-- one relation behind another
pub zip_then : {X Y Z : Type 0} (R : X → Y → Type 0) (S : Y → Z → Type 0) (T : X → Z → Type 0) → ((x : X) (y : Y) (z : Z) → R x y → S y z → T x z) → (xs : List X) (ys : List Y) (zs : List Z) → AllZip R xs ys → AllZip S ys zs → AllZip T xs zs
zip_then R S T both [] [] [] one two = tt
zip_then R S T both [] [] (z ∷ zs) one two = absurd two
zip_then R S T both [] (y ∷ ys) zs one two = absurd one
zip_then R S T both (x ∷ xs) [] zs one two = absurd one
zip_then R S T both (x ∷ xs) (y ∷ ys) [] one two = absurd two
zip_then R S T both (x ∷ xs) (y ∷ ys) (z ∷ zs) one two = (both x y z one.0 two.0, zip_then R S T both xs ys zs one.1 two.1)

-- what holds of each on the left gives what holds of each on the right
pub zip_all : {X Y : Type 0} (P : X → Type 0) (R : X → Y → Type 0) (Q : Y → Type 0) → ((x : X) (y : Y) → P x → R x y → Q y) → (xs : List X) (ys : List Y) → All P xs → AllZip R xs ys → All Q ys
zip_all P R Q gives [] [] all zip = All-nil Q
zip_all P R Q gives [] (y ∷ ys) all zip = absurd zip
zip_all P R Q gives (x ∷ xs) [] all zip = absurd zip
zip_all P R Q gives (x ∷ xs) (y ∷ ys) all zip =
    All-cons Q y ys (gives x y (All-head P x xs all) zip.0) (zip_all P R Q gives xs ys (All-tail P x xs all) zip.1)

-- a sum of counts that stand still at 18446744073709551615
pub sum_counts : {X : Type 0} (f g : X → ℕ) (xs : List X) (a b : ℕ) → All (λ x. f x ≡ min (g x) (2 ^ 64 - 1)) xs → a ≡ min b (2 ^ 64 - 1) → min (sum_by f xs + a) (2 ^ 64 - 1) ≡ min (sum_by g xs + b) (2 ^ 64 - 1)
sum_counts f g [] a b all same = omega (arith, same)
sum_counts f g (x ∷ xs) a b all same =
    let here = All-head (λ x. f x ≡ min (g x) (2 ^ 64 - 1)) x xs all in
    let rest = sum_counts f g xs a b (All-tail (λ x. f x ≡ min (g x) (2 ^ 64 - 1)) x xs all) same in
    omega (arith, here, rest, sum_by-cons f x xs, sum_by-cons g x xs)

-- a fact of two values that are these
pub moved_both : {X : Type 0} (R : X → X → Type 0) (a b x y : X) → a ≡ x → b ≡ y → R a b → R x y
moved_both R a b x y one two r = subst (λ z. R z y) one (subst (λ z. R a z) two r)

-- a list with more behind it, cut to its length
pub take_front : {X : Type 0} (xs zs : List X) → take (length xs) (xs ++ zs) ≡ xs
take_front [] zs = refl
take_front (x ∷ xs) zs = ap (λ ys. x ∷ ys) (take_front xs zs)

pub take_back : {X : Type 0} (xs zs : List X) (n : ℕ) → length xs ≡ n → take n (xs ++ zs) ≡ xs
take_back xs zs n same = subst (λ (k : ℕ). take k (xs ++ zs) ≡ xs) same (take_front xs zs)

-- a slice of a list, put back in its place
pub zip_put_back : {X : Type 0} (R : X → X → Type 0) (xs ys old : List X) (n : ℕ) → xs ≡ old → length xs ≡ n → length ys ≡ length xs → AllZip R xs ys → AllZip R old (take n (ys ++ drop (length ys) old))
zip_put_back R xs ys old n is len same zip =
    subst (λ l. AllZip R l (take n (ys ++ drop (length ys) old))) is (subst (λ l. AllZip R xs l) (sym (take_back ys (drop (length ys) old) n (same ∙ len))) zip)

-- a relation, with what holds of each on the right
pub zip_with : {X Y : Type 0} (R : X → Y → Type 0) (Q : Y → Type 0) (T : X → Y → Type 0) → ((x : X) (y : Y) → Q y → R x y → T x y) → (xs : List X) (ys : List Y) → All Q ys → AllZip R xs ys → AllZip T xs ys
zip_with R Q T gives [] [] all zip = tt
zip_with R Q T gives [] (y ∷ ys) all zip = absurd zip
zip_with R Q T gives (x ∷ xs) [] all zip = absurd zip
zip_with R Q T gives (x ∷ xs) (y ∷ ys) all zip = (gives x y (All-head Q y ys all) zip.0, zip_with R Q T gives xs ys (All-tail Q y ys all) zip.1)

-- a relation, with what holds of each on the left
pub zip_given : {X Y : Type 0} (P : X → Type 0) (R : X → Y → Type 0) → (xs : List X) (ys : List Y) → All P xs → AllZip R xs ys → AllZip (λ x y. P x × R x y) xs ys
zip_given P R [] [] all zip = tt
zip_given P R [] (y ∷ ys) all zip = absurd zip
zip_given P R (x ∷ xs) [] all zip = absurd zip
zip_given P R (x ∷ xs) (y ∷ ys) all zip = ((All-head P x xs all, zip.0), zip_given P R xs ys (All-tail P x xs all) zip.1)
