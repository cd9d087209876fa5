-- How numbers grow, and what stood in a list stands there still.
use Rattle.std.proofs.Common.{◌≡◌, ◌≢◌, ℕ, zero, suc, ◌+◌, ◌<◌, ◌≤◌, ◌^◌, inl, inr, Option, None, IfNone, IsSome, rules, List, [], ◌∷◌, ◌++◌, length, Some, sym, ◌∙◌, ap, subst, arith, length-append, get_or-set_same, get_or-set_other}
use Rattle.std.specs.List.{Contains, slice_get}
use Rattle.std.proofs.lemmas.Option.{same_Some, slice_get_within, get_or_from_slice_get}
use Rattle.std.proofs.Math.ListN.{set, length-set}
use Rattle.list_lemmas.proofs.Gets.{get_is, get_some, get_append, get_push, get_Contains, Contains_get}
use Rattle.std.proofs.lemmas.Bool.{cases_lt}
use Rattle.cell_customize.specs.Numbers.{IsNumbered, Keeps, Adds, Grows}

module _ {X : Type 0} where
  pub Keeps-refl : (xs : List X) → Keeps xs xs
  Keeps-refl xs i x e = e

  pub Keeps-trans : (xs ys zs : List X) → Keeps xs ys → Keeps ys zs → Keeps xs zs
  Keeps-trans xs ys zs f g i x e = g i x (f i x e)

  pub Keeps-push : (xs : List X) (y : X) → Keeps xs (xs ++ y ∷ [])
  Keeps-push xs y i x e = get_append xs (y ∷ []) i x e

  pub Keeps-more : (xs ys : List X) → Keeps xs (xs ++ ys)
  Keeps-more xs ys i x e = get_append xs ys i x e

  -- within the old list nothing else stands there
  pub kept_back : (xs ys : List X) → Keeps xs ys → (i : ℕ) (y : X) → i < length xs → slice_get ys i ≡ Some y → slice_get xs i ≡ Some y
  kept_back xs ys keeps i y lt e =
      let g = get_some xs i lt in
      let same : g.0 ≡ y = same_Some g.0 y (sym (keeps i g.0 g.1) ∙ e) in
      subst (λ (x : X). slice_get xs i ≡ Some x) same g.1

  pub keeps_length : (xs ys : List X) → Keeps xs ys → (n : ℕ) → n ≤ length xs → n ≤ length ys
  keeps_length xs ys keeps zero le = omega arith
  keeps_length xs ys keeps (suc n) le =
      let g = get_some xs n (omega arith) in
      let lt : n < length ys = slice_get_within ys n g.0 (keeps n g.0 g.1) in
      omega arith

  pub set_here : (xs : List X) (i : ℕ) (y : X) → i < length xs → slice_get (set xs i y) i ≡ Some y
  set_here xs i y lt = let lt2 : i < length (set xs i y) = omega (arith, length-set xs i y) in get_is (set xs i y) i y lt2 (get_or-set_same xs i y y lt)

  pub set_other : (xs : List X) (i k : ℕ) (y x : X) → k ≢ i → slice_get xs k ≡ Some x → slice_get (set xs i y) k ≡ Some x
  set_other xs i k y x other e =
      let lt : k < length xs = slice_get_within xs k x e in
      let lt2 : k < length (set xs i y) = omega (arith, length-set xs i y) in
      get_is (set xs i y) k x lt2 (get_or-set_other xs i k y x other ∙ get_or_from_slice_get xs k x x e)

-- a longer table serves as well
pub IsNumbered-longer : (names table more : List ℕ) → IsNumbered names table → IsNumbered names (table ++ more)
IsNumbered-longer names table more h = record { few = h.few; each = λ a v e. get_append table more v a (h.each a v e) }

-- one vertex more
pub IsNumbered-push : (names table : List ℕ) (v : ℕ) → IsNumbered names table → ((a : ℕ) → ¬ (slice_get names a ≡ Some v)) → v < length table → length names + 1 < 2 ^ 32 →
    IsNumbered (names ++ v ∷ []) (set table v (length names))
IsNumbered-push names table v h new lt few = record {
  few = omega (arith, few, length-append names (v ∷ []));
  each = λ a w e. elim (get_push names v a w e) [
    | inl g ↦
        let other : w ≢ v = λ same. new a (subst (λ (x : ℕ). slice_get names a ≡ Some x) same g) in
        set_other table v w (length names) a other (h.each a w g)
    | inr g ↦
        subst (λ (x : ℕ). slice_get (set table v (length names)) x ≡ Some a) (sym g.1)
        (subst (λ (x : ℕ). slice_get (set table v (length names)) v ≡ Some x) (sym g.0) (set_here table v (length names) lt))
  ];
}

pub numbered_distinct : (names table : List ℕ) → IsNumbered names table → (a b v : ℕ) → slice_get names a ≡ Some v → slice_get names b ≡ Some v → a ≡ b
numbered_distinct names table h a b v e f = same_Some a b (sym (h.each a v e) ∙ h.each b v f)

pub Adds-push : (names : List ℕ) (v : ℕ) → Adds names (names ++ v ∷ []) v
Adds-push names v = record {
  keeps = Keeps-push names v;
  only = λ n below lt a w e. elim (get_push names v a w e) [
    | inl g ↦ below a w g
    | inr g ↦ subst (λ (x : ℕ). x < n) (sym g.1) lt
  ];
}

pub Adds-none : (names : List ℕ) (v : ℕ) → Adds names names v
Adds-none names v = record { keeps = Keeps-refl names; only = λ n below lt. below }

pub Grows-refl : (n : ℕ) (xs : List ℕ) → Grows n xs xs
Grows-refl n xs = record { keeps = Keeps-refl xs; below = λ h. h }

pub Grows-trans : (n : ℕ) (xs ys zs : List ℕ) → Grows n xs ys → Grows n ys zs → Grows n xs zs
Grows-trans n xs ys zs f g = record { keeps = Keeps-trans xs ys zs f.keeps g.keeps; below = λ h. g.below (f.below h) }

pub Grows-adds : (n : ℕ) (old new : List ℕ) (v : ℕ) → v < n → Adds old new v → Grows n old new
Grows-adds n old new v lt h = record { keeps = h.keeps; below = λ below. h.only n below lt }

-- a vertex at which the table has nothing has no number
pub none_here : (names table : List ℕ) (v : ℕ) → IsNumbered names table → slice_get table v ≡ None → (a : ℕ) → ¬ (slice_get names a ≡ Some v)
none_here names table v h none a e = let never : ◌≡◌ {A = Option ℕ} None (Some a) = sym none ∙ h.each a v e in cc

-- nor one whose number in the table is another's
pub none_other : (names table : List ℕ) (v a : ℕ) (o : Option ℕ) → IsNumbered names table → slice_get table v ≡ Some a → IfNone o (¬ (slice_get names a ≡ Some v)) → IfNone o ((b : ℕ) → ¬ (slice_get names b ≡ Some v))
none_other names table v a None h at other = λ b e. other (subst (λ (x : ℕ). slice_get names x ≡ Some v) (same_Some b a (sym (h.each b v e) ∙ at)) e)
none_other names table v a (Some n) h at other = tt

-- one vertex of a list more has a number
pub named_push : (vertices old new : List ℕ) (i v a : ℕ) → slice_get vertices i ≡ Some v → Adds old new v → slice_get new a ≡ Some v →
    ((k w : ℕ) → k < i → slice_get vertices k ≡ Some w → Contains old w) → (k w : ℕ) → k < i + 1 → slice_get vertices k ≡ Some w → Contains new w
named_push vertices old new i v a at adds here before k w lt e = elim (cases_lt k i) [
  | inl less ↦
      let g = get_Contains old w (before k w less e) in
      Contains_get new g.0 w (adds.keeps g.0 w g.1)
  | inr past ↦
      let same : k ≡ i = omega (arith, lt, past) in
      let is : v ≡ w = same_Some v w (sym at ∙ ap (slice_get vertices) (sym same) ∙ e) in
      subst (λ (x : ℕ). Contains new x) is (Contains_get new a v here)
]

-- a vertex that is named has a number
pub named_some : (names : List ℕ) (v : ℕ) (o : Option ℕ) → IfNone o ((a : ℕ) → ¬ (slice_get names a ≡ Some v)) → Contains names v → IsSome o
named_some names v None none h = let g = get_Contains names v h in absurd (none g.0 g.1)
named_some names v (Some a) none h = search rules
