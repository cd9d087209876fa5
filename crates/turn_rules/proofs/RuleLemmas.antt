-- Choices in a row, one element more: what f makes of the elements, what g and h each make of what f made, and how
-- many of these neither makes anything of.
use Rattle.std.proofs.Common.{◌≡◌, ◌∙◌, ◌&&◌, ℕ, ◌+◌, ◌<◌, Bool, List, [], ◌∷◌, ◌++◌, length, take, get_or, count_by, is_none, cond, Option, Some, None, ap, sym, add-zero, append-nil}
use Rattle.std.specs.List.{cons_option, filter_map}
use Rattle.std.proofs.lemmas.List.Elements.{filter_map-append}
use Rattle.std.proofs.lemmas.List.Sums.{sum_by_push}
use Rattle.std.proofs.lemmas.List.{take_more}

-- neither makes anything of the element
abbrev pub is_left : {Y Z W : Type 0} (g : Y → Option Z) (h : Y → Option W) → Y → Bool
is_left g h y = is_none (g y) && is_none (h y)

pub record AreChosen {X Y Z W : Type 0} (f : X → Option Y) (g : Y → Option Z) (h : Y → Option W) (xs : List X) (zs : List Z) (ws : List W) (n : ℕ) : Type 0 where
  pub first : zs ≡ filter_map g (filter_map f xs)
  pub second : ws ≡ filter_map h (filter_map f xs)
  pub others : n ≡ count_by (is_left g h) (filter_map f xs)

filter_map-more : {X Y : Type 0} (f : X → Option Y) (xs : List X) (i : ℕ) (x : X) (y : Option Y) → i < length xs → x ≡ get_or xs i x → y ≡ f x → filter_map f (take (i + 1) xs) ≡ filter_map f (take i xs) ++ cons_option y []
filter_map-more f xs i x y h is made =
    ap (filter_map f) (take_more xs i x h)
    ∙ filter_map-append f (take i xs) (get_or xs i x ∷ [])
    ∙ ap (λ v. filter_map f (take i xs) ++ cons_option v []) (ap f (sym is) ∙ sym made)

filter_map-push : {X Y : Type 0} (f : X → Option Y) (xs : List X) (x : X) (y : Option Y) → y ≡ f x → filter_map f (xs ++ x ∷ []) ≡ filter_map f xs ++ cons_option y []
filter_map-push f xs x y made = filter_map-append f xs (x ∷ []) ∙ ap (λ v. filter_map f xs ++ cons_option v []) (sym made)

-- f leaves the element out
pub AreChosen-none : {X Y Z W : Type 0} (f : X → Option Y) (g : Y → Option Z) (h : Y → Option W) (xs : List X) (zs : List Z) (ws : List W) (n i : ℕ) (x : X) → AreChosen f g h (take i xs) zs ws n → i < length xs → x ≡ get_or xs i x → None ≡ f x → AreChosen f g h (take (i + 1) xs) zs ws n
AreChosen-none f g h xs zs ws n i x chosen within is left_out =
    let same : filter_map f (take (i + 1) xs) ≡ filter_map f (take i xs) = filter_map-more f xs i x None within is left_out ∙ append-nil _ in
    record {
      first = chosen.first ∙ ap (filter_map g) (sym same);
      second = chosen.second ∙ ap (filter_map h) (sym same);
      others = chosen.others ∙ ap (count_by (is_left g h)) (sym same);
    }

-- f makes y of it, and g and h make v and w of that
AreChosen-some : {X Y Z W : Type 0} (f : X → Option Y) (g : Y → Option Z) (h : Y → Option W) (xs : List X) (zs : List Z) (ws : List W) (n i : ℕ) (x : X) (y : Y) (v : Option Z) (w : Option W) → AreChosen f g h (take i xs) zs ws n → i < length xs → x ≡ get_or xs i x → Some y ≡ f x → v ≡ g y → w ≡ h y
    → AreChosen f g h (take (i + 1) xs) (zs ++ cons_option v []) (ws ++ cons_option w []) (n + cond (is_none v && is_none w) 1 0)
AreChosen-some f g h xs zs ws n i x y v w chosen within is made by_g by_h =
    let grown : filter_map f (take (i + 1) xs) ≡ filter_map f (take i xs) ++ y ∷ [] = filter_map-more f xs i x (Some y) within is made in
    record {
      first =
          ap (λ ys. ys ++ cons_option v []) chosen.first
          ∙ sym (ap (filter_map g) grown ∙ filter_map-push g (filter_map f (take i xs)) y v by_g);
      second =
          ap (λ ys. ys ++ cons_option w []) chosen.second
          ∙ sym (ap (filter_map h) grown ∙ filter_map-push h (filter_map f (take i xs)) y w by_h);
      others =
          ap (λ m. m + cond (is_none v && is_none w) 1 0) chosen.others
          ∙ sym (ap (count_by (is_left g h)) grown
          ∙ sum_by_push (λ y. cond (is_left g h y) 1 0) (filter_map f (take i xs)) y
          ∙ ap (λ z. count_by (is_left g h) (filter_map f (take i xs)) + cond (is_none z && is_none (h y)) 1 0) (sym by_g)
          ∙ ap (λ z. count_by (is_left g h) (filter_map f (take i xs)) + cond (is_none v && is_none z) 1 0) (sym by_h));
    }

-- g keeps it
pub AreChosen-first : {X Y Z W : Type 0} (f : X → Option Y) (g : Y → Option Z) (h : Y → Option W) (xs : List X) (zs : List Z) (ws : List W) (n i : ℕ) (x : X) (y : Y) (z : Z) → AreChosen f g h (take i xs) zs ws n → i < length xs → x ≡ get_or xs i x → Some y ≡ f x → Some z ≡ g y → None ≡ h y → AreChosen f g h (take (i + 1) xs) (zs ++ z ∷ []) ws n
AreChosen-first f g h xs zs ws n i x y z chosen within is made by_g by_h =
    let after : AreChosen f g h (take (i + 1) xs) (zs ++ z ∷ []) (ws ++ []) (n + 0) = AreChosen-some f g h xs zs ws n i x y (Some z) None chosen within is made by_g by_h in
    record { first = after.first; second = sym (append-nil ws) ∙ after.second; others = sym (add-zero n) ∙ after.others }

-- h does
pub AreChosen-second : {X Y Z W : Type 0} (f : X → Option Y) (g : Y → Option Z) (h : Y → Option W) (xs : List X) (zs : List Z) (ws : List W) (n i : ℕ) (x : X) (y : Y) (w : W) → AreChosen f g h (take i xs) zs ws n → i < length xs → x ≡ get_or xs i x → Some y ≡ f x → None ≡ g y → Some w ≡ h y → AreChosen f g h (take (i + 1) xs) zs (ws ++ w ∷ []) n
AreChosen-second f g h xs zs ws n i x y w chosen within is made by_g by_h =
    let after : AreChosen f g h (take (i + 1) xs) (zs ++ []) (ws ++ w ∷ []) (n + 0) = AreChosen-some f g h xs zs ws n i x y None (Some w) chosen within is made by_g by_h in
    record { first = sym (append-nil zs) ∙ after.first; second = after.second; others = sym (add-zero n) ∙ after.others }

-- neither does
pub AreChosen-neither : {X Y Z W : Type 0} (f : X → Option Y) (g : Y → Option Z) (h : Y → Option W) (xs : List X) (zs : List Z) (ws : List W) (n i : ℕ) (x : X) (y : Y) → AreChosen f g h (take i xs) zs ws n → i < length xs → x ≡ get_or xs i x → Some y ≡ f x → None ≡ g y → None ≡ h y → AreChosen f g h (take (i + 1) xs) zs ws (n + 1)
AreChosen-neither f g h xs zs ws n i x y chosen within is made by_g by_h =
    let after : AreChosen f g h (take (i + 1) xs) (zs ++ []) (ws ++ []) (n + 1) = AreChosen-some f g h xs zs ws n i x y None None chosen within is made by_g by_h in
    record { first = sym (append-nil zs) ∙ after.first; second = sym (append-nil ws) ∙ after.second; others = after.others }
