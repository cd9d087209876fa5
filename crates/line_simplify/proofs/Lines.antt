-- The same of a whole line.
use Rattle.std.proofs.Common.{◌≡◌, ℕ, ◌+◌, ◌<◌, List, [], ◌∷◌, ◌++◌, length, take, get_or, refl, sym, ap, ◌∙◌, subst, arith}
use Rattle.std.proofs.lemmas.List.{get_or_at, length_push, take_all, take_at, take_more}
use Rattle.road_base.specs.declared.coordinates.Point.{Point}
use Rattle.line_simplify.specs.Simplified.{IsSimplified, few, kept_between, kept_within, limit_of, line, simplified}
use Rattle.line_simplify.proofs.Kept.{between-is, between-kept}

-- fewer than three points stay
pub simplified-few : (tolerance : ℕ) (points : List Point) → length points < 3 → points ≡ simplified tolerance points
unfolding simplified kept_between kept_within
simplified-few tolerance [] lt = refl
simplified-few tolerance (a ∷ []) lt = refl
simplified-few tolerance (a ∷ (b ∷ [])) lt = refl
simplified-few tolerance (a ∷ (b ∷ (c ∷ more))) lt = absurd (omega (arith, lt))

-- a line by its two ends
pub simplified-line : (tolerance : ℕ) (a : Point) (between : List Point) (b : Point) → simplified tolerance (a ∷ (between ++ b ∷ [])) ≡ a ∷ (kept_between (limit_of tolerance) a between b ++ b ∷ [])
unfolding simplified
simplified-line tolerance a [] b = refl
simplified-line tolerance a (x ∷ xs) b =
    let more : List Point = xs ++ b ∷ [] in
    let n : length (x ∷ xs) ≡ length more = omega (arith, length_push xs b) in
    let last : Point = get_or (x ∷ more) (length more) x in
    ap (λ (l : List Point). a ∷ (kept_between (limit_of tolerance) a l last ++ last ∷ [])) (take_at (x ∷ xs) (b ∷ []) (length more) n)
    ∙ ap (λ (q : Point). a ∷ (kept_between (limit_of tolerance) a (x ∷ xs) q ++ q ∷ [])) (get_or_at (x ∷ xs) b [] x (length more) n)

-- the list that meets the rule is the function's
pub simplified-is : (tolerance : ℕ) (points kept : List Point) → IsSimplified tolerance points kept → kept ≡ simplified tolerance points
simplified-is tolerance points kept (few p lt) = simplified-few tolerance p lt
simplified-is tolerance points kept (line a between b inner h) =
    ap (λ (l : List Point). a ∷ (l ++ b ∷ [])) (between-is (limit_of tolerance) a between b inner h) ∙ sym (simplified-line tolerance a between b)

-- and the function's meets it
pub simplified-rule : (tolerance : ℕ) (points : List Point) → IsSimplified tolerance points (simplified tolerance points)
simplified-rule tolerance [] = subst (λ (xs : List Point). IsSimplified tolerance [] xs) (simplified-few tolerance [] (omega arith)) (few [] (omega arith))
simplified-rule tolerance (a ∷ []) = subst (λ (xs : List Point). IsSimplified tolerance (a ∷ []) xs) (simplified-few tolerance (a ∷ []) (omega arith)) (few (a ∷ []) (omega arith))
simplified-rule tolerance (a ∷ (x ∷ more)) =
    let between : List Point = take (length more) (x ∷ more) in
    let last : Point = get_or (x ∷ more) (length more) x in
    let whole : between ++ last ∷ [] ≡ x ∷ more = sym (take_more (x ∷ more) (length more) x (omega arith)) ∙ take_all (length more + 1) (x ∷ more) (omega arith) in
    let kept : List Point = kept_between (limit_of tolerance) a between last in
    let met : IsSimplified tolerance (a ∷ (between ++ last ∷ [])) (a ∷ (kept ++ last ∷ [])) = line a between last kept (between-kept (limit_of tolerance) a between last) in
    let same : IsSimplified tolerance (a ∷ (between ++ last ∷ [])) (simplified tolerance (a ∷ (between ++ last ∷ []))) =
    subst (λ (xs : List Point). IsSimplified tolerance (a ∷ (between ++ last ∷ [])) xs) (sym (simplified-line tolerance a between last)) met in
    subst (λ (xs : List Point). IsSimplified tolerance (a ∷ xs) (simplified tolerance (a ∷ xs))) whole same
