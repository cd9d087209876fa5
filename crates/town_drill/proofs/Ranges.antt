-- Lists that grow by a piece for each number of a range.
use Rattle.std.proofs.Common.{◌≡◌, ◌+◌, ◌++◌, ◌<◌, ℕ, List, [], ◌∷◌, Some, ap, arith, refl, suc, sym, zero, ◌∙◌}
use Rattle.std.specs.List.{flat_map, range_with_len, slice_get}
use Rattle.std.proofs.lemmas.List.{flat_map_more}

-- a range of one number more
pub range-more : (a n : ℕ) → range_with_len a (suc n) ≡ range_with_len a n ++ (a + n) ∷ []
range-more a zero = ap (λ k. k ∷ []) (omega arith)
range-more a (suc n) = ap (λ l. a ∷ l) (range-more (a + 1) n ∙ ap (λ k. range_with_len (a + 1) n ++ k ∷ []) (omega arith))

-- a list with the pieces of the numbers below n, and with one more
pub piece-put : {X : Type 0} (f : ℕ → List X) (old mid new : List X) (n : ℕ) → mid ≡ old ++ flat_map f (range_with_len 0 n) → new ≡ mid ++ f n → new ≡ old ++ flat_map f (range_with_len 0 (n + 1))
piece-put f old mid new n before put =
    put ∙ ap (λ t. t ++ f n) before ∙ ap (λ k. (old ++ flat_map f (range_with_len 0 n)) ++ f k) (let e : n ≡ 0 + n = omega arith in e)
    ∙ flat_map_more f old (range_with_len 0 n) (0 + n)
    ∙ ap (λ l. old ++ flat_map f l) (sym (range-more 0 n)) ∙ ap (λ k. old ++ flat_map f (range_with_len 0 k)) (let one : suc n ≡ n + 1 = omega arith in one)

-- the element of a range
pub range-get : (a n i : ℕ) → i < n → slice_get (range_with_len a n) i ≡ Some (a + i)
range-get a zero i lt = absurd (omega arith)
range-get a (suc n) zero lt = ap (λ k. Some k) (let e : a ≡ a + 0 = omega arith in e)
range-get a (suc n) (suc i) lt = range-get (a + 1) n i (omega arith) ∙ ap (λ k. Some k) (let e : a + 1 + i ≡ a + suc i = omega arith in e)
