-- Texts that grow by a piece for each number of a range.
use Rattle.std.proofs.Common.{◌≡◌, ◌+◌, ◌++◌, ℕ, List, [], ◌∷◌, ap, arith, suc, sym, zero, ◌∙◌}
use Rattle.std.specs.List.{flat_map, range_with_len}
use Rattle.std.proofs.lemmas.List.{flat_map_more}

-- a range of one number more
range-more : (a n : ℕ) → range_with_len a (suc n) ≡ range_with_len a n ++ (a + n) ∷ []
range-more a zero = ap (λ k. k ∷ []) (omega arith)
range-more a (suc n) = ap (λ l. a ∷ l) (range-more (a + 1) n ∙ ap (λ k. range_with_len (a + 1) n ++ k ∷ []) (omega arith))

-- the piece of the next number behind those of the numbers before it
pub piece-more : (f : ℕ → List ℕ) (bs : List ℕ) (a n j m : ℕ) → a + n ≡ j → m ≡ n + 1 → (bs ++ flat_map f (range_with_len a n)) ++ f j ≡ bs ++ flat_map f (range_with_len a m)
piece-more f bs a n j m at next =
    ap (λ k. (bs ++ flat_map f (range_with_len a n)) ++ f k) (sym at) ∙ flat_map_more f bs (range_with_len a n) (a + n)
    ∙ ap (λ l. bs ++ flat_map f l) (sym (range-more a n)) ∙ ap (λ k. bs ++ flat_map f (range_with_len a k)) (let one : suc n ≡ m = omega arith in one)

-- a text with the pieces of a range, and with one more
pub piece-put : (f : ℕ → List ℕ) (old mid new : List ℕ) (a n j m : ℕ) → mid ≡ old ++ flat_map f (range_with_len a n) → new ≡ mid ++ f j → a + n ≡ j → m ≡ n + 1 → new ≡ old ++ flat_map f (range_with_len a m)
piece-put f old mid new a n j m before put at next = put ∙ ap (λ t. t ++ f j) before ∙ piece-more f old a n j m at next
