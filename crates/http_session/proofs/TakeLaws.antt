-- What one call of `take_from` leaves of the bytes that are not yet read.
use Rattle.std.proofs.Common.{◌≡◌, ℕ, ◌+◌, ◌≤◌, List, ◌++◌, length, take, drop, ap, ◌∙◌, arith, length-take, take-add, take_at, drop_at}
use Rattle.std.proofs.lemmas.List.{take-append-le}
use borrow.Rule.Slice.PartMut.{put_mid, post_of}

-- so much of the part behind the first was written
pub put_behind : (all part : List ℕ) (held room count : ℕ) → held ≤ length all → count ≤ length part → take (held + count) (put_mid held room all part) ≡ take held all ++ take count part
put_behind all part held room count within few =
    let size : length (take held all) ≡ held = omega (arith, length-take held all) in
    let rest = part ++ post_of held room all in
    take-add held count (take held all ++ rest)
    ∙ ap (λ (xs : List ℕ). xs ++ take count (drop held (take held all ++ rest))) (take_at (take held all) rest held size)
    ∙ ap (λ (xs : List ℕ). take held all ++ take count xs) (drop_at (take held all) rest held size)
    ∙ ap (λ (xs : List ℕ). take held all ++ xs) (take-append-le count part (post_of held room all) few)
