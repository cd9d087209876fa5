-- How the calls of a source add up, and what of its input they leave.
use Rattle.std.specs.Prelude.{◌≡◌, ℕ, ◌+◌, ◌-◌, ◌^◌, ◌<◌, ◌≤◌, min, List, [], ◌++◌, Option, None, Some, length, take, refl}
use Rattle.std.proofs.Common.{sym, ap, ◌∙◌, subst, append-nil, length-append, length-take-le}
use Rattle.std.specs.Io.KnownBytes.{Consumes, Keeps, IsAtEnd}
use Rattle.list_lemmas.proofs.Counts.{count_end, count_is, count_none, count_then, count_within, none_less}
use Rattle.road_io.specs.Taking.{Took, TookSoFar}
use Rattle.road_io.specs.Told.{IsContent, consumes_kept, consumes_none, consumes_then}
use Rattle.road_io.specs.Views.{InputView}

-- before the first call
pub took_none : (view : InputView) → TookSoFar view view []
took_none view = record { given = consumes_none view.left; counted = count_none (2 ^ 64 - 1) view.taken; within = none_less }

-- after one more call, which gave so many bytes of a piece
pub took_piece : (first mid now : InputView) (taken piece : List ℕ) (count : ℕ) → TookSoFar first mid taken → Consumes mid.left now.left (take count piece) → count ≤ length piece → now.taken ≡ min (mid.taken + count) (2 ^ 64 - 1) → TookSoFar first now (taken ++ take count piece)
took_piece first mid now taken piece count so_far given bound counted =
    let size : length (taken ++ take count piece) ≡ length taken + count =
    length-append taken (take count piece) ∙ ap (λ (n : ℕ). length taken + n) (length-take-le count piece bound) in
    record {
      given = consumes_then first.left mid.left now.left taken (take count piece) so_far.given given;
      counted = count_then (2 ^ 64 - 1) first.taken mid.taken now.taken (length taken) count so_far.counted counted
          ∙ ap (λ (n : ℕ). min (first.taken + n) (2 ^ 64 - 1)) (sym size);
      within = λ some. count_within (2 ^ 64 - 1) mid.taken now.taken count counted;
    }

-- after a call that failed, and so took nothing
pub took_kept : (first mid now : InputView) (taken : List ℕ) → TookSoFar first mid taken → Keeps mid.left now.left → now.taken ≡ mid.taken → TookSoFar first now taken
took_kept first mid now taken so_far kept same = record {
  given = subst (λ (xs : List ℕ). Consumes first.left now.left xs) (append-nil taken) (consumes_then first.left mid.left now.left taken [] so_far.given (consumes_kept mid.left now.left kept));
  counted = ap (λ (n : ℕ). min n (2 ^ 64 - 1)) same ∙ so_far.counted;
  within = λ some. subst (λ (n : ℕ). n ≤ 2 ^ 64 - 1) (sym same) (so_far.within some);
}

-- after one call at the least it is what was taken
pub took_all : (first now : InputView) (taken : List ℕ) → TookSoFar first now taken → 0 < length taken → Took first now taken
took_all first now taken so_far some = record {
  given = so_far.given;
  counted = count_is (2 ^ 64 - 1) first.taken now.taken (length taken) so_far.counted (so_far.within some);
}

-- and so it is after a call that gave nothing
pub took_end : (first mid now : InputView) (taken piece : List ℕ) (count : ℕ) → TookSoFar first mid taken → count ≡ 0 → Consumes mid.left now.left (take count piece) → now.taken ≡ min (mid.taken + count) (2 ^ 64 - 1) → Took first now taken
took_end first mid now taken piece count so_far none given counted =
    let given_none : Consumes mid.left now.left [] = subst (λ (n : ℕ). Consumes mid.left now.left (take n piece)) none given in
    record {
      given = subst (λ (xs : List ℕ). Consumes first.left now.left xs) (append-nil taken) (consumes_then first.left mid.left now.left taken [] so_far.given given_none);
      counted = count_end (2 ^ 64 - 1) first.taken mid.taken now.taken (length taken) count so_far.counted none counted;
    }

-- what was taken, with what is left, is the input
pub content_rest : (old new : Option (List ℕ)) (bytes : List ℕ) → Consumes old new bytes → (rest : List ℕ) × IsContent old (bytes ++ rest)
content_rest None new bytes given = ([], tt)
content_rest (Some all) None bytes given = absurd given
content_rest (Some all) (Some left) bytes given = (left, sym given)

-- and where nothing is left, it is the input
pub content_all : (old new : Option (List ℕ)) (bytes : List ℕ) → Consumes old new bytes → IsAtEnd new → IsContent old bytes
content_all None new bytes given at_end = tt
content_all (Some all) None bytes given at_end = absurd given
content_all (Some all) (Some left) bytes given at_end = sym (given ∙ ap (λ (xs : List ℕ). bytes ++ xs) at_end ∙ append-nil bytes)

-- before anything was taken, anything told may be the input
pub content_some : (old : Option (List ℕ)) → (bytes : List ℕ) × IsContent old bytes
content_some None = ([], tt)
content_some (Some all) = (all, refl)
