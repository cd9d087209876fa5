-- What is told of bytes: proper fronts of them, what a sink or a source did where it tells, and the laws by
-- which the calls of a run add up. The words of one call are std's (`Appends`, `Consumes`, `Keeps`).
use Rattle.std.specs.Prelude.{◌≡◌, ℕ, ◌+◌, ◌-◌, ◌^◌, ◌<◌, min, List, [], ◌++◌, length, Option, None, Some, Result, MatchResult, ⊤, refl}
use Rattle.std.specs.Io.KnownBytes.{Appends, Consumes, Keeps}
use Rattle.std.proofs.Common.{append_assoc, append-nil, sym, ◌∙◌, ap, subst, length-append, lt_of_lt_of_le, le-add_right}

-- these are the bytes, where they are told
abbrev pub IsContent : Option (List ℕ) → List ℕ → Type 0
IsContent None bytes = ⊤
IsContent (Some told) bytes = bytes ≡ told

-- the first is a front of the second, and not all of it
abbrev pub IsProperFront : List ℕ → List ℕ → Type 0
IsProperFront part whole = (rest : List ℕ) × (0 < length rest) × (whole ≡ part ++ rest)

-- known bytes grow by a proper front of these
abbrev pub AppendsFront : Option (List ℕ) → Option (List ℕ) → List ℕ → Type 0
AppendsFront old new bytes = (part : List ℕ) × IsProperFront part bytes × Appends old new part

-- a count of the bytes taken goes on by those of this call, and stands still at 18446744073709551615
abbrev pub CountsTaken : {E : Type 0} → ℕ → ℕ → Result ℕ E → Type 0
CountsTaken before now result = MatchResult result (λ n. now ≡ min (before + n) (2 ^ 64 - 1)) (λ _. now ≡ before)

-- nothing was put
pub appends_none : (old : Option (List ℕ)) → Appends old old []
appends_none None = tt
appends_none (Some bytes) = sym (append-nil bytes)

-- what stays as it was grew by nothing
pub appends_kept : (old new : Option (List ℕ)) → Keeps old new → Appends old new []
appends_kept None new kept = tt
appends_kept (Some bytes) None kept = absurd kept
appends_kept (Some bytes) (Some now) kept = kept ∙ sym (append-nil bytes)

-- two texts, one behind the other
pub appends_then : (old mid new : Option (List ℕ)) (first second : List ℕ) → Appends old mid first → Appends mid new second → Appends old new (first ++ second)
appends_then None mid new first second one two = tt
appends_then (Some bytes) None new first second one two = absurd one
appends_then (Some bytes) (Some held) None first second one two = absurd two
appends_then (Some bytes) (Some held) (Some now) first second one two =
    two ∙ ap (λ (xs : List ℕ). xs ++ second) one ∙ append_assoc bytes first second

-- nothing was taken
pub consumes_none : (old : Option (List ℕ)) → Consumes old old []
consumes_none None = tt
consumes_none (Some bytes) = refl

-- of what stays as it was, nothing was taken
pub consumes_kept : (old new : Option (List ℕ)) → Keeps old new → Consumes old new []
consumes_kept None new kept = tt
consumes_kept (Some bytes) None kept = absurd kept
consumes_kept (Some bytes) (Some now) kept = sym kept

-- two pieces, one after the other
pub consumes_then : (old mid new : Option (List ℕ)) (first second : List ℕ) → Consumes old mid first → Consumes mid new second → Consumes old new (first ++ second)
consumes_then None mid new first second one two = tt
consumes_then (Some bytes) None new first second one two = absurd one
consumes_then (Some bytes) (Some held) None first second one two = absurd two
consumes_then (Some bytes) (Some held) (Some now) first second one two =
    one ∙ ap (λ (xs : List ℕ). first ++ xs) two ∙ sym (append_assoc first second now)

-- some bytes with more behind them are some
some_more : (rest more : List ℕ) → 0 < length rest → 0 < length (rest ++ more)
some_more rest more some =
    subst (λ (n : ℕ). 0 < n) (sym (length-append rest more)) (lt_of_lt_of_le some (le-add_right (length rest) (length more)))

-- a proper front of the first part is one of the whole
pub front_of_first : (part first second : List ℕ) → IsProperFront part first → IsProperFront part (first ++ second)
front_of_first part first second front = (
  front.0 ++ second,
  some_more front.0 second front.1,
  ap (λ (xs : List ℕ). xs ++ second) front.2 ∙ append_assoc part front.0 second,
)

-- the first part with a proper front of the second is a proper front of the whole
pub front_of_second : (part first second : List ℕ) → IsProperFront part second → IsProperFront (first ++ part) (first ++ second)
front_of_second part first second front = (
  front.0,
  front.1,
  ap (λ (xs : List ℕ). first ++ xs) front.2 ∙ sym (append_assoc first part front.0),
)

-- a text that was cut, with more behind it and with more in front of it
pub appends_front_first : (old new : Option (List ℕ)) (first second : List ℕ) → AppendsFront old new first → AppendsFront old new (first ++ second)
appends_front_first old new first second put = (put.0, front_of_first put.0 first second put.1, put.2)

pub appends_front_then : (old mid new : Option (List ℕ)) (first second : List ℕ) → Appends old mid first → AppendsFront mid new second → AppendsFront old new (first ++ second)
appends_front_then old mid new first second one two =
    (first ++ two.0, front_of_second two.0 first second two.1, appends_then old mid new first two.0 one two.2)
