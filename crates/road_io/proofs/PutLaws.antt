-- What one more `put` makes of what was put so far.
use Rattle.std.proofs.Common.{◌≡◌, ℕ, ◌<◌, List, ◌++◌, Option, length, take, drop, ◌∙◌, ap, sym, append_assoc}
use Rattle.std.proofs.lemmas.List.{take-append-drop}
use Rattle.std.proofs.KnownBytes.{Appends-kept}
use Rattle.std.specs.Io.KnownBytes.{Appends, Keeps}
use Rattle.road_io.specs.Told.{AppendsFront, appends_then}

-- so much of a text was put, and the rest was not
pub record PutSoFar (old now : Option (List ℕ)) (bytes rest : List ℕ) : Type 0 where
  pub part : List ℕ
  pub whole : bytes ≡ part ++ rest
  pub put : Appends old now part

-- so many bytes of the rest were put as well
pub put_more : (old mid new : Option (List ℕ)) (bytes rest : List ℕ) (count : ℕ) → PutSoFar old mid bytes rest → Appends mid new (take count rest) → PutSoFar old new bytes (drop count rest)
put_more old mid new bytes rest count so_far put = record {
  part = so_far.part ++ take count rest;
  whole = so_far.whole ∙ ap (λ (xs : List ℕ). so_far.part ++ xs) (sym (take-append-drop count rest)) ∙ sym (append_assoc so_far.part (take count rest) (drop count rest));
  put = appends_then old mid new so_far.part (take count rest) so_far.put put;
}

-- a call put nothing, and some bytes of the rest were left
pub put_failed : (old mid new : Option (List ℕ)) (bytes rest : List ℕ) → PutSoFar old mid bytes rest → 0 < length rest → Keeps mid new → AppendsFront old new bytes
put_failed old mid new bytes rest so_far some kept =
    (so_far.part, (rest, some, so_far.whole), Appends-kept old mid new so_far.part so_far.put kept)
